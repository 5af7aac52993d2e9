-- What stands next in a call is what replay does next: a record runs, or the call ends.
use Prim.Native.Nat.{ℕ, zero, suc, ◌+◌, ◌-◌, ◌≤◌, ◌<◌}
use mathlib.Core.Path.{◌≡◌, refl, ap, sym, ◌∙◌, subst}
use mathlib.Core.Bool.{Bool, true, false}
use mathlib.Core.List.{List, [], ◌∷◌, ◌++◌, append-nil}
use native.Mathlib.Omega.{arith}
use lib.ListN.{length, take, drop, length-append, length-drop}
use lib.Seq.{drop-drop}
use lib.Dec.{ltb, eqb}
use borrow.Author.Tests.{ltb-true, ltb-false, eqb-true, eqb-false, ne_eqb}
use Rattle.std.specs.Prelude.{Option, Some, None, Result, Ok, Err}
use Rattle.bits.proofs.Bytes.{bytes_take, bytes_drop}
use Rattle.times.specs.declared.Nanos.{Nanos}
use Rattle.trace.specs.Format.{when◌then◌else◌, Bytes, next, complete}
use Rattle.trace.specs.inner.Gathered.{whole_size, end_number, end_count}
use Rattle.trace.proofs.Tests.{if_cases, if_false}
use Rattle.trace.proofs.Records.{carrying}
use Rattle.trace.proofs.Loop.{Got, got_bytes, Counted, got_count, by_gather, next_itself}
use Rattle.readiness.specs.declared.Setup.{Setup}
use Rattle.replay.specs.inner.Noted.{Noted, noting_device}
use Rattle.capture.specs.Advances.{Earlier, stamp_in, back, due, advance}
use Rattle.capture.specs.Replay.{Progress, Replayed, begins, ended_with, more_answered, still, later, replay_open}
use Rattle.capture.specs.Lent.{progress_in, replay_of}
use Rattle.capture.specs.Calls.{blank}
use Rattle.capture.proofs.Advancing.{bytes_advance, advance-whole, due_none}
use Rattle.capture.proofs.Kept.{read_kept}
use Rattle.capture.proofs.Steps.{InOrder, AtRecord, took_kind, later-later, stamps, goes_back, kind_01, no_advance_room, one_advance, whole_record, no_record}
use Rattle.replay_state.specs.inner.Moves.{Tidy, more_bytes}
use Rattle.replay.specs.declared.Step.{Step}
use Rattle.replay.specs.declared.End.{End}
use Rattle.replay.specs.inner.Steps.{end_with, halts, runs_advance, runs_record, step_bytes, step_at_record, step_at_advances, step_checked, step_after_stamp, step_of}
use Rattle.replay.specs.inner.Calls.{Between}
use Rattle.replay.specs.inner.Stretches.{StepFits}

-- ---- the state of a replay as a call leaves it
pub tidy_kept : (q : Progress) → Tidy (replay_of q)
tidy_kept q = ap replay_of (sym (read_kept q))

pub between-kept : (q : Progress) → length q.stamp ≤ 4 → q.answered ≤ length (due q.earlier q.stamp) → Between (replay_of q)
between-kept q few some =
    record { tidy = tidy_kept q; few = few; answered = subst (λ (p : Progress). q.answered ≤ length (due p.earlier p.stamp)) (sym (read_kept q)) some }

-- ---- lists
positive : (n : ℕ) → eqb n 0 ≡ false → 0 < n
positive n e = omega (arith, eqb-false n 0 e)

take_then : (n : ℕ) (l : List ℕ) → take n l ++ drop (length (take n l)) l ≡ l
take_then zero l = refl
take_then (suc n) [] = refl
take_then (suc n) (x ∷ l) = ap (λ (z : List ℕ). x ∷ z) (take_then n l)

pub take_few : (n : ℕ) (l : List ℕ) → length (take n l) ≤ n
take_few zero l = omega arith
take_few (suc n) [] = omega arith
take_few (suc n) (x ∷ l) = omega (arith, take_few n l)

take_there : (n : ℕ) (l : List ℕ) → length (take n l) ≤ length l
take_there zero l = omega arith
take_there (suc n) [] = omega arith
take_there (suc n) (x ∷ l) = omega (arith, take_there n l)

take_full : (n : ℕ) (l : List ℕ) → length (take n l) < length l → length (take n l) ≡ n
take_full zero l h = refl
take_full (suc n) [] h = absurd (omega arith)
take_full (suc n) (x ∷ l) h = ap suc (take_full n l (omega arith))

-- more bytes of a stamp make no fewer advances due
more_due : (e : Earlier) (stamp l : List ℕ) (a : ℕ) → a ≤ length (due e stamp) → (t : Bool) → ltb (length stamp) 4 ≡ t → a ≤ length (due e (stamp ++ take (4 - length stamp) l))
more_due e stamp l a h true t = omega (arith, ap length (due_none e stamp (ltb-true (length stamp) 4 t)))
more_due e stamp l a h false t =
    let z : 4 - length stamp ≡ 0 = omega (arith, ltb-false (length stamp) 4 t) in
    subst (λ (bs : List ℕ). a ≤ length (due e bs)) (sym (ap (λ (n : ℕ). stamp ++ take n l) z ∙ append-nil stamp)) h

-- ---- a step at byte `at` of the input, with q in hand
module _ (input : List ℕ) (inputs : Bytes input) (q : Progress) (space at : ℕ) where
  abbrev here : (k : Setup) (defaults : List ℕ) → Noted → Replayed Noted
  here k defaults s = replay_open (noting_device k defaults) (carrying s []) q space (drop at input)

  -- a record of the bytes w runs
  pub record RunsOf (w : List ℕ) (step : Step) : Type 0 where
    pub is : next w ≡ complete w
    pub bytes : Bytes w
    pub size : StepFits step
    pub room : 8 ≤ space
    pub from : at ≤ step.at
    pub to : step.at ≤ length input
    pub after : Between step.replay
    pub goes : (k : Setup) (defaults : List ℕ) (s : Noted)
        → (let D = noting_device k defaults in
        here k defaults s
        ≡ later (step.at - at) (D.run s w).answer (replay_open D (carrying (D.run s w).state []) (progress_in step.replay) (space - 8) (drop step.at input)))

  abbrev pub Runs : Step → Type 0
  Runs step = RunsOf (step_bytes step input) step

  -- what is left begins a record, or none
  abbrev pub left_at : Noted → End → Replayed Noted
  left_at s end =
      let rest = drop end.at input in
      let n = end_number (next rest) in
      let m = end_count rest (next rest) in
      record {
        bench = record { state = s; carried = take m rest; broken = eqb n 31 };
        progress = took_kind (progress_in end.replay) m;
        number = n;
        consumed = m;
        answers = [];
      }

  abbrev pub end_at : Noted → End → Replayed Noted
  end_at s end = when eqb end.number 0 then left_at s end else still end.number (carrying s []) (progress_in end.replay) []

  -- the call ends
  pub record Halts (end : End) : Type 0 where
    pub tidy : Tidy end.replay
    pub from : at ≤ end.at
    pub to : end.at ≤ length input
    pub stamped : end.at < length input → end.replay.stamp_len ≡ 4
    pub goes : (k : Setup) (defaults : List ℕ) (s : Noted) → here k defaults s ≡ later (end.at - at) [] (end_at s end)

  abbrev pub Does : Result Step End → Type 0
  Does (Ok step) = Runs step
  Does (Err end) = Halts end

  -- ---- the stamp's bytes are taken: q' is in hand, and the rest is left
  module _ (q' : Progress) (at' : ℕ) (from : at ≤ at') (to : at' ≤ length input)
      (taken : (k : Setup) (defaults : List ℕ) (s : Noted) → here k defaults s ≡ later (at' - at) [] (replay_open (noting_device k defaults) (carrying s []) q' space (drop at' input)))
      (few : length q'.stamp ≤ 4) (some : q'.answered ≤ length (due q'.earlier q'.stamp)) where
    does_halt : (n : ℕ) (q'' : Progress) → (at' < length input → length q''.stamp ≡ 4)
        → ((k : Setup) (defaults : List ℕ) (s : Noted) → replay_open (noting_device k defaults) (carrying s []) q' space (drop at' input) ≡ end_at s (end_with n q'' at')) → Does (halts n q'' at')
    does_halt n q'' stamped e =
        record {
          tidy = tidy_kept q'';
          from = from;
          to = to;
          stamped = stamped;
          goes = λ k defaults s. taken k defaults s ∙ ap (later (at' - at) []) (e k defaults s);
        }

    -- a record of the bytes w has run, and n more bytes are consumed
    ran : (k : Setup) (defaults : List ℕ) (s : Noted) (w : List ℕ) (n : ℕ) (q'' : Progress) (at'' : ℕ) → at'' - at ≡ at' - at + n → (rest : List ℕ) → drop at'' input ≡ rest
        → (let D = noting_device k defaults in
        replay_open D (carrying s []) q' space (drop at' input) ≡ later n (D.run s w).answer (replay_open D (carrying (D.run s w).state []) q'' (space - 8) rest)
        → here k defaults s ≡ later (at'' - at) (D.run s w).answer (replay_open D (carrying (D.run s w).state []) (progress_in (replay_of q'')) (space - 8) (drop at'' input)))
    ran k defaults s w n q'' at'' c rest r e =
        let D = noting_device k defaults in
        let f = replay_open D (carrying (D.run s w).state []) q'' (space - 8) rest in
        taken k defaults s
        ∙ ap (later (at' - at) []) e
        ∙ later-later (at' - at) n [] (D.run s w).answer f
        ∙ (λ i. later (sym c i) (D.run s w).answer (replay_open D (carrying (D.run s w).state []) (sym (read_kept q'') i) (space - 8) (sym r i)))

    -- with a number of its own
    does_stop : (n : ℕ) (q'' : Progress) → 0 < n → (at' < length input → length q''.stamp ≡ 4)
        → ((k : Setup) (defaults : List ℕ) (s : Noted) → replay_open (noting_device k defaults) (carrying s []) q' space (drop at' input) ≡ still n (carrying s []) q'' []) → Does (halts n q'' at')
    does_stop n q'' h stamped e =
        does_halt n q'' stamped
        (λ k defaults s. e k defaults s
        ∙ ap (λ (p : Progress). still n (carrying s []) p []) (sym (read_kept q''))
        ∙ sym (if_false (eqb n 0) (left_at s (end_with n q'' at')) _ (ne_eqb n 0 (λ z. omega arith))))

    -- nothing is left
    does_end : drop at' input ≡ [] → Does (halts 0 q' at')
    unfolding replay_open next
    does_end e =
        does_halt 0 q' (λ h. absurd (omega (arith, length-drop at' input, ap length e)))
        (λ k defaults s. rw e (ap (λ (p : Progress). still 0 (carrying s []) p []) (sym (read_kept q'))))

    module _ (kind : ℕ) (more : List ℕ) (rest : drop at' input ≡ kind ∷ more) (stamped : length q'.stamp ≡ 4) where
      -- 32
      does_back : back q'.earlier (stamp_in q'.stamp) ≡ true → Does (halts 32 (ended_with 32 q') at')
      does_back b =
          does_stop 32 (ended_with 32 q') (omega arith) (λ _. stamped) (λ k defaults s. rw rest (goes_back (noting_device k defaults) s q' space kind more stamped b))

      -- 33
      does_01 : back q'.earlier (stamp_in q'.stamp) ≡ false → eqb kind 1 ≡ true → Does (halts 33 (ended_with 33 q') at')
      does_01 b o =
          does_stop 33 (ended_with 33 q') (omega arith) (λ _. stamped) (λ k defaults s. rw rest (kind_01 (noting_device k defaults) s q' space kind more stamped b o))

      module _ (order : InOrder q' kind) where
        -- an advance
        does_advance : (t : Nanos) (others : List Nanos) → drop q'.answered (due q'.earlier q'.stamp) ≡ t ∷ others
            → Does (when ltb space 8 then halts 30 q' at' else Ok (runs_advance t (more_answered 1 q') at'))
        does_advance t others e =
            if_cases Does (ltb space 8) _ _
            (λ h. does_stop 30 q' (omega arith) (λ _. stamped) (λ k defaults s. rw rest (no_advance_room (noting_device k defaults) s q' space kind more order t others e (ltb-true space 8 h))))
            (λ h. record {
              is = advance-whole t;
              bytes = bytes_advance t;
              size = tt;
              room = ltb-false space 8 h;
              from = from;
              to = to;
              after = between-kept (more_answered 1 q') few (omega (arith, length-drop q'.answered (due q'.earlier q'.stamp), ap length e));
              goes =
                  λ k defaults s. ran k defaults s (advance t) 0 (more_answered 1 q') at' (omega arith) (drop at' input) refl
                  (rw rest (one_advance (noting_device k defaults) s q' space kind more order t others e (ltb-false space 8 h)));
            })

        -- a record
        module _ (e : drop q'.answered (due q'.earlier q'.stamp) ≡ []) (size : ℕ) (g : Got (drop at' input) size) (room : 8 ≤ space) where
          abbrev l : List ℕ
          l = drop at' input

          abbrev there : AtRecord q' l
          there = record { kind = kind; more = more; bytes = rest; in_order = order; answered = e }

          counts : Counted l size
          counts = got_count l size g

          is_written : g.whole ≡ step_bytes (runs_record size (begins q') (at' + size)) input
          is_written =
              let z : at' ≡ at' + size - size = omega arith in got_bytes l size g ∙ ap (λ (n : ℕ). take size (drop n input)) z

          does_whole : Runs (runs_record size (begins q') (at' + size))
          does_whole =
              subst (λ (w : List ℕ). RunsOf w (runs_record size (begins q') (at' + size))) is_written
              (record {
                is = next_itself l g.whole g.is;
                bytes = rw (got_bytes l size g) (bytes_take size l (bytes_drop at' input inputs));
                size = (counts.few, omega arith);
                room = room;
                from = omega arith;
                to = omega (arith, counts.there, length-drop at' input);
                after = between-kept (begins q') (omega arith) (omega arith);
                goes =
                    λ k defaults s. let D = noting_device k defaults in
                    ran k defaults s g.whole size (begins q') (at' + size) (omega arith) (drop size l) (sym (drop-drop size at' input))
                    (whole_record D s q' space l g.whole there g.is room
                    ∙ ap (λ (n : ℕ). later n (D.run s g.whole).answer (replay_open D (carrying (D.run s g.whole).state []) (begins q') (space - 8) (drop n l))) (sym g.count));
              })

        -- a record, or the end
        does_record : drop q'.answered (due q'.earlier q'.stamp) ≡ [] → Does (step_at_record q' space at' (drop at' input))
        unfolding step_at_record
        does_record e =
            let l = drop at' input in
            let size = whole_size space (next l) in
            let n = end_number (next l) in
            let m = end_count l (next l) in
            if_cases Does (eqb size 0) _ _
            (λ z. does_halt 0 q' (λ _. stamped)
            (λ k defaults s. no_record (noting_device k defaults) s q' space l n m (record { kind = kind; more = more; bytes = rest; in_order = order; answered = e }) ((by_gather (noting_device k defaults) s space l).1 (eqb-true size 0 z))
            ∙ ap (λ (p : Progress). record { bench = record { state = s; carried = take m l; broken = eqb n 31 }; progress = took_kind p m; number = n; consumed = m; answers = [] }) (sym (read_kept q'))))
            (λ z. let g = (by_gather blank tt space l).0 (positive size z) in does_whole e size g.0 g.1)

      -- the advances that are not answered, or the record
      does_advances : InOrder q' kind → (ts : List Nanos) → drop q'.answered (due q'.earlier q'.stamp) ≡ ts → Does (step_at_advances ts q' space at' (kind ∷ more))
      unfolding step_at_advances
      does_advances o [] e = subst (λ (l : List ℕ). Does (step_at_record q' space at' l)) rest (does_record o e)
      does_advances o (t ∷ others) e = does_advance o t others e

      -- THE KIND BYTE
      does_kind : Does (step_after_stamp q' space at' (kind ∷ more))
      unfolding step_after_stamp
      does_kind =
          let P : Option ℕ → Type 0 = λ n. Does (step_checked n q' space at' (kind ∷ more)) in
          if_cases P (back q'.earlier (stamp_in q'.stamp)) (Some 32) _ does_back
          (λ b. if_cases P (eqb kind 1) (Some 33) None (does_01 b)
          (λ o. does_advances (record { stamped = stamped; forward = b; kind = o }) (drop q'.answered (due q'.earlier q'.stamp)) refl))

    -- after the stamp
    does_after : (rest : List ℕ) → drop at' input ≡ rest → (0 < length rest → length q'.stamp ≡ 4) → Does (step_after_stamp q' space at' rest)
    unfolding step_after_stamp
    does_after [] e stamped = does_end e
    does_after (kind ∷ more) e stamped = does_kind kind more e (stamped (omega arith))

  -- WHAT STANDS NEXT
  pub does_step : length q.stamp ≤ 4 → q.answered ≤ length (due q.earlier q.stamp) → at ≤ length input → Does (step_of q space at input)
  unfolding step_of
  does_step few some within =
      let l = drop at input in
      let bs = take (4 - length q.stamp) l in
      let n = length bs in
      let short : n ≤ 4 - length q.stamp = take_few (4 - length q.stamp) l in
      let there : n ≤ length l = take_there (4 - length q.stamp) l in
      let long : length (q.stamp ++ bs) ≡ length q.stamp + n = length-append q.stamp bs in
      let d : drop n l ≡ drop (at + n) input = drop-drop n at input in
      does_after (more_bytes bs q) (at + n) (omega arith) (omega (arith, length-drop at input))
      (λ k defaults s. ap (λ (z : List ℕ). replay_open (noting_device k defaults) (carrying s []) q space z) (sym (take_then (4 - length q.stamp) l))
      ∙ stamps (noting_device k defaults) s q space bs (drop n l) (omega arith)
      ∙ (λ i. later (count n i) [] (replay_open (noting_device k defaults) (carrying s []) (more_bytes bs q) space (d i))))
      (omega arith)
      (more_due q.earlier q.stamp l q.answered some (ltb (length q.stamp) 4) refl)
      (drop (at + n) input) refl
      (λ h. omega (arith, long, take_full (4 - length q.stamp) l (omega (arith, ap length d, length-drop n l))))
    where
      count : (n : ℕ) → n ≡ at + n - at
      count n = omega arith
