-- What holds at the head of replay's loop, that a stretch keeps it, and what its end gives.
use Rattle.times.specs.declared.Nanos.{Nanos}
use Rattle.std.specs.Prelude.{Option, Result, Err}
use Prim.Native.Nat.{ℕ, ◌+◌, ◌-◌, ◌≤◌, ◌<◌}
use mathlib.Core.Path.{◌≡◌, refl, ap, sym, ◌∙◌, subst}
use mathlib.Core.Bool.{Bool, true, false}
use mathlib.Core.List.{List, [], ◌++◌, append-nil, append_assoc}
use native.Mathlib.Omega.{arith}
use native.Mathlib.Nat.{sub-zero}
use lib.ListN.{length, take, drop, take-append-drop, length-append, length-drop}
use lib.Seq.{take_at, drop_at, drop-drop, length-take-le}
use lib.Dec.{eqb}
use Rattle.trace.specs.Format.{when◌then◌else◌, Bytes, pad, next}
use Rattle.trace.specs.Bench.{Device, Ran, runs}
use Rattle.trace.specs.Lent.{Left}
use Rattle.trace.specs.inner.Gathered.{end_number, end_count}
use Rattle.trace.proofs.Tests.{if_cases, if_true, if_false}
use Rattle.trace.proofs.Records.{carrying}
use Rattle.trace.proofs.Loop.{end_few}
use Rattle.readiness.specs.declared.Status.{Status}
use Rattle.readiness.specs.declared.Setup.{Setup}
use Rattle.readiness.specs.inner.Phases.{notes, moments_with}
use Rattle.readiness.proofs.KeptMoments.{notes-length}
use Rattle.readiness.specs.declared.Dev.{Dev}
use Rattle.records.specs.State.{State, state}
use Rattle.records.specs.Device.{device}
use Rattle.records.specs.MadeReady.{readied_over}
use Rattle.capture.specs.declared.Replay.{Replay}
use Rattle.capture.specs.Replay.{Progress, Replayed, begins, still, later, replay_open}
use Rattle.capture.specs.Lent.{progress_in, replay_of, leaves}
use Rattle.capture.specs.Noting.{noting_keep}
use Rattle.capture.proofs.Steps.{took_kind, later-zero, later-later}
use Rattle.capture.proofs.Wholes.{runs_eight}
use Rattle.demand3.specs.Held.{held, opened}
use Rattle.demand3.specs.Feeding.{bench}
use Rattle.demand3.proofs.Good.{Good}
use Rattle.replay_rules.specs.KeepingMoments.{notes_in, noting_bench, HeldNoting, held_noting}
use Rattle.replay_state.specs.inner.Moves.{Tidy}
use Rattle.replay.specs.declared.Step.{Step}
use Rattle.replay.specs.declared.Stretch.{Stretch}
use Rattle.replay.specs.declared.End.{End}
use Rattle.replay.specs.declared.ReplayedPort.{ReplayedPort}
use Rattle.replay.specs.inner.Noted.{Noted, noting_device, noted_with}
use Rattle.replay.specs.inner.Steps.{step_of}
use Rattle.replay.specs.inner.Calls.{Between, took_kind_of, ends_at, ends_left}
use Rattle.replay.specs.inner.Stretches.{WrittenOut, Stretched}
use Rattle.replay.proofs.NextStep.{take_few, left_at, end_at, Halts, Does, does_step}
use Rattle.replay.proofs.Feeding.{good_runs, runs-noted}

-- what is left of a call, with the statuses as a list
abbrev pub left_of : List (Option Nanos) → ReplayedPort → (statuses : List Status) (moments live cells answers : List ℕ) → Left HeldNoting
left_of kept x statuses moments live cells answers =
    record { number = x.number; consumed = x.consumed; written = x.written; held = held_noting (held x.port statuses live cells) (moments_with kept moments) x.replay; answers = answers }

-- where the kind byte is consumed, its stamp is the earlier one
took_by : (r : Replay) → Tidy r → (t : Bool) → (when t then r else replay_of (begins (progress_in r))) ≡ replay_of (when t then progress_in r else begins (progress_in r))
took_by r e true = e
took_by r e false = refl

took : (r : Replay) → Tidy r → (m : ℕ) → took_kind_of r (m - 0) ≡ replay_of (took_kind (progress_in r) m)
took r e m = ap (took_kind_of r) (sub-zero m) ∙ took_by r e (eqb m 0)

-- the call began in the state s₀, with the moments m₀ in its numbers, with q₀ in hand and nothing carried; `room` is the slice for answers as it was lent
module _ (k : Setup) (defaults : List ℕ) (input room : List ℕ) (s₀ : State) (m₀ : List ℕ) (q₀ : Progress) where
  abbrev D : Device Noted
  D = noting_device k defaults

  abbrev pub call : List (Option Nanos) → Replayed Noted
  call kept = replay_open D (carrying (noted_with kept s₀ m₀) []) q₀ (length room) input

  -- at the head, with `at` bytes consumed and w bytes written
  pub record Head (answers : List ℕ) (dev : Dev) (statuses : List Status) (moments live cells : List ℕ) (r : Replay) (at w : ℕ) : Type 0 where
    pub good : Good k defaults s₀ (state dev statuses live cells)
    pub many : length moments ≡ length statuses
    pub bytes : Bytes input
    pub at_in : at ≤ length input
    pub w_in : w ≤ length room
    pub long : length answers ≡ length room
    pub between : Between r
    pub so_far : (kept : List (Option Nanos))
        → call kept ≡ later at (take w answers) (replay_open D (carrying (noted_with kept (state dev statuses live cells) moments) []) (progress_in r) (length room - w) (drop at input))
    pub beyond : drop w answers ≡ drop w room

  -- AT THE START
  pub starts : Good k defaults s₀ s₀ → length m₀ ≡ length s₀.statuses → Bytes input → (r : Replay) → Between r → progress_in r ≡ q₀
      → Head room s₀.port s₀.statuses m₀ s₀.live s₀.cells r 0 0
  starts g n b r t e =
      record {
        good = g;
        many = n;
        bytes = b;
        at_in = omega arith;
        w_in = omega arith;
        long = refl;
        between = t;
        so_far =
            λ kept. (λ i. replay_open D (carrying (noted_with kept s₀ m₀) []) (sym e i) (sym (sub-zero (length room)) i) input)
            ∙ sym (later-zero (replay_open D (carrying (noted_with kept s₀ m₀) []) (progress_in r) (length room - 0) input));
        beyond = refl;
      }

module _ {k : Setup} {defaults input room : List ℕ} {s₀ : State} {m₀ : List ℕ} {q₀ : Progress} {answers : List ℕ} {dev : Dev} {statuses : List Status} {moments live cells : List ℕ} {r : Replay} {at w : ℕ}
    (v : Head k defaults input room s₀ m₀ q₀ answers dev statuses moments live cells r at w) where
  abbrev present : State
  present = state dev statuses live cells

  abbrev space : ℕ
  space = length answers - w

  abbrev pub step : Result Step End
  step = step_of (progress_in r) space at input

  same_room : space ≡ length room - w
  same_room = ap (λ (n : ℕ). n - w) v.long

  pub ends : (end : End) → step ≡ Err end → Halts input v.bytes (progress_in r) space at end
  ends end e =
      subst (Does input v.bytes (progress_in r) space at) e
      (does_step input v.bytes (progress_in r) space at (omega (arith, take_few r.stamp_len r.stamp, v.between.few)) v.between.answered v.at_in)

  -- A STRETCH HAS RUN: `new` are its answers
  module _ (x : Stretch) (trace : List ℕ) (f : Stretched r space at input x trace) where
    abbrev pub written : WrittenOut (progress_in r) space at input (progress_in x.replay) x.at x.answers (take x.len trace)
    written = f.written

    abbrev pub ran : Ran State
    ran = runs (device k defaults) present written.records

    abbrev pub slice : List ℕ → List ℕ
    slice new = take w answers ++ (new ++ drop (w + x.answers - w) (drop w answers))

    pub fits : w + x.answers ≤ length answers
    fits = omega (arith, v.w_in, v.long, written.room)

    module _ (dev' : Dev) (statuses' : List Status) (moments' live' cells' new : List ℕ) (is : ◌≡◌ {A = Ran State} (record { state = state dev' statuses' live' cells'; answer = new }) ran)
        (notes_all : moments' ≡ notes (readied_over k defaults present written.records) moments) where
      many : length new ≡ x.answers
      many = ap (λ (u : Ran State). length u.answer) is ∙ runs_eight (device k defaults) present written.records ∙ sym written.eight

      front : length (take w answers ++ new) ≡ w + x.answers
      front = omega (arith, length-append (take w answers) new, length-take-le w answers (omega (arith, v.w_in, v.long)), many)

      apart : slice new ≡ (take w answers ++ new) ++ drop (w + x.answers) answers
      apart =
          let e : w + (w + x.answers - w) ≡ w + x.answers = omega arith in
          sym (append_assoc (take w answers) new (drop (w + x.answers - w) (drop w answers)))
          ∙ ap (λ (l : List ℕ). (take w answers ++ new) ++ l) (drop-drop (w + x.answers - w) w answers ∙ ap (λ (n : ℕ). drop n answers) e)

      after : Good k defaults s₀ (state dev' statuses' live' cells')
      after =
          subst (Good k defaults s₀) (sym (ap (λ (u : Ran State). u.state) is)) (good_runs k defaults s₀ present written.records written.wholes (subst Bytes written.joined written.are_bytes) v.good)

      -- the records run on the bench that notes
      noted_so : (kept : List (Option Nanos)) → ◌≡◌ {A = Ran Noted}
          (record { state = noted_with kept (state dev' statuses' live' cells') moments'; answer = new })
          (runs (noting_device k defaults) (noted_with kept present moments) written.records)
      noted_so kept =
          runs-noted k defaults s₀ present written.records written.wholes (subst Bytes written.joined written.are_bytes) v.good moments (v.many ∙ v.good.kept.statuses) (state dev' statuses' live' cells') moments' new is notes_all kept

      pub stretched : Head k defaults input room s₀ m₀ q₀ (slice new) dev' statuses' moments' live' cells' x.replay x.at (w + x.answers)
      stretched =
          let D = noting_device k defaults in
          let o = written in
          let rest = drop x.at input in
          let n : space - x.answers ≡ length room - (w + x.answers) = omega (arith, v.long) in
          let m : at + (x.at - at) ≡ x.at = omega (arith, o.from) in
          let tw : take (w + x.answers) (slice new) ≡ take w answers ++ new = ap (take (w + x.answers)) apart ∙ take_at (take w answers ++ new) (drop (w + x.answers) answers) (w + x.answers) front in
          record {
            good = after;
            many = ap length notes_all ∙ notes-length (readied_over k defaults present o.records) moments ∙ v.many ∙ v.good.kept.statuses ∙ sym after.kept.statuses;
            bytes = v.bytes;
            at_in = o.to;
            w_in = omega (arith, fits, v.long);
            long = ap length apart ∙ omega (arith, length-append (take w answers ++ new) (drop (w + x.answers) answers), front, length-drop (w + x.answers) answers, fits, v.long);
            between = f.between;
            so_far =
                λ kept.
                let s = noted_with kept present moments in
                let y = runs D s o.records in
                let e = noted_so kept in
                v.so_far kept
                ∙ ap (λ (j : ℕ). later at (take w answers) (replay_open D (carrying s []) (progress_in r) j (drop at input))) (sym same_room)
                ∙ ap (later at (take w answers)) (o.goes k defaults s)
                ∙ later-later at (x.at - at) (take w answers) y.answer (replay_open D (carrying y.state []) (progress_in x.replay) (space - x.answers) rest)
                ∙ (λ i. later (m i) (take w answers ++ (sym e i).answer) (replay_open D (carrying (sym e i).state []) (progress_in x.replay) (n i) rest))
                ∙ ap (λ (l : List ℕ). later x.at l (replay_open D (carrying (noted_with kept (state dev' statuses' live' cells') moments') []) (progress_in x.replay) (length room - (w + x.answers)) rest)) (sym tw);
            beyond =
                ap (drop (w + x.answers)) apart
                ∙ drop_at (take w answers ++ new) (drop (w + x.answers) answers) (w + x.answers) front
                ∙ sym (drop-drop x.answers w answers)
                ∙ ap (drop x.answers) v.beyond
                ∙ drop-drop x.answers w room;
          }

  -- THE CALL'S END: after `at` and w it comes to f, with no more answers
  module _ (kept : List (Option Nanos)) (end : End) (over : step ≡ Err end) where
    abbrev whole : Replayed Noted
    whole = call k defaults input room s₀ m₀ q₀ kept

    abbrev here : Noted
    here = noted_with kept present moments

    abbrev given : ReplayedPort → Left HeldNoting
    given x = left_of kept x statuses moments live cells answers

    finish : (f : Replayed Noted) (x : ReplayedPort) → whole ≡ later at (take w answers) f → f.answers ≡ []
        → x.number ≡ f.number → x.consumed ≡ at + f.consumed → x.written ≡ w
        → ◌≡◌ {A = HeldNoting} (held_noting (held x.port statuses live cells) (moments_with kept moments) x.replay)
        (record { port = noting_keep (bench k defaults) (notes_in k defaults) f.bench; replay = replay_of f.progress })
        → given x ≡ leaves (noting_bench k defaults) whole room
    finish f x e none n c u h =
        let tw : length (take w answers) ≡ w = length-take-le w answers (omega (arith, v.long, v.w_in)) in
        let a : take w answers ++ f.answers ≡ take w answers = ap (λ (l : List ℕ). take w answers ++ l) none ∙ append-nil (take w answers) in
        let l : length (take w answers ++ f.answers) ≡ w = ap length a ∙ tw in
        let y : answers ≡ (take w answers ++ f.answers) ++ drop (length (take w answers ++ f.answers)) room =
        sym (take-append-drop w answers) ∙ (λ i. sym a i ++ (v.beyond ∙ ap (λ (j : ℕ). drop j room) (sym l)) i) in
        ◌∙◌ {A = Left HeldNoting}
        (λ i. record { number = n i; consumed = c i; written = (u ∙ sym l) i; held = h i; answers = y i })
        (ap (λ (g : Replayed Noted). leaves (noting_bench k defaults) g room) (sym e))

    ends_so : whole ≡ later at (take w answers) (later (end.at - at) [] (end_at input v.bytes (progress_in r) space at here end))
    ends_so =
        v.so_far kept
        ∙ ap (λ (j : ℕ). later at (take w answers) (replay_open (noting_device k defaults) (carrying here []) (progress_in r) j (drop at input))) (sym same_room)
        ∙ ap (later at (take w answers)) ((ends end over).goes k defaults here)

    -- with a number of its own
    stopped : eqb end.number 0 ≡ false
        → given (record { number = end.number; consumed = end.at; written = w; port = opened dev; replay = end.replay }) ≡ leaves (noting_bench k defaults) whole room
    stopped z =
        let f = still end.number (carrying here []) (progress_in end.replay) [] in
        let c : end.at ≡ at + (end.at - at + 0) = omega (arith, (ends end over).from) in
        finish (later (end.at - at) [] f) _
        (ends_so ∙ ap (λ (g : Replayed Noted). later at (take w answers) (later (end.at - at) [] g)) (if_false (eqb end.number 0) _ f z))
        refl refl c refl (λ i. held_noting (held (opened dev) statuses live cells) (moments_with kept moments) ((ends end over).tidy i))

    -- or what is left begins a record, or none
    left_over : eqb end.number 0 ≡ true → given (ends_left dev end input w) ≡ leaves (noting_bench k defaults) whole room
    left_over z =
        let rest = drop end.at input in
        let m = end_count rest (next rest) in
        let f = left_at input v.bytes (progress_in r) space at here end in
        let c : end.at + (m - 0) ≡ at + (end.at - at + m) = omega (arith, (ends end over).from) in
        let l : m ≡ length (take m rest) = sym (length-take-le m rest (end_few rest).1) in
        finish (later (end.at - at) [] f) _
        (ends_so ∙ ap (λ (g : Replayed Noted). later at (take w answers) (later (end.at - at) [] g)) (if_true (eqb end.number 0) f _ z))
        refl refl c refl
        (λ i. held_noting (held (record { dev = dev; carried = pad 16 (take m rest); carried_len = l i; broken = eqb (end_number (next rest)) 31 }) statuses live cells) (moments_with kept moments)
        (took end.replay (ends end over).tidy m i))

    pub ended : given (ends_at dev end input w) ≡ leaves (noting_bench k defaults) whole room
    ended =
        if_cases (λ (x : ReplayedPort). given x ≡ leaves (noting_bench k defaults) whole room)
        (eqb end.number 0) (ends_left dev end input w) _ left_over stopped

  -- no more is consumed than is there, and no more written than there is room for
  pub ended_few : (end : End) → step ≡ Err end → ((ends_at dev end input w).consumed ≤ length input) × ((ends_at dev end input w).written ≤ length room)
  ended_few end over =
      let rest = drop end.at input in
      if_cases (λ (x : ReplayedPort). (x.consumed ≤ length input) × (x.written ≤ length room)) (eqb end.number 0) (ends_left dev end input w) _
      (λ _. (omega (arith, (end_few rest).1, length-drop end.at input, (ends end over).to), v.w_in))
      (λ _. ((ends end over).to, v.w_in))
