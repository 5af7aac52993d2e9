-- Q-5, over any device: every list of replay calls is one trace on the plain bench.
use Prim.Native.Nat.{ℕ, zero, suc, ◌+◌, ◌-◌, ◌≤◌, ◌<◌}
use mathlib.Core.Path.{◌≡◌, refl, ap, sym, ◌∙◌, subst}
use mathlib.Core.Bool.{Bool, true, false, ◌&&◌, ◌||◌, true≢false, false≢true, or_assoc, or-false}
use mathlib.Core.List.{List, [], ◌∷◌, ◌++◌, append-nil, append_assoc}
use native.Mathlib.Omega.{arith}
use lib.ListN.{length, take, drop, replicate, length-replicate, length-append, take-append-drop}
use lib.Seq.{take-append_seam, drop-append_seam, take_at, drop_at}
use lib.Dec.{eqb}
use borrow.Author.Tests.{ne_eqb, eq-eqb, le-leb, eqb-true}
use Rattle.std.specs.Prelude.{None}
use Rattle.trace.specs.Format.{when◌then◌else◌, Bytes}
use Rattle.trace.specs.Bench.{Device, Bench, Benched, plain}
use Rattle.trace.specs.Outcome.{Outcome, first}
use Rattle.trace.specs.Lent.{Lent, Left, unless, refusal}
use Rattle.trace.specs.Calls.{Call, Came, slices_of, BytesIn, gave, beyond, placed, calls}
use Rattle.trace.specs.inner.Keeps.{Keeps}
use Rattle.trace.proofs.Tests.{if_true, if_false, if_cases}
use Rattle.trace.proofs.Feeding.{left_as, plain_partial}
use Rattle.trace.proofs.Cutting.{Partial}
use Rattle.trace.proofs.Gathering.{partial_begun}
use Rattle.trace.proofs.Theorem.{one_trace}
use Rattle.capture.specs.Advances.{stamp_in, back, due}
use Rattle.capture.specs.Capture.{Place, trace_from, place_after, place_of}
use Rattle.capture.specs.Replay.{Progress, fresh, Replayed, end_fits, matches, still, later, replay_open, replay}
use Rattle.capture.specs.Lent.{Held, progress_in, stamp_fits, replay_of, bench_in, place_in, matching, refusal_with, stops_first, leaves, replays, Fresh}
use Rattle.capture.specs.Calls.{replay_calls, trace_of, plain_on, blank, outcome_in, foreseen, expected_from, ended_by}
use Rattle.capture.specs.Ending.{EndsWith}
use Rattle.capture.specs.Cutting.{InTwo, CutsAnywhere}
use Rattle.capture.specs.AsOneTrace.{AsOneTrace, OneReplay}
use Rattle.capture.proofs.Advancing.{due_none}
use Rattle.capture.proofs.Standing.{stands_at}
use Rattle.capture.proofs.Stepping.{Inside, Numbered, gives_0, gives_30, gives_31, gives_32, gives_33, At, call_ends}
use Rattle.capture.proofs.Joining.{joins}
use Rattle.capture.proofs.Reasons.{ends-from}
use Rattle.capture.proofs.Same.{blank_bench, blanked, same_call}
use Rattle.capture.proofs.Kept.{read_kept, stamp_kept}
use Rattle.capture.proofs.Refusing.{refuses_not, stops_ended, stops_broken, stops_not, replays_stopped, replays_open, all_stopped, refusals}

-- ---- answers laid into slices
laid : (w : ℕ) (a more x s : List ℕ) → length a ≡ w → x ≡ a ++ drop w s → (xs : List (List ℕ)) (os : List Outcome) (ss : List (List ℕ)) → xs ≡ placed more os ss
    → x ∷ xs ≡ (take w (a ++ more) ++ drop w s) ∷ placed (drop w (a ++ more)) os ss
laid w a more x s n e xs os ss r = rw (take_at a more w n, drop_at a more w n, e, r)

-- ---- the numbers
-- what ends a replay is 32 or 33
end_high : (r : Progress) (n : ℕ) → end_fits r ≡ true → r.ended ≡ suc n → 32 ≤ suc n
unfolding end_fits
end_high r n e q = go (eqb r.ended 0) (eqb (length r.stamp) 4) refl refl e
  where
    high : 32 ≤ (when back r.earlier (stamp_in r.stamp) then 32 else 33)
    high = if_cases (λ (m : ℕ). 32 ≤ m) (back r.earlier (stamp_in r.stamp)) 32 33 (λ _. omega arith) (λ _. omega arith)

    go : (x y : Bool) → eqb r.ended 0 ≡ x → eqb (length r.stamp) 4 ≡ y
        → (x || (y && eqb r.ended (when back r.earlier (stamp_in r.stamp) then 32 else 33))) ≡ true → 32 ≤ suc n
    go true y ex ey h = absurd (let z = eqb-true r.ended 0 ex in omega arith)
    go false false ex ey h = absurd (false≢true h)
    go false true ex ey h = let z = eqb-true r.ended _ h in omega (arith, z, high)

-- what a call gives, by what it leaves
ends_by : (n : ℕ) (broken : Bool) (ended : ℕ) → Numbered n broken ended → ended ≡ (when eqb n 32 then 32 else (when eqb n 33 then 33 else 0))
ends_by _ _ _ gives_0 = refl
ends_by _ _ _ gives_30 = refl
ends_by _ _ _ gives_31 = refl
ends_by _ _ _ gives_32 = refl
ends_by _ _ _ gives_33 = refl

breaks_by : (n : ℕ) (broken : Bool) (ended : ℕ) → Numbered n broken ended → broken ≡ eqb n 31
breaks_by _ _ _ gives_0 = refl
breaks_by _ _ _ gives_30 = refl
breaks_by _ _ _ gives_31 = refl
breaks_by _ _ _ gives_32 = refl
breaks_by _ _ _ gives_33 = refl

none_low : (n : ℕ) (broken : Bool) (ended : ℕ) → Numbered n broken ended → (m : ℕ) → 0 < m → m < 30 → eqb n m ≡ false
none_low _ _ _ gives_0 m h j = ne_eqb 0 m (λ e. omega arith)
none_low _ _ _ gives_30 m h j = ne_eqb 30 m (λ e. omega arith)
none_low _ _ _ gives_31 m h j = ne_eqb 31 m (λ e. omega arith)
none_low _ _ _ gives_32 m h j = ne_eqb 32 m (λ e. omega arith)
none_low _ _ _ gives_33 m h j = ne_eqb 33 m (λ e. omega arith)

first_end : (e : ℕ) (t u : Bool) (rest : ℕ) → first (first e (when t then 32 else (when u then 33 else 0))) rest ≡ first e (when t then 32 else (when u then 33 else rest))
first_end zero true u rest = refl
first_end zero false true rest = refl
first_end zero false false rest = refl
first_end (suc e) t u rest = refl

module _ {S H : Type 0} (L : Lent S H) (h₀ : Held H) (Good : S → Type 0) (K : Keeps L h₀.port Good) where
  abbrev D : Device S
  D = L.device

  abbrev s₀ : S
  s₀ = (bench_in L h₀).state

  abbrev There : (done a : List ℕ) → Bench S → Progress → Type 0
  There done a p r = At D Good K.run s₀ done a p r

  -- what is there matches
  matched_in : (r : Progress) (c : List ℕ) → length r.stamp ≤ 4 → r.answered ≤ length (due r.earlier r.stamp) → end_fits r ≡ true → Inside c r → matches c r ≡ true
  unfolding matches
  matched_in r [] l n e i = rw (le-leb (length r.stamp) 4 l, le-leb r.answered (length (due r.earlier r.stamp)) n, e)
  matched_in r (k ∷ rest) l n e i =
      let m : length r.stamp ≡ 0 = ap length i.0 in
      let unanswered : r.answered ≡ 0 = omega (arith, n, ap length (due_none r.earlier r.stamp (omega arith))) in
      rw (i.2, eq-eqb (length r.stamp) 0 m, eq-eqb r.answered 0 unanswered, eq-eqb r.ended 0 i.3, i.1)

  -- lent memory that is accepted, where the plain bench stands after the trace that the consumed bytes `done` stand for as it does, with the answers a
  record On (done a : List ℕ) (h : Held H) : Type 0 where
    at : There done a (bench_in L h) (progress_in h.replay)
    accepted : refusal L h.port ≡ 0
    fits : stamp_fits h.replay ≡ true

  module _ {done a : List ℕ} {h : Held H} (o : On done a h) where
    on_fits : matching L h ≡ true
    on_fits = rw o.fits (matched_in (progress_in h.replay) (bench_in L h).carried o.at.fits.stamp o.at.some o.at.end o.at.inside)

    on_sound : refusal_with L h ≡ 0
    on_sound = refuses_not L h o.accepted on_fits

  abbrev canonical : Held H → Held H
  canonical h = record { port = L.keep (bench_in L h); replay = replay_of (progress_in h.replay) }

  -- ---- one call
  record Step (done a : List ℕ) (h : Held H) (c : Call) (x : Left (Held H)) : Type 0 where
    on : On (done ++ take x.consumed c.input) (a ++ take x.written x.answers) x.held
    same : (record { bench = blank_bench (bench_in L x.held); progress = progress_in x.held.replay; number = x.number; consumed = x.consumed; answers = replicate x.written 0 })
        ≡ foreseen done (progress_in h.replay).answered (progress_in h.replay).ended (bench_in L h).broken c
    breaks : (bench_in L x.held).broken ≡ ((bench_in L h).broken || eqb x.number 31)
    ends : (progress_in x.held.replay).ended ≡ first (progress_in h.replay).ended (when eqb x.number 32 then 32 else (when eqb x.number 33 then 33 else 0))
    low : (n : ℕ) → 0 < n → n < 30 → eqb x.number n ≡ false
    untouched : drop x.written x.answers ≡ drop x.written c.answers
    long : length (take x.written x.answers) ≡ x.written
    fresh : (progress_in h.replay).ended ≡ 0 → (bench_in L h).broken ≡ false → x.held ≡ canonical x.held
    stays : h ≡ canonical h → x.held ≡ canonical x.held

  -- the blank call, where the bytes leave off
  foreseen_at : (done : List ℕ) (p : Bench S) (r : Progress) (c : Call) → record { earlier = r.earlier; stamp = r.stamp; carried = p.carried } ≡ place_of done
      → foreseen done r.answered r.ended p.broken c ≡ replay blank (blank_bench p) r (length c.answers) c.input
  unfolding foreseen
  foreseen_at done p r c e =
      ap (λ (l : Place). replay blank (record { state = tt; carried = l.carried; broken = p.broken }) (record { earlier = l.earlier; stamp = l.stamp; answered = r.answered; ended = r.ended }) (length c.answers) c.input) (sym e)

  replay_stopped : (p : Bench S) (r : Progress) (room n : ℕ) (input : List ℕ) → r.ended ≡ suc n → replay D p r room input ≡ still (suc n) p r []
  unfolding replay
  replay_stopped p r room n input e = ap (λ (m : ℕ). unless m (λ n. still n p r []) (when p.broken then still 31 p r [] else replay_open D p r room input)) e

  replay_broken : (p : Bench S) (r : Progress) (room : ℕ) (input : List ℕ) → r.ended ≡ 0 → p.broken ≡ true → replay D p r room input ≡ still 31 p r []
  unfolding replay
  replay_broken p r room input e b =
      ap (λ (m : ℕ). unless m (λ n. still n p r []) (when p.broken then still 31 p r [] else replay_open D p r room input)) e ∙ if_true p.broken _ _ b

  replay_open_lem : (p : Bench S) (r : Progress) (room : ℕ) (input : List ℕ) → r.ended ≡ 0 → p.broken ≡ false → replay D p r room input ≡ replay_open D p r room input
  unfolding replay
  replay_open_lem p r room input e b =
      ap (λ (m : ℕ). unless m (λ n. still n p r []) (when p.broken then still 31 p r [] else replay_open D p r room input)) e ∙ if_false p.broken _ _ b

  step : (done a : List ℕ) (h : Held H) (c : Call) → On done a h → Bytes c.input → Step done a h c (replays L h c.input c.answers)
  step done a h c o i = by_ended h.replay.ended refl
    where
      blank_same : (g : Replayed S) → replay D (bench_in L h) (progress_in h.replay) (length c.answers) c.input ≡ g
          → blanked g ≡ foreseen done (progress_in h.replay).answered (progress_in h.replay).ended (bench_in L h).broken c
      blank_same g e =
          ap blanked (sym e)
          ∙ same_call D (bench_in L h) (progress_in h.replay) (length c.answers) c.input
          ∙ sym (foreseen_at done (bench_in L h) (progress_in h.replay) c o.at.place)

      -- nothing changes
      stopped : (n : ℕ) → stops_first L h ≡ suc n → replay D (bench_in L h) (progress_in h.replay) (length c.answers) c.input ≡ still (suc n) (bench_in L h) (progress_in h.replay) []
          → 30 ≤ suc n
          → (bench_in L h).broken ≡ ((bench_in L h).broken || eqb (suc n) 31)
          → (progress_in h.replay).ended ≡ first (progress_in h.replay).ended (when eqb (suc n) 32 then 32 else (when eqb (suc n) 33 then 33 else 0))
          → ((progress_in h.replay).ended ≡ 0 → (bench_in L h).broken ≡ false → ⊥)
          → Step done a h c (replays L h c.input c.answers)
      stopped n st e big br en shut =
          rw (replays_stopped L h c.input c.answers n st)
          (record {
            on = subst (λ (l : List ℕ). On l (a ++ []) h) (sym (append-nil done)) (subst (λ (l : List ℕ). On done l h) (sym (append-nil a)) o);
            same = blank_same _ e;
            breaks = br;
            ends = en;
            low = λ m j k. ne_eqb (suc n) m (λ q. omega arith);
            untouched = refl;
            long = refl;
            fresh = λ x y. absurd (shut x y);
            stays = λ x. x;
          })

      opened : (progress_in h.replay).ended ≡ 0 → (bench_in L h).broken ≡ false → Step done a h c (replays L h c.input c.answers)
      opened z u =
          let g = replay_open D (bench_in L h) (progress_in h.replay) (length c.answers) c.input in
          let w = call_ends D Good K.run s₀ c.input done a (bench_in L h) (progress_in h.replay) (length c.answers) o.at u z i in
          let begins = partial_begun g.bench.carried w.at.kept.partial in
          let kp : L.view (L.keep g.bench) ≡ g.bench = K.kept g.bench w.at.kept.good begins in
          let kr : progress_in (replay_of g.progress) ≡ g.progress = read_kept g.progress in
          let tk : take (length g.answers) (g.answers ++ drop (length g.answers) c.answers) ≡ g.answers = take-append_seam g.answers (drop (length g.answers) c.answers) in
          rw (replays_open L h c.input c.answers (stops_not L h (on_sound o) z u))
          (record {
            on = record {
              at = rw (kp, kr, tk) w.at;
              accepted = K.accepted g.bench w.at.kept.good begins;
              fits = stamp_kept g.progress w.at.fits;
            };
            same = rw (kp, kr) (blank_same g (replay_open_lem (bench_in L h) (progress_in h.replay) (length c.answers) c.input z u));
            breaks = rw kp (breaks_by g.number g.bench.broken g.progress.ended w.number ∙ sym (ap (λ (t : Bool). t || eqb g.number 31) u));
            ends = ends_by g.number g.bench.broken g.progress.ended w.number ∙ sym (ap (λ (m : ℕ). first m (when eqb g.number 32 then 32 else (when eqb g.number 33 then 33 else 0))) z);
            low = none_low g.number g.bench.broken g.progress.ended w.number;
            untouched = drop-append_seam g.answers (drop (length g.answers) c.answers);
            long = rw tk;
            fresh = λ _ _. (λ k. record { port = L.keep (sym kp k); replay = replay_of (sym kr k) });
            stays = λ _. (λ k. record { port = L.keep (sym kp k); replay = replay_of (sym kr k) });
          })

      by_broken : (t : Bool) → (bench_in L h).broken ≡ t → (progress_in h.replay).ended ≡ 0 → Step done a h c (replays L h c.input c.answers)
      by_broken false u z = opened z u
      by_broken true u z =
          stopped 30 (stops_broken L h (on_sound o) z u) (replay_broken (bench_in L h) (progress_in h.replay) (length c.answers) c.input z u) (omega arith)
          (u ∙ sym (ap (λ (t : Bool). t || true) u))
          (z ∙ sym (ap (λ (m : ℕ). first m 0) z))
          (λ _ v. true≢false (sym u ∙ v))

      by_ended : (n : ℕ) → (progress_in h.replay).ended ≡ n → Step done a h c (replays L h c.input c.answers)
      by_ended zero z = by_broken (bench_in L h).broken refl z
      by_ended (suc n) z =
          let big = end_high (progress_in h.replay) n o.at.end z in
          stopped n (stops_ended L h n (on_sound o) z) (replay_stopped (bench_in L h) (progress_in h.replay) (length c.answers) n c.input z) (omega arith)
          (sym (or-false (bench_in L h).broken) ∙ sym (ap (λ (t : Bool). (bench_in L h).broken || t) (ne_eqb (suc n) 31 (λ q. omega arith))))
          (z ∙ sym (ap (λ (m : ℕ). first m (when eqb (suc n) 32 then 32 else (when eqb (suc n) 33 then 33 else 0))) z))
          (λ v _. omega arith)

  -- ---- cutting
  goes_on : (n : ℕ) (broken : Bool) (ended : ℕ) → Numbered n broken ended → n < 31 → (ended ≡ 0) × (broken ≡ false)
  goes_on _ _ _ gives_0 h = (refl, refl)
  goes_on _ _ _ gives_30 h = (refl, refl)
  goes_on _ _ _ gives_31 h = absurd (omega arith)
  goes_on _ _ _ gives_32 h = absurd (omega arith)
  goes_on _ _ _ gives_33 h = absurd (omega arith)

  in_two : (f g : Replayed S) (room room' all : List ℕ) → InTwo (leaves L f room) (leaves L g room') (leaves L (later f.consumed f.answers g) all)
  in_two f g room room' all =
      record {
        number = refl;
        consumed = refl;
        written = length-append f.answers g.answers;
        answers =
            take-append_seam (f.answers ++ g.answers) (drop (length (f.answers ++ g.answers)) all)
            ∙ sym (λ i. take-append_seam f.answers (drop (length f.answers) room) i ++ take-append_seam g.answers (drop (length g.answers) room') i);
        held = refl;
      }

  module _ (h : Held H) (one two room' all : List ℕ) where
    abbrev Cuts : Left (Held H) → Type 0
    Cuts x = x.number < 31 → length all ≡ x.written + length room' → InTwo x (replays L x.held (drop x.consumed one ++ two) room') (replays L h (one ++ two) all)

    cuts_shut : (n : ℕ) (room : List ℕ) → stops_first L h ≡ suc n → 31 ≤ suc n → Cuts (replays L h one room)
    cuts_shut n room st big = subst Cuts (sym (replays_stopped L h one room n st)) (λ j _. absurd (omega arith))

    cuts_open : (done a room : List ℕ) → On done a h → Bytes one → (progress_in h.replay).ended ≡ 0 → (bench_in L h).broken ≡ false → Cuts (replays L h one room)
    cuts_open done a room o i z u =
        let f = replay_open D (bench_in L h) (progress_in h.replay) (length room) one in
        let w = call_ends D Good K.run s₀ one done a (bench_in L h) (progress_in h.replay) (length room) o.at u z i in
        let begins = partial_begun f.bench.carried w.at.kept.partial in
        let kp : L.view (L.keep f.bench) ≡ f.bench = K.kept f.bench w.at.kept.good begins in
        let kr : progress_in (replay_of f.progress) ≡ f.progress = read_kept f.progress in
        let stops = stops_not L h (on_sound o) z u in
        subst Cuts (sym (replays_open L h one room stops))
        (λ j l.
        let x : Held H = record { port = L.keep f.bench; replay = replay_of f.progress } in
        let on : On (done ++ take f.consumed one) (a ++ f.answers) x =
        record { at = rw (kp, kr) w.at; accepted = K.accepted f.bench w.at.kept.good begins; fits = stamp_kept f.progress w.at.fits } in
        let g = replay_open D f.bench f.progress (length room') (drop f.consumed one ++ two) in
        let on_it = goes_on f.number f.bench.broken f.progress.ended w.number j in
        let second : replays L x (drop f.consumed one ++ two) room' ≡ leaves L g room' =
        replays_open L x (drop f.consumed one ++ two) room' (stops_not L x (on_sound on) (ap (λ (r : Progress). r.ended) kr ∙ on_it.0) (ap (λ (p : Bench S). p.broken) kp ∙ on_it.1))
        ∙ (λ k. leaves L (replay_open D (kp k) (kr k) (length room') (drop f.consumed one ++ two)) room') in
        let whole : replays L h (one ++ two) all ≡ leaves L (later f.consumed f.answers g) all =
        replays_open L h (one ++ two) all stops
        ∙ ap (λ (n : ℕ). leaves L (replay_open D (bench_in L h) (progress_in h.replay) n (one ++ two)) all) l
        ∙ ap (λ (k : Replayed S). leaves L k all) (joins D one two (bench_in L h) (progress_in h.replay) (length room) (length room') j) in
        subst (λ (y : Left (Held H)). InTwo (leaves L f room) y (replays L h (one ++ two) all)) (sym second)
        (subst (λ (y : Left (Held H)). InTwo (leaves L f room) (leaves L g room') y) (sym whole) (in_two f g room room' all)))

  cuts : (done a : List ℕ) (h : Held H) → On done a h → CutsAnywhere L h
  cuts done a h o one two room room' all i i' = by_ended (progress_in h.replay).ended refl
    where
      by_broken : (t : Bool) → (bench_in L h).broken ≡ t → (progress_in h.replay).ended ≡ 0 → Cuts h one two room' all (replays L h one room)
      by_broken false u z = cuts_open h one two room' all done a room o i z u
      by_broken true u z = cuts_shut h one two room' all 30 room (stops_broken L h (on_sound o) z u) (omega arith)

      by_ended : (n : ℕ) → (progress_in h.replay).ended ≡ n → Cuts h one two room' all (replays L h one room)
      by_ended zero z = by_broken (bench_in L h).broken refl z
      by_ended (suc n) z = let big = end_high (progress_in h.replay) n o.at.end z in cuts_shut h one two room' all n room (stops_ended L h n (on_sound o) z) (omega arith)

  -- ---- why a call ends
  not_stopped : (h : Held H) → stops_first L h ≡ 0 → ((progress_in h.replay).ended ≡ 0) × ((bench_in L h).broken ≡ false)
  unfolding stops_first
  not_stopped h e = go (refusal_with L h) (progress_in h.replay).ended (bench_in L h).broken refl refl e
    where
      go : (n m : ℕ) (t : Bool) → (progress_in h.replay).ended ≡ m → (bench_in L h).broken ≡ t → first n (first m (when t then 31 else 0)) ≡ 0 → ((progress_in h.replay).ended ≡ 0) × ((bench_in L h).broken ≡ false)
      go (suc n) m t em et q = absurd (omega arith)
      go zero (suc m) t em et q = absurd (omega arith)
      go zero zero true em et q = absurd (omega arith)
      go zero zero false em et q = (em, et)

  why : (done a : List ℕ) (h : Held H) → On done a h → (c : Call) → Bytes c.input → stops_first L h ≡ 0
      → let x = replays L h c.input c.answers in
      EndsWith (bench_in L x.held).carried (progress_in x.held.replay) (length c.answers - x.written) (drop x.consumed c.input) x.number
  why done a h o c i e =
      let open_here = not_stopped h e in
      let f = replay_open D (bench_in L h) (progress_in h.replay) (length c.answers) c.input in
      let w = call_ends D Good K.run s₀ c.input done a (bench_in L h) (progress_in h.replay) (length c.answers) o.at open_here.1 open_here.0 i in
      let begins = partial_begun f.bench.carried w.at.kept.partial in
      let kp : L.view (L.keep f.bench) ≡ f.bench = K.kept f.bench w.at.kept.good begins in
      let kr : progress_in (replay_of f.progress) ≡ f.progress = read_kept f.progress in
      subst (λ (x : Left (Held H)). EndsWith (bench_in L x.held).carried (progress_in x.held.replay) (length c.answers - x.written) (drop x.consumed c.input) x.number) (sym (replays_open L h c.input c.answers e))
      (subst (λ (r : Progress). EndsWith (L.view (L.keep f.bench)).carried r (length c.answers - length f.answers) (drop f.consumed c.input) f.number) (sym kr)
      (subst (λ (p : Bench S). EndsWith p.carried f.progress (length c.answers - length f.answers) (drop f.consumed c.input) f.number) (sym kp)
      (ends-from D c.input (bench_in L h) (progress_in h.replay) (length c.answers) (record { partial = o.at.kept.partial; stamp = o.at.fits.stamp; some = o.at.some }))))

  -- ---- a list of calls
  record Since (done a : List ℕ) (h : Held H) (cs : List Call) (z : Came (Held H)) : Type 0 where
    on : On (done ++ z.bytes) (a ++ z.answers) z.held
    broken : (bench_in L z.held).broken ≡ ((bench_in L h).broken || gave 31 z.outcomes)
    ended : (progress_in z.held.replay).ended ≡ first (progress_in h.replay).ended (ended_by z.outcomes)
    outcomes : z.outcomes ≡ expected_from done (progress_in h.replay).answered (progress_in h.replay).ended (bench_in L h).broken cs
    low : (n : ℕ) → 0 < n → n < 30 → gave n z.outcomes ≡ false
    untouched : beyond z.outcomes z.slices ≡ beyond z.outcomes (slices_of cs)
    slices : z.slices ≡ placed z.answers z.outcomes (slices_of cs)
    fresh : (progress_in h.replay).ended ≡ 0 → (bench_in L h).broken ≡ false → 0 < length cs → z.held ≡ canonical z.held
    stays : h ≡ canonical h → z.held ≡ canonical z.held

  first_none : (n : ℕ) → first n 0 ≡ n
  first_none zero = refl
  first_none (suc n) = refl

  since : (done a : List ℕ) (h : Held H) (cs : List Call) → On done a h → BytesIn cs → Since done a h cs (replay_calls L h cs)
  unfolding replay_calls expected_from
  since done a h [] o i =
      record {
        on = subst (λ (l : List ℕ). On l (a ++ []) h) (sym (append-nil done)) (subst (λ (l : List ℕ). On done l h) (sym (append-nil a)) o);
        broken = sym (or-false (bench_in L h).broken);
        ended = sym (first_none (progress_in h.replay).ended);
        outcomes = refl;
        low = λ n j k. refl;
        untouched = refl;
        slices = refl;
        fresh = λ _ _ j. absurd (omega arith);
        stays = λ k. k;
      }
  since done a h (c ∷ cs) o i =
      let x = replays L h c.input c.answers in
      let q = step done a h c o i.0 in
      let taken = take x.consumed c.input in
      let wrote = take x.written x.answers in
      let t = since (done ++ taken) (a ++ wrote) x.held cs q.on i.1 in
      let z = replay_calls L x.held cs in
      let w : x.written ≡ length (replicate {A = ℕ} x.written 0) = sym (length-replicate {A = ℕ} x.written 0) in
      record {
        on =
            subst (λ (l : List ℕ). On l (a ++ (wrote ++ z.answers)) z.held) (append_assoc done taken z.bytes)
            (subst (λ (l : List ℕ). On ((done ++ taken) ++ z.bytes) l z.held) (append_assoc a wrote z.answers) t.on);
        broken = t.broken ∙ ap (λ (b : Bool). b || gave 31 z.outcomes) q.breaks ∙ or_assoc (bench_in L h).broken (eqb x.number 31) (gave 31 z.outcomes);
        ended = t.ended ∙ ap (λ (m : ℕ). first m (ended_by z.outcomes)) q.ends ∙ first_end (progress_in h.replay).ended (eqb x.number 32) (eqb x.number 33) (ended_by z.outcomes);
        outcomes =
            (λ k. record { number = x.number; consumed = x.consumed; written = w k } ∷ t.outcomes k)
            ∙ ap (λ (g : Replayed (Unit {0})). outcome_in g ∷ expected_from (done ++ take g.consumed c.input) g.progress.answered g.progress.ended g.bench.broken cs) q.same;
        low = λ n j k. ap (λ (b : Bool). b || gave n z.outcomes) (q.low n j k) ∙ t.low n j k;
        untouched = λ k. q.untouched k ∷ t.untouched k;
        slices = laid x.written wrote z.answers x.answers c.answers q.long (sym (take-append-drop x.written x.answers) ∙ ap (λ (l : List ℕ). wrote ++ l) q.untouched) z.slices z.outcomes (slices_of cs) t.slices;
        fresh = λ e b _. t.stays (q.fresh e b);
        stays = λ k. t.stays (q.stays k);
      }

  -- ---- where a replay starts
  at_start : (p : Bench S) (r : Progress) → p.state ≡ s₀ → p.carried ≡ [] → Good s₀ → r ≡ fresh → There [] [] p r
  unfolding trace_from place_of place_after end_fits
  at_start p r d c g e =
      subst (λ (l : Progress). There [] [] p l) (sym e)
      (record {
        plainly = plain_partial D s₀ [] tt ∙ (λ i. record { state = sym d i; carried = sym c i; answers = [] });
        place = λ i. record { earlier = None; stamp = []; carried = c i };
        kept = record { partial = nothing_partial p.carried c; bytes = nothing_bytes p.carried c; good = subst Good (sym d) g };
        fits = record { stamp = omega arith; bytes = tt; earlier = tt; answered = omega arith; ended = omega arith };
        some = omega arith;
        inside = nothing_inside p.carried c;
        end = refl;
      })
    where
      nothing_partial : (l : List ℕ) → l ≡ [] → Partial l
      nothing_partial l q = rw q tt

      nothing_bytes : (l : List ℕ) → l ≡ [] → Bytes l
      nothing_bytes l q = rw q tt

      nothing_inside : (l : List ℕ) → l ≡ [] → Inside l fresh
      nothing_inside l q = rw q tt

  on_start : Fresh L h₀ → On [] [] h₀
  on_start f =
      record {
        at = at_start (bench_in L h₀) (progress_in h₀.replay) refl f.port.none_carried (K.good f.port.accepted) f.replay;
        accepted = f.port.accepted;
        fits = f.fits;
      }

  -- ---- a list of calls from there
  module _ (cs : List Call) (inputs : BytesIn cs) (f : Fresh L h₀) where
    abbrev z : Came (Held H)
    z = replay_calls L h₀ cs

    q : Since [] [] h₀ cs z
    q = since [] [] h₀ cs (on_start f) inputs

    there : plain_on L h₀ z ≡ left_as D (bench_in L z.held) z.answers
    there = ap (plain D s₀) (stands_at z.bytes (place_in L z.held) z.held.replay.answered q.on.at.place) ∙ q.on.at.plainly

    unbroken : (bench_in L z.held).broken ≡ gave 31 z.outcomes
    unbroken = q.broken ∙ ap (λ (b : Bool). b || gave 31 z.outcomes) f.port.unbroken

    -- feed calls that consume the trace that the calls stand for
    as_fed_lem : (ds : List Call) → BytesIn ds → (calls L h₀.port ds).bytes ≡ trace_of L z
        → ((calls L h₀.port ds).answers ≡ z.answers)
        × ((L.view (calls L h₀.port ds).held).state ≡ (bench_in L z.held).state)
        × ((L.view (calls L h₀.port ds).held).carried ≡ (bench_in L z.held).carried)
    as_fed_lem ds i e =
        let a = (one_trace L h₀.port Good K ds (rw f.port.none_carried tt) i).demand f.port in
        let p = ap (plain D s₀) e ∙ there in (
          a.answers ∙ ap (λ (y : Benched S). y.answers) p,
          ap (λ (y : Bench S). y.state) a.state ∙ ap (λ (y : Benched S). y.state) p,
          ap (λ (y : Bench S). y.carried) a.state ∙ ap (λ (y : Benched S). y.carried) p,
        )

    -- THE CLAIM
    as_one_trace : AsOneTrace L h₀ cs z
    as_one_trace =
        record {
          answers = sym (ap (λ (y : Benched S). y.answers) there);
          state = λ k. record { state = sym (ap (λ (y : Benched S). y.state) there) k; carried = sym (ap (λ (y : Benched S). y.carried) there) k; broken = unbroken k };
          place = q.on.at.place;
          ended = q.ended ∙ ap (λ (r : Progress). first r.ended (ended_by z.outcomes)) f.replay;
          matches = on_fits q.on;
          sound = on_sound q.on;
          memory = q.fresh (ap (λ (r : Progress). r.ended) f.replay) f.port.unbroken;
          outcomes = q.outcomes ∙ (λ k. expected_from [] (f.replay k).answered (f.replay k).ended (f.port.unbroken k) cs);
          why = why z.bytes z.answers z.held q.on;
          numbers = q.low;
          slices = q.slices;
          untouched = q.untouched;
          cuts = cuts z.bytes z.answers z.held q.on;
          finished = λ n e more. all_stopped L n z.held more (stops_ended L z.held n (on_sound q.on) e);
          shut = λ e b more. all_stopped L 30 z.held more (stops_broken L z.held (on_sound q.on) e b);
          as_fed = as_fed_lem;
        }

-- THE THEOREM
pub one_replay : {S H : Type 0} (L : Lent S H) (lent : Held H) (Good : S → Type 0) → Keeps L lent.port Good
    → (list : List Call) → BytesIn list → OneReplay L lent list (replay_calls L lent list)
one_replay L lent Good K list inputs = record { claim = as_one_trace L lent Good K list inputs; refusals = refusals L lent list }
