-- DEMAND 3, for any device: every list of calls is one trace on the plain bench.
use Prim.Native.Nat.{ℕ, zero, suc, ◌-◌, ◌<◌}
use mathlib.Core.Path.{◌≡◌, refl, ap, sym, subst, ◌∙◌}
use mathlib.Core.Bool.{Bool, true, false, ◌||◌, true≢false, or_assoc, or-false}
use mathlib.Core.List.{List, [], ◌∷◌, ◌++◌, append-nil, append_assoc}
use native.Mathlib.Omega.{arith}
use lib.ListN.{length, take, drop, take-append-drop}
use lib.Seq.{take-append_seam, drop-append_seam, take_at, drop_at}
use lib.Dec.{ltb, eqb}
use borrow.Author.Tests.{ne_eqb}
use Rattle.bits.proofs.Tests.{split}
use Rattle.trace.specs.Format.{Bytes}
use Rattle.trace.specs.Bench.{Device, Bench, Benched, cut, plain}
use Rattle.trace.specs.Outcome.{Outcome, unknown_next, scan, outcome, outcome_of}
use Rattle.trace.specs.Feed.{feed_open}
use Rattle.trace.specs.Lent.{Lent, Left, outcome_in, refusal, feeds}
use Rattle.trace.specs.Calls.{Call, Came, slices_of, BytesIn, calls, gave, beyond, placed, all_give, expected_from}
use Rattle.trace.specs.OneTrace.{IsPlainBench, OneTrace}
use Rattle.trace.specs.inner.Keeps.{Keeps}
use Rattle.trace.proofs.Tests.{if_cases}
use Rattle.trace.proofs.Feeding.{left_as, plain_partial}
use Rattle.trace.proofs.Gathering.{begun_partial, partial_begun}
use Rattle.trace.proofs.OneCall.{OneCall, one_call, plain_append, feed_shut, feed_open_lem, Kept, open_keeps}
use Rattle.trace.proofs.Refusing.{stops_broken, stops_not, goes_on, feeds_stopped, feeds_open, all_stopped, all_refused_lem}

-- ---- an accepted call gives 0, 30 or 31
scan-number : (rs : List (List ℕ)) (left : List ℕ) (room n : ℕ) → 0 < n → n < 30 → eqb (scan rs left room).number n ≡ false
unfolding scan
scan-number [] left room n h j =
    if_cases (λ (o : Outcome). eqb o.number n ≡ false) (unknown_next left) _ _ (λ _. ne_eqb 31 n (λ e. omega arith)) (λ _. ne_eqb 0 n (λ e. omega arith))
scan-number (r ∷ rs) left room n h j =
    if_cases (λ (o : Outcome). eqb o.number n ≡ false) (ltb room 8) _ _ (λ _. ne_eqb 30 n (λ e. omega arith)) (λ _. scan-number rs left (room - 8) n h j)

outcome-number : (c : List ℕ) (broken : Bool) (input : List ℕ) (room n : ℕ) → 0 < n → n < 30 → eqb (outcome c broken input room).number n ≡ false
unfolding outcome
outcome-number c broken input room n h j =
    if_cases (λ (o : Outcome). eqb o.number n ≡ false) broken _ _
    (λ _. ne_eqb 31 n (λ e. omega arith))
    (λ _. scan-number (cut (c ++ input)).wholes (cut (c ++ input)).left room n h j)

pub expected-numbers : {S : Type 0} (D : Device S) (s : S) (broken : Bool) (done : List ℕ) (cs : List Call) (n : ℕ) → 0 < n → n < 30
    → gave n (expected_from D 0 s broken done cs) ≡ false
unfolding expected_from outcome_of
expected-numbers D s broken done [] n h j = refl
expected-numbers D s broken done (c ∷ cs) n h j =
    rw (outcome-number (plain D s done).carried broken c.input (length c.answers) n h j) (expected-numbers D s (broken || eqb (outcome_of 0 (plain D s done).carried broken c.input (length c.answers)).number 31) _ cs n h j)

-- ---- answers laid into slices
laid : (w : ℕ) (a more x s : List ℕ) → length a ≡ w → x ≡ a ++ drop w s → (xs : List (List ℕ)) (os : List Outcome) (ss : List (List ℕ)) → xs ≡ placed more os ss
    → x ∷ xs ≡ (take w (a ++ more) ++ drop w s) ∷ placed (drop w (a ++ more)) os ss
laid w a more x s n e xs os ss r = rw (take_at a more w n, drop_at a more w n, e, r)

placed_none : (n : ℕ) (cs : List Call) → placed [] (all_give n cs) (slices_of cs) ≡ slices_of cs
placed_none n [] = refl
placed_none n (c ∷ cs) = ap (λ (l : List (List ℕ)). c.answers ∷ l) (placed_none n cs)

module _ {S H : Type 0} (L : Lent S H) (h₀ : H) (Good : S → Type 0) (K : Keeps L h₀ Good) where
  abbrev D : Device S
  D = L.device

  -- lent memory that is accepted, in a good state, and carries the start of one record, in bytes
  pub record Valid (h : H) : Type 0 where
    pub accepted : refusal L h ≡ 0
    pub kept : Kept D Good K.run (L.view h)

  pub valid_start : refusal L h₀ ≡ 0 → Bytes (L.view h₀).carried → Valid h₀
  valid_start e b = record { accepted = e; kept = record { partial = begun_partial (L.view h₀).carried (K.carries e); bytes = b; good = K.good e } }

  -- ---- one call on accepted memory
  record Step (h : H) (c : Call) (x : Left H) : Type 0 where
    same : plain D (L.view h).state ((L.view h).carried ++ take x.consumed c.input) ≡ left_as D (L.view x.held) (take x.written x.answers)
    scans : outcome_in x ≡ outcome (L.view h).carried (L.view h).broken c.input (length c.answers)
    breaks : (L.view x.held).broken ≡ ((L.view h).broken || eqb x.number 31)
    untouched : drop x.written x.answers ≡ drop x.written c.answers
    long : length (take x.written x.answers) ≡ x.written
    valid : Valid x.held
    fresh : (L.view h).broken ≡ false → x.held ≡ L.keep (L.view x.held)
    stays : h ≡ L.keep (L.view h) → x.held ≡ L.keep (L.view x.held)

  step : (h : H) (c : Call) → Valid h → Bytes c.input → Step h c (feeds L h c.input c.answers)
  step h c v i = split (L.view h).broken shut unbroken
    where
      p : Bench S
      p = L.view h

      o : OneCall D p (length c.answers) c.input
      o = one_call D p (length c.answers) c.input v.kept.partial

      shut : p.broken ≡ true → Step h c (feeds L h c.input c.answers)
      shut b =
          let f = feed_shut D p (length c.answers) c.input b in
          rw (feeds_stopped L h c.input c.answers 30 (stops_broken L h v.accepted b))
          (record {
            same = rw f at o.same;
            scans = rw f at o.scans;
            breaks = rw f at o.breaks;
            untouched = refl;
            long = refl;
            valid = v;
            fresh = λ e. absurd (true≢false (sym b ∙ e));
            stays = λ e. e;
          })

      unbroken : p.broken ≡ false → Step h c (feeds L h c.input c.answers)
      unbroken b =
          let f = feed_open D p (length c.answers) c.input in
          let q = feed_open_lem D p (length c.answers) c.input b in
          let g = open_keeps D Good K.run p (length c.answers) c.input v.kept i in
          let begins = partial_begun f.bench.carried g.partial in
          let k : L.view (L.keep f.bench) ≡ f.bench = K.kept f.bench g.good begins in
          rw (feeds_open L h c.input c.answers (stops_not L h v.accepted b))
          (record {
            same = rw (k, take-append_seam f.answers (drop (length f.answers) c.answers)) (rw q at o.same);
            scans = rw q at o.scans;
            breaks = rw k (rw q at o.breaks);
            untouched = drop-append_seam f.answers (drop (length f.answers) c.answers);
            long = rw (take-append_seam f.answers (drop (length f.answers) c.answers));
            valid = record { accepted = K.accepted f.bench g.good begins; kept = rw k g };
            fresh = λ _. ap L.keep (sym k);
            stays = λ _. ap L.keep (sym k);
          })

  -- ---- a list of calls on the lent memory h, where the plain bench, started in s, stands after the bytes `done` as h does
  record Since (s : S) (done : List ℕ) (h : H) (cs : List Call) (z : Came H) : Type 0 where
    answers : (plain D s (done ++ z.bytes)).answers ≡ (plain D s done).answers ++ z.answers
    device : (L.view z.held).state ≡ (plain D s (done ++ z.bytes)).state
    carried : (L.view z.held).carried ≡ (plain D s (done ++ z.bytes)).carried
    broken : (L.view z.held).broken ≡ ((L.view h).broken || gave 31 z.outcomes)
    outcomes : z.outcomes ≡ expected_from D 0 s (L.view h).broken done cs
    untouched : beyond z.outcomes z.slices ≡ beyond z.outcomes (slices_of cs)
    slices : z.slices ≡ placed z.answers z.outcomes (slices_of cs)
    valid : Valid z.held
    stays : h ≡ L.keep (L.view h) → z.held ≡ L.keep (L.view z.held)
    fresh : (L.view h).broken ≡ false → 0 < length cs → z.held ≡ L.keep (L.view z.held)

  since : (s : S) (done : List ℕ) (h : H) (cs : List Call) → (L.view h).state ≡ (plain D s done).state → (L.view h).carried ≡ (plain D s done).carried
      → Valid h → BytesIn cs → Since s done h cs (calls L h cs)
  unfolding calls expected_from outcome_of
  since s done h [] d e v i =
      let n = append-nil done in
      record {
        answers = rw (n, append-nil (plain D s done).answers);
        device = rw n d;
        carried = rw n e;
        broken = sym (or-false (L.view h).broken);
        outcomes = refl;
        untouched = refl;
        slices = refl;
        valid = v;
        stays = λ k. k;
        fresh = λ _ j. absurd (omega arith);
      }
  since s done h (c ∷ cs) d e v i =
      let x = feeds L h c.input c.answers in
      let o = step h c v i.0 in
      let taken = take x.consumed c.input in
      let b : plain D s (done ++ taken) ≡ record { state = (L.view x.held).state; carried = (L.view x.held).carried; answers = (plain D s done).answers ++ take x.written x.answers } =
      plain_append D s done taken ∙ rw (← d, ← e, o.same) in
      let r = since s (done ++ taken) x.held cs (sym (ap (λ (y : Benched S). y.state) b)) (sym (ap (λ (y : Benched S). y.carried) b)) o.valid i.1 in
      let z = calls L x.held cs in
      let a = append_assoc done taken z.bytes in
      record {
        answers = rw (← a) (r.answers ∙ rw (b, append_assoc));
        device = rw (← a) r.device;
        carried = rw (← a) r.carried;
        broken = r.broken ∙ rw (o.breaks, or_assoc);
        outcomes = rw (← e, ← o.scans, ← o.breaks) (ap (λ (os : List Outcome). outcome_in x ∷ os) r.outcomes);
        untouched = λ k. o.untouched k ∷ r.untouched k;
        slices = laid x.written (take x.written x.answers) z.answers x.answers c.answers o.long (sym (take-append-drop x.written x.answers) ∙ rw o.untouched) z.slices z.outcomes (slices_of cs) r.slices;
        valid = r.valid;
        stays = λ k. r.stays (o.stays k);
        fresh = λ k _. r.stays (o.fresh k);
      }

  last_valid : (h : H) (cs : List Call) → Valid h → BytesIn cs → Valid (calls L h cs).held
  unfolding calls
  last_valid h [] v i = v
  last_valid h (c ∷ cs) v i = last_valid (feeds L h c.input c.answers).held cs (step h c v i.0).valid i.1

  -- THE THEOREM
  pub one_trace : (cs : List Call) → Bytes (L.view h₀).carried → BytesIn cs → OneTrace L h₀ cs (calls L h₀ cs)
  one_trace cs bytes inputs =
      record {
        demand = λ s. subst (λ (c : List ℕ). IsPlainBench L h₀ (c ++ z.bytes) cs z) s.none_carried (carrying s.accepted);
        carrying = carrying;
        refused = λ n e. all_stopped L n h₀ cs e;
        slices = slices (refusal L h₀) refl;
        untouched = untouched (refusal L h₀) refl;
        memory = λ e j. let g = goes_on L h₀ e in (from g.0).fresh g.1 j;
        sound = λ e. (from e).valid.accepted;
      }
    where
      z : Came H
      z = calls L h₀ cs

      start : refusal L h₀ ≡ 0 → plain D (L.view h₀).state (L.view h₀).carried ≡ record { state = (L.view h₀).state; carried = (L.view h₀).carried; answers = [] }
      start e = plain_partial D (L.view h₀).state (L.view h₀).carried (begun_partial (L.view h₀).carried (K.carries e))

      from : refusal L h₀ ≡ 0 → Since (L.view h₀).state (L.view h₀).carried h₀ cs z
      from e =
          since (L.view h₀).state (L.view h₀).carried h₀ cs (sym (ap (λ (y : Benched S). y.state) (start e))) (sym (ap (λ (y : Benched S). y.carried) (start e))) (valid_start e bytes) inputs

      carrying : refusal L h₀ ≡ 0 → IsPlainBench L h₀ ((L.view h₀).carried ++ z.bytes) cs z
      carrying e =
          let r = from e in
          record {
            answers = sym (r.answers ∙ ap (λ (y : Benched S). y.answers ++ z.answers) (start e));
            outcomes = rw e r.outcomes;
            state = λ k. record { state = r.device k; carried = r.carried k; broken = r.broken k };
          }

      untouched : (n : ℕ) → refusal L h₀ ≡ n → beyond z.outcomes z.slices ≡ beyond z.outcomes (slices_of cs)
      untouched zero e = (from e).untouched
      untouched (suc n) e = rw (all_refused_lem L n h₀ cs e)

      slices : (n : ℕ) → refusal L h₀ ≡ n → z.slices ≡ placed z.answers z.outcomes (slices_of cs)
      slices zero e = (from e).slices
      slices (suc n) e = rw (all_refused_lem L n h₀ cs e) (sym (placed_none (suc n) cs))

  -- and the state stays good
  pub stays_good : (cs : List Call) → refusal L h₀ ≡ 0 → Bytes (L.view h₀).carried → BytesIn cs → Good (L.view (calls L h₀ cs).held).state
  stays_good cs e b i = (last_valid h₀ cs (valid_start e b) i).kept.good
