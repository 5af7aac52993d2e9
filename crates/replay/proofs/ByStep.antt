-- What the code has in hand at each place is what stands next.
use Prim.Native.Nat.{ℕ, zero, suc, ◌+◌, ◌-◌, ◌≤◌, ◌<◌}
use mathlib.Core.Path.{◌≡◌, refl, ap, sym, ◌∙◌, subst}
use mathlib.Core.List.{List, [], ◌∷◌}
use native.Mathlib.Omega.{arith}
use lib.ListN.{length, get_or, take, drop, length-append, length-drop, drop_of_length-le}
use lib.Seq.{take_all, length-take-le}
use lib.Dec.{ltb, eqb}
use borrow.Author.Tests.{lt-ltb, le-ltb, eq-eqb, ne_eqb}
use Rattle.std.specs.Prelude.{Option, Some, None, Result, Ok, Err, slice_get}
use Rattle.bits.proofs.Numbers.{by_le}
use Rattle.times.specs.declared.Nanos.{Nanos}
use Rattle.trace.specs.Format.{when◌then◌else◌, Next, complete, incomplete, unknown, next}
use Rattle.trace.specs.inner.Gathered.{whole_size}
use Rattle.trace.proofs.Tests.{if_cases, if_true, if_false}
use Rattle.trace.proofs.Records.{length_whole, complete_at}
use Rattle.capture.specs.declared.Replay.{Replay}
use Rattle.capture.specs.Advances.{due}
use Rattle.capture.specs.Replay.{Progress, begins, ended_with, more_answered}
use Rattle.capture.specs.Lent.{progress_in, replay_of}
use Rattle.capture.proofs.Kept.{read_kept}
use Rattle.replay_state.specs.inner.Moves.{Tidy, more_bytes, checked_at}
use Rattle.replay_state.proofs.Moves.{bytes_there}
use Rattle.replay.specs.declared.Step.{Step}
use Rattle.replay.specs.declared.End.{End}
use Rattle.replay.specs.inner.Steps.{halts, runs_record, step_at_record, step_at_advances, step_checked, step_after_stamp, step_of}
use Rattle.replay.proofs.NextStep.{tidy_kept}

-- ---- the bytes of a record that is whole are there
size_by : (space : ℕ) (bs : List ℕ) (n : Next) → next bs ≡ n → whole_size space n ≤ length bs
size_by space bs (complete r) e =
    if_cases (λ (k : ℕ). k ≤ length bs) (ltb space 8) 0 (length r) (λ _. omega arith) (λ _. (length_whole bs r (complete_at bs r e)).1)
size_by space bs incomplete e = omega arith
size_by space bs unknown e = omega arith

pub size_there : (space : ℕ) (bs : List ℕ) → whole_size space (next bs) ≤ length bs
size_there space bs = size_by space bs (next bs) refl

-- ---- the advances that are left
pub some_left : (ts : List Nanos) (n : ℕ) (t : Nanos) → slice_get ts n ≡ Some t → drop n ts ≡ t ∷ drop (suc n) ts
some_left [] n t e = cc
some_left (u ∷ ts) zero t e = let f : u ≡ t = cc in ap (λ (v : Nanos). v ∷ ts) f
some_left (u ∷ ts) (suc n) t e = some_left ts n t e

pub in_them : (ts : List Nanos) (n : ℕ) (t : Nanos) → slice_get ts n ≡ Some t → n < length ts
in_them [] n t e = cc
in_them (u ∷ ts) zero t e = omega arith
in_them (u ∷ ts) (suc n) t e = omega (arith, in_them ts n t e)

pub none_left : (ts : List Nanos) (n : ℕ) → slice_get ts n ≡ None → drop n ts ≡ []
none_left [] zero e = refl
none_left [] (suc n) e = refl
none_left (u ∷ ts) zero e = cc
none_left (u ∷ ts) (suc n) e = none_left ts n e

-- ---- the call ends with a state that is tidy
pub halted : (number : ℕ) (r : Replay) (at : ℕ) → Tidy r → ◌≡◌ {A = Result Step End} (Err (record { number = number; replay = r; at = at })) (halts number (progress_in r) at)
halted number r at t = λ i. Err (record { number = number; replay = t i; at = at })

-- ---- with q in hand at byte `at`
module _ (q : Progress) (space at : ℕ) where
  -- at a record
  module _ (rest : List ℕ) (size : ℕ) (e : size ≡ whole_size space (next rest)) where
    pub no_record : size ≡ 0 → halts 0 q at ≡ step_at_record q space at rest
    unfolding step_at_record
    no_record z = let s = whole_size space (next rest) in sym (if_true (eqb s 0) _ _ (eq-eqb s 0 (sym e ∙ z)))

    pub a_record : (size ≡ 0 → ⊥) → Ok (runs_record size (begins q) (at + size)) ≡ step_at_record q space at rest
    unfolding step_at_record
    a_record z =
        let s = whole_size space (next rest) in
        ap {B = Result Step End} (λ (n : ℕ). Ok (runs_record n (begins q) (at + n))) e ∙ sym (if_false (eqb s 0) _ _ (ne_eqb s 0 (λ y. z (e ∙ y))))

  -- at an advance
  pub no_advance : (ts : List Nanos) → ts ≡ [] → (rest : List ℕ) (x : Result Step End) → x ≡ step_at_record q space at rest → x ≡ step_at_advances ts q space at rest
  unfolding step_at_advances
  no_advance ts e rest x f = f ∙ sym (ap (λ (l : List Nanos). step_at_advances l q space at rest) e)

  -- at the kind byte
  pub checked_so : (rest : List ℕ) (n : Option ℕ) → 0 < length rest → n ≡ checked_at q (get_or rest 0 0)
      → (x : Result Step End) → x ≡ step_checked n q space at rest → x ≡ step_after_stamp q space at rest
  unfolding step_after_stamp
  checked_so [] n h e x f = absurd (omega arith)
  checked_so (k ∷ rest) n h e x f = f ∙ ap (λ (m : Option ℕ). step_checked m q space at (k ∷ rest)) e

  -- where nothing is left
  pub at_the_end : (rest : List ℕ) → rest ≡ [] → halts 0 q at ≡ step_after_stamp q space at rest
  unfolding step_after_stamp
  at_the_end rest e = sym (ap {B = Result Step End} (step_after_stamp q space at) e)

-- ---- the stamp's bytes are taken from the input: t is what the code has then
module _ (r : Replay) (input : List ℕ) (at : ℕ) (l : length r.stamp ≡ 4) (s : r.stamp_len ≤ 4) (within : at ≤ length input) where
  abbrev taken : List ℕ
  taken = take (4 - r.stamp_len) (drop at input)

  there : length (progress_in r).stamp ≡ r.stamp_len
  there = bytes_there r l s

  -- how many they are: all that lack, or all that are left
  how_many : (length taken ≤ length input - at) × (length taken < length input - at → length taken ≡ 4 - r.stamp_len)
  how_many =
      let d = length-drop at input in
      by_le (4 - r.stamp_len) (length (drop at input))
      (λ h. let e = length-take-le (4 - r.stamp_len) (drop at input) h in (omega (arith, e, d, h), λ _. e))
      (λ h. let e = ap length (take_all (4 - r.stamp_len) (drop at input) (omega (arith, h))) in (omega (arith, e, d), λ k. absurd (omega (arith, e, d, k))))

  module _ (t : Replay) (e : t ≡ replay_of (more_bytes taken (progress_in r))) where
    abbrev place : ℕ
    place = at + (t.stamp_len - r.stamp_len)

    longer : t.stamp_len ≡ r.stamp_len + length taken
    longer = ap (λ (x : Replay). x.stamp_len) e ∙ length-append (progress_in r).stamp taken ∙ ap (λ (n : ℕ). n + length taken) there

    moved : place ≡ at + length taken
    moved = omega (arith, longer)

    in_hand : progress_in t ≡ more_bytes taken (progress_in r)
    in_hand = ap progress_in e ∙ read_kept (more_bytes taken (progress_in r))

    pub no_shorter : r.stamp_len ≤ t.stamp_len
    no_shorter = omega (arith, longer)

    pub still_in : place ≤ length input
    still_in = omega (arith, moved, how_many.0)

    pub still_tidy : Tidy t
    still_tidy = subst Tidy (sym e) (tidy_kept (more_bytes taken (progress_in r)))

    pub stamped : place < length input → t.stamp_len ≡ 4
    stamped h = omega (arith, longer, how_many.1 (omega (arith, moved)))

    -- the step after them is the step
    pub step_after : (space : ℕ) → step_after_stamp (progress_in t) space place (drop place input) ≡ step_of (progress_in r) space at input
    unfolding step_of
    step_after space =
        ◌∙◌ {A = Result Step End} (λ i. step_after_stamp (in_hand i) space (moved i) (drop (moved i) input))
        (ap (λ (n : ℕ). let bs = take (4 - n) (drop at input) in step_after_stamp (more_bytes bs (progress_in r)) space (at + length bs) (drop (at + length bs) input)) (sym there))
