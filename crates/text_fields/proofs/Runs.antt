-- A run of bytes that pass a test, followed byte by byte; where fields start and end.
use mathlib.Core.Path.{◌≡◌, ap, ap₂, ◌∙◌}
use mathlib.Core.Bool.{Bool, true, false, cond}
use mathlib.Core.List.{List, [], ◌∷◌}
use Prim.Native.Nat.{ℕ, zero, suc, ◌+◌, ◌≤◌, ◌<◌}
use native.Mathlib.Numerals.{add-one}
use native.Mathlib.Omega.{arith}
use lib.ListN.{length, get_or, drop, length-drop, drop_of_length-le}
use lib.Seq.{drop-cons}
use Rattle.text_fields.specs.Text.{part, run, run_end, is_blank, in_field, field_start, field_end, field}

module _ (p : ℕ → Bool) (s : List ℕ) (i : ℕ) where
  -- a byte that passes
  pub run-passes : i < length s → p (get_or s i 0) ≡ true → run_end p i s ≡ run_end p (i + 1) s
  unfolding run
  run-passes h e =
      let step : run p (drop i s) ≡ suc (run p (drop (suc i) s)) =
      ap (run p) (drop-cons s i 0 h) ∙ ap (λ (b : Bool). cond b (suc (run p (drop (suc i) s))) 0) e in
      rw add-one (omega (arith, step))

  -- a byte that doesn't
  pub run_stops : i < length s → p (get_or s i 0) ≡ false → run_end p i s ≡ i
  unfolding run
  run_stops h e =
      let none : run p (drop i s) ≡ 0 =
      ap (run p) (drop-cons s i 0 h) ∙ ap (λ (b : Bool). cond b (suc (run p (drop (suc i) s))) 0) e in
      omega (arith, none)

  -- the end
  pub run_ends : length s ≤ i → run_end p i s ≡ i
  unfolding run
  run_ends h = let none : run p (drop i s) ≡ 0 = ap (run p) (drop_of_length-le s h) in omega (arith, none)

cond_most : (b : Bool) (m n : ℕ) → m ≤ n → cond b (suc m) 0 ≤ suc n
cond_most true m n h = omega arith
cond_most false m n h = omega arith

pub run_most : (p : ℕ → Bool) (s : List ℕ) → run p s ≤ length s
unfolding run
run_most p [] = omega arith
run_most p (b ∷ s) = cond_most (p b) (run p s) (length s) (run_most p s)

-- a run that starts within a line ends within it
pub run_end_most : (p : ℕ → Bool) (at : ℕ) (s : List ℕ) → at ≤ length s → run_end p at s ≤ length s
run_end_most p at s h = omega (arith, run_most p (drop at s), length-drop at s)

pub start_most : (k : ℕ) (s : List ℕ) → field_start k s ≤ length s
unfolding field_start
start_most zero s = run_end_most is_blank 0 s (omega arith)
start_most (suc k) s = run_end_most is_blank (run_end in_field (field_start k s) s) s (run_end_most in_field (field_start k s) s (start_most k s))

pub end_most : (k : ℕ) (s : List ℕ) → field_end k s ≤ length s
end_most k s = run_end_most in_field (field_start k s) s (start_most k s)

-- a field by where it starts and ends
module _ (k : ℕ) (line : List ℕ) {from to : ℕ} (start : from ≡ field_start k line) (end : to ≡ run_end in_field from line) where
  pub its_end : to ≡ field_end k line
  its_end = end ∙ ap (λ (n : ℕ). run_end in_field n line) start

  pub its_end_most : to ≤ length line
  its_end_most = omega (arith, its_end, end_most k line)

  pub its_field : part from to line ≡ field k line
  its_field = ap₂ (λ (f t : ℕ). part f t line) start its_end
