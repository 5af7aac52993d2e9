-- Totals of a list and of the list behind its first difference; bounds.
use mathlib.Core.Path.{◌≡◌, refl, sym, ap, ◌∙◌}
use mathlib.Core.Bool.{Bool, true, cond}
use mathlib.Core.List.{List, [], ◌∷◌}
use Prim.Native.Nat.{ℕ, zero, suc, ◌+◌, ◌-◌, ◌*◌, ◌≤◌, ◌<◌}
use native.Mathlib.Omega.{arith}
use lib.ListN.{length, get_or, drop}
use lib.Seq.{drop-cons}
use lib.IntN.{ℤ, pos, nat_abs, ◌+ℤ◌}
use borrow.Author.Tests.{leb-true, ne_eqb}
use Rattle.bits.specs.Bits.{one}
use Rattle.bits.proofs.Bits.{one_most}
use Rattle.bits.proofs.Tests.{both_left, both_right}
use Rattle.lateness.specs.Lateness.{greatest_difference, within}
use Rattle.lateness.specs.Totals.{is_early, is_on_time, is_late, how_many, sum_of, lower_of, higher_of, pick_of, least_of, greatest_of, all_within, totals_of, longest_list}
use Rattle.lateness.specs.inner.Steps.{pick_with, with_one, Room}
use Rattle.lateness.proofs.Ints.{nat_abs_sum}

-- ---- one more in front

pub pick_with_lem : (f : ℤ → ℤ → ℤ) (d : ℤ) (l : List ℤ) → pick_of f (d ∷ l) ≡ pick_with f d (length l) (pick_of f l)
unfolding pick_of
pick_with_lem f d [] = refl
pick_with_lem f d (e ∷ l) = sym (ap (λ (b : Bool). cond b d (f d (pick_of f (e ∷ l)))) (ne_eqb (suc (length l)) 0 (λ (h : suc (length l) ≡ 0). omega arith)))

pub with_more : (d : ℤ) (l : List ℤ) → totals_of (d ∷ l) ≡ with_one d (length l) (totals_of l)
unfolding totals_of how_many sum_of least_of greatest_of
with_more d l =
    λ i. record {
      number = 0;
      early = one (is_early d) + how_many is_early l;
      on_time = one (is_on_time d) + how_many is_on_time l;
      late = one (is_late d) + how_many is_late l;
      least = pick_with_lem lower_of d l i;
      greatest = pick_with_lem higher_of d l i;
      sum = d +ℤ sum_of l;
    }

-- ---- a list from some place on

pub drop_one : (l : List ℤ) (i : ℕ) → 0 < i → i ≤ length l → drop (i - 1) l ≡ get_or l (i - 1) (pos 0) ∷ drop i l
drop_one l i h k =
    let e : suc (i - 1) ≡ i = omega arith in
    let m : i - 1 < length l = omega arith in
    drop-cons l (i - 1) (pos 0) m ∙ ap (λ (n : ℕ). get_or l (i - 1) (pos 0) ∷ drop n l) e

pub within_head : (d : ℤ) (l : List ℤ) → all_within (d ∷ l) ≡ true → nat_abs d ≤ greatest_difference
unfolding all_within within
within_head d l e = leb-true (nat_abs d) greatest_difference (both_left (within d) (all_within l) e)

pub within_tail : (d : ℤ) (l : List ℤ) → all_within (d ∷ l) ≡ true → all_within l ≡ true
unfolding all_within
within_tail d l e = both_right (within d) (all_within l) e

pub within-drop : (i : ℕ) (l : List ℤ) → all_within l ≡ true → all_within (drop i l) ≡ true
within-drop zero [] e = e
within-drop zero (d ∷ l) e = e
within-drop (suc i) [] e = e
within-drop (suc i) (d ∷ l) e = within-drop i l (within_tail d l e)

-- ---- bounds

pub many_most : (p : ℤ → Bool) (l : List ℤ) → how_many p l ≤ length l
unfolding how_many
many_most p [] = omega arith
many_most p (d ∷ l) = omega (arith, many_most p l, one_most (p d))

-- the sum is at most 10^15 for each difference
pub sum_most_lem : (l : List ℤ) → all_within l ≡ true → nat_abs (sum_of l) ≤ length l * greatest_difference
unfolding sum_of
sum_most_lem [] e = omega arith
sum_most_lem (d ∷ l) e = omega (arith, nat_abs_sum d (sum_of l), sum_most_lem l (within_tail d l e), within_head d l e)

pub room : (d : ℤ) (l : List ℤ) → all_within (d ∷ l) ≡ true → length (d ∷ l) ≤ longest_list → Room d (totals_of l)
unfolding totals_of
room d l e h =
    let n : length l < longest_list = omega arith in
    record {
      early = omega (arith, many_most is_early l);
      on_time = omega (arith, many_most is_on_time l);
      late = omega (arith, many_most is_late l);
      sum = omega (arith, sum_most_lem l (within_tail d l e), within_head d l e);
    }
