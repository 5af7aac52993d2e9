-- The counts and the sum.
use mathlib.Core.Path.{◌≡◌, refl, sym, ap, ◌∙◌, subst}
use mathlib.Core.Bool.{Bool, true, false}
use mathlib.Core.List.{List, [], ◌∷◌, ◌++◌}
use Prim.Native.Nat.{zero, suc, ◌+◌, ◌-◌}
use native.Mathlib.Omega.{arith}
use lib.Dec.{ltb, eqb}
use lib.ListN.{length}
use lib.IntN.{ℤ, pos, negsuc, ◌+ℤ◌, +ℤ_assoc, +ℤ_idl}
use borrow.Author.Tests.{ltb-true, lt-ltb, le-ltb, eqb-true, ne_eqb}
use Rattle.bits.specs.Bits.{one}
use Rattle.lateness.specs.Totals.{is_early, is_on_time, is_late, how_many, sum_of}
use Rattle.lateness.specs.Reports.{Count, none, such, other, Negative, Zero, Positive, Sum}
use Rattle.lateness.specs.Reports as reports
use Rattle.lateness.proofs.Order.{no_way}

-- ---- each count is how many such there are

module _ (Such : ℤ → Type 0) (p : ℤ → Bool) (yes_such : (d : ℤ) → p d ≡ true → Such d) (no_such : (d : ℤ) → p d ≡ false → Such d → ⊥) where
  count_of : (l : List ℤ) → Count Such l (how_many p l)
  unfolding how_many
  count_of [] = none
  count_of (d ∷ l) = by (p d) refl (count_of l)
    where
      by : (b : Bool) → p d ≡ b → Count Such l (how_many p l) → Count Such (d ∷ l) (one b + how_many p l)
      by true e c = such (yes_such d e) c
      by false e c = let n : how_many p l ≡ 0 + how_many p l = omega arith in subst (Count Such (d ∷ l)) n (other (no_such d e) c)

early_yes : (d : ℤ) → is_early d ≡ true → Negative d
early_yes (pos n) e = absurd (omega (arith, ltb-true n 0 e))
early_yes (negsuc n) e = (n, refl)

pub count_early : (l : List ℤ) → Count Negative l (how_many is_early l)
count_early = count_of Negative is_early early_yes (λ d e h. no_way (sym e ∙ ap is_early h.1))

on_time_yes : (d : ℤ) → is_on_time d ≡ true → Zero d
on_time_yes (pos n) e = ap pos (eqb-true n 0 e)
on_time_yes (negsuc n) e = absurd (omega (arith, eqb-true (suc n) 0 e))

pub count_on_time : (l : List ℤ) → Count Zero l (how_many is_on_time l)
count_on_time = count_of Zero is_on_time on_time_yes (λ d e h. no_way (sym e ∙ ap is_on_time h))

late_yes : (d : ℤ) → is_late d ≡ true → Positive d
late_yes (pos n) e = (n - 1, ap pos (omega (arith, ltb-true 0 n e)))
late_yes (negsuc n) e = absurd (no_way e)

pub count_late : (l : List ℤ) → Count Positive l (how_many is_late l)
count_late = count_of Positive is_late late_yes (λ d e h. no_way (sym e ∙ ap is_late h.1 ∙ lt-ltb 0 (suc h.0) (omega arith)))

-- ---- the sum is that of ℤ

pub sum_is : (l : List ℤ) → Sum l (sum_of l)
unfolding sum_of
sum_is [] = reports.none
sum_is (d ∷ l) = reports.more d (sum_is l)

-- ---- the counts add up to the length

one_of_three : (d : ℤ) → one (is_early d) + one (is_on_time d) + one (is_late d) ≡ 1
one_of_three (pos zero) = refl
one_of_three (pos (suc n)) =
    let a : ltb (suc n) 0 ≡ false = le-ltb (suc n) 0 (omega arith) in
    let b : eqb (suc n) 0 ≡ false = ne_eqb (suc n) 0 (λ (h : suc n ≡ 0). omega arith) in
    let c : ltb 0 (suc n) ≡ true = lt-ltb 0 (suc n) (omega arith) in
    λ i. one (a i) + one (b i) + one (c i)
one_of_three (negsuc n) =
    let b : eqb (suc n) 0 ≡ false = ne_eqb (suc n) 0 (λ (h : suc n ≡ 0). omega arith) in
    λ i. 1 + one (b i) + 0

pub counts_add : (l : List ℤ) → how_many is_early l + how_many is_on_time l + how_many is_late l ≡ length l
unfolding how_many
counts_add [] = refl
counts_add (d ∷ l) = omega (arith, counts_add l, one_of_three d)

-- ---- two lists joined

pub many_join : (p : ℤ → Bool) (l m : List ℤ) → how_many p (l ++ m) ≡ how_many p l + how_many p m
unfolding how_many
many_join p [] m = omega arith
many_join p (d ∷ l) m = omega (arith, many_join p l m)

pub sum_join : (l m : List ℤ) → sum_of (l ++ m) ≡ sum_of l +ℤ sum_of m
unfolding sum_of
sum_join [] m = sym (+ℤ_idl (sum_of m))
sum_join (d ∷ l) m = ap (λ (z : ℤ). d +ℤ z) (sum_join l m) ∙ sym (+ℤ_assoc d (sum_of l) (sum_of m))
