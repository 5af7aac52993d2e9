-- The size of a difference, as the code computes it: of a negative one, -1 less it, and 1.
use mathlib.Core.Path.{◌≡◌, refl, sym, ap, subst, ◌∙◌}
use mathlib.Core.Bool.{true, false}
use Prim.Native.Nat.{ℕ, zero, suc, ◌+◌, ◌-◌, ◌≤◌, ◌<◌}
use native.Mathlib.Omega.{arith}
use native.Mathlib.Nat.{zero-add}
use lib.Dec.{T}
use lib.IntN.{ℤ, pos, negsuc, nat_abs, ◌-ℤ◌, +ℤ_comm}
use lib.Signed.{mag, non_neg}
use mir.Syntax.{w64}
use mir.Val.{Fits, SFits, to_z, of_z}
use borrow.Author.Tests.{ltb-true}
use Rattle.lateness.specs.Totals.{is_early}
use Rattle.lateness.proofs.Ints.{read, told, read_test, late_is}
use Rattle.lateness.proofs.Order.{no_way}

minus_one : (d : ℤ) → is_early d ≡ true → negsuc 0 -ℤ d ≡ pos (nat_abs d - 1)
minus_one (pos n) e = absurd (omega (arith, ltb-true n 0 e))
minus_one (negsuc n) e = +ℤ_comm (negsuc 0) (pos (suc n)) ∙ late_is (suc n) 1 (omega arith)

some_size : (d : ℤ) → is_early d ≡ true → 1 ≤ nat_abs d
some_size (pos n) e = absurd (omega (arith, ltb-true n 0 e))
some_size (negsuc n) e = omega arith

size_most : (d : ℤ) → nat_abs d ≤ mag d + 1
size_most (pos n) = omega arith
size_most (negsuc n) = omega arith

abbrev held : ℤ → ℤ
held z = to_z w64 (of_z w64 z)

module _ (d : ℤ) (f : SFits w64 d) (e : is_early (held d) ≡ true) where
  early : is_early d ≡ true
  early = read_test is_early d true f e

  below_is : negsuc 0 -ℤ held d ≡ pos (nat_abs d - 1)
  below_is = ap (λ (z : ℤ). negsuc 0 -ℤ z) (read d f) ∙ minus_one d early

  pub below_fits : SFits w64 (negsuc 0 -ℤ held d)
  below_fits = subst (SFits w64) (sym below_is) (record { sfits = omega (arith, size_most d, f.sfits) })

  held_is : held (negsuc 0 -ℤ held d) ≡ pos (nat_abs d - 1)
  held_is = read (negsuc 0 -ℤ held d) below_fits ∙ below_is

  pub below_cast : T (non_neg (held (negsuc 0 -ℤ held d))) × Fits w64 (nat_abs (held (negsuc 0 -ℤ held d)))
  below_cast = subst (λ (z : ℤ). T (non_neg z) × Fits w64 (nat_abs z)) (sym held_is) (tt, record { fits = omega (arith, size_most d, f.sfits) })

  pub size_fits : Fits w64 (nat_abs (held (negsuc 0 -ℤ held d)) + 1)
  size_fits = subst (λ (z : ℤ). Fits w64 (nat_abs z + 1)) (sym held_is) (record { fits = omega (arith, size_most d, f.sfits) })

  pub size_is : nat_abs (held (negsuc 0 -ℤ held d)) + 1 ≡ nat_abs d
  size_is = ap (λ (z : ℤ). nat_abs z + 1) held_is ∙ (omega (arith, some_size d early))

plain_cast : (d : ℤ) → SFits w64 d → is_early d ≡ false → T (non_neg d) × Fits w64 (nat_abs d)
plain_cast (pos n) f e = (tt, record { fits = omega (arith, f.sfits) })
plain_cast (negsuc n) f e = absurd (no_way (sym e))

pub late_cast : (d : ℤ) → SFits w64 d → is_early (held d) ≡ false → T (non_neg (held d)) × Fits w64 (nat_abs (held d))
late_cast d f e = subst (λ (z : ℤ). T (non_neg z) × Fits w64 (nat_abs z)) (sym (read d f)) (plain_cast d f (read_test is_early d false f e))

-- -1 less a number below 2^63
minus_is : (n : ℕ) → negsuc 0 -ℤ pos n ≡ negsuc n
minus_is zero = refl
minus_is (suc n) = ap (λ (k : ℕ). negsuc (suc k)) (zero-add n)

pub minus_fits : (n : ℕ) → n < 9223372036854775808 → SFits w64 (negsuc 0 -ℤ to_z w64 n)
minus_fits n h = subst (SFits w64) (sym (ap (λ (z : ℤ). negsuc 0 -ℤ z) (told (pos n) h) ∙ minus_is n)) (record { sfits = h })
