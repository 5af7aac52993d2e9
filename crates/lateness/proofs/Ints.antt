-- Signed integers, as the code's tests and sums read them.
use mathlib.Core.Path.{◌≡◌, refl, sym, ap, ◌∙◌}
use mathlib.Core.Bool.{Bool, true, false, cond}
use Prim.Native.Nat.{ℕ, zero, suc, ◌+◌, ◌-◌, ◌≤◌, ◌<◌}
use native.Mathlib.Omega.{arith}
use lib.Dec.{ltb, leb, eqb}
use lib.IntN.{ℤ, pos, negsuc, nat_abs, neg_ℤ, sub_ℕ, ◌+ℤ◌, ◌-ℤ◌, +ℤ_idl}
use lib.Signed.{mag, lt_z, le_z}
use mir.Syntax.{w64}
use mir.Val.{SFits, to_z, of_z}
use mir.Facts.{to_z-of_z}
use borrow.Author.Tests.{ltb-true, ltb-false, lt-ltb, le-ltb, le-leb, lt-leb, eq-eqb, ne_eqb}
use Rattle.lateness.specs.Lateness.{greatest_difference}

-- ---- a sum's size

mag_abs : (z : ℤ) → mag z ≤ nat_abs z
mag_abs (pos n) = omega arith
mag_abs (negsuc n) = omega arith

-- a number of at most 9 · 10^18 fits
pub fits_abs : (z : ℤ) → nat_abs z ≤ 9000000000000000000 → SFits w64 z
fits_abs z h = record { sfits = omega (arith, mag_abs z) }

sub-size : (a b : ℕ) (t : Bool) → ltb a b ≡ t → nat_abs (cond t (negsuc (b - suc a)) (pos (a - b))) ≤ a + b
sub-size a b true e = omega (arith, ltb-true a b e)
sub-size a b false e = omega arith

pub nat_abs_sum : (a b : ℤ) → nat_abs (a +ℤ b) ≤ nat_abs a + nat_abs b
nat_abs_sum (pos a) (pos b) = omega arith
nat_abs_sum (pos a) (negsuc b) = sub-size a (suc b) (ltb a (suc b)) refl
nat_abs_sum (negsuc a) (pos b) = let h : nat_abs (sub_ℕ b (suc a)) ≤ b + suc a = sub-size b (suc a) (ltb b (suc a)) refl in omega arith
nat_abs_sum (negsuc a) (negsuc b) = omega arith

-- ---- what a signed local holds

pub read : (z : ℤ) → SFits w64 z → to_z w64 (of_z w64 z) ≡ z
read z f = to_z-of_z f

-- the same where only the bound is at hand, as after a read from a slice or a call
pub told : (z : ℤ) → mag z < 9223372036854775808 → to_z w64 (of_z w64 z) ≡ z
told z h = read z (record { sfits = h })

-- a test of a signed local is the test of its number
pub read_test : (p : ℤ → Bool) (z : ℤ) (b : Bool) → SFits w64 z → p (to_z w64 (of_z w64 z)) ≡ b → p z ≡ b
read_test p z b f h = ap p (sym (read z f)) ∙ h

-- the bits are 0 exactly if the number is
pub zero_bits : (z : ℤ) → SFits w64 z → of_z w64 z ≡ 0 → eqb (nat_abs z) 0 ≡ true
zero_bits (pos n) f e = eq-eqb n 0 e
zero_bits (negsuc n) f e = absurd (omega (arith, f.sfits))

pub other_bits : (z : ℤ) → SFits w64 z → (of_z w64 z ≡ 0 → ⊥) → eqb (nat_abs z) 0 ≡ false
other_bits (pos n) f e = ne_eqb n 0 e
other_bits (negsuc n) f e = ne_eqb (suc n) 0 (λ (h : suc n ≡ 0). omega arith)

-- ---- a difference of two moments

pub late_is : (a b : ℕ) → b ≤ a → pos a -ℤ pos b ≡ pos (a - b)
late_is a zero h = ap pos (omega arith)
late_is a (suc b) h = ap (λ (t : Bool). cond t (negsuc (suc b - suc a)) (pos (a - suc b))) (le-ltb a (suc b) h)

pub early_is : (a b : ℕ) → a < b → pos a -ℤ pos b ≡ neg_ℤ (pos (b - a))
early_is a zero h = absurd (omega arith)
early_is a (suc b) h =
    let e : suc b - a ≡ suc (b - a) = omega arith in
    let m : suc b - suc a ≡ b - a = omega arith in
    ap (λ (t : Bool). cond t (negsuc (suc b - suc a)) (pos (a - suc b))) (lt-ltb a (suc b) h)
    ∙ ap negsuc m ∙ sym (ap (λ (n : ℕ). neg_ℤ (pos n)) e)

pub size_neg : (n : ℕ) → nat_abs (neg_ℤ (pos n)) ≡ n
size_neg zero = refl
size_neg (suc n) = refl

-- what the code's 0 - n is
pub zero_minus : (n : ℕ) → n ≤ greatest_difference → pos 0 -ℤ to_z w64 n ≡ neg_ℤ (pos n)
zero_minus n h = ap (λ (z : ℤ). pos 0 -ℤ z) (read (pos n) (fits_abs (pos n) (omega arith))) ∙ +ℤ_idl (neg_ℤ (pos n))

-- ---- tests against the limit

pub below_limit : (z : ℤ) → lt_z z (negsuc (greatest_difference - 1)) ≡ true → leb (nat_abs z) greatest_difference ≡ false
below_limit (pos n) h = let z : ◌≡◌ {A = ℕ} 0 1 = cc in absurd (omega arith)
below_limit (negsuc n) h = lt-leb (suc n) greatest_difference (omega (arith, ltb-true (greatest_difference - 1) n h))

pub above_limit : (z : ℤ) → lt_z z (negsuc (greatest_difference - 1)) ≡ false → le_z z (pos greatest_difference) ≡ leb (nat_abs z) greatest_difference
above_limit (pos n) h = refl
above_limit (negsuc n) h = sym (le-leb (suc n) greatest_difference (omega (arith, ltb-false (greatest_difference - 1) n h)))
