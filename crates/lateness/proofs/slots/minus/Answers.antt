-- `slots::minus` meets its contract.
use mathlib.Core.Path.{◌≡◌, sym, ap, ◌∙◌, subst}
use mathlib.Core.Bool.{Bool, cond}
use Prim.Native.Nat.{ℕ, ◌-◌, ◌≤◌, ◌<◌}
use native.Mathlib.Omega.{arith}
use lib.IntN.{ℤ, pos, neg_ℤ, nat_abs, ◌-ℤ◌}
use mir.Syntax.{w64}
use mir.Val.{SFits, to_z, of_z}
use borrow.Author.Tests.{le-leb, lt-leb}
use Rattle.lateness.specs.declared.Lateness.TheVariants.{Of, Outside}
use Rattle.lateness.specs.Lateness.{within, minus, apart, greatest_difference}
use Rattle.lateness.proofs.Ints.{fits_abs, read, late_is, early_is, size_neg, zero_minus}
use Rattle.lateness.proofs.slots.minus.Goals as goal

module _ (seen bench : ℕ) (d : ℤ) (e : minus seen bench ≡ d) where
  inside : nat_abs d ≤ greatest_difference → apart seen bench ≡ Of d
  unfolding apart within
  inside h = ap (λ (z : ℤ). cond (within z) (Of z) Outside) e ∙ ap (λ (b : Bool). cond b (Of d) Outside) (le-leb (nat_abs d) greatest_difference h)

  outside : greatest_difference < nat_abs d → apart seen bench ≡ Outside
  unfolding apart within
  outside h = ap (λ (z : ℤ). cond (within z) (Of z) Outside) e ∙ ap (λ (b : Bool). cond b (Of d) Outside) (lt-leb (nat_abs d) greatest_difference h)

module _ (seen bench : ℕ) where
  late : bench ≤ seen → seen - bench ≤ greatest_difference → Of (to_z w64 (seen - bench)) ≡ apart seen bench
  late h k =
      let n = seen - bench in
      ap Of (read (pos n) (fits_abs (pos n) (omega arith))) ∙ sym (inside seen bench (pos n) (late_is seen bench h) k)

  small : bench - seen ≤ greatest_difference → SFits w64 (pos 0 -ℤ to_z w64 (bench - seen))
  small k =
      let n = bench - seen in
      subst (SFits w64) (sym (zero_minus n k)) (fits_abs (neg_ℤ (pos n)) (omega (arith, size_neg n)))

  early : seen < bench → bench - seen ≤ greatest_difference → Of (to_z w64 (of_z w64 (pos 0 -ℤ to_z w64 (bench - seen)))) ≡ apart seen bench
  early h k =
      let n = bench - seen in
      let s : nat_abs (neg_ℤ (pos n)) ≤ greatest_difference = omega (arith, size_neg n) in
      ap Of (read (pos 0 -ℤ to_z w64 n) (small k) ∙ zero_minus n k) ∙ sym (inside seen bench (neg_ℤ (pos n)) (early_is seen bench h) s)

pub returns-then-late-le-GREATEST_DIFFERENCE : goal.returns-then-late-le-GREATEST_DIFFERENCE
returns-then-late-le-GREATEST_DIFFERENCE c = late _ _ c.if-bench-seen.true c.if-late-le-GREATEST_DIFFERENCE.true

pub returns-else-late-le-GREATEST_DIFFERENCE : goal.returns-else-late-le-GREATEST_DIFFERENCE
returns-else-late-le-GREATEST_DIFFERENCE c = sym (outside _ _ _ (late_is _ _ c.if-bench-seen.true) c.if-late-le-GREATEST_DIFFERENCE.false)

pub returns-then-early-le-GREATEST_DIFFERENCE : goal.returns-then-early-le-GREATEST_DIFFERENCE
returns-then-early-le-GREATEST_DIFFERENCE c = early _ _ c.if-bench-seen.false c.if-early-le-GREATEST_DIFFERENCE.true

pub returns-else-early-le-GREATEST_DIFFERENCE : goal.returns-else-early-le-GREATEST_DIFFERENCE
returns-else-early-le-GREATEST_DIFFERENCE c =
    let a = c.args in
    sym (outside _ _ _ (early_is a.seen a.bench c.if-bench-seen.false) (omega (arith, size_neg (a.bench - a.seen), c.if-early-le-GREATEST_DIFFERENCE.false)))
