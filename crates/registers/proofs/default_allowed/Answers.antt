-- `registers::default_allowed` meets its contract.
use mathlib.Core.Path.{ap, refl}
use Prim.Native.Nat.{ℕ}
use native.Mathlib.Omega.{arith}
use lib.Dec.{eqb}
use Rattle.bits.proofs.Bits.{is_arg, is_of_lem, is_and, is_the}
use Rattle.registers.specs.Rows.{default_allowed}
use Rattle.registers.proofs.default_allowed.Goals as goal

pub returns : goal.returns
unfolding default_allowed
returns c =
    ap (λ (n : ℕ). eqb n 0)
    (is_the (is_and (is_arg c.ranges.default) (is_of_lem c.default_must_be_zero.ensures (omega arith))) (λ k l. refl))
