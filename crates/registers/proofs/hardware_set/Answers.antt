-- `registers::hardware_set` meets its contract, bit by bit.
use mathlib.Core.Path.{ap, refl}
use native.Mathlib.Omega.{arith}
use Rattle.bits.proofs.Bits.{is_arg, is_of_lem, is_and, is_or, is_the}
use Rattle.registers.specs.declared.Row.{Row}
use Rattle.registers.specs.Words.{hardware_set}
use Rattle.registers.proofs.hardware_set.Goals as goal

pub returns : goal.returns
unfolding hardware_set
returns c =
    let a = c.ranges in
    let e = c.row_of-row.ensures in
    let r = is_of_lem (ap (λ (m : Row). m.c) e) (omega arith) in
    is_the (is_or (is_arg a.live) (is_and r (is_arg a.mask))) (λ k l. refl)
