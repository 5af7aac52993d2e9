-- `registers::link_mask` meets its contract, bit by bit.
use mathlib.Core.Path.{ap, refl}
use native.Mathlib.Omega.{arith}
use Rattle.bits.proofs.Bits.{is_of_lem, is_and, is_or, is_not, is_the}
use Rattle.registers.specs.declared.Row.{Row}
use Rattle.registers.specs.inner.Masks.{link_mask}
use Rattle.registers.proofs.link_mask.Goals as goal

pub returns : goal.returns
unfolding link_mask
returns c =
    let e = c.row_of-row.ensures in
    let w = is_of_lem (ap (λ (m : Row). m.w) e) (omega arith) in
    let r = is_of_lem (ap (λ (m : Row). m.c) e) (omega arith) in
    let s = is_of_lem (ap (λ (m : Row). m.s) e) (omega arith) in
    is_the (is_and (is_or w r) (is_not s)) (λ k l. refl)
