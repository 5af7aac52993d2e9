-- `registers::write_word` meets its contract, bit by bit.
use mathlib.Core.Path.{ap}
use native.Mathlib.Omega.{arith}
use Rattle.bits.proofs.Bits.{is_arg, is_of_lem, is_word, is_and, is_or, is_not, is_the}
use Rattle.registers.specs.declared.Row.{Row}
use Rattle.registers.specs.Words.{lane_mask, write_word}
use Rattle.registers.specs.inner.Masks.{held}
use Rattle.registers.proofs.Rules.{write_bit_lem}
use Rattle.registers.proofs.write_word.Goals as goal

pub returns : goal.returns
unfolding write_word lane_mask held
returns c =
    let b = c in
    let a = b.ranges in
    let e = b.row_of-row.ensures in
    let on = is_and (is_word b.lane_mask.ensures) (is_not (is_word c.held.ensures)) in
    let w = is_and (is_of_lem (ap (λ (m : Row). m.w) e) (omega arith)) on in
    let r = is_and (is_of_lem (ap (λ (m : Row). m.c) e) (omega arith)) on in
    is_the (is_or (is_and (is_and (is_arg a.old) (is_not w)) (is_not (is_and r (is_arg a.value)))) (is_and (is_arg a.value) w)) (λ k l. write_bit_lem _ _ _ _ _)
