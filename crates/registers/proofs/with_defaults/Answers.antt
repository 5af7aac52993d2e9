-- `registers::with_defaults` meets its contract, bit by bit.
use Rattle.bits.proofs.Bits.{is_arg, is_and, is_or, is_not, is_the}
use Rattle.registers.specs.inner.Masks.{with_defaults}
use Rattle.registers.proofs.Rules.{reset_bit_lem}
use Rattle.registers.proofs.with_defaults.Goals as goal

pub returns : goal.returns
unfolding with_defaults
returns c =
    let a = c.ranges in
    let mask = is_arg a.mask in
    is_the (is_or (is_and (is_arg a.live) (is_not mask)) (is_and (is_arg a.default) mask)) (λ k l. reset_bit_lem _ _ _)
