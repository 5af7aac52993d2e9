-- `registers::read_word` meets its contract, bit by bit.
use mathlib.Core.Path.{refl}
use native.Mathlib.Omega.{arith}
use Rattle.bits.proofs.Bits.{is_arg, is_of_lem, is_word, is_and, is_not, is_the}
use Rattle.registers.specs.Words.{lane_mask, read_word}
use Rattle.registers.proofs.read_word.Goals as goal

pub returns : goal.returns
unfolding read_word lane_mask
returns c =
    let a = c.ranges in
    is_the (is_and (is_and (is_arg a.live) (is_word c.lane_mask.ensures)) (is_not (is_of_lem c.reads_zero.ensures (omega arith)))) (λ k l. refl)
