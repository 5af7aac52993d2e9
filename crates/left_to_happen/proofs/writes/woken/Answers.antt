use Rattle.bits.proofs.Choices.{when_true, when_false}
use Rattle.bits.proofs.Bits.{bit-set, bit_clear}
use mathlib.Core.Path.{sym}
use Rattle.left_to_happen.proofs.writes.woken.Goals as goal

pub returns-then-new-ne0 : goal.returns-then-new-ne0
returns-then-new-ne0 c = sym (when_true _ _ _ (bit-set c.args.new 3 c.if-new-ne0.true))

pub returns : goal.returns
returns c = sym (when_false _ _ _ (bit_clear c.args.new 3 c.if-new-ne0.false))
