-- `execute::requests::d3hot_reset` meets its contract.
use mathlib.Core.Path.{sym, ◌∙◌}
use Rattle.bits.proofs.Bits.{bit-set, bit_clear}
use Rattle.bits.proofs.Choices.{when_true, when_false}
use Rattle.execute.proofs.requests.d3hot_reset.Goals as goal

pub returns-then-new-eq0 : goal.returns-then-new-eq0
returns-then-new-eq0 c = c.link_reset_slot.ensures ∙ sym (when_false _ _ _ (bit_clear c.args.new 3 c.if-new-eq0.true))

pub returns-else-new-eq0 : goal.returns-else-new-eq0
returns-else-new-eq0 c = sym (when_true _ _ _ (bit-set c.args.new 3 c.if-new-eq0.false))
