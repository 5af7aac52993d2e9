-- `describe_sheet::refusals::slots_below` meets its contract.
use borrow.Author.Tests.{le-ltb, lt-ltb}
use Rattle.describe_sheet.specs.Refusals.{slots_below}
use Rattle.describe_sheet.proofs.refusals.slots_below.Goals as goal

pub returns-then-slots-lt32 : goal.returns-then-slots-lt32
unfolding slots_below
returns-then-slots-lt32 c = simp (lt-ltb _ _ c.if-slots-lt32.true)

pub returns-else-slots-lt32 : goal.returns-else-slots-lt32
unfolding slots_below
returns-else-slots-lt32 c = simp (le-ltb _ _ c.if-slots-lt32.false)
