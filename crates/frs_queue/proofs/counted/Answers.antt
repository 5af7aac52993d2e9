-- `frs_queue::counted` meets its contract: a count that stops at 255 is the sum, or 255 where the sum is more.
use mathlib.Core.Path.{sym, ◌∙◌}
use Rattle.frs_queue.proofs.Tallies.{counted-min}
use Rattle.frs_queue.proofs.counted.Goals as goal

pub returns : goal.returns
returns c = c.saturating_add.ensures ∙ sym (counted-min c.args.count 1)
