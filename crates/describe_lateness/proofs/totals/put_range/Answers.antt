-- `describe_lateness::totals::put_range` meets its contract.
use Rattle.text_line.proofs.Putting.{then}
use Rattle.lateness.proofs.Ints.{read}
use Rattle.describe_lateness.specs.Totals.{range_text}
use Rattle.describe_lateness.proofs.totals.put_range.Goals as goal

pub returns : goal.returns
unfolding range_text
returns c = simp (read c.args.least c.ranges.least, read c.args.greatest c.ranges.greatest, read c.args.sum c.ranges.sum) at (then _ _ _ (then _ _ _ (then _ _ _ (then _ _ _ (then _ _ _ c.put_text.ensures c.put_difference.ensures) c.put_text-2.ensures) c.put_difference-2.ensures) c.put_text-3.ensures) c.put_difference-3.ensures)
