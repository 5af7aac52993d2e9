-- `describe_lateness::totals::put_counts` meets its contract.
use Rattle.text_line.proofs.Putting.{then}
use Rattle.describe_lateness.specs.Totals.{counts_text}
use Rattle.describe_lateness.proofs.totals.put_counts.Goals as goal

pub returns : goal.returns
unfolding counts_text
returns c = simp (c.from-3.ensures, c.from-2.ensures, c.from.ensures) at (then _ _ _ (then _ _ _ (then _ _ _ (then _ _ _ (then _ _ _ c.put_text.ensures c.put_grouped.ensures) c.put_text-2.ensures) c.put_grouped-2.ensures) c.put_text-3.ensures) c.put_grouped-3.ensures)
