-- `describe_lateness::csv::put_row` meets its contract.
use Rattle.text_line.proofs.Putting.{then}
use Rattle.describe_lateness.specs.Csv.{row_csv}
use Rattle.describe_lateness.proofs.csv.put_row.Goals as goal

pub returns : goal.returns
unfolding row_csv
returns c = simp c.difference.ensures at (then _ _ _ (then _ _ _ (then _ _ _ (then _ _ _ (then _ _ _ c.put_text.ensures c.put_text-2.ensures) c.put_decimal.ensures) c.put_text-3.ensures) c.put_times.ensures) c.put_end.ensures)
