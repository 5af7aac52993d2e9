-- `describe_sheet::doubts::put_both` meets its contract.
use Rattle.text_line.proofs.Putting.{then}
use Rattle.describe_sheet.specs.Doubts.{both_text}
use Rattle.describe_sheet.proofs.doubts.put_both.Goals as goal

pub returns : goal.returns
unfolding both_text
returns c = simp (c.in_nanos.ensures, c.in_nanos-2.ensures) at (then _ _ _ (then _ _ _ (then _ _ _ (then _ _ _ (then _ _ _ c.put_slot_time.ensures c.put_claim.ensures) c.put_text.ensures) c.put_time.ensures) c.put_text-2.ensures) c.put_time-2.ensures)
