-- `describe_sheet::refusals::put_refusal` meets its contract.
use Rattle.text_line.proofs.Putting.{then}
use Rattle.describe_sheet.specs.Refusals.{refusal_text}
use Rattle.describe_sheet.proofs.refusals.put_refusal.Goals as goal

pub returns : goal.returns
unfolding refusal_text
returns c = then _ _ _ (then _ _ _ c.put_named.ensures c.put_text.ensures) c.put_reason.ensures
