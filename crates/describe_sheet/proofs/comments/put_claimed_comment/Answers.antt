-- `describe_sheet::comments::put_claimed_comment` meets its contract.
use Rattle.text_line.proofs.Putting.{then}
use Rattle.describe_sheet.specs.Comments.{claimed_comment}
use Rattle.describe_sheet.proofs.comments.put_claimed_comment.Goals as goal

pub returns : goal.returns
unfolding claimed_comment
returns c = then _ _ _ (then _ _ _ (then _ _ _ (then _ _ _ c.put_text.ensures c.put_slot_time.ensures) c.put_claim.ensures) c.put_text-2.ensures) c.put_same_in_nanos.ensures
