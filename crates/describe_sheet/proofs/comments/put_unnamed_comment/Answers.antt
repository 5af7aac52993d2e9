-- `describe_sheet::comments::put_unnamed_comment` meets its contract.
use Rattle.text_line.proofs.Putting.{then}
use Rattle.describe_sheet.specs.Comments.{unnamed_comment}
use Rattle.describe_sheet.proofs.comments.put_unnamed_comment.Goals as goal

pub returns : goal.returns
unfolding unnamed_comment
returns c = then _ _ _ c.put_named.ensures c.put_text.ensures
