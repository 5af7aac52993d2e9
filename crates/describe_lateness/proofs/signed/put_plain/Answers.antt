-- `describe_lateness::signed::put_plain` meets its contract.
use Rattle.text_line.proofs.Putting.{then}
use Rattle.lateness.proofs.Ints.{read}
use Rattle.describe_lateness.specs.Signed.{plain_text}
use Rattle.describe_lateness.proofs.signed.put_plain.Goals as goal

pub returns : goal.returns
unfolding plain_text
returns c = simp (c.size_of.ensures, c.is_early.ensures, read c.args.d c.ranges.d) at (then _ _ _ c.put_if.ensures c.put_decimal.ensures)
