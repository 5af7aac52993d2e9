-- `describe_lateness::signed::put_difference` meets its contract.
use Rattle.text_line.proofs.Putting.{then}
use Rattle.lateness.proofs.Ints.{read}
use Rattle.describe_lateness.specs.Signed.{difference_text}
use Rattle.describe_lateness.proofs.signed.put_difference.Goals as goal

pub returns : goal.returns
unfolding difference_text
returns c = simp (c.size_of.ensures, read c.args.d c.ranges.d) at (then _ _ _ c.put_sign.ensures c.put_nanos.ensures)
