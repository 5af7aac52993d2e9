-- `describe_lateness::signed::put_sign` meets its contract.
use Rattle.text_line.proofs.Putting.{then}
use Rattle.lateness.proofs.Ints.{read}
use Rattle.describe_lateness.specs.Signed.{sign_text}
use Rattle.describe_lateness.proofs.signed.put_sign.Goals as goal

pub returns : goal.returns
unfolding sign_text
returns c = simp (c.is_late.ensures, c.is_early.ensures, read c.args.d c.ranges.d) at (then _ _ _ c.put_if.ensures c.put_if-2.ensures)
