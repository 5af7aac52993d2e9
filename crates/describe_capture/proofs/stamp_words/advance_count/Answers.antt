-- `describe_capture::stamp_words::advance_count` meets its contract.
use Rattle.capture_lines.specs.Stamps.{advance_count}
use Rattle.describe_capture.proofs.stamp_words.advance_count.Goals as goal

pub returns : goal.returns
unfolding advance_count
returns c = simp (c.in_nanos.ensures, c.nanos_number.ensures) at c.count_of.ensures
