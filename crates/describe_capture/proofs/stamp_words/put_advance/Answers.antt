-- `describe_capture::stamp_words::put_advance` meets its contract.
use Rattle.text_line.proofs.Putting.{then}
use Rattle.capture_lines.specs.Stamps.{advance_text}
use Rattle.describe_capture.proofs.stamp_words.put_advance.Goals as goal

pub returns : goal.returns
unfolding advance_text
returns c = simp (c.advance_at.ensures, c.nanos_number.ensures, c.advance_count.ensures, c.ticks_number.ensures, c.from.ensures) at (then _ _ _ (then _ _ _ (then _ _ _ (then _ _ _ c.put_named.ensures c.put_text.ensures) c.put_part.ensures) c.put_decimal.ensures) c.put_text-2.ensures)
