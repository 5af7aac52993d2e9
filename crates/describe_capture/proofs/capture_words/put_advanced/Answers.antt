-- `describe_capture::capture_words::put_advanced` meets its contract.
use Rattle.text_line.proofs.Putting.{then}
use Rattle.capture_lines.specs.Captures.{advanced_text}
use Rattle.describe_capture.proofs.capture_words.put_advanced.Goals as goal

pub returns : goal.returns
unfolding advanced_text
returns c = simp (c.difference-by.ensures, c.advance_at.ensures) at (then _ _ _ (then _ _ _ (then _ _ _ (then _ _ _ c.put_place.ensures c.put_clock_column.ensures) c.put_text.ensures) c.put_advance.ensures) c.put_answer.ensures)
