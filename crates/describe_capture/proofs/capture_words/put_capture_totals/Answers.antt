-- `describe_capture::capture_words::put_capture_totals` meets its contract.
use Rattle.text_line.proofs.Putting.{then}
use Rattle.capture_lines.specs.Captures.{capture_totals_text}
use Rattle.describe_capture.proofs.capture_words.put_capture_totals.Goals as goal

pub returns : goal.returns
unfolding capture_totals_text
returns c = then _ _ _ (then _ _ _ (then _ _ _ c.put_named.ensures c.put_named-2.ensures) c.put_named-3.ensures) c.put_text.ensures
