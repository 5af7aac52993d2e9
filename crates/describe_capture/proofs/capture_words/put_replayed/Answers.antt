-- `describe_capture::capture_words::put_replayed` meets its contract.
use Rattle.text_line.proofs.Putting.{then}
use Rattle.capture_lines.specs.Captures.{replayed_text}
use Rattle.describe_capture.proofs.capture_words.put_replayed.Goals as goal

pub returns : goal.returns
unfolding replayed_text
returns c = then _ _ _ (then _ _ _ (then _ _ _ (then _ _ _ c.put_place.ensures c.put_clock_column.ensures) c.put_text.ensures) c.put_record.ensures) c.put_answer.ensures
