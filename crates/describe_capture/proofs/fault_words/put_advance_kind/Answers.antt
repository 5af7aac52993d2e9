-- `describe_capture::fault_words::put_advance_kind` meets its contract.
use Rattle.text_line.proofs.Putting.{then}
use Rattle.capture_lines.specs.Faults.{advance_kind_text}
use Rattle.describe_capture.proofs.fault_words.put_advance_kind.Goals as goal

pub returns : goal.returns
unfolding advance_kind_text
returns c = simp c.difference-by.ensures at (then _ _ _ (then _ _ _ (then _ _ _ (then _ _ _ (then _ _ _ (then _ _ _ c.put_text.ensures c.put_stamp.ensures) c.put_text-2.ensures) c.put_span.ensures) c.put_text-3.ensures) c.put_stamp-2.ensures) c.put_text-4.ensures)
