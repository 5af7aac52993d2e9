-- `describe_capture::fault_words::put_advance_kind_line` meets its contract.
use Rattle.text_line.proofs.Putting.{then}
use Rattle.capture_lines.specs.Faults.{advance_kind_line}
use Rattle.describe_capture.proofs.fault_words.put_advance_kind_line.Goals as goal

pub returns : goal.returns
unfolding advance_kind_line
returns c = then _ _ _ c.put_place.ensures c.put_text.ensures
