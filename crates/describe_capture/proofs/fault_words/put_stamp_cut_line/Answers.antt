-- `describe_capture::fault_words::put_stamp_cut_line` meets its contract.
use Rattle.text_line.proofs.Putting.{then}
use Rattle.capture_lines.specs.Faults.{stamp_cut_line}
use Rattle.describe_capture.proofs.fault_words.put_stamp_cut_line.Goals as goal

pub returns : goal.returns
unfolding stamp_cut_line
returns c = then _ _ _ (then _ _ _ c.put_column.ensures c.put_named.ensures) c.put_text.ensures
