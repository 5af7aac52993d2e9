-- `describe_capture::fault_words::put_advance_first` meets its contract.
use Rattle.text_line.proofs.Putting.{then}
use Rattle.capture_lines.specs.Faults.{advance_first_text}
use Rattle.describe_capture.proofs.fault_words.put_advance_first.Goals as goal

pub returns : goal.returns
unfolding advance_first_text
returns c = then _ _ _ (then _ _ _ c.put_text.ensures c.put_stamp.ensures) c.put_text-2.ensures
