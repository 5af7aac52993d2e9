-- `describe_capture::fault_words::put_fault_message` meets its contract.
use Rattle.text_line.proofs.Putting.{then}
use Rattle.capture_lines.specs.Faults.{fault_message}
use Rattle.describe_capture.proofs.fault_words.put_fault_message.Goals as goal

pub returns : goal.returns
unfolding fault_message
returns c = then _ _ _ (then _ _ _ c.put_named.ensures c.put_text.ensures) c.put_fault.ensures
