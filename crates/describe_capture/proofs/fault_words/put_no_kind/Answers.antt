-- `describe_capture::fault_words::put_no_kind` meets its contract.
use Rattle.text_line.proofs.Putting.{then}
use Rattle.capture_lines.specs.Faults.{no_kind_text}
use Rattle.describe_capture.proofs.fault_words.put_no_kind.Goals as goal

pub returns : goal.returns
unfolding no_kind_text
returns c = then _ _ _ (then _ _ _ (then _ _ _ (then _ _ _ c.put_text.ensures c.put_hex.ensures) c.put_text-2.ensures) c.put_stamp.ensures) c.put_text-3.ensures
