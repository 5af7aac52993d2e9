-- `describe_capture::fault_words::put_record_cut` meets its contract.
use Rattle.text_line.proofs.Putting.{then}
use Rattle.capture_lines.specs.Faults.{record_cut_text}
use Rattle.describe_capture.proofs.fault_words.put_record_cut.Goals as goal

pub returns : goal.returns
unfolding record_cut_text
returns c = then _ _ _ (then _ _ _ (then _ _ _ (then _ _ _ (then _ _ _ c.put_text.ensures c.put_hex.ensures) c.put_text-2.ensures) c.put_stamp.ensures) c.put_named.ensures) c.put_named-2.ensures
