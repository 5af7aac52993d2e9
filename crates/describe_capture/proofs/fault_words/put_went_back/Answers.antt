-- `describe_capture::fault_words::put_went_back` meets its contract.
use Rattle.text_line.proofs.Putting.{then}
use Rattle.capture_lines.specs.Faults.{went_back_text}
use Rattle.describe_capture.proofs.fault_words.put_went_back.Goals as goal

pub returns : goal.returns
unfolding went_back_text
returns c = then _ _ _ (then _ _ _ (then _ _ _ (then _ _ _ (then _ _ _ (then _ _ _ c.put_text.ensures c.put_stamp.ensures) c.put_text-2.ensures) c.put_stamp-2.ensures) c.put_text-3.ensures) c.put_apart.ensures) c.put_text-4.ensures
