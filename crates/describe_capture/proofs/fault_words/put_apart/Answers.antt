-- `describe_capture::fault_words::put_apart` meets its contract.
use Rattle.text_line.proofs.Putting.{then}
use Rattle.capture_lines.specs.Faults.{apart_text}
use Rattle.describe_capture.proofs.fault_words.put_apart.Goals as goal

pub returns : goal.returns
unfolding apart_text
returns c = simp (c.difference.ensures, c.ticks_number.ensures, c.from-forward.ensures, c.difference-2.ensures) at (then _ _ _ (then _ _ _ c.put_span.ensures c.put_named.ensures) c.put_text.ensures)
