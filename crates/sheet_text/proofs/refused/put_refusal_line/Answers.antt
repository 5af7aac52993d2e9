-- `sheet_text::refused::put_refusal_line` meets its contract.
use Rattle.text_line.proofs.Putting.{then}
use Rattle.sheet_text.specs.Refused.{refusal_line}
use Rattle.sheet_text.proofs.refused.put_refusal_line.Goals as goal

pub returns : goal.returns
unfolding refusal_line
returns c = simp (c.line_of-l.ensures, c.fault_in-fault.ensures) at (then _ _ _ (then _ _ _ c.put_name.ensures c.put_refusal.ensures) c.put_byte.ensures)
