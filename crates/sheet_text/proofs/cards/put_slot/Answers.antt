-- `sheet_text::cards::put_slot` meets its contract.
use Rattle.sheet_text.specs.Cards.{slot_text}
use Rattle.text_line.proofs.Putting.{then}
use Rattle.sheet_text.proofs.cards.put_slot.Goals as goal

pub returns : goal.returns
unfolding slot_text
returns c = simp c.line_naming-l.ensures at (then _ _ _ c.put_comments.ensures (then _ _ _ c.put_slot_fact.ensures c.put_byte.ensures))
