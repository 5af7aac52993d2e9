-- `sheet_text::cards::put_front` meets its contract.
use Rattle.sheet_text.specs.Cards.{front_text}
use Rattle.text_line.proofs.Putting.{then}
use Rattle.sheet_text.proofs.cards.put_front.Goals as goal

pub returns : goal.returns
unfolding front_text
returns c =
    then _ _ _
    (then _ _ _
    (then _ _ _
    (then _ _ _ c.put_text.ensures (then _ _ _ c.put_slots_fact.ensures c.put_byte.ensures))
    (then _ _ _ c.put_queue_fact.ensures c.put_byte-2.ensures))
    (then _ _ _ c.put_bus_fact.ensures c.put_byte-3.ensures))
    (then _ _ _ c.put_port_fact.ensures c.put_byte-4.ensures)
