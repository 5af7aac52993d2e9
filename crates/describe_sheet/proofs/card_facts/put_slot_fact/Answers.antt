-- `describe_sheet::card_facts::put_slot_fact` meets its contract.
use Rattle.text_line.proofs.Putting.{then}
use Rattle.describe_sheet.specs.Facts.{slot_fact}
use Rattle.describe_sheet.proofs.card_facts.put_slot_fact.Goals as goal

pub returns : goal.returns
unfolding slot_fact
returns c = then _ _ _ (then _ _ _ (then _ _ _ (then _ _ _ (then _ _ _ c.put_named.ensures c.put_code.ensures) c.put_code-2.ensures) c.put_code-3.ensures) c.put_code-4.ensures) c.put_either.ensures
