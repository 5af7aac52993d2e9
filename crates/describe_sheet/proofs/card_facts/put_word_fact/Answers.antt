-- `describe_sheet::card_facts::put_word_fact` meets its contract.
use Rattle.text_line.proofs.Putting.{then}
use Rattle.describe_sheet.specs.Facts.{word_fact}
use Rattle.describe_sheet.proofs.card_facts.put_word_fact.Goals as goal

pub returns : goal.returns
unfolding word_fact
returns c = then _ _ _ (then _ _ _ (then _ _ _ (then _ _ _ c.put_named.ensures c.put_text.ensures) c.put_hex.ensures) c.put_text-2.ensures) c.put_hex-2.ensures
