-- `describe_state::card_words::put_entry` meets its contract.
use Rattle.text_line.proofs.Putting.{then}
use Rattle.describe_state.specs.Cards.{entry_text}
use Rattle.describe_state.proofs.card_words.put_entry.Goals as goal

pub returns : goal.returns
unfolding entry_text
returns c = then _ _ _ (then _ _ _ (then _ _ _ (then _ _ _ (then _ _ _ c.put_named.ensures c.put_code.ensures) c.put_code-2.ensures) c.put_code-3.ensures) c.put_code-4.ensures) c.put_either.ensures
