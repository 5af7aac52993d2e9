-- `describe_state::card_words::put_code` meets its contract.
use Rattle.text_line.proofs.Putting.{then}
use Rattle.describe_state.specs.Cards.{code_text}
use Rattle.describe_state.proofs.card_words.put_code.Goals as goal

pub returns : goal.returns
unfolding code_text
returns c = simp (c.code_number.ensures, c.in_nanos.ensures, c.allowed.ensures) at (then _ _ _ (then _ _ _ (then _ _ _ (then _ _ _ c.put_text.ensures c.put_hex.ensures) c.put_text-2.ensures) c.put_time.ensures) c.put_if.ensures)
