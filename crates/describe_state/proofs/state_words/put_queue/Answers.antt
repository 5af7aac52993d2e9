-- `describe_state::state_words::put_queue` meets its contract.
use Rattle.text_line.proofs.Putting.{then}
use Rattle.describe_state.specs.States.{queue_text}
use Rattle.describe_state.proofs.state_words.put_queue.Goals as goal

pub returns : goal.returns
unfolding queue_text
returns c = then _ _ _ c.put_named.ensures c.put_named-2.ensures
