-- `describe_state::state_words::put_pending` meets its contract.
use Rattle.text_line.proofs.Putting.{then}
use Rattle.describe_state.specs.States.{pending_text}
use Rattle.describe_state.proofs.state_words.put_pending.Goals as goal

pub returns : goal.returns
unfolding pending_text
returns c = then _ _ _ c.put_moment.ensures c.put_cause.ensures
