-- `describe_state::state_words::put_cause` meets its contract.
use Rattle.describe_state.specs.States.{cause_text}
use Rattle.text_line.proofs.Putting.{then}
use Rattle.describe_state.proofs.state_words.put_cause.Goals as goal

pub returns-in-Flr : goal.returns-in-Flr
unfolding cause_text
returns-in-Flr c = simp c.in-Flr.is (then _ _ _ c.put_moment.ensures c.put_text-in-Flr.ensures)
