-- `describe_state::state_words::put_port_control` meets its contract.
use Rattle.text_line.proofs.Putting.{then}
use Rattle.describe_state.specs.States.{port_control_text}
use Rattle.describe_state.proofs.state_words.put_port_control.Goals as goal

pub returns : goal.returns
unfolding port_control_text
returns c = then _ _ _ (then _ _ _ c.put_switch.ensures c.put_switch-2.ensures) c.put_signalling.ensures
