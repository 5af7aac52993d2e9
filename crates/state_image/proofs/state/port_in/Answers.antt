-- `state_image::state::port_in` meets its contract.
use mathlib.Core.Path.{◌∙◌}
use Rattle.state_layout.specs.Reading.{port_in}
use Rattle.state_image.proofs.state.port_in.Goals as goal

pub returns : goal.returns
unfolding port_in
returns c = λ i. record { dev = c.dev_in.ensures i; carried = c.carried_in.ensures i; carried_len = (c.from.ensures ∙ c.byte_at.ensures) i; broken = c.is_yes.ensures i }
