-- `state_image::state::queue_in` meets its contract.
use mathlib.Core.Path.{◌∙◌}
use Rattle.state_image.proofs.state.queue_in.Goals as goal

pub returns : goal.returns
returns c = λ i. record { start = (c.from.ensures ∙ c.two_at.ensures) i; depth = (c.from-2.ensures ∙ c.two_at-2.ensures) i; received = c.is_yes.ensures i; overflow = c.is_yes-2.ensures i }
