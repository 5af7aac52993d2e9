-- `state_image::state::dev_in` meets its contract.
use mathlib.Core.Path.{◌≡◌, ◌∙◌}
use Rattle.state_layout.specs.Reading.{time_at}
use Rattle.state_image.proofs.state.dev_in.Goals as goal

pub returns : goal.returns
returns c = let clock : c.nanos_of.result ≡ time_at 0 c.args.bytes.now = c.nanos_of.ensures ∙ (λ t. record { 0 = c.eight_at.ensures t }) in
    λ i. record { clock = clock i; link = c.is_yes.ensures i; owed = c.is_yes-2.ensures i; drs_received = c.is_yes-3.ensures i; control = c.control_in.ensures i; queue = c.queue_in.ensures i }
