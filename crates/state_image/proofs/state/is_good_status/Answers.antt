-- `state_image::state::is_good_status` meets its contract.
use mathlib.Core.Path.{sym}
use Rattle.state_layout.proofs.Steps.{good_at}
use Rattle.state_image.proofs.state.is_good_status.Goals as goal

pub returns : goal.returns
returns c = rw (c.byte_at-set.ensures, c.byte_at-cause.ensures, c.byte_at-phase.ensures) (sym (good_at c.args.at c.args.bytes.now))
