-- `state_image::state::is_good_image` meets its contract.
use Rattle.state_layout.specs.Reading.{is_good}
use Rattle.state_image.proofs.state.is_good_image.Goals as goal

pub returns : goal.returns
unfolding is_good
returns c = rw (c.are_good_statuses.ensures, c.is_good_port.ensures)
