-- `state_image::state::is_good_port` meets its contract.
use Rattle.state_layout.specs.Reading.{good_port}
use Rattle.state_image.proofs.state.is_good_port.Goals as goal

pub returns : goal.returns
unfolding good_port
returns c = rw (c.is_yes_or_no-8.ensures, c.is_yes_or_no-7.ensures, c.is_yes_or_no-6.ensures, c.is_yes_or_no-5.ensures, c.is_yes_or_no-4.ensures, c.is_yes_or_no-3.ensures, c.is_yes_or_no-2.ensures, c.is_yes_or_no.ensures, c.eight_at.ensures)
