-- `state_image::numbers::put_two` meets its contract.
use Rattle.state_image.proofs.numbers.put_two.Goals as goal

pub returns : goal.returns
returns c = c.put_low.ensures
