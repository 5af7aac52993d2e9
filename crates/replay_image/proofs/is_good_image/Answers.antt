-- `replay_image::is_good_image` meets its contract.
use Rattle.replay_image.specs.Image.{is_good}
use Rattle.replay_image.proofs.is_good_image.Goals as goal

pub returns : goal.returns
unfolding is_good
returns c = c.is_yes_or_no.ensures
