use Rattle.happenings.specs.Writes.{enters_d3hot}
use Rattle.left_to_happen.proofs.writes.enters_d3hot.Goals as goal

pub returns : goal.returns
unfolding enters_d3hot
returns c = cc
