-- `summing::no_totals` meets its contract.
use mathlib.Core.Path.{refl}
use Rattle.lateness.specs.Totals.{how_many, sum_of, pick_of, least_of, greatest_of, totals_of}
use Rattle.lateness.proofs.summing.no_totals.Goals as goal

pub returns : goal.returns
unfolding totals_of how_many sum_of least_of greatest_of pick_of
returns c = refl
