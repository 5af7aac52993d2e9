-- `settle::starting::flr_status` meets its contract.
use mathlib.Core.Path.{◌∙◌}
use Rattle.readiness.specs.Status.{started_by_flr}
use Rattle.times.proofs.Moments.{min_least}
use Rattle.settle.proofs.starting.flr_status.Goals as goal

pub returns : goal.returns
unfolding started_by_flr
returns c = simp (c.sum-ready.ensures, c.sum-end.ensures, c.min.ensures ∙ min_least c.in_nanos-t.result c.nanos_of-most.result, c.nanos_of-most.ensures, c.in_nanos-t.ensures)
