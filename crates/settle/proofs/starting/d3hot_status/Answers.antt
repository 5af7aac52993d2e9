-- `settle::starting::d3hot_status` meets its contract.
use Rattle.readiness.specs.Status.{started_by_d3hot}
use Rattle.settle.proofs.starting.d3hot_status.Goals as goal

pub returns : goal.returns
unfolding started_by_d3hot
returns c = simp (c.sum-ready.ensures, c.in_nanos-t.ensures)
