-- `settle::starting::after_reset` meets its contract.
use Rattle.readiness.specs.Status.{after_reset}
use Rattle.settle.proofs.starting.after_reset.Goals as goal

pub returns : goal.returns
unfolding after_reset
returns c = simp c.empty.ensures
