-- `settle::starting::after_link_down` meets its contract.
use Rattle.readiness.specs.Status.{after_link_down}
use Rattle.settle.proofs.starting.after_link_down.Goals as goal

pub returns : goal.returns
unfolding after_link_down
returns c = simp c.after_reset.ensures
