-- `settle::starting::after_cold_reset` meets its contract.
use Rattle.readiness.specs.Status.{after_cold_reset}
use Rattle.settle.proofs.starting.after_cold_reset.Goals as goal

pub returns : goal.returns
unfolding after_cold_reset
returns c = simp (c.after_reset-d.ensures, c.blank_control-d.ensures)
