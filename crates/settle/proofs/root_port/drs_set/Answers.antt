-- `settle::root_port::drs_set` meets its contract.
use Rattle.readiness.specs.Root.{drs_set}
use Rattle.settle.proofs.root_port.drs_set.Goals as goal

pub returns : goal.returns
unfolding drs_set
returns c = λ cells. simp c.drs_raised-raised.ensures
