-- `settle::root_port::drs_told` meets its contract.
use mathlib.Core.Path.{ap}
use Rattle.readiness.specs.Root.{nothing_owed}
use Rattle.settle.proofs.root_port.drs_told.Goals as goal

pub returns : goal.returns
returns c = ap nothing_owed c.drs_arrives-p.ensures
