-- `settle::root_port::frs_arrives` meets its contract.
use mathlib.Core.Path.{ap}
use Rattle.frs_queue.specs.Queue.{Ring, arrive_all}
use Rattle.readiness.specs.Root.{root, with_ring, frs_arrive}
use Rattle.settle.proofs.root_port.frs_arrives.Goals as goal

pub returns : goal.returns
unfolding frs_arrive arrive_all
returns c = let a = c.args in ap (λ (g : Ring). with_ring g (root a.cells.now a.port)) c.arrive-arrival.ensures
