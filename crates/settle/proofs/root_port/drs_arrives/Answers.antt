-- `settle::root_port::drs_arrives` meets its contract.
use mathlib.Core.Path.{ap, ◌∙◌}
use borrow.Author.Tests.{eq-eqb, ne_eqb}
use Rattle.readiness.specs.Root.{frs_arrive, frs_of_drs, drs_arrives}
use Rattle.settle.proofs.Messages.{no_frs}
use Rattle.settle.proofs.root_port.drs_arrives.Goals as goal

pub returns-then-port : goal.returns-then-port
unfolding drs_arrives frs_of_drs
returns-then-port c = simp (c.if-port.true, no_frs) (c.drs_set-p.ensures _)

pub returns-then-port-eq2 : goal.returns-then-port-eq2
unfolding drs_arrives frs_of_drs
returns-then-port-eq2 c = simp (c.if-port.false, eq-eqb _ 2 c.if-port-eq2.true) (c.frs_arrives.ensures ∙ ap (frs_arrive _) (c.drs_set-p.ensures _))

pub returns-else-port-eq2 : goal.returns-else-port-eq2
unfolding drs_arrives frs_of_drs
returns-else-port-eq2 c = simp (c.if-port.false, ne_eqb _ 2 c.if-port-eq2.false, no_frs) (c.drs_set-p.ensures _)
