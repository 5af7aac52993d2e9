-- `execute::routing::phase_route` meets its contract.
use mathlib.Core.Path.{ap, ◌∙◌}
use Rattle.records.specs.Route.{pending_route, phase_route}
use Rattle.execute.proofs.routing.phase_route.Goals as goal

pub returns-in-Down : goal.returns-in-Down
unfolding phase_route
returns-in-Down c = rw c.in-Down.is

pub returns-in-Pending : goal.returns-in-Pending
unfolding phase_route
returns-in-Pending c =
    let e = c.in-Pending.is in
    let a = c.args in
    rw e (c.pending_route.ensures ∙ ap (pending_route a.clock _ _) c.crs_of.ensures)

pub returns-in-Ready : goal.returns-in-Ready
unfolding phase_route
returns-in-Ready c = rw c.in-Ready.is
