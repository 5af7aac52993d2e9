-- `execute::requests::finished` meets its contract.
use mathlib.Core.Path.{ap, sym, ◌∙◌}
use Rattle.records.specs.State.{seat}
use Rattle.execute.proofs.Resting.{told, ready-answered}
use Rattle.execute.proofs.requests.finished.Goals as goal

pub returns-then-is_ready-clause-cells_after : goal.returns-then-is_ready-clause-cells_after
returns-then-is_ready-clause-cells_after c =
    let a = c.args in
    let is = sym c.is_ready.ensures ∙ c.if-is_ready.true in λ before live.
    let z = seat a.dev a.status live a.cells.now in
    ap (told z) c.plain_reply.ensures ∙ sym (ready-answered a.bus a.entry a.slot before z 0 is)
