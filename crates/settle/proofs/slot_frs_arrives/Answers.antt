-- `settle::slot_frs_arrives` meets its contract.
use mathlib.Core.Path.{sym, ap, ◌∙◌}
use mathlib.Core.List.{List}
use Rattle.frs_queue.specs.declared.Frs.{Frs}
use Rattle.readiness.specs.Root.{root, frs_arrive}
use Rattle.settle.proofs.Messages.{no_frs, slot_quiet, slot_none, slot_one}
use Rattle.settle.proofs.slot_frs_arrives.Goals as goal

pub returns-in-Some : goal.returns-in-Some
returns-in-Some c =
    let a = c.args in
    c.frs_arrives.ensures
    ∙ ap (λ (l : List Frs). frs_arrive l (root a.cells.now a.port)) (sym (slot_one a.bus a.entry a.slot a.cause c.in-Some.reason (sym c.reason_after.ensures ∙ c.in-Some.is) c.if-entry.true))

pub returns-in_default : goal.returns-in_default
returns-in_default c =
    let a = c.args in
    let x = root a.cells.now a.port in
    sym (no_frs x) ∙ ap (λ (l : List Frs). frs_arrive l x) (sym (slot_quiet a.bus a.entry a.slot a.cause c.if-entry.false))

pub returns-in_default-2 : goal.returns-in_default-2
returns-in_default-2 c =
    let a = c.args in
    let x = root a.cells.now a.port in
    sym (no_frs x) ∙ ap (λ (l : List Frs). frs_arrive l x) (sym (slot_none a.bus a.entry a.slot a.cause (sym c.reason_after.ensures ∙ c.in_default.is)))
