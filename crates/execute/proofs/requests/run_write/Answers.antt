-- `execute::requests::run_write` meets its contract.
use native.Mathlib.Omega.{arith}
use mathlib.Core.Path.{ap, sym, ◌∙◌}
use Rattle.frs_queue.specs.Queue.{no_tally}
use Rattle.readiness.specs.MadeReady.{made_by}
use Rattle.records.specs.declared.Completion.{Completion}
use Rattle.records.specs.State.{Seat, seat}
use Rattle.records.specs.Answer.{Effect, does, reply}
use Rattle.records.specs.Route.{route_completion, is_access}
use Rattle.records.specs.Requests.{write_effect}
use Rattle.records.specs.inner.Parts.{slot_effect, slot_answered, slot_readied, slot_run}
use Rattle.bits.proofs.Choices.{when_true, when_false}
use Rattle.execute.proofs.Resting.{told}
use Rattle.execute.proofs.requests.run_write.Goals as goal

pub write_ready-after-requires : goal.write_ready-after-requires
write_ready-after-requires c = let i = (c.route_of-route.ensures.slot_lt_slots (sym c.is_access.ensures ∙ c.if-is_access.true)) in record { slot_in_bounds = (omega arith, omega arith, i.1) }

pub returns-then-is_access : goal.returns-then-is_access
unfolding slot_run slot_effect write_effect
returns-then-is_access c =
    let a = c.args in
    let z = seat a.dev a.status a.live.now a.cells.now in
    let e = c.route_of-route.ensures.value in
    let t = ap is_access (sym e) ∙ sym c.is_access.ensures ∙ c.if-is_access.true in
    let done = ap (λ (y : Seat). does y no_tally 0) (c.write_ready-after.ensures a.cells.now) ∙ sym (when_true _ _ _ t) in record { cells_after = c.finished.ensures.cells_after z _ ∙ ap (slot_answered a.bus a.entry a.slot z) done; made_value = c.finished.ensures.made_value ∙ ap (λ (e : Effect Seat). made_by (slot_readied a.slot e)) done }

pub returns : goal.returns
unfolding slot_run slot_effect write_effect slot_answered
returns c =
    let a = c.args in
    let z = seat a.dev a.status a.live.now a.cells.now in
    let e = c.route_of-route.ensures.value in
    let t = ap is_access (sym e) ∙ sym c.is_access.ensures ∙ c.if-is_access.false in
    let no = sym (when_false _ _ _ t) in record { cells_after = ap (told z) (c.plain_reply.ensures ∙ ap (λ (n : Completion). reply n no_tally 0) (c.route_completion.ensures ∙ ap route_completion e)) ∙ ap (slot_answered a.bus a.entry a.slot z) no; made_value = ap (λ (e : Effect Seat). made_by (slot_readied a.slot e)) no }
