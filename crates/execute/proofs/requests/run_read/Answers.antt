-- `execute::requests::run_read` meets its contract.
use native.Mathlib.Omega.{arith}
use mathlib.Core.Path.{ap, sym, ◌∙◌}
use mathlib.Core.Bool.{true}
use Prim.Native.Nat.{ℕ}
use Rattle.frs_queue.specs.Queue.{no_tally}
use Rattle.readiness.specs.Status.{is_ready}
use Rattle.records.specs.declared.Completion.TheVariants as completion
use Rattle.records.specs.State.{seat}
use Rattle.records.specs.Answer.{reply}
use Rattle.records.specs.Route.{route_completion, refused_data, is_access}
use Rattle.records.specs.Requests.{read_effect}
use Rattle.records.specs.inner.Parts.{slot_effect, slot_answered, slot_run}
use Rattle.records.proofs.Parted.{access_ready}
use Rattle.bits.proofs.Choices.{when_true, when_false}
use Rattle.execute.proofs.Resting.{told, ready-answered}
use Rattle.execute.proofs.requests.run_read.Goals as goal

pub returns-then-is_access : goal.returns-then-is_access
unfolding slot_run slot_effect read_effect
returns-then-is_access c =
    λ bus entry defaults slot cells.
    let a = c.args in
    let z = seat a.dev a.status a.live.now cells in
    let e = c.route_of-route.ensures.value in
    let t = ap is_access (sym e) ∙ sym c.is_access.ensures ∙ c.if-is_access.true in
    let ready = ap is_ready (access_ready a.slots a.kind a.dev a.status true a.q t) in
    ap (slot_answered bus entry slot z) (when_true _ _ _ t) ∙ ready-answered bus entry slot z z _ ready ∙ ap (λ (n : ℕ). told z (reply completion.Done no_tally n)) (sym c.read_word-data.ensures) ∙ ap (told z) (sym c.plain_reply.ensures)

pub returns : goal.returns
unfolding slot_run slot_effect read_effect slot_answered
returns c =
    λ bus entry defaults slot cells.
    let a = c.args in
    let z = seat a.dev a.status a.live.now cells in
    let e = c.route_of-route.ensures.value in
    let t = ap is_access (sym e) ∙ sym c.is_access.ensures ∙ c.if-is_access.false in
    let number = c.route_completion.ensures ∙ ap route_completion e in
    let shown = c.refused_data.ensures ∙ ap (refused_data true a.q.enables) e in
    ap (slot_answered bus entry slot z) (when_false _ _ _ t) ∙ sym (ap (told z) c.plain_reply-2.ensures ∙ (λ i. told z (reply (number i) no_tally (shown i))))

pub overflow_mul-at : goal.overflow_mul-at
overflow_mul-at c = omega (arith, (c.route_of-route.ensures.slot_lt_slots (sym c.is_access.ensures ∙ c.if-is_access.true)))

pub overflow_add-at : goal.overflow_add-at
overflow_add-at c = omega (arith, (c.route_of-route.ensures.slot_lt_slots (sym c.is_access.ensures ∙ c.if-is_access.true)))

pub offset_bounds-live-at : goal.offset_bounds-live-at
offset_bounds-live-at c = omega (arith, (c.route_of-route.ensures.slot_lt_slots (sym c.is_access.ensures ∙ c.if-is_access.true)))

pub bounds-live-at : goal.bounds-live-at
bounds-live-at c = omega (arith, (c.route_of-route.ensures.slot_lt_slots (sym c.is_access.ensures ∙ c.if-is_access.true)))
