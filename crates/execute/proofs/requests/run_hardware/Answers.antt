-- `execute::requests::run_hardware` meets its contract.
use mathlib.Core.Path.{ap, sym, ◌∙◌}
use Prim.Native.Nat.{ℕ}
use lib.ListN.{set}
use borrow.Author.Tests.{lt-ltb, le-ltb}
use Rattle.readiness.specs.Status.{is_ready}
use Rattle.records.specs.State.{Seat, seat, word_place}
use Rattle.records.specs.Requests.{hardware_effect}
use Rattle.records.specs.inner.Parts.{slot_effect, slot_answered, slot_run}
use Rattle.bits.proofs.Choices.{unless-true, unless-false, when_true, when_false}
use Rattle.execute.proofs.Resting.{told, ready-answered}
use Rattle.execute.proofs.requests.run_hardware.Goals as goal

pub returns-then-slot-slots : goal.returns-then-slot-slots
unfolding slot_run slot_effect hardware_effect slot_answered
returns-then-slot-slots c =
    λ dev bus entry defaults at cells.
    let a = c.args in
    let z = seat dev a.status a.live.now cells in
    ap (slot_answered bus entry at z) (unless-false _ _ _ (le-ltb _ _ c.if-slot-slots.true)) ∙ ap (told z) (sym c.plain_reply.ensures)

pub returns-then-word-gt63 : goal.returns-then-word-gt63
unfolding slot_run slot_effect hardware_effect slot_answered
returns-then-word-gt63 c =
    λ dev bus entry defaults at cells.
    let a = c.args in
    let z = seat dev a.status a.live.now cells in
    ap (slot_answered bus entry at z) (unless-true _ _ _ (lt-ltb _ _ c.if-slot-slots.false) ∙ when_true _ _ _ (lt-ltb _ _ c.if-word-gt63.true)) ∙ ap (told z) (sym c.plain_reply-then-word-gt63.ensures)

pub returns-then-not-is_ready : goal.returns-then-not-is_ready
unfolding slot_run slot_effect hardware_effect slot_answered
returns-then-not-is_ready c =
    λ dev bus entry defaults at cells.
    let a = c.args in
    let z = seat dev a.status a.live.now cells in
    let t = sym c.is_ready.ensures ∙ c.if-not-is_ready.true in
    ap (slot_answered bus entry at z) (unless-true _ _ _ (lt-ltb _ _ c.if-slot-slots.false) ∙ when_false _ _ _ (le-ltb _ _ c.if-word-gt63.false) ∙ unless-false (is_ready a.status) _ _ t)
    ∙ ap (told z) (sym c.plain_reply-then-not-is_ready.ensures)

pub returns : goal.returns
unfolding slot_run slot_effect hardware_effect
returns c =
    λ dev bus entry defaults at cells.
    let a = c.args in
    let z = seat dev a.status a.live.now cells in
    let t = sym c.is_ready.ensures ∙ c.if-not-is_ready.false in
    let left : ℕ → Seat = λ n. seat dev a.status (set a.live.now (word_place a.slot a.word) n) cells in
    ap (slot_answered bus entry at z) (unless-true _ _ _ (lt-ltb _ _ c.if-slot-slots.false) ∙ when_false _ _ _ (le-ltb _ _ c.if-word-gt63.false) ∙ unless-true (is_ready a.status) _ _ t)
    ∙ ready-answered bus entry at z (left _) 0 t
    ∙ sym (λ i. told (left (c.hardware_set.ensures i)) (c.plain_reply-2.ensures i))
