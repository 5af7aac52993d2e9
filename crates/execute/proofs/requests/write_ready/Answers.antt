-- `execute::requests::write_ready` meets its contract.
use mathlib.Core.Path.{ap, sym, ◌∙◌}
use mathlib.Core.Bool.{cond}
use mathlib.Core.List.{List}
use Prim.Native.Nat.{ℕ}
use lib.ListN.{set}
use Rattle.bits.specs.Bits.{bit}
use Rattle.registers.specs.Rows.{starts_flr}
use Rattle.registers.specs.Words.{starts_d3hot}
use Rattle.config_space.specs.Functions.{link_reset_slot, flr_reset_slot}
use Rattle.records.specs.State.{seat, word_place}
use Rattle.records.specs.Requests.{word_at, after_flr, after_d3hot, write_seat}
use Rattle.bits.proofs.Choices.{when_true, when_false}
use Rattle.execute.proofs.requests.write_ready.Goals as goal

pub returns-then-starts_flr : goal.returns-then-starts_flr
unfolding write_seat after_flr
returns-then-starts_flr c =
    λ cells.
    let a = c.args in
    let slot = a.q.slot in
    let live : ℕ → List ℕ = λ n. set a.live.now (word_place slot a.q.word) n in
    let new = c.write_word-new.ensures in
    let after = c.flr_reset_slot.ensures ∙ ap (λ (n : ℕ). flr_reset_slot a.kind slot (live n) a.defaults.now) new in
    (λ i. seat a.dev (c.flr_status.ensures i) (after i) cells) ∙ sym (when_true _ _ _ (sym (c.starts_flr.ensures ∙ ap (λ (n : ℕ). starts_flr c.args.kind c.args.q.word c.args.value c.args.q.enables (word_at c.args.defaults.now c.args.q.slot n)) c.flr_capability_word.ensures.0) ∙ c.if-starts_flr.true))

pub returns-then-starts_d3hot : goal.returns-then-starts_d3hot
unfolding write_seat after_d3hot
returns-then-starts_d3hot c =
    λ cells.
    let a = c.args in
    let slot = a.q.slot in
    let live : ℕ → List ℕ = λ n. set a.live.now (word_place slot a.q.word) n in
    let new = c.write_word-new.ensures in
    let after = c.d3hot_reset.ensures ∙ ap (λ (n : ℕ). cond (bit n 3) (live n) (link_reset_slot a.kind slot (live n) a.defaults.now)) new in
    (λ i. seat a.dev (c.d3hot_status.ensures i) (after i) cells) ∙ sym (when_false _ _ _ (sym (c.starts_flr.ensures ∙ ap (λ (n : ℕ). starts_flr c.args.kind c.args.q.word c.args.value c.args.q.enables (word_at c.args.defaults.now c.args.q.slot n)) c.flr_capability_word.ensures.0) ∙ c.if-starts_flr.false) ∙ when_true _ _ _ (ap (starts_d3hot a.kind a.q.word _) (sym new) ∙ sym c.starts_d3hot.ensures ∙ c.if-starts_d3hot.true))

pub returns : goal.returns
unfolding write_seat
returns c =
    λ cells.
    let a = c.args in
    let slot = a.q.slot in
    let live : ℕ → List ℕ = λ n. set a.live.now (word_place slot a.q.word) n in
    let new = c.write_word-new.ensures in
    (λ i. seat a.dev a.status (live (new i)) cells) ∙ sym (when_false _ _ _ (sym (c.starts_flr.ensures ∙ ap (λ (n : ℕ). starts_flr c.args.kind c.args.q.word c.args.value c.args.q.enables (word_at c.args.defaults.now c.args.q.slot n)) c.flr_capability_word.ensures.0) ∙ c.if-starts_flr.false) ∙ when_false _ _ _ (ap (starts_d3hot a.kind a.q.word _) (sym new) ∙ sym c.starts_d3hot.ensures ∙ c.if-starts_d3hot.false))
