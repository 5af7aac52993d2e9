-- `config_words::reset_slot` meets its contract.
use mathlib.Core.Path.{ap₂, ◌∙◌}
use Prim.Native.Nat.{ℕ, ◌+◌, ◌*◌}
use native.Mathlib.Omega.{arith}
use Rattle.config_space.specs.Functions.{reset_where}
use Rattle.config_words.specs.inner.Resetting.{between, by_mask}
use Rattle.config_words.proofs.Spans.{slot_words, whole_slot}
use Rattle.config_words.proofs.Changing.{by_changing}
use Rattle.config_words.proofs.reset_slot.Goals as goal

pub returns-then-slot-whole_slots : goal.returns-then-slot-whole_slots
returns-then-slot-whole_slots c =
    let b = c in
    let k = b in
    let a = k.args in
    let live = a.live.now in
    let defaults = a.defaults.now in
    let start : ℕ = a.slot * 64 in
    b.reset_changing.ensures
    ∙ by_changing a.reset (between start (start + 64)) live defaults (λ n h. omega (arith, k.slice_known-1.given n))
    ∙ whole_slot (by_mask a.reset) live defaults a.slot

pub returns-else-slot-whole_slots : goal.returns-else-slot-whole_slots
returns-else-slot-whole_slots c =
    let b = c in
    let e = b in
    let a = e.args in
    let reset = by_mask a.reset in
    let live = a.live.now in
    let defaults = a.defaults.now in
    b.reset_words.ensures
    ∙ ap₂ (λ (from to : ℕ). reset_where (between from to) reset live defaults) e.word_index-from.ensures e.word_index-to.ensures
    ∙ slot_words reset live defaults a.slot
