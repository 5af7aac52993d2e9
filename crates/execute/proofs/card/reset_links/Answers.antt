-- `execute::card::reset_links` meets its contract: the slots before slot i are reset, one after the other.
use Prim.Native.Nat.{ℕ}
use native.Mathlib.Omega.{arith}
use mathlib.Core.Path.{◌≡◌, ap, ap₂, ◌∙◌}
use mathlib.Core.List.{List}
use Rattle.registers.specs.declared.Kind.{Kind}
use Rattle.config_space.specs.Functions.{link_reset_slot}
use Rattle.config_space.specs.inner.SlotAfterSlot.{link_reset_below}
use Rattle.config_space.proofs.Slots.{slot_after_slot, below_none, below_more}
use Rattle.records.specs.State.{slot_kind}
use Rattle.execute.proofs.card.reset_links.Goals as goal

pub loop-i-init : goal.loop-i-init
loop-i-init c =
    let a = c.args in
    (omega arith, below_none (slot_kind a.setup) a.live.now a.defaults.now)

pub loop-i-preserved : goal.loop-i-preserved
loop-i-preserved c =
    let r = c.link_reset_next-last.ensures in
    let k = c.kind_of_entry-kind.ensures in
    let l = c in
    let a = l.args in
    let kinds = slot_kind a.setup in (
      omega arith,
      r.live_after
          ∙ ap₂ (λ (kind : Kind) (live : List ℕ). link_reset_slot kind l.loop-i.i live a.defaults.now) k l.loop-i.invariant.1
          ∙ below_more kinds a.live.now a.defaults.now l.loop-i.i,
    )

pub returns : goal.returns
returns c =
    let l = c in
    let a = l.args in
    let e : l.loop-i.i ≡ a.setup.slots = omega arith in
    l.loop-i.invariant.1
    ∙ ap (λ (n : ℕ). link_reset_below (slot_kind a.setup) n a.live.now a.defaults.now) e
    ∙ slot_after_slot (slot_kind a.setup) a.live.now a.defaults.now a.setup.slots (omega arith)
