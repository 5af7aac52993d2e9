-- `execute::card::reset_links` meets its contract: the slots before slot i are reset, one after the other.
use Prim.Native.Nat.{◌≤◌}
use mathlib.Core.Path.{◌≡◌}
use Rattle.config_space.specs.inner.SlotAfterSlot.{link_reset_below}
use Rattle.records.specs.State.{slot_kind}
use Rattle.execute.proofs.card.reset_links.Given as goal

abbrev pub invariant-loop-i : goal.invariant-loop-i
invariant-loop-i l =
    (l.i ≤ l.setup.slots) × (l.live ≡ link_reset_below (slot_kind l.setup) l.i l.initial.live l.defaults)
