-- How the code settles one slot alone, where no other slot is due.
use Rattle.std.specs.Prelude.{ℕ, List, [], ◌∷◌}
use Rattle.readiness.specs.declared.Status.{Status}
use Rattle.readiness.specs.declared.Slot.{Slot}
use Rattle.readiness.specs.declared.SlotSettled.{SlotSettled}
use Rattle.readiness.specs.Status.{ready}
use Rattle.readiness.specs.Root.{Root, root, frs_arrive}
use Rattle.readiness.specs.Events.{Event, due_event, frs_of_slot}

-- one slot's status and the root port
pub record SlotScene : Type 0 where
  pub status : Status
  pub root : Root

abbrev pub slot_scene : List ℕ → SlotSettled → SlotScene
slot_scene cells s = record { status = s.status; root = root cells s.port }

-- one slot becomes Ready if its ready time is at or before the clock, and its FRS, if any, arrives
abbrev pub slot_happens : (bus : ℕ) → Slot → SlotScene → List Event → SlotScene
slot_happens bus entry x [] = x
slot_happens bus entry x (e ∷ es) = record { status = ready; root = frs_arrive (frs_of_slot bus entry e.slot e.cause) x.root }

unfoldable pub slot_settles : (bus : ℕ) → Slot → (slot : ℕ) → SlotScene → SlotScene
slot_settles bus entry slot x = slot_happens bus entry x (due_event x.root.dev.clock slot x.status.phase)
