-- A state where the statuses are numbers, four to a slot.
use Rattle.std.specs.Prelude.{ℕ, ◌*◌, ◌≤◌, ◌≡◌, List, length}
use Rattle.readiness.specs.declared.Dev.{Dev}
use Rattle.readiness.specs.declared.Setup.{Setup}
use Rattle.readiness.specs.inner.Phases.{statuses_in}
use Rattle.records.specs.State.{State, state}

abbrev pub state_in : Dev → (phases live cells : List ℕ) → State
state_in dev phases live cells = state dev (statuses_in phases) live cells

-- at most 32 slots, a status for each, and no more live registers than they have
abbrev pub OfCard : Setup → (phases live : List ℕ) → Type 0
OfCard setup phases live = (setup.slots ≤ 32) × (length (statuses_in phases) ≡ setup.slots) × (length live ≤ setup.slots * 64)
