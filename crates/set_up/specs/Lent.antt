-- What is lent where the statuses are numbers, four to a slot.
use Rattle.std.specs.Prelude.{ℕ, List}
use Rattle.readiness.specs.inner.Phases.{statuses_in}
use Rattle.records.specs.declared.Port.{Port}
use Rattle.demand3.specs.Held.{Held, held}

abbrev pub held_in : Port → (phases live cells : List ℕ) → Held
held_in port phases live cells = held port (statuses_in phases) live cells
