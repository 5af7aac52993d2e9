-- The earliest ready time, and moments before which no slot becomes Ready.
use Rattle.std.specs.Prelude.{◌≤◌, List, [], ◌∷◌}
use Rattle.times.specs.declared.Nanos.{Nanos}
use Rattle.times.specs.Moments.{greatest_nanos, least_of}
use Rattle.readiness.specs.declared.Phase.{Phase}
use Rattle.readiness.specs.declared.Phase.TheVariants.{Down, Pending, Ready}
use Rattle.readiness.specs.declared.Status.{Status}

-- the greatest moment there is, which no sound clock reaches
abbrev pub never : Nanos
never = record { 0 = greatest_nanos }

-- a Pending slot's ready time
abbrev pub ready_time : Phase → Nanos
ready_time Down = never
ready_time Ready = never
ready_time (Pending cause t) = t

-- the earliest ready time of all Pending slots
unfoldable pub earliest_ready : List Status → Nanos
earliest_ready [] = never
earliest_ready (s ∷ l) = least_of (ready_time s.phase) (earliest_ready l)

-- the slot does not become Ready before e
abbrev pub PhaseFrom : Nanos → Phase → Type 0
PhaseFrom e Down = Unit {0}
PhaseFrom e Ready = Unit {0}
PhaseFrom e (Pending cause t) = e.0 ≤ t.0

-- no slot becomes Ready before e: every Pending slot's ready time is at or after it
abbrev pub ReadyFrom : Nanos → List Status → Type 0
ReadyFrom e [] = Unit {0}
ReadyFrom e (s ∷ l) = PhaseFrom e s.phase × ReadyFrom e l
