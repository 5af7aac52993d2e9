-- The first of the slots that become Ready, whether one does, and whether one waits on.
use Rattle.std.specs.Prelude.{Bool, false, not, ◌&&◌, ◌||◌, List, [], ◌∷◌, leb, Option, None, Some}
use Rattle.times.specs.declared.Nanos.{Nanos}
use Rattle.readiness.specs.declared.Phase.{Phase}
use Rattle.readiness.specs.declared.Phase.TheVariants.{Down, Pending, Ready}
use Rattle.readiness.specs.declared.Status.{Status}
use Rattle.readiness.specs.declared.Cause.{Cause}
use Rattle.readiness.specs.Status.{is_ready}
use Rattle.readiness.specs.Events.{Event}

-- the cause and the ready time of the first of the slots that become Ready, if any
abbrev pub first_due : List Event → Option (Cause × Nanos)
first_due [] = None
first_due (e ∷ l) = Some (e.cause, e.time)

-- the slot's ready time is at or before a moment
abbrev pub due_by : Nanos → Phase → Bool
due_by moment Down = false
due_by moment Ready = false
due_by moment (Pending cause t) = leb t.0 moment.0

-- the slot isn't Ready once a moment has come: it isn't now, and its ready time, if any, is later
abbrev pub waits : Nanos → Status → Bool
waits moment s = not (is_ready s) && not (due_by moment s.phase)

-- one of the slots isn't
unfoldable pub some_waits : Nanos → List Status → Bool
some_waits moment [] = false
some_waits moment (s ∷ l) = waits moment s || some_waits moment l
