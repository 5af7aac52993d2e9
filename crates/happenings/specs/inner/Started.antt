-- The status of a slot once a write has done its part.
use Rattle.std.specs.Prelude.{Bool, true, false}
use Rattle.times.specs.declared.Nanos.{Nanos}
use Rattle.readiness.specs.declared.Slot.{Slot}
use Rattle.readiness.specs.declared.Status.{Status}
use Rattle.readiness.specs.Status.{started_by_flr, started_by_d3hot}
use Rattle.happenings.specs.declared.Note.{Note}
use Rattle.happenings.specs.declared.Note.TheVariants.{Plain, FlrStarted, NoFlr, EntersD3hot, WakesReset, WakesKept}

-- the slot starts anew
unfoldable pub is_start : Note → Bool
is_start FlrStarted = true
is_start WakesReset = true
is_start WakesKept = true
is_start NoFlr = false
is_start EntersD3hot = false
is_start Plain = false

unfoldable pub started_by : Note → Nanos → Slot → Status → Status
started_by FlrStarted clock entry status = started_by_flr clock entry
started_by WakesReset clock entry status = started_by_d3hot clock entry
started_by WakesKept clock entry status = started_by_d3hot clock entry
started_by NoFlr clock entry status = status
started_by EntersD3hot clock entry status = status
started_by Plain clock entry status = status
