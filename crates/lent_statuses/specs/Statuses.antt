-- Slot statuses, copied from the slice that is lent and back to it.
use Rattle.std.specs.Prelude.{List, ◌++◌, length, take, drop}
use Rattle.readiness.specs.declared.Status.{Status}

-- an array over the statuses that are lent: as many as both have; what is lent past the array stays
abbrev pub stored_over : List Status → (array : List Status) → List Status
stored_over statuses array = take (length statuses) array ++ drop (length array) statuses
