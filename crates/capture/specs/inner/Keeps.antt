-- What the code's types hold of the state of a replay.
use Rattle.std.specs.Prelude.{◌≤◌, ◌<◌, length, None, Some}
use Rattle.ticks.specs.Ticks.{wraps}
use Rattle.trace.specs.Format.{Bytes}
use Rattle.capture.specs.Advances.{Earlier}
use Rattle.capture.specs.Replay.{Progress}

-- an earlier stamp of 32 bits
abbrev pub Stamped : Earlier → Type 0
Stamped None = Unit {0}
Stamped (Some e) = e.0 < wraps

-- a stamp of at most 4 bytes, at most 2 advances, 32 or 33
pub record Fits (r : Progress) : Type 0 where
  pub stamp : length r.stamp ≤ 4
  pub bytes : Bytes r.stamp
  pub earlier : Stamped r.earlier
  pub answered : r.answered ≤ 2
  pub ended : r.ended ≤ 33
