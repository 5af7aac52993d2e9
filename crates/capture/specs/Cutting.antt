-- How the bytes of a capture are cut into calls doesn't matter.
use Rattle.std.specs.Prelude.{ℕ, ◌+◌, ◌<◌, ◌≡◌, List, ◌++◌, length, take, drop}
use Rattle.trace.specs.Format.{Bytes}
use Rattle.trace.specs.Lent.{Lent, Left}
use Rattle.capture.specs.Lent.{Held, replays}

-- the call w is the calls x and y, one after the other
pub record InTwo {H : Type 0} (x y w : Left (Held H)) : Type 0 where
  pub number : w.number ≡ y.number
  pub consumed : w.consumed ≡ x.consumed + y.consumed
  pub written : w.written ≡ x.written + y.written
  pub answers : take w.written w.answers ≡ take x.written x.answers ++ take y.written y.answers
  pub held : w.held ≡ y.held

-- Two calls whose inputs join are one call: the first gave 0, or 30 for want of room; the second gets what the first did not consume, and more; and the one
-- call has room for what the first wrote and all of the second's room
abbrev pub CutsAnywhere : {S H : Type 0} → Lent S H → Held H → Type 0
CutsAnywhere L h =
    (one two room room' all : List ℕ) → Bytes one → Bytes two
    → (let x = replays L h one room in
    let y = replays L x.held (drop x.consumed one ++ two) room' in
    x.number < 31 → length all ≡ x.written + length room' → InTwo x y (replays L h (one ++ two) all))
