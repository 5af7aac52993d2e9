-- The outcome of a call: its number and its counts, from its input, its room and the bench before it. Nothing runs here: it is a scan over the records' lengths.
use Rattle.std.specs.Prelude.{ℕ, zero, suc, ◌+◌, ◌-◌, Bool, true, false, List, [], ◌∷◌, ◌++◌, length, ltb}
use Rattle.trace.specs.Format.{when◌then◌else◌, known}
use Rattle.trace.specs.Bench.{cut}

-- a call's number, and how many bytes it consumed and wrote
pub record Outcome : Type 0 where
  pub number : ℕ
  pub consumed : ℕ
  pub written : ℕ

-- nothing is consumed or written
abbrev pub nothing : ℕ → Outcome
nothing n = record { number = n; consumed = 0; written = 0 }

-- the first number that applies: n, if it is not 0, else m
abbrev pub first : ℕ → ℕ → ℕ
first zero m = m
first (suc n) m = suc n

-- a record of these bytes is completed, and its 8 bytes are written, before o
abbrev pub completed : List ℕ → Outcome → Outcome
completed r o = record { number = o.number; consumed = length r + o.consumed; written = 8 + o.written }

-- the next byte is an unknown kind
unfoldable pub unknown_next : List ℕ → Bool
unknown_next [] = false
unknown_next (kind ∷ rest) = when known kind then false else true

-- How far a call gets with whole records and the bytes left after them, in `room` answer bytes: 30, where a record's last byte
-- is next and fewer than 8 are left; 31, where an unknown kind is next; else 0, with everything consumed
unfoldable pub scan : List (List ℕ) → List ℕ → ℕ → Outcome
scan [] left room = when unknown_next left then nothing 31 else record { number = 0; consumed = length left; written = 0 }
scan (r ∷ rs) left room =
    when ltb room 8
    then record { number = 30; consumed = length r - 1; written = 0 }
    else completed r (scan rs left (room - 8))

-- the scan counts from the first carried byte, a call from the first byte of its input
abbrev pub from_input : ℕ → Outcome → Outcome
from_input carried o = record { number = o.number; consumed = o.consumed - carried; written = o.written }

-- the outcome at an accepted bench: 31 where it is broken, else the scan's
unfoldable pub outcome : (carried : List ℕ) → (broken : Bool) → (input : List ℕ) → (room : ℕ) → Outcome
outcome carried broken input room =
    let c = cut (carried ++ input) in
    when broken then nothing 31 else from_input (length carried) (scan c.wholes c.left room)

-- THE OUTCOME: a refused call gives its number and consumes nothing, else 31, 30 or 0
unfoldable pub outcome_of : (refusal : ℕ) → (carried : List ℕ) → (broken : Bool) → (input : List ℕ) → (room : ℕ) → Outcome
outcome_of zero carried broken input room = outcome carried broken input room
outcome_of (suc n) carried broken input room = nothing (suc n)
