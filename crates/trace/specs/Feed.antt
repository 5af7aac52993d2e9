-- One call at an accepted bench, byte by byte.
use Rattle.std.specs.Prelude.{ℕ, ◌+◌, ◌-◌, true, false, List, [], ◌∷◌, ◌++◌, length, ltb}
use Rattle.trace.specs.Format.{when◌then◌else◌, known, body}
use Rattle.trace.specs.Bench.{Device, Ran, Bench}

-- what one call comes to: the bench after it, its number, how many bytes it consumed, and the answers that it wrote, joined
pub record Fed (S : Type 0) : Type 0 where
  pub bench : Bench S
  pub number : ℕ
  pub consumed : ℕ
  pub answers : List ℕ

-- what the next byte does: it is consumed, with an answer or with none; or it ends the call with a number and is not consumed
pub data Step (S : Type 0) : Type 0 where
  took : Bench S → List ℕ → Step S
  stop : ℕ → Bench S → Step S

-- the kind of the record that the byte b belongs to
abbrev pub kind_at : List ℕ → ℕ → ℕ
kind_at [] b = b
kind_at (kind ∷ rest) b = kind

module _ {S : Type 0} where
  abbrev pub stopped : ℕ → Bench S → Fed S
  stopped n p = record { bench = p; number = n; consumed = 0; answers = [] }

  -- n bytes consumed and the answers a written, before f
  abbrev pub later : ℕ → List ℕ → Fed S → Fed S
  later n a f = record { bench = f.bench; number = f.number; consumed = n + f.consumed; answers = a ++ f.answers }

  -- after a byte: go on with the room that is left, or end
  abbrev pub go_on : ℕ → Step S → (Bench S → ℕ → Fed S) → Fed S
  go_on room (took p a) rest = later 1 a (rest p (room - length a))
  go_on room (stop n p) rest = stopped n p

  -- a record has run: nothing is carried
  abbrev pub ran_with : Ran S → Step S
  ran_with x = took (record { state = x.state; carried = []; broken = false }) x.answer

module _ {S : Type 0} (D : Device S) where
  -- a byte that doesn't end its record is carried, and does nothing else
  abbrev pub carries_on : Bench S → ℕ → Step S
  carries_on p b = took (record { state = p.state; carried = p.carried ++ b ∷ []; broken = false }) []

  -- a record's last byte runs it; with fewer than 8 answer bytes left it gives 30 and isn't consumed
  abbrev pub ends_record : Bench S → ℕ → ℕ → Step S
  ends_record p room b = when ltb room 8 then stop 30 p else ran_with (D.run p.state (p.carried ++ b ∷ []))

  -- an unknown kind gives 31, whatever the room is, and isn't consumed; the trace stays broken
  abbrev pub breaks : Bench S → Step S
  breaks p = stop 31 (record { state = p.state; carried = p.carried; broken = true })

  -- THE BYTE b, with `room` answer bytes left
  unfoldable pub byte : Bench S → ℕ → ℕ → Step S
  byte p room b =
      let kind = kind_at p.carried b in
      when known kind
      then (when ltb (length p.carried) (body kind) then carries_on p b else ends_record p room b)
      else breaks p

  -- ONE CALL that isn't refused, at an unbroken bench: byte by byte, until a byte ends it or none is left
  unfoldable pub feed_open : Bench S → ℕ → List ℕ → Fed S
  feed_open p room [] = stopped 0 p
  feed_open p room (b ∷ bs) = go_on room (byte p room b) (λ p' room'. feed_open p' room' bs)
