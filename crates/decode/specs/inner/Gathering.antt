-- What the code gathers from a call's trace.
use Rattle.std.specs.Prelude.{ℕ, ◌<◌, ◌≡◌, List}
use Rattle.trace.specs.Format.{next}
use Rattle.trace.specs.inner.Gathered.{whole_size, end_number, end_count}
use Rattle.records.specs.Decode.{decode}
use Rattle.decode.specs.declared.Ending.{Ending}
use Rattle.decode.specs.declared.Found.{Found}

-- the end of a call that completes no record of `rest`: its number, and how many of the bytes are carried
abbrev pub ending_of : List ℕ → Ending
ending_of rest = record { number = end_number (next rest); count = end_count rest (next rest) }

-- a record that stands whole in front of bs, with room for its answer
pub record StandsNext (room : ℕ) (bs : List ℕ) (found : Found) : Type 0 where
  pub size : found.size ≡ whole_size room (next bs)
  pub some : 0 < found.size
  pub of_bytes : found.«record» ≡ decode bs
