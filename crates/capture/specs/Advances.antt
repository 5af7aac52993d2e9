-- The advances that two neighbouring stamps stand for (02, Q-5).
use Rattle.std.specs.Prelude.{ℕ, ◌+◌, ◌-◌, ◌*◌, ◌/◌, ◌%◌, Bool, false, List, [], ◌∷◌, ◌++◌, length, leb, eqb, Option, Some, None}
use Rattle.bits.specs.Bytes.{byte_at}
use Rattle.times.specs.declared.Nanos.{Nanos}
use Rattle.ticks.specs.declared.Stamp.{Stamp}
use Rattle.ticks.specs.Ticks.{difference, went_back, in_nanos}
use Rattle.trace.specs.Format.{when◌then◌else◌}

-- ---- Stamps
-- 4 bytes, low byte first
unfoldable pub stamp_in : List ℕ → Stamp
stamp_in bytes = record { 0 = byte_at bytes 0 + 256 * byte_at bytes 1 + 65536 * byte_at bytes 2 + 16777216 * byte_at bytes 3 }

-- the stamp of the record before: there is none before the first
abbrev pub Earlier : Type 0
Earlier = Option Stamp

-- the recorder went back; the first stamp never does
unfoldable pub back : Earlier → Stamp → Bool
back None stamp = false
back (Some e) stamp = went_back (difference e stamp)

-- ---- Advances
-- the longest that one record 01 can say
abbrev pub longest_advance : Nanos
longest_advance = record { 0 = 4294967295 }

-- what is left after it
abbrev pub rest : Nanos → Nanos
rest t = record { 0 = t.0 - longest_advance.0 }

-- "a difference of 0 gives no advance. Above 4,294,967,295 ns, advances of that size come first, then the rest": fewer than 2^31 ticks are fewer than twice that
unfoldable pub advances : Nanos → List Nanos
advances t = when eqb t.0 0 then [] else (when leb t.0 longest_advance.0 then t ∷ [] else longest_advance ∷ rest t ∷ [])

-- the advances from the stamp before to this one: the first stamp has none
unfoldable pub between : Earlier → Stamp → List Nanos
between None stamp = []
between (Some e) stamp = advances (in_nanos (difference e stamp))

-- THE ADVANCES DUE after the stamp bytes that are there: none until all 4 are, and none where the recorder went back
unfoldable pub due : Earlier → (stamp : List ℕ) → List Nanos
due e stamp = when eqb (length stamp) 4 then (when back e (stamp_in stamp) then [] else between e (stamp_in stamp)) else []

-- ---- As records
-- a record 01
unfoldable pub advance : Nanos → List ℕ
advance t = 1 ∷ t.0 % 256 ∷ t.0 / 256 % 256 ∷ t.0 / 65536 % 256 ∷ t.0 / 16777216 % 256 ∷ []

-- several, as the bytes of a trace
abbrev pub advance_bytes : List Nanos → List ℕ
advance_bytes [] = []
advance_bytes (t ∷ more) = advance t ++ advance_bytes more
