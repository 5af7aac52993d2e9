-- The kept moments in a replay image (case stream, version 2), 288 bytes behind the 12 of the replay's own: for each of 32 slots whether the replay made it
-- Ready, and when last. Seen times have the same layout. Numbers are low byte first.
use Rattle.times.specs.declared.Nanos.{Nanos}
use Rattle.std.specs.Prelude.{ℕ, zero, suc, ◌+◌, ◌*◌, Bool, cond, List, [], ◌∷◌, ◌++◌, Option, None, Some}
use Rattle.bits.specs.Every.{every}
use Rattle.state_layout.specs.Numbers.{low_first, time_at, yes}
use Rattle.state_layout.specs.Reading.{yes_or_no}

-- ---- What is written
-- yes and when; no and 0
unfoldable pub moment_bytes : Option Nanos → List ℕ
moment_bytes None = 0 ∷ low_first 8 0
moment_bytes (Some t) = 1 ∷ low_first 8 t.0

-- slot by slot
unfoldable pub moments_bytes : List (Option Nanos) → List ℕ
moments_bytes [] = []
moments_bytes (m ∷ l) = moment_bytes m ++ moments_bytes l

-- ---- What is read
-- each slot says yes or no
unfoldable pub good_moments : List ℕ → Bool
good_moments l = every 32 (λ i. yes_or_no (9 * i) l)

-- slot i's nine bytes
abbrev pub moment_at : (i : ℕ) → List ℕ → Option Nanos
moment_at i l = cond (yes (9 * i) l) (Some (time_at (9 * i + 1) l)) None

-- n slots, from slot i on
unfoldable pub moments_at : (n i : ℕ) → List ℕ → List (Option Nanos)
moments_at zero i l = []
moments_at (suc n) i l = moment_at i l ∷ moments_at n (suc i) l

-- THE MOMENTS
abbrev pub moments_read : List ℕ → List (Option Nanos)
moments_read l = moments_at 32 0 l
