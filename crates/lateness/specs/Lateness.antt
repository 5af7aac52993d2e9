-- The difference of a slot (02, Q-7): "the seen time minus the bench time in signed nanoseconds".
use Rattle.times.specs.declared.Nanos.{Nanos}
use Rattle.std.specs.Prelude.{ℕ, Bool, cond, leb, get_or, ℤ, pos, nat_abs, ◌-ℤ◌, Option, None, Some}
use Rattle.readiness.specs.declared.Moments.{Moments}
use Rattle.readiness.specs.MadeReady.{moments_of}
use Rattle.lateness.specs.declared.Lateness.{Lateness}
use Rattle.lateness.specs.declared.Lateness.TheVariants.{NoDifference, Of, Outside}

-- THE BENCH TIME of a slot is when the replay last made it Ready; a slot that isn't below the count, or not below 32, has none
unfoldable pub bench_time : (slots : ℕ) → Moments → (slot : ℕ) → Option Nanos
bench_time slots m slot = cond (leb slots slot) None (cond (leb 32 slot) None (get_or (moments_of m) slot None))

-- the seen time minus the bench time: negative if the card was early
abbrev pub minus : (seen bench : ℕ) → ℤ
minus seen bench = pos seen -ℤ pos bench

-- 10^15 ns
abbrev pub greatest_difference : ℕ
greatest_difference = 1000000000000000

-- within ±10^15 ns, the edges too
unfoldable pub within : ℤ → Bool
within d = leb (nat_abs d) greatest_difference

-- "a difference outside ±10^15 ns .. is refused"
unfoldable pub apart : (seen bench : ℕ) → Lateness
apart seen bench = cond (within (minus seen bench)) (Of (minus seen bench)) Outside

-- "without both there is no difference"
unfoldable pub lateness_of : (bench seen : Option Nanos) → Lateness
lateness_of None seen = NoDifference
lateness_of (Some b) None = NoDifference
lateness_of (Some b) (Some s) = apart s.0 b.0

-- in numbers: 0 none, 1 a difference, 34 refused
unfoldable pub lateness_number : Lateness → ℕ
lateness_number NoDifference = 0
lateness_number (Of d) = 1
lateness_number Outside = 34

-- the difference, 0 where there is none
unfoldable pub lateness_value : Lateness → ℤ
lateness_value NoDifference = pos 0
lateness_value (Of d) = d
lateness_value Outside = pos 0
