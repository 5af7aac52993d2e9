-- What is claimed of the difference of a slot (02, Q-7).
use Rattle.std.specs.Prelude.{ℕ, ◌+◌, ◌≤◌, ◌<◌, ◌≡◌, true, ◌⊎◌, ◌↔◌, get_or, ℤ, pos, neg_ℤ, ◌+ℤ◌, Option, None, Some}
use Rattle.std.specs.Int.Signed.{lt_z}
use Rattle.times.specs.declared.Nanos.{Nanos}
use Rattle.times.specs.Moments.{clock_end}
use Rattle.readiness.specs.declared.Moments.{Moments}
use Rattle.readiness.specs.MadeReady.{moments_of}
use Rattle.lateness.specs.declared.Lateness.{Lateness}
use Rattle.lateness.specs.declared.Lateness.TheVariants.{NoDifference, Of, Outside}
use Rattle.lateness.specs.Lateness.{bench_time, minus, lateness_of}

-- THE STATEMENT of the bench time
pub record BenchTimes : Type 0 where
  -- a slot of the card has the moment that the replay keeps
  pub kept : (slots : ℕ) (m : Moments) (slot : ℕ) → slot < slots → slot < 32 → bench_time slots m slot ≡ get_or (moments_of m) slot None
  -- another has none, and so no difference, whatever was seen
  pub past_count : (slots : ℕ) (m : Moments) (slot : ℕ) (seen : Option Nanos) → slots ≤ slot → lateness_of (bench_time slots m slot) seen ≡ NoDifference
  pub past32 : (slots : ℕ) (m : Moments) (slot : ℕ) (seen : Option Nanos) → 32 ≤ slot → lateness_of (bench_time slots m slot) seen ≡ NoDifference

-- more than 10^15 ns lie between two moments
abbrev pub FarApart : (b s : Nanos) → Type 0
FarApart b s = (b.0 + 1000000000000000 < s.0) ⊎ (s.0 + 1000000000000000 < b.0)

-- the same difference with the other sign
abbrev pub negated : Lateness → Lateness
negated NoDifference = NoDifference
negated (Of d) = Of (neg_ℤ d)
negated Outside = Outside

-- THE STATEMENT of the difference
pub record Differences : Type 0 where
  -- there is none exactly if one of the two times is missing
  pub none : (bench seen : Option Nanos) → (lateness_of bench seen ≡ NoDifference) ↔ ((bench ≡ None) ⊎ (seen ≡ None))
  -- with both it is refused exactly if they are more than 10^15 ns apart
  pub outside : (b s : Nanos) → (lateness_of (Some b) (Some s) ≡ Outside) ↔ FarApart b s
  -- else it is the seen time minus the bench time
  pub given : (b s : Nanos) → (FarApart b s → ⊥) → lateness_of (Some b) (Some s) ≡ Of (minus s.0 b.0)
  -- which added to the bench time is the seen time
  pub exact : (b s : Nanos) (d : ℤ) → lateness_of (Some b) (Some s) ≡ Of d → pos b.0 +ℤ d ≡ pos s.0
  -- early, on time, late: seen before the bench time, at it, after it
  pub early : (b s : Nanos) (d : ℤ) → lateness_of (Some b) (Some s) ≡ Of d → (lt_z d (pos 0) ≡ true) ↔ (s.0 < b.0)
  pub on_time : (b s : Nanos) (d : ℤ) → lateness_of (Some b) (Some s) ≡ Of d → (d ≡ pos 0) ↔ (s.0 ≡ b.0)
  pub late : (b s : Nanos) (d : ℤ) → lateness_of (Some b) (Some s) ≡ Of d → (lt_z (pos 0) d ≡ true) ↔ (b.0 < s.0)
  -- two readings of the bench's clock are never too far apart
  pub readings : (b s : Nanos) → b.0 ≤ clock_end → s.0 ≤ clock_end → lateness_of (Some b) (Some s) ≡ Of (minus s.0 b.0)
  -- with seen time and bench time exchanged the sign is the other
  pub exchanged : (bench seen : Option Nanos) → lateness_of seen bench ≡ negated (lateness_of bench seen)
