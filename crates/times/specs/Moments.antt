-- Moments of the bench's clock, in nanoseconds.
use Rattle.std.specs.Prelude.{ℕ, ◌+◌, cond, leb}
use Rattle.times.specs.declared.Nanos.{Nanos}

-- the greatest number of nanoseconds that a Nanos holds
abbrev pub greatest_nanos : ℕ
greatest_nanos = 18446744073709551615

-- the clock goes no further than 10^15
abbrev pub clock_end : ℕ
clock_end = 1000000000000000

-- a moment so much later, or the greatest where that is past it
unfoldable pub sum_of : Nanos → Nanos → Nanos
sum_of t by = record { 0 = cond (leb (t.0 + by.0) greatest_nanos) (t.0 + by.0) greatest_nanos }

-- the earlier of two moments
unfoldable pub least_of : Nanos → Nanos → Nanos
least_of s t = cond (leb s.0 t.0) s t
