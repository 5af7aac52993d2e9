-- Times as suppliers claim them (02, Q-1): a number and a unit that is ns, us or ms.
use Rattle.std.specs.Prelude.{ℕ, ◌*◌, min}
use Rattle.times.specs.declared.Nanos.{Nanos}
use Rattle.times.specs.declared.Unit.{Unit}
use Rattle.times.specs.declared.Unit.TheVariants.{Ns, Us, Ms}
use Rattle.times.specs.declared.ClaimedTime.{ClaimedTime}
use Rattle.times.specs.Moments.{greatest_nanos}

-- the nanoseconds in a unit
unfoldable pub nanos_in : Unit → ℕ
nanos_in Ns = 1
nanos_in Us = 1000
nanos_in Ms = 1000000

-- a claim in nanoseconds, or the greatest that a Nanos holds where that is past it
unfoldable pub claimed_nanos : ClaimedTime → Nanos
claimed_nanos c = record { 0 = min (c.number * nanos_in c.unit) greatest_nanos }
