-- Times in words: claims with their unit, and nanoseconds.
use Rattle.std.specs.Prelude.{ℕ, ◌/◌, cond, List, [], ◌++◌, ltb}
use Rattle.bits.specs.Text.{chars}
use Rattle.times.specs.declared.Nanos.{Nanos}
use Rattle.times.specs.declared.Unit.{Unit}
use Rattle.times.specs.declared.Unit.TheVariants.{Ns, Us, Ms}
use Rattle.times.specs.declared.ClaimedTime.{ClaimedTime}
use Rattle.text_line.specs.Text.{decimal_of, grouped_of, three_of, six_of}

-- a unit
unfoldable pub unit_text : Unit → List ℕ
unit_text Ns = chars "ns"
unit_text Us = chars "us"
unit_text Ms = chars "ms"

-- a claim: the number in plain decimal, and its unit
unfoldable pub claim_text : ClaimedTime → List ℕ
claim_text c = decimal_of c.number ++ chars " " ++ unit_text c.unit

-- nanoseconds, thousands grouped
unfoldable pub nanos_text : ℕ → List ℕ
nanos_text n = grouped_of n ++ chars " ns"

-- so many thousandths, and what stands behind them
unfoldable pub thousandths_text : ℕ → List ℕ → List ℕ
thousandths_text n end = grouped_of (n / 1000) ++ chars "." ++ three_of n ++ end

-- nanoseconds once more in us, ms or s, three decimals, the rest cut off; nothing below 1 us
unfoldable pub best_text : ℕ → List ℕ
best_text n =
    cond (ltb n 1000) []
    (cond (ltb n 1000000) (chars " (" ++ thousandths_text n (chars " us)"))
    (cond (ltb n 1000000000) (chars " (" ++ thousandths_text (n / 1000) (chars " ms)"))
    (chars " (" ++ thousandths_text (n / 1000000) (chars " s)"))))

-- a time in nanoseconds, and from 1 us on in the unit that reads best
unfoldable pub time_text : Nanos → List ℕ
time_text t = nanos_text t.0 ++ best_text t.0

-- so many millionths of a millisecond
unfoldable pub millionths_text : ℕ → List ℕ
millionths_text n = grouped_of (n / 1000000) ++ chars "." ++ six_of n ++ chars " ms"

-- a time in a unit, exactly
unfoldable pub in_unit_text : Nanos → Unit → List ℕ
in_unit_text t Ns = nanos_text t.0
in_unit_text t Us = thousandths_text t.0 (chars " us")
in_unit_text t Ms = millionths_text t.0
