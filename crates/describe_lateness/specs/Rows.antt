-- A slot's line of the table: bench time, seen time, and the difference or what is missing.
use Rattle.std.specs.Prelude.{ℕ, ◌/◌, List, ◌++◌, ltb, ℤ, Option, None, Some}
use Rattle.bits.specs.Text.{chars}
use Rattle.times.specs.declared.Nanos.{Nanos}
use Rattle.text_line.specs.Text.{decimal_of, text_if}
use Rattle.lateness.specs.declared.Lateness.{Lateness}
use Rattle.lateness.specs.declared.Lateness.TheVariants.{NoDifference, Of, Outside}
use Rattle.lateness.specs.Lateness.{lateness_of}
use Rattle.describe_times.specs.Times.{nanos_text}
use Rattle.describe_lateness.specs.Signed.{difference_text, verdict_text}

-- blanks before a group of three digits that isn't full
unfoldable pub group_margin : ℕ → List ℕ
group_margin n = text_if (ltb n 10) (chars " ") ++ text_if (ltb n 100) (chars " ") ++ text_if (ltb n 1000) (chars "  ")

-- blanks before a number, so that numbers up to ten digits stand below one another
unfoldable pub margin_text : ℕ → List ℕ
margin_text n = group_margin n ++ group_margin (n / 1000) ++ group_margin (n / 1000000)

-- a name, and a time in its column
unfoldable pub column_text : List ℕ → Nanos → List ℕ
column_text name t = name ++ margin_text t.0 ++ nanos_text t.0

unfoldable pub slot_text : ℕ → List ℕ
slot_text slot = chars "slot " ++ text_if (ltb slot 10) (chars " ") ++ decimal_of slot

unfoldable pub bench_text : Option Nanos → List ℕ
bench_text None = chars "  bench not made Ready"
bench_text (Some t) = column_text (chars "  bench ") t

unfoldable pub seen_text : Option Nanos → List ℕ
seen_text None = chars "  not seen"
seen_text (Some t) = column_text (chars "  seen ") t

-- why there is no difference
unfoldable pub missing_text : (bench : Option Nanos) → List ℕ
missing_text None = chars "  no difference: the replay did not make it Ready"
missing_text (Some t) = chars "  no difference: no seen time"

unfoldable pub within_text : ℤ → List ℕ
within_text d = chars "  " ++ difference_text d ++ chars "  " ++ verdict_text d

unfoldable pub note_text : (bench : Option Nanos) → Lateness → List ℕ
note_text bench NoDifference = missing_text bench
note_text bench (Of d) = within_text d
note_text bench Outside = chars "  34 (difference outside +/-10^15 ns)"

-- the whole line of a slot
unfoldable pub row_text : (slot : ℕ) (bench seen : Option Nanos) → List ℕ
row_text slot bench seen = slot_text slot ++ bench_text bench ++ seen_text seen ++ note_text bench (lateness_of bench seen)
