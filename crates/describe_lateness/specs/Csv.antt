-- Comma-separated values: a row for each slot of a capture, with plain integers, empty where there is none.
use Rattle.times.specs.declared.Nanos.{Nanos}
use Rattle.std.specs.Prelude.{ℕ, List, [], ◌++◌, Option, None, Some}
use Rattle.bits.specs.Text.{chars}
use Rattle.text_line.specs.Text.{decimal_of}
use Rattle.lateness.specs.declared.Lateness.{Lateness}
use Rattle.lateness.specs.declared.Lateness.TheVariants.{NoDifference, Of, Outside}
use Rattle.lateness.specs.Lateness.{lateness_of}
use Rattle.describe_lateness.specs.Signed.{plain_text, verdict_text}

abbrev pub header_text : List ℕ
header_text = chars "capture,slot,bench_ns,seen_ns,difference_ns,verdict"

unfoldable pub moment_csv : Option Nanos → List ℕ
moment_csv None = []
moment_csv (Some t) = decimal_of t.0

unfoldable pub difference_csv : Lateness → List ℕ
difference_csv NoDifference = []
difference_csv (Of d) = plain_text d
difference_csv Outside = []

-- early, late or on time; 34 where the difference is refused
unfoldable pub verdict_csv : Lateness → List ℕ
verdict_csv NoDifference = []
verdict_csv (Of d) = verdict_text d
verdict_csv Outside = chars "34"

unfoldable pub times_csv : (bench seen : Option Nanos) → List ℕ
times_csv bench seen = moment_csv bench ++ chars "," ++ moment_csv seen ++ chars ","

unfoldable pub end_csv : Lateness → List ℕ
end_csv d = difference_csv d ++ chars "," ++ verdict_csv d

-- the row of a slot of a capture, whose name stands in it as it is
unfoldable pub row_csv : (capture : List ℕ) (slot : ℕ) (bench seen : Option Nanos) → List ℕ
row_csv capture slot bench seen = capture ++ chars "," ++ decimal_of slot ++ chars "," ++ times_csv bench seen ++ end_csv (lateness_of bench seen)
