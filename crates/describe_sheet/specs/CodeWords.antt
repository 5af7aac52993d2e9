-- A claim and its code.
use Rattle.std.specs.Prelude.{ℕ, ◌-◌, cond, List, [], ◌++◌}
use Rattle.bits.specs.Text.{chars}
use Rattle.times.specs.declared.Code.{Code}
use Rattle.times.specs.declared.Unit.{Unit}
use Rattle.times.specs.declared.ClaimedTime.{ClaimedTime}
use Rattle.times.specs.Codes.{nanos_of, greatest_time}
use Rattle.times.specs.Claims.{claimed_nanos}
use Rattle.text_line.specs.Text.{named}
use Rattle.describe_times.specs.Times.{claim_text, nanos_text, in_unit_text}
use Rattle.describe_sheet.specs.Parts.{code_text, is_ns, same_in_nanos_text, rounding_text}

-- a claim, and its nanoseconds where its unit is another
unfoldable pub claimed_text : ClaimedTime → List ℕ
claimed_text c = claim_text c ++ same_in_nanos_text c

-- a code's time in a unit, where that isn't ns
unfoldable pub same_in_unit_text : Code → Unit → List ℕ
same_in_unit_text code u = cond (is_ns u) [] (chars " = " ++ in_unit_text (nanos_of code) u)

-- a code after its name, and its time, also in the claim's unit
unfoldable pub coded_text : List ℕ → ClaimedTime → Code → List ℕ
coded_text name c code =
    code_text name code ++ chars "h: " ++ nanos_text (nanos_of code).0 ++ same_in_unit_text code c.unit

-- the code that a claim is given
unfoldable pub given_text : ClaimedTime → Code → List ℕ
given_text c code = coded_text (chars "code ") c code ++ rounding_text c code

-- the code of the next smaller time, and by how much it is below the claim; 0 ns where it isn't
unfoldable pub lower_text : ClaimedTime → Code → List ℕ
lower_text c code =
    coded_text (chars "next lower ") c code
    ++ chars ", "
    ++ nanos_text ((claimed_nanos c).0 - (nanos_of code).0)
    ++ chars " too short"

-- that there is no smaller time
unfoldable pub no_lower_text : List ℕ
no_lower_text = chars "no lower code: 0 ns is the least time"

-- a claim above the greatest time, in plain decimals
unfoldable pub too_long_text : ClaimedTime → List ℕ
too_long_text c =
    claim_text c ++ named (chars " is ") (claimed_nanos c).0 ++ named (chars " ns, above ") greatest_time ++ chars " ns"
