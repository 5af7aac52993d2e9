-- The code of one time, in lines.
use Rattle.std.specs.Prelude.{ℕ, List, [], ◌++◌, Option, Some, None}
use Rattle.times.specs.declared.Code.{Code}
use Rattle.times.specs.declared.ClaimedTime.{ClaimedTime}
use Rattle.times.specs.Claims.{claimed_nanos}
use Rattle.times.specs.Encoder.{encoded, next_lower}
use Rattle.bits.specs.Text.{chars}
use Rattle.describe_sheet.specs.CodeWords.{claimed_text, given_text, lower_text, no_lower_text, too_long_text}
use Rattle.sheet_text.specs.Lines.{ended}

-- the next lower code, or that there is none
unfoldable pub lower_line : ClaimedTime → Option Code → List ℕ
lower_line c (Some lower) = ended (lower_text c lower)
lower_line c None = ended no_lower_text

-- the claim, its code and the next lower one; nothing for a time without a code
unfoldable pub lines_of_code : ClaimedTime → Option Code → List ℕ
lines_of_code c (Some code) = ended (claimed_text c) ++ ended (given_text c code) ++ lower_line c (next_lower code)
lines_of_code c None = []

abbrev pub code_lines : ClaimedTime → List ℕ
code_lines c = lines_of_code c (encoded (claimed_nanos c))

-- a time without a code: 43, and by how much it is too long
unfoldable pub too_long_line : ClaimedTime → List ℕ
too_long_line c = ended (chars "43: " ++ too_long_text c)
