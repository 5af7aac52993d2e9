-- What a sheet says of a slot, as comments of a card file.
use Rattle.std.specs.Prelude.{ℕ, List, ◌++◌}
use Rattle.bits.specs.Text.{chars}
use Rattle.times.specs.declared.Code.{Code}
use Rattle.times.specs.declared.ClaimedTime.{ClaimedTime}
use Rattle.times.specs.Codes.{nanos_of}
use Rattle.text_line.specs.Text.{named}
use Rattle.describe_times.specs.Times.{claim_text, time_text}
use Rattle.describe_sheet.specs.Parts.{slot_time_text, code_text, same_in_nanos_text, rounding_text}

-- a time of a slot as it is claimed
unfoldable pub claimed_comment : (slot which : ℕ) → ClaimedTime → List ℕ
claimed_comment slot which claim =
    chars "# " ++ slot_time_text slot which ++ claim_text claim ++ chars " claimed" ++ same_in_nanos_text claim

-- its code, and the time of that
unfoldable pub code_comment : ClaimedTime → Code → List ℕ
code_comment claim code =
    code_text (chars "; code ") code ++ chars "h = " ++ time_text (nanos_of code) ++ rounding_text claim code

-- a time of a slot on the sheet: the claim, and the code that it is given
unfoldable pub time_comment : (slot which : ℕ) → ClaimedTime → Code → List ℕ
time_comment slot which claim code = claimed_comment slot which claim ++ code_comment claim code

-- a slot that no line names
unfoldable pub unnamed_comment : (slot : ℕ) → List ℕ
unnamed_comment slot = named (chars "# slot ") slot ++ chars ": not on the sheet"
