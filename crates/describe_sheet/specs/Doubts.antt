-- Codes far from those that the card had.
use Rattle.std.specs.Prelude.{ℕ, List, [], ◌++◌, Option, Some, None}
use Rattle.bits.specs.Text.{chars}
use Rattle.times.specs.declared.Code.{Code}
use Rattle.times.specs.declared.ClaimedTime.{ClaimedTime}
use Rattle.times.specs.Codes.{nanos_of}
use Rattle.sheet_grammar.specs.declared.Doubt.{Doubt}
use Rattle.sheet_grammar.specs.declared.Doubt.TheVariants.{AskUnit, OneIsZero}
use Rattle.describe_times.specs.Times.{claim_text, time_text}
use Rattle.describe_sheet.specs.Parts.{slot_time_text}

-- a claim, the time of its code, and the time that the card had
unfoldable pub both_text : (slot which : ℕ) → ClaimedTime → (before after : Code) → List ℕ
both_text slot which claim before after =
    slot_time_text slot which
    ++ claim_text claim
    ++ chars " is coded as "
    ++ time_text (nanos_of after)
    ++ chars ", the card had "
    ++ time_text (nanos_of before)

-- what is to be said of a code that a sheet gives, beside the one that was there before; nothing without a doubt
unfoldable pub doubt_text : (slot which : ℕ) → ClaimedTime → (before after : Code) → Option Doubt → List ℕ
doubt_text slot which claim before after None = []
doubt_text slot which claim before after (Some AskUnit) = both_text slot which claim before after ++ chars ": is the unit right?"
doubt_text slot which claim before after (Some OneIsZero) = both_text slot which claim before after
