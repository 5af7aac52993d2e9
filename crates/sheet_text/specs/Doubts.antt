-- Where the unit of a sheet may be wrong: a line for each time with a doubt.
use Rattle.std.specs.Prelude.{ℕ, suc, List, [], ◌∷◌, ◌++◌, Option, Some, None}
use Rattle.times.specs.declared.Code.{Code}
use Rattle.times.specs.declared.ClaimedTime.{ClaimedTime}
use Rattle.readiness.specs.declared.Slot.{Slot}
use Rattle.readiness.specs.declared.Setup.{Setup}
use Rattle.text_line.specs.Text.{text_if}
use Rattle.sheet_grammar.specs.declared.SheetLine.{SheetLine}
use Rattle.sheet_grammar.specs.declared.LineRead.{LineRead}
use Rattle.sheet_grammar.specs.declared.Doubt.{Doubt}
use Rattle.sheet_grammar.specs.Reading.{lines_of, line_naming}
use Rattle.sheet_grammar.specs.Doubts.{doubt_of}
use Rattle.describe_sheet.specs.Doubts.{doubt_text}
use Rattle.sheet_text.specs.Lines.{about}

-- the line about a doubt; nothing without one
abbrev pub doubt_line : (name : List ℕ) (slot which : ℕ) → ClaimedTime → (before after : Code) → Option Doubt → List ℕ
doubt_line name slot which claim before after (Some d) = about name (doubt_text slot which claim before after (Some d))
doubt_line name slot which claim before after None = []

-- the line of a time, where there is a doubt
unfoldable pub time_doubt : (name : List ℕ) (slot which : ℕ) → ClaimedTime → (before after : Code) → List ℕ
time_doubt name slot which claim before after = doubt_line name slot which claim before after (doubt_of before after)

-- the lines of the four times of a slot
unfoldable pub times_doubts : (name : List ℕ) (slot : ℕ) → SheetLine → (before after : Slot) → List ℕ
times_doubts name slot l before after =
    time_doubt name slot 0 l.reset before.reset after.reset
    ++ time_doubt name slot 1 l.dl_up before.dl_up after.dl_up
    ++ time_doubt name slot 2 l.flr before.flr after.flr
    ++ time_doubt name slot 3 l.d3hot before.d3hot after.d3hot

-- a slot that the sheet doesn't name has none
unfoldable pub slot_doubts : (name : List ℕ) (slot : ℕ) → LineRead → (before after : Slot) → List ℕ
slot_doubts name slot l before after = text_if l.fits (times_doubts name slot l.line before after)

-- the slots from this one on, by their entries before and after
unfoldable pub doubts_from : (name : List ℕ) (slot : ℕ) (lines : List (List ℕ)) → (before after : List Slot) → List ℕ
doubts_from name slot lines [] after = []
doubts_from name slot lines (b ∷ before) [] = []
doubts_from name slot lines (b ∷ before) (a ∷ after) =
    slot_doubts name slot (line_naming slot lines) b a ++ doubts_from name (suc slot) lines before after

-- the lines about a sheet, by its name and its text, that led from one set-up to another
unfoldable pub doubts_text : (name : List ℕ) → (before after : Setup) → (text : List ℕ) → List ℕ
doubts_text name before after text = doubts_from name 0 (lines_of text) before.entries after.entries
