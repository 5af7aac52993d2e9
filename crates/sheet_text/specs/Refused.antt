-- Why a sheet is refused.
use Rattle.std.specs.Prelude.{ℕ, ◌-◌, not, List, eqb, drop}
use Rattle.readiness.specs.declared.Setup.{Setup}
use Rattle.text_line.specs.Text.{text_if}
use Rattle.sheet_grammar.specs.Layout.{line_from, fault_in}
use Rattle.sheet_grammar.specs.Reading.{lines_of, sheet_of, place_after}
use Rattle.describe_sheet.specs.Refusals.{refusal_text}
use Rattle.sheet_text.specs.Lines.{about}

-- a text from one of its lines on; lines are counted from 1
abbrev pub from_line : (line : ℕ) (text : List ℕ) → List ℕ
from_line line text = drop (place_after (line - 1) (lines_of text)) text

-- the line about a refusal: its number, and which line is at fault, the first of the rest of the sheet
unfoldable pub refusal_line : (name : List ℕ) (slots number line : ℕ) (rest : List ℕ) → List ℕ
refusal_line name slots number line rest = about name (refusal_text number line slots (line_from rest).line (fault_in rest))

-- that of a sheet, by its name, on a set-up; nothing where it is accepted
unfoldable pub refused_text : (name : List ℕ) → Setup → (text : List ℕ) → List ℕ
refused_text name setup text =
    let got = sheet_of text setup in
    text_if (not (eqb got.number 0)) (refusal_line name setup.slots got.number got.line (from_line got.line text))
