-- Why a sheet is refused (02, Q-1), by the refusal's number.
use Rattle.std.specs.Prelude.{ℕ, ◌+◌, ◌-◌, min, cond, List, ◌++◌, eqb, ltb}
use Rattle.bits.specs.Text.{chars}
use Rattle.times.specs.declared.ClaimedTime.{ClaimedTime}
use Rattle.times.specs.Moments.{greatest_nanos}
use Rattle.sheet_grammar.specs.declared.SheetLine.{SheetLine}
use Rattle.sheet_grammar.specs.declared.Fault.{Fault}
use Rattle.sheet_grammar.specs.Reading.{is_too_long}
use Rattle.text_line.specs.Text.{named}
use Rattle.describe_sheet.specs.Parts.{time_name}
use Rattle.describe_sheet.specs.CodeWords.{too_long_text}

-- a place of a line, counted from 1, as far as 64 bits count
unfoldable pub column_at : (place : ℕ) → ℕ
column_at place = min (place + 1) greatest_nanos

-- the smaller of the slots that a card has and 32
unfoldable pub slots_below : (slots : ℕ) → ℕ
slots_below slots = cond (ltb slots 32) slots 32

-- a field that is a number: the slot, or one of the four times after it
unfoldable pub field_name : (field : ℕ) → List ℕ
field_name field = cond (eqb field 0) (chars "the slot") (chars "the " ++ time_name (field - 1) ++ chars " time")

-- 40: where the line departs from the layout, and what was expected there
unfoldable pub layout_text : Fault → List ℕ
layout_text fault =
    let column = named (chars "40: column ") (column_at fault.place) in
    cond (ltb fault.field 5)
    (column ++ chars ": expected a decimal number of 1 to 10 digits and one space, for " ++ field_name fault.field)
    (column ++ chars ": expected ns, us or ms, and the end of the line (0Ah) after it")

-- 41: a slot that the card hasn't
unfoldable pub no_slot_text : (slots slot : ℕ) → List ℕ
no_slot_text slots slot = named (chars "41: slot ") slot ++ named (chars ": expected a slot below ") (slots_below slots)

-- 42: a slot that was named before
unfoldable pub named_text : (slot : ℕ) → List ℕ
named_text slot = named (chars "42: slot ") slot ++ chars ": named on an earlier line, expected each slot once"

-- 43: a time above the greatest
unfoldable pub one_too_long_text : (which : ℕ) → ClaimedTime → List ℕ
one_too_long_text which c = chars "43: " ++ time_name which ++ chars " " ++ too_long_text c

-- the first of the four that is; the fourth where the others aren't
unfoldable pub first_too_long_text : SheetLine → List ℕ
first_too_long_text l =
    cond (is_too_long l.reset) (one_too_long_text 0 l.reset)
    (cond (is_too_long l.dl_up) (one_too_long_text 1 l.dl_up)
    (cond (is_too_long l.flr) (one_too_long_text 2 l.flr) (one_too_long_text 3 l.d3hot)))

-- the number of a refusal, 40 to 43, and its reason
unfoldable pub reason_text : (number slots : ℕ) → SheetLine → Fault → List ℕ
reason_text number slots l fault =
    cond (eqb number 40) (layout_text fault)
    (cond (eqb number 41) (no_slot_text slots l.slot)
    (cond (eqb number 42) (named_text l.slot) (first_too_long_text l)))

-- the line that refuses a sheet, counted from 1, with the refusal's number and its reason
unfoldable pub refusal_text : (number row slots : ℕ) → SheetLine → Fault → List ℕ
refusal_text number row slots l fault = named (chars "line ") row ++ chars ": " ++ reason_text number slots l fault
