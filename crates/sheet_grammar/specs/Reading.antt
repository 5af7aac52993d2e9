-- What a sheet does to a set-up (02, Q-1).
use Rattle.std.specs.Prelude.{ℕ, zero, suc, ◌+◌, Bool, true, false, ◌&&◌, ◌||◌, not, cond, List, [], ◌∷◌, eqb, ltb, get_or, set, replicate, Option, Some, None}
use Rattle.times.specs.declared.Code.{Code}
use Rattle.times.specs.declared.ClaimedTime.{ClaimedTime}
use Rattle.times.specs.Codes.{greatest_time}
use Rattle.times.specs.Claims.{claimed_nanos}
use Rattle.times.specs.Encoder.{encoded}
use Rattle.readiness.specs.declared.Slot.{Slot}
use Rattle.readiness.specs.declared.Setup.{Setup}
use Rattle.readiness.specs.Blank.{blank_slot}
use Rattle.text_fields.specs.Text.{onto, is_line_end}
use Rattle.sheet_grammar.specs.declared.SheetLine.{SheetLine}
use Rattle.sheet_grammar.specs.declared.LineRead.{LineRead}
use Rattle.sheet_grammar.specs.declared.SheetRead.{SheetRead}
use Rattle.sheet_grammar.specs.Layout.{no_line, line_from}

-- ---- refusals

-- 41: the set-up has no such slot
unfoldable pub is_slot : (slots : ℕ) → SheetLine → Bool
is_slot slots l = ltb l.slot slots && ltb l.slot 32

-- 42: which slots were named before
abbrev pub is_named : List Bool → SheetLine → Bool
is_named named l = get_or named l.slot false

-- 43: a time above 1,006,632,960 ns
unfoldable pub is_too_long : ClaimedTime → Bool
is_too_long c = ltb greatest_time (claimed_nanos c).0

unfoldable pub has_too_long : SheetLine → Bool
has_too_long l = is_too_long l.reset || is_too_long l.dl_up || is_too_long l.flr || is_too_long l.d3hot

-- 0, or the first of 40 to 43 that the line gives
unfoldable pub refusal_of : (slots : ℕ) (named : List Bool) → LineRead → ℕ
refusal_of slots named l =
    cond (not l.fits) 40
    (cond (not (is_slot slots l.line)) 41 (cond (is_named named l.line) 42 (cond (has_too_long l.line) 43 0)))

-- ---- codes

-- the code of a claim
abbrev pub code_or : Code → Option Code → Code
code_or old (Some c) = c
code_or old None = old

-- in 02's numbers: 0 with a code, 43 without one
unfoldable pub code_number : Option Code → ℕ
code_number (Some c) = 0
code_number None = 43

abbrev pub code_for : Code → ClaimedTime → Code
code_for old c = code_or old (encoded (claimed_nanos c))

-- the entry of a slot with the codes of the four times
unfoldable pub with_times : SheetLine → Slot → Slot
with_times l s =
    record {
      reset = code_for s.reset l.reset;
      dl_up = code_for s.dl_up l.dl_up;
      flr = code_for s.flr l.flr;
      d3hot = code_for s.d3hot l.d3hot;
      sends_frs = s.sends_frs;
    }

-- the set-up with the codes of the slot that a line names
unfoldable pub with_line : SheetLine → Setup → Setup
with_line l setup =
    record {
      slots = setup.slots;
      entries = set setup.entries l.slot (with_times l (get_or setup.entries l.slot blank_slot));
      bus = setup.bus;
      port_id = setup.port_id;
    }

-- ---- sheets

-- the lines of a text, each with the 0Ah that ends it; bytes after the last 0Ah are a line too
unfoldable pub lines_of : List ℕ → List (List ℕ)
lines_of [] = []
lines_of (b ∷ text) = cond (is_line_end b) ((b ∷ []) ∷ lines_of text) (onto b (lines_of text))

abbrev pub gives : (number line : ℕ) → Setup → SheetRead
gives number line setup = record { number = number; line = line; setup = setup }

-- lines are read in turn, after n others; the earliest bad one refuses the sheet, and the set-up is the one before
unfoldable pub read_lines : (n : ℕ) → List (List ℕ) → (named : List Bool) → (before now : Setup) → SheetRead
read_lines n [] named before now = gives 0 0 now
read_lines n (line ∷ lines) named before now =
    let l = line_from line in
    let number = refusal_of before.slots named l in
    cond (eqb number 0)
    (read_lines (suc n) lines (set named l.line.slot true) before (with_line l.line now))
    (gives number (suc n) before)

-- what a sheet gives on a set-up
unfoldable pub sheet_of : (text : List ℕ) → Setup → SheetRead
sheet_of text setup = read_lines 0 (lines_of text) (replicate 32 false) setup setup

-- ---- where things stand in a sheet

-- the line that names a slot, the first if there are several, as far as lines have the layout
unfoldable pub line_naming : (slot : ℕ) → List (List ℕ) → LineRead
line_naming slot [] = no_line
line_naming slot (line ∷ lines) =
    let l = line_from line in
    cond l.fits (cond (eqb l.line.slot slot) l (line_naming slot lines)) no_line

-- the place of the byte after n lines, as far as lines have the layout
unfoldable pub place_after : (n : ℕ) → List (List ℕ) → ℕ
place_after zero lines = 0
place_after (suc n) [] = 0
place_after (suc n) (line ∷ lines) =
    let l = line_from line in
    cond l.fits (l.size + place_after n lines) 0
