-- A line of a sheet, read from its bytes: slot number, four times, a unit; one space between, byte 0Ah after the unit.
use Rattle.std.specs.Prelude.{ℕ, zero, suc, ◌+◌, ◌*◌, Bool, true, false, ◌&&◌, ◌||◌, cond, List, [], ◌∷◌, eqb, leb, length, get_or, drop}
use Rattle.times.specs.declared.Unit.{Unit}
use Rattle.times.specs.declared.Unit.TheVariants.{Ns, Us, Ms}
use Rattle.times.specs.declared.ClaimedTime.{ClaimedTime}
use Rattle.text_fields.specs.Text.{is_digit as is_digit_in, digit_value as value_in}
use Rattle.text_fields.specs.declared.Base.TheVariants.{Decimal}
use Rattle.sheet_grammar.specs.declared.SheetLine.{SheetLine}
use Rattle.sheet_grammar.specs.declared.Digits.{Digits}
use Rattle.sheet_grammar.specs.declared.NumberRead.{NumberRead}
use Rattle.sheet_grammar.specs.declared.UnitRead.{UnitRead}
use Rattle.sheet_grammar.specs.declared.LineRead.{LineRead}
use Rattle.sheet_grammar.specs.declared.Fault.{Fault}

-- '0' to '9'
abbrev pub is_digit : ℕ → Bool
is_digit b = is_digit_in Decimal b

-- the number that it is
abbrev pub digit_value : ℕ → ℕ
digit_value b = value_in Decimal b

abbrev pub space : ℕ
space = 0x20

abbrev pub line_end : ℕ
line_end = 0x0A

-- the byte at a place; 0, which no line has, past the end
abbrev pub byte_at : ℕ → List ℕ → ℕ
byte_at at s = get_or s at 0

-- ---- numbers

-- a number has 1 to 10 digits
abbrev pub most_digits : ℕ
most_digits = 10

-- the digits in front, `more` of them at the most, after so many that are such a number
unfoldable pub digits_from : (more count number : ℕ) → List ℕ → Digits
digits_from zero count number s = record { count = count; number = number }
digits_from (suc more) count number [] = record { count = count; number = number }
digits_from (suc more) count number (b ∷ s) =
    cond (is_digit b) (digits_from more (suc count) (number * 10 + digit_value b) s) (record { count = count; number = number })

-- the digits at a place, one more than `most` at the most
abbrev pub digits_at : (most at : ℕ) → List ℕ → Digits
digits_at most at s = digits_from (suc most) 0 0 (drop at s)

-- so many digits, and a space after them
unfoldable pub number_fits : (most count after : ℕ) → Bool
number_fits most count after = leb 1 count && leb count most && eqb after space

-- the place after digits and a space; where they don't fit, that of the first byte that is wrong: the one after the digits, or
-- the first digit too many
unfoldable pub next_place : (most at count : ℕ) (fits : Bool) → ℕ
next_place most at count fits = cond fits (suc (at + count)) (at + cond (leb count most) count most)

-- a number of 1 to `most` digits and the space after it
unfoldable pub number_up_to : (most at : ℕ) → List ℕ → NumberRead
number_up_to most at s =
    let d = digits_at most at s in
    let fits = number_fits most d.count (byte_at (at + d.count) s) in
    record { fits = fits; number = d.number; next = next_place most at d.count fits }

-- a number of a sheet
abbrev pub number_at : ℕ → List ℕ → NumberRead
number_at at s = number_up_to most_digits at s

-- ---- units

-- 'n', 'u' or 'm'
abbrev pub is_unit_letter : ℕ → Bool
is_unit_letter b = eqb b 0x6E || eqb b 0x75 || eqb b 0x6D

abbrev pub unit_of : ℕ → Unit
unit_of b = cond (eqb b 0x6D) Ms (cond (eqb b 0x75) Us Ns)

-- how many of the three bytes of a unit, 's' and 0Ah stand at a place
unfoldable pub unit_bytes : ℕ → List ℕ → ℕ
unit_bytes at s = cond (is_unit_letter (byte_at at s)) (cond (eqb (byte_at (at + 1) s) 0x73) (cond (eqb (byte_at (at + 2) s) line_end) 3 2) 1) 0

unfoldable pub unit_at : ℕ → List ℕ → UnitRead
unit_at at s = record { fits = eqb (unit_bytes at s) 3; unit = unit_of (byte_at at s); next = at + unit_bytes at s }

-- ---- lines

abbrev pub claim : ℕ → Unit → ClaimedTime
claim number unit = record { number = number; unit = unit }

abbrev pub no_line : LineRead
no_line =
    record {
      fits = false;
      line = record { slot = 0; reset = claim 0 Ns; dl_up = claim 0 Ns; flr = claim 0 Ns; d3hot = claim 0 Ns };
      size = 0;
    }

-- a line that fits is read, with its bytes
abbrev pub read_if : (fits : Bool) → SheetLine → (size : ℕ) → LineRead
read_if fits line size = cond fits (record { fits = true; line = line; size = size }) no_line

-- the line in front of a text: the six fields one after the other
unfoldable pub line_from : List ℕ → LineRead
line_from s =
    let slot = number_at 0 s in
    let reset = number_at slot.next s in
    let dl_up = number_at reset.next s in
    let flr = number_at dl_up.next s in
    let d3hot = number_at flr.next s in
    let u = unit_at d3hot.next s in
    read_if (slot.fits && reset.fits && dl_up.fits && flr.fits && d3hot.fits && u.fits)
    (record {
      slot = slot.number;
      reset = claim reset.number u.unit;
      dl_up = claim dl_up.number u.unit;
      flr = claim flr.number u.unit;
      d3hot = claim d3hot.number u.unit;
    })
    u.next

-- ---- single words, as people type them

-- the whole text is a number of 1 to 10 digits
unfoldable pub number_in : List ℕ → NumberRead
number_in s =
    let d = digits_at most_digits 0 s in
    record { fits = leb 1 d.count && leb d.count most_digits && eqb d.count (length s); number = d.number; next = d.count }

-- the whole text is ns, us or ms
unfoldable pub unit_in : List ℕ → UnitRead
unit_in s = record { fits = is_unit_letter (byte_at 0 s) && eqb (byte_at 1 s) 0x73 && eqb (length s) 2; unit = unit_of (byte_at 0 s); next = length s }

-- ---- what is wrong

-- where a text departs from the layout of a line: the first field that doesn't fit
unfoldable pub fault_in : List ℕ → Fault
fault_in s =
    let slot = number_at 0 s in
    let reset = number_at slot.next s in
    let dl_up = number_at reset.next s in
    let flr = number_at dl_up.next s in
    let d3hot = number_at flr.next s in
    cond slot.fits (cond reset.fits (cond dl_up.fits (cond flr.fits (cond d3hot.fits
    (record { field = 5; place = (unit_at d3hot.next s).next })
    (record { field = 4; place = d3hot.next }))
    (record { field = 3; place = flr.next }))
    (record { field = 2; place = dl_up.next }))
    (record { field = 1; place = reset.next }))
    (record { field = 0; place = slot.next })
