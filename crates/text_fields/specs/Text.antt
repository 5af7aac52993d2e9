-- Text: lines, the fields of a line, and numbers in fields.
use Rattle.std.specs.Prelude.{ℕ, zero, suc, ◌+◌, ◌-◌, ◌*◌, Bool, true, false, not, ◌&&◌, ◌||◌, cond, List, [], ◌∷◌, eqb, leb, length, take, drop, Option, Some, None, is_some, unwrap_or, ◌≡◌, ◌<◌}
use Rattle.std.specs.Str.{bytes_eq}
use Rattle.text_fields.specs.declared.Base.{Base}
use Rattle.text_fields.specs.declared.Base.TheVariants.{Decimal, Hex}
use Rattle.text_fields.specs.declared.Numeral.{Numeral}

-- the bytes from one place up to, not including, another
abbrev pub part : (from to : ℕ) → List ℕ → List ℕ
part from to s = take (to - from) (drop from s)

-- ---- lines

-- 0Ah ends a line
abbrev pub is_line_end : ℕ → Bool
is_line_end b = eqb b 0x0A

unfoldable pub in_line : ℕ → Bool
in_line b = not (is_line_end b)

-- a byte in front of the first line
abbrev pub onto : ℕ → List (List ℕ) → List (List ℕ)
onto b [] = (b ∷ []) ∷ []
onto b (line ∷ lines) = (b ∷ line) ∷ lines

-- the lines of a text, without their 0Ah; the last may lack it
unfoldable pub lines_of : List ℕ → List (List ℕ)
lines_of [] = []
lines_of (b ∷ text) = cond (in_line b) (onto b (lines_of text)) ([] ∷ lines_of text)

-- ---- fields

-- blanks: space, tab, carriage return
unfoldable pub is_blank : ℕ → Bool
is_blank b = eqb b 0x20 || eqb b 0x09 || eqb b 0x0D

-- '#' starts a comment
abbrev pub starts_comment : ℕ → Bool
starts_comment b = eqb b 0x23

-- a field has no blanks, and no comment starts in it
unfoldable pub in_field : ℕ → Bool
in_field b = not (is_blank b || starts_comment b)

-- how many bytes from the front on pass a test
unfoldable pub run : (ℕ → Bool) → List ℕ → ℕ
run p [] = 0
run p (b ∷ s) = cond (p b) (suc (run p s)) 0

-- a test of bytes by its calls: each gives what the test says
abbrev pub TellsBy : (call : ℕ → Bool → Type 0) → (ℕ → Bool) → Type 0
TellsBy call p = (b : ℕ) (r : Bool) → b < 256 → call b r → r ≡ p b

-- the first place from `at` on whose byte does not pass a test, or the end
abbrev pub run_end : (ℕ → Bool) → ℕ → List ℕ → ℕ
run_end p at s = at + run p (drop at s)

-- where field k starts, counted from 0; fields stand apart by blanks, and blanks may stand before the first
unfoldable pub field_start : ℕ → List ℕ → ℕ
field_start zero line = run_end is_blank 0 line
field_start (suc k) line = run_end is_blank (run_end in_field (field_start k line) line) line

-- and where it ends
abbrev pub field_end : ℕ → List ℕ → ℕ
field_end k line = run_end in_field (field_start k line) line

-- the bytes of field k
abbrev pub field : ℕ → List ℕ → List ℕ
field k line = part (field_start k line) (field_end k line) line

-- the line has no field k: a comment or the end stands there
unfoldable pub no_field : ℕ → List ℕ → Bool
no_field k line = eqb (field_start k line) (field_end k line)

-- the same bytes
abbrev pub same : List ℕ → List ℕ → Bool
same s t = bytes_eq s t

-- ---- numbers

abbrev pub base_of : Base → ℕ
base_of Decimal = 10
base_of Hex = 16

abbrev pub is_hex : Base → Bool
is_hex Decimal = false
is_hex Hex = true

-- '0' to '9'; in hex also 'A' to 'F' and 'a' to 'f'
unfoldable pub digit_of : Base → ℕ → Option ℕ
digit_of base b =
    cond (leb 0x30 b && leb b 0x39) (Some (b - 0x30))
    (cond (is_hex base && (leb 0x41 b && leb b 0x46)) (Some (b - 0x41 + 10))
    (cond (is_hex base && (leb 0x61 b && leb b 0x66)) (Some (b - 0x61 + 10)) None))

abbrev pub is_digit : Base → ℕ → Bool
is_digit base b = is_some (digit_of base b)

-- the number that a digit is
abbrev pub digit_value : Base → ℕ → ℕ
digit_value base b = unwrap_or (digit_of base b) 0

-- the digits read on, with the number so far
unfoldable pub value_from : Base → ℕ → List ℕ → Option ℕ
value_from base n [] = Some n
value_from base n (b ∷ s) = cond (is_digit base b) (value_from base (n * base_of base + digit_value base b) s) None

-- a number has so many digits, and never more than 8
unfoldable pub width_allowed : Numeral → (n : ℕ) → Bool
width_allowed form n = leb form.least n && leb n form.most && leb n 8

-- the number that a field is
unfoldable pub number_of : Numeral → List ℕ → Option ℕ
number_of form s = cond (width_allowed form (length s)) (value_from form.base 0 s) None

-- the number that field k is
abbrev pub number_at : Numeral → (k : ℕ) → List ℕ → Option ℕ
number_at form k line = number_of form (field k line)
