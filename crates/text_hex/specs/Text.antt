-- Hex text. The grammar:
--
--   text     bytes, blanks, line ends and comments, in any order
--   byte     two hex digits, the high one first, with nothing between them; small and capital letters alike
--   comment  '#' and all that follows it in the line
--
-- Blanks, line ends and digits are those of `text_fields`.
use Rattle.std.specs.Prelude.{ℕ, ◌+◌, ◌*◌, ◌%◌, Bool, cond, ◌||◌}
use Rattle.text_fields.specs.Text.{is_blank, is_line_end, starts_comment, is_digit as is_digit_in, digit_value as value_in}
use Rattle.text_fields.specs.declared.Base.TheVariants.{Hex}
use Rattle.text_hex.specs.declared.Within.{Within}
use Rattle.text_hex.specs.declared.Within.TheVariants.{Gap, Byte, Comment}
use Rattle.text_hex.specs.declared.Turn.{Turn}
use Rattle.text_hex.specs.declared.Turn.TheVariants.{Goes, Completes, Bad}

-- whether a character is a digit
abbrev pub is_digit : ℕ → Bool
is_digit c = is_digit_in Hex c

-- the number that it is
abbrev pub digit_value : ℕ → ℕ
digit_value c = value_in Hex c

-- what may stand between bytes, beside comments
unfoldable pub separates : ℕ → Bool
separates c = is_blank c || is_line_end c

-- the byte of two digits
abbrev pub byte_of : (high low : ℕ) → ℕ
byte_of high low = high % 16 * 16 + low % 16

-- a character between two bytes
unfoldable pub in_gap : ℕ → Turn
in_gap c =
    cond (is_digit c) (Goes (Byte (digit_value c)))
    (cond (separates c) (Goes Gap)
    (cond (starts_comment c) (Goes Comment) Bad))

-- a character in a byte, after its first digit
unfoldable pub in_byte : (high : ℕ) → ℕ → Turn
in_byte high c = cond (is_digit c) (Completes (byte_of high (digit_value c))) Bad

-- a character in a comment
unfoldable pub in_comment : ℕ → Turn
in_comment c = cond (is_line_end c) (Goes Gap) (Goes Comment)

-- what a character does where it stands
unfoldable pub turn_of : Within → ℕ → Turn
turn_of Gap c = in_gap c
turn_of (Byte high) c = in_byte high c
turn_of Comment c = in_comment c
