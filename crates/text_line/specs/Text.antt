-- Texts and numbers, as characters.
use Rattle.std.specs.Prelude.{ℕ, zero, suc, ◌+◌, ◌/◌, ◌%◌, Bool, true, false, cond, List, [], ◌∷◌, ◌++◌, eqb, ltb}
use Rattle.bits.specs.Text.{chars}

-- a digit below 16: '0' to '9', 'A' to 'F'
unfoldable pub glyph_of : ℕ → ℕ
glyph_of n = cond (ltb n 10) (0x30 + n) (cond (ltb n 16) (0x37 + n) 0x3F)

-- the last k hex digits of a number, the highest first
unfoldable pub hex_of : (k : ℕ) → ℕ → List ℕ
hex_of zero n = []
hex_of (suc k) n = hex_of k (n / 16) ++ (glyph_of (n % 16) ∷ [])

-- a number in decimal, where it has at most so many digits
unfoldable pub decimal_from : (most : ℕ) → ℕ → List ℕ
decimal_from zero n = []
decimal_from (suc most) n = cond (ltb n 10) (glyph_of n ∷ []) (decimal_from most (n / 10) ++ (glyph_of (n % 10) ∷ []))

-- a number below 2^64 in decimal
abbrev pub decimal_of : ℕ → List ℕ
decimal_of n = decimal_from 20 n

-- the last three decimal digits, zeros in front
unfoldable pub three_of : ℕ → List ℕ
three_of n = glyph_of (n / 100 % 10) ∷ glyph_of (n / 10 % 10) ∷ glyph_of (n % 10) ∷ []

-- the last six
unfoldable pub six_of : ℕ → List ℕ
six_of n = three_of (n / 1000) ++ three_of n

-- a number in decimal with a comma before each three digits from the right, where it has at most so many groups
unfoldable pub grouped_from : (most : ℕ) → ℕ → List ℕ
grouped_from zero n = []
grouped_from (suc most) n = cond (ltb n 1000) (decimal_of n) (grouped_from most (n / 1000) ++ chars "," ++ three_of n)

-- a number below 2^64 so
abbrev pub grouped_of : ℕ → List ℕ
grouped_of n = grouped_from 7 n

-- a text without its commas
unfoldable pub without_commas : List ℕ → List ℕ
without_commas [] = []
without_commas (b ∷ text) = cond (eqb b 0x2C) (without_commas text) (b ∷ without_commas text)

-- a text where it applies
unfoldable pub text_if : Bool → List ℕ → List ℕ
text_if applies text = cond applies text []

-- a name and a number after it
abbrev pub named : List ℕ → ℕ → List ℕ
named name n = name ++ decimal_of n

-- blanks before a number, so that numbers up to eight digits stand below one another
unfoldable pub short_margin : ℕ → List ℕ
short_margin n = text_if (ltb n 10) (chars " ") ++ text_if (ltb n 100) (chars " ") ++ text_if (ltb n 1000) (chars " ")

unfoldable pub margin_of : ℕ → List ℕ
margin_of n =
    short_margin n
    ++ text_if (ltb n 10000) (chars " ")
    ++ text_if (ltb n 100000) (chars " ")
    ++ text_if (ltb n 1000000) (chars " ")
    ++ text_if (ltb n 10000000) (chars " ")

-- a number in a column of eight
unfoldable pub column_of : ℕ → List ℕ
column_of n = margin_of n ++ decimal_of n

-- a byte in two hex digits, after a blank where another stands before it
unfoldable pub spaced_of : (later : Bool) → ℕ → List ℕ
spaced_of later b = text_if later (chars " ") ++ hex_of 2 b

unfoldable pub bytes_from : (later : Bool) → List ℕ → List ℕ
bytes_from later [] = []
bytes_from later (b ∷ bytes) = spaced_of later b ++ bytes_from true bytes

-- bytes in two hex digits each, with blanks between them
abbrev pub bytes_of : List ℕ → List ℕ
bytes_of bytes = bytes_from false bytes
