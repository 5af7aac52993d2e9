-- Where in a text a character stands: its line and its column, counted from 1, from the text before it.
use Rattle.std.specs.Prelude.{ℕ, suc, cond, List, [], ◌∷◌, length}
use Rattle.text_fields.specs.Text.{is_line_end}
use Rattle.text_hex.specs.Grammar.{in_one_line}

-- how many line ends a text has
abbrev pub line_ends : List ℕ → ℕ
line_ends [] = 0
line_ends (c ∷ s) = cond (is_line_end c) (suc (line_ends s)) (line_ends s)

-- what stands after the last line end
abbrev pub last_line : List ℕ → List ℕ
last_line [] = []
last_line (c ∷ s) = cond (in_one_line s) (cond (is_line_end c) s (c ∷ s)) (last_line s)

-- the line and the column of the character after this text
abbrev pub line_after : List ℕ → ℕ
line_after s = suc (line_ends s)

abbrev pub column_after : List ℕ → ℕ
column_after s = suc (length (last_line s))
