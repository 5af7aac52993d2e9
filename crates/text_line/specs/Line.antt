-- Text put into a lent line at an index, as far as there is room.
use Rattle.std.specs.Prelude.{ℕ, ◌+◌, ◌≡◌, cond, List, [], ◌∷◌, ltb, length, set}

-- a line, and the index at which the next text goes
pub record Lined : Type 0 where
  pub at : ℕ
  pub line : List ℕ

abbrev pub lined : ℕ → List ℕ → Lined
lined at line = record { at = at; line = line }

-- a character, where there is room
unfoldable pub put_byte : ℕ → Lined → Lined
put_byte b x = cond (ltb x.at (length x.line)) (lined (x.at + 1) (set x.line x.at b)) x

-- a text, character by character
unfoldable pub puts : List ℕ → Lined → Lined
puts [] x = x
puts (b ∷ text) x = puts text (put_byte b x)

-- the text was put at an index of the line before: the index after it, and the line
pub record Put (text : List ℕ) (at : ℕ) (before : List ℕ) (next : ℕ) (after : List ℕ) : Type 0 where
  pub so : lined next after ≡ puts text (lined at before)
