-- Which texts are hex text, and which bytes they are.
use Rattle.std.specs.Prelude.{◌≡◌, ℕ, ◌+◌, ◌*◌, Bool, true, not, ◌&&◌, List, [], ◌∷◌, ◌++◌}
use Rattle.text_fields.specs.Text.{is_line_end}
use Rattle.text_hex.specs.Text.{is_digit, digit_value, separates}

-- characters of one line
abbrev pub in_one_line : List ℕ → Bool
in_one_line [] = true
in_one_line (c ∷ s) = not (is_line_end c) && in_one_line s

-- the text is hex text, and has these bytes
pub data HexText : (text bytes : List ℕ) → Type 0 where
  nothing : HexText [] []
  blank : {c : ℕ} {text bytes : List ℕ} → separates c ≡ true → HexText text bytes → HexText (c ∷ text) bytes
  byte : {high low : ℕ} {text bytes : List ℕ} → is_digit high ≡ true → is_digit low ≡ true → HexText text bytes
      → HexText (high ∷ low ∷ text) ((digit_value high * 16 + digit_value low) ∷ bytes)
  comment : (line : List ℕ) {text bytes : List ℕ} → in_one_line line ≡ true → HexText text bytes → HexText (0x23 ∷ line ++ 0x0A ∷ text) bytes
  -- a comment in the last line, which may lack its end
  last : {line : List ℕ} → in_one_line line ≡ true → HexText (0x23 ∷ line) []

-- a text with which some hex text starts
pub record Starts (text : List ℕ) : Type 0 where
  pub rest : List ℕ
  pub bytes : List ℕ
  pub hex : HexText (text ++ rest) bytes
