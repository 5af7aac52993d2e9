-- A text that a function puts on the page over bytes.
use Rattle.std.specs.Prelude.{ℕ, ◌≡◌, List}
use Rattle.text_line.specs.declared.text.Page.{Page}

-- the function was given the page over these bytes at this index: the index of the page that it left, and its bytes, if it is over the
-- same loan
abbrev pub Puts : (Page → Page → Type 0) → (at : ℕ) → (before : List ℕ) → (next : ℕ) → (after : List ℕ) → Type 0
Puts leaves at before next after =
    (given : Page) × (left : Page) × leaves given left
    × (given.at ≡ at) × (given.line.now ≡ before)
    × (next ≡ left.at) × (given.line.ghost_name ≡ left.line.ghost_name → after ≡ left.line.now)
