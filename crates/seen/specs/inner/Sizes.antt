-- How many bytes the first line of a text has, with its 0Ah.
use Rattle.std.specs.Prelude.{ℕ, suc, cond, List, [], ◌∷◌}
use Rattle.text_fields.specs.Text.{is_line_end}

unfoldable pub first_size : List ℕ → ℕ
first_size [] = 0
first_size (b ∷ s) = cond (is_line_end b) 1 (suc (first_size s))
