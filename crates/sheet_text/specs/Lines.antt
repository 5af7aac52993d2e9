-- Lines of an output.
use Rattle.std.specs.Prelude.{ℕ, List, ◌++◌}
use Rattle.bits.specs.Text.{chars}

-- a line with the 0Ah that ends it
abbrev pub ended : List ℕ → List ℕ
ended line = line ++ chars "\n"

-- a line about a file: its name stands in front
abbrev pub about : (name line : List ℕ) → List ℕ
about name line = ended (name ++ chars ": " ++ line)
