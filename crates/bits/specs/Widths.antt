-- Small helpers on numbers.
use Rattle.std.specs.Prelude.{ℕ, min}

-- n, but no more than `most`
abbrev pub at_most : (n most : ℕ) → ℕ
at_most n most = min n most
