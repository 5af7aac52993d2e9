-- What is run, as library_run says it.
use Rattle.std.specs.Prelude.{ℕ, Bool, true, false}
use Rattle.library_code.specs.declared.Way.{Way}
use Rattle.library_code.specs.declared.Way.TheVariants.{Capture, Trace}

abbrev pub captured : Way → Bool
captured Capture = true
captured (Trace piece) = false

-- a capture has no pieces
abbrev pub piece_of : Way → ℕ
piece_of Capture = 0
piece_of (Trace piece) = piece
