-- What is wrong where a trace ends.
use Rattle.std.specs.Prelude.{ℕ, Option, None, Some, cond, eqb}
use Rattle.cli_io.specs.declared.fault.Fault.{Fault}
use Rattle.cli_io.specs.declared.fault.Fault.TheVariants.{NoKind, CutOff}

-- of a record of which `count` bytes are there, and whose kind has `size`: nothing where none is there, and a byte that is no kind where the size is 0
unfoldable pub fault_of : (kind count size : ℕ) → Option Fault
fault_of kind count size = cond (eqb count 0) None (cond (eqb size 0) (Some (NoKind kind)) (Some (CutOff kind count size)))
