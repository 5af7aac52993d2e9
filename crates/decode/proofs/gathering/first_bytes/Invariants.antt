-- `decode::gathering::first_bytes` meets its contract.
use mathlib.Core.Path.{◌≡◌}
use lib.ListN.{take}
use mathlib.Core.List.{◌++◌}
use Rattle.trace.specs.Format.{pad}
use Rattle.decode.proofs.gathering.first_bytes.Given as goal

abbrev pub invariant-loop-j : goal.invariant-loop-j
invariant-loop-j g l = l.bytes ≡ pad g.row.N (take l.j (take l.len l.carried ++ l.input))
