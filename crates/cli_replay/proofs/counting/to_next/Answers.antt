-- A record has at most 17 bytes, so the sum fits.
use native.Mathlib.Omega.{arith}
use Rattle.trace.proofs.Gathering.{size-within}
use Rattle.cli_replay.proofs.counting.to_next.Goals as goal

pub overflow_add-result : goal.overflow_add-result
overflow_add-result c = omega (arith, c.size_of.ensures, size-within c.args.kind)
