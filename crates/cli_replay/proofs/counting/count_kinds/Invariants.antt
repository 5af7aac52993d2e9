-- The loop goes from kind byte to kind byte.
use Rattle.std.proofs.Common.{length}
use Rattle.cli_replay.proofs.KindBytes.{Inv}
use Rattle.cli_replay.proofs.counting.count_kinds.Given as goal

abbrev pub invariant-loop-ahead : goal.invariant-loop-ahead
invariant-loop-ahead l = Inv l.bytes l.kinds.ahead l.n l.rest l.ahead

abbrev pub decreases-loop-ahead : goal.decreases-loop-ahead
decreases-loop-ahead l = length l.rest
