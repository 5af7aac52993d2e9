-- `replay::writing::put_each` meets its contract: so many bytes are put after so many turns.
use Rattle.std.proofs.Common.{◌≡◌, length}
use lib.ListN.{drop}
use lib.Seq.{paste}
use Rattle.replay.proofs.writing.put_each.Given as goal

abbrev pub invariant-loop-i : goal.invariant-loop-i
invariant-loop-i l = (length l.trace ≡ length l.initial.trace) × (l.trace ≡ paste l.initial.trace l.at (drop l.from l.input) l.i)
