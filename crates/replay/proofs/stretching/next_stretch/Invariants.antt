-- `replay::stretching::next_stretch` meets its contract: OneMore has one part behind the other.
use Prim.Native.Nat.{◌-◌}
use Rattle.replay.specs.inner.Stretches.{Stretched}
use Rattle.replay.proofs.stretching.next_stretch.Given as goal

abbrev pub invariant-loop-trace : goal.invariant-loop-trace
invariant-loop-trace l = Stretched l.fn.r l.space l.at l.input l.s l.trace

abbrev pub decreases-loop-trace : goal.decreases-loop-trace
decreases-loop-trace l = l.space - l.s.answers
