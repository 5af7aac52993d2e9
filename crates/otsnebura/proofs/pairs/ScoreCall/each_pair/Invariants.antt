-- Each call may be made, whatever was made before.
use Rattle.otsnebura.proofs.pairs.ScoreCall.each_pair.Given as goal

abbrev pub invariant-loop-i : goal.invariant-loop-i
invariant-loop-i g l = Unit {0}
