-- `answer_counts::count_each` meets its contract: the answers before the index are counted, and the others are left.
use Rattle.answer_counts.proofs.Laws.{Inv}
use Rattle.answer_counts.proofs.count_each.Given as goal

abbrev pub invariant-loop-i : goal.invariant-loop-i
invariant-loop-i l = Inv l.initial.by l.answers l.by l.i
