-- `answer_counts::count_each` meets its contract: the answers before the index are counted, and the others are left.
use Rattle.std.proofs.Common.{refl, arith, rules}
use Rattle.answer_counts.proofs.Laws.{starts, turns, ends}
use Rattle.answer_counts.proofs.count_each.Goals as goal

pub loop-i-init : goal.loop-i-init
loop-i-init c = starts _ _ (search rules)

pub offset_bounds-by-k : goal.offset_bounds-by-k
offset_bounds-by-k c = omega (arith, c.place_of-k.ensures.upper_bound)

pub bounds-by-k : goal.bounds-by-k
bounds-by-k c = c.place_of-k.ensures.upper_bound

pub offset_bounds-by-k-in-loop-i : goal.offset_bounds-by-k-in-loop-i
offset_bounds-by-k-in-loop-i c = omega (arith, c.place_of-k.ensures.upper_bound)

pub bounds-by-k-in-loop-i : goal.bounds-by-k-in-loop-i
bounds-by-k-in-loop-i c = c.place_of-k.ensures.upper_bound

pub loop-i-preserved : goal.loop-i-preserved
loop-i-preserved c = let t = c in turns _ _ _ _ t.loop-i.invariant t.loop-i-test.true _ c.place_of-k.ensures.value _ refl

pub returns : goal.returns
returns c = ends _ _ _ _ c.loop-i.invariant c.loop-i-test.false
