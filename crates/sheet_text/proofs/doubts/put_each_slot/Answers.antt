-- `sheet_text::doubts::put_each_slot` meets its contract.
use Rattle.sheet_text.proofs.Loops.{starts, turns, ends, doubts_more, doubts_none}
use borrow.Author.Rules.{rules}
use native.Mathlib.Omega.{arith}
use Rattle.sheet_text.proofs.doubts.put_each_slot.Goals as goal

pub loop-i-init : goal.loop-i-init
loop-i-init c = (search rules, search rules, starts)

pub loop-i-preserved : goal.loop-i-preserved
loop-i-preserved c =
    let l = c.loop-i.invariant in
    let t = c.loop-i-test.true in
    (l.0, l.1, turns _ _ l.2 (doubts_more _ _ _ _ _ (omega (arith, l.0, t)) (omega (arith, l.1, t))) (simp c.line_naming-l.ensures at c.put_slot_doubts.ensures))

pub returns : goal.returns
returns c = let l = c.loop-i.invariant in ends l.2 (doubts_none _ _ _ _ _ (omega (arith, l.0, c.loop-i-test.false)))
