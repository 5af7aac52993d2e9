-- `sheet_text::cards::put_slots` meets its contract.
use borrow.Author.Rules.{rules}
use native.Mathlib.Omega.{arith}
use Rattle.sheet_text.proofs.Loops.{starts, turns, ends, slots_more, slots_none}
use Rattle.sheet_text.proofs.cards.put_slots.Goals as goal

pub loop-i-init : goal.loop-i-init
loop-i-init c = (search rules, starts)

pub loop-i-preserved : goal.loop-i-preserved
loop-i-preserved c =
    let l = c.loop-i.invariant in
    (l.0, turns _ _ l.1 (slots_more _ _ _ _ (omega (arith, l.0, c.loop-i-test.true))) c.put_slot_below.ensures)

pub returns : goal.returns
returns c = let l = c.loop-i.invariant in ends l.1 (slots_none _ _ _ _ (omega (arith, l.0, c.loop-i-test.false)))
