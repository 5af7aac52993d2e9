-- `sheet::reading::line_naming` meets its contract. The loop's invariant: the lines left name the slot where all lines do.
use mathlib.Core.Path.{refl, ◌∙◌}
use native.Mathlib.Omega.{arith}
use borrow.Author.Tests.{not-true, not-false}
use Rattle.sheet.proofs.Rests.{size_room, size_more, names_none, names_here, names_on, names_end}
use borrow.Author.Rules.{rules}
use Rattle.sheet.proofs.reading.line_naming.Goals as goal

pub loop-at-init : goal.loop-at-init
loop-at-init c = (omega arith, refl)

pub returns-then-not-l : goal.returns-then-not-l
returns-then-not-l c =
    let k = c in
    let a = k in
    let args = a.args in
    c.no_line.ensures ∙ names_none args.text.now a.loop-at.at k.loop-at-test.true k.line_of-l.result k.line_of-l.ensures args.slot (not-true _ c.if-not-l.true) ∙ a.loop-at.invariant.1

pub returns-then-l-slot : goal.returns-then-l-slot
returns-then-l-slot c =
    let k = c in
    let a = k in
    let args = a.args in
    names_here args.text.now a.loop-at.at k.loop-at-test.true k.line_of-l.result k.line_of-l.ensures args.slot (not-false _ c.if-not-l.false) c.if-l-slot.true ∙ a.loop-at.invariant.1

pub overflow_add-at : goal.overflow_add-at
overflow_add-at c = let r = size_room c.args.text.now c.loop-at.at c.loop-at-test.true c.line_of-l.result c.line_of-l.ensures in search rules

pub loop-at-smaller : goal.loop-at-smaller
loop-at-smaller c = let k = c in omega (arith, size_room c.args.text.now c.loop-at.at c.loop-at-test.true c.line_of-l.result c.line_of-l.ensures, size_more c.args.text.now c.loop-at.at c.loop-at-test.true c.line_of-l.result c.line_of-l.ensures (not-false _ c.if-not-l.false))

pub loop-at-preserved : goal.loop-at-preserved
loop-at-preserved c =
    let k = c in
    let a = k in
    let args = a.args in
    (size_room c.args.text.now c.loop-at.at c.loop-at-test.true c.line_of-l.result c.line_of-l.ensures, names_on args.text.now a.loop-at.at k.loop-at-test.true k.line_of-l.result k.line_of-l.ensures args.slot (not-false _ c.if-not-l.false) c.if-l-slot.false ∙ a.loop-at.invariant.1)

pub returns : goal.returns
returns c =
    let a = c in
    let args = a.args in
    c.no_line-2.ensures ∙ names_end args.text.now a.loop-at.at c.loop-at-test.false args.slot ∙ a.loop-at.invariant.1
