-- `sheet::reading::read` meets its contract. The loop's invariant: the lines left, read on, give what all lines give.
use mathlib.Core.Path.{refl, sym, ap, ◌∙◌}
use mathlib.Core.Bool.{true}
use Prim.Native.Nat.{◌+◌}
use native.Mathlib.Omega.{arith}
use lib.ListN.{drop, set}
use Rattle.readiness.specs.declared.Setup.{Setup}
use Rattle.sheet_grammar.specs.Reading.{lines_of, read_lines, sheet_of}
use Rattle.sheet.proofs.Rests.{it_fits, its_slot, size_room, size_more, reads_on, refuses, read_ends}
use borrow.Author.Rules.{rules}
use Rattle.sheet.proofs.reading.read.Goals as goal

pub loop-at-init : goal.loop-at-init
unfolding sheet_of
loop-at-init c = (omega arith, omega arith, refl)

pub returns-then-number-ne0 : goal.returns-then-number-ne0
returns-then-number-ne0 c =
    let k = c in
    let a = k in
    let args = a.args in
    refuses args.text.now a.loop-at.at k.loop-at-test.true k.line_of-l.result k.line_of-l.ensures a.loop-at.count a.loop-at.named args.setup a.loop-at.changed c.refusal_of-number.ensures c.if-number-ne0.true
    ∙ a.loop-at.invariant.2

pub with_line-changed-requires : goal.with_line-changed-requires
with_line-changed-requires c = its_slot _ _ c.line_of-l.result (sym c.refusal_of-number.ensures ∙ c.if-number-ne0.false)

pub bounds-named-line : goal.bounds-named-line
bounds-named-line c = let h = its_slot _ _ c.line_of-l.result (sym c.refusal_of-number.ensures ∙ c.if-number-ne0.false) in search rules

pub overflow_add-at : goal.overflow_add-at
overflow_add-at c = let r = size_room c.args.text.now c.loop-at.at c.loop-at-test.true c.line_of-l.result c.line_of-l.ensures in search rules

pub loop-at-smaller : goal.loop-at-smaller
loop-at-smaller c = let k = c in omega (arith, size_room c.args.text.now c.loop-at.at c.loop-at-test.true c.line_of-l.result c.line_of-l.ensures, size_more c.args.text.now c.loop-at.at c.loop-at-test.true c.line_of-l.result c.line_of-l.ensures (it_fits _ _ k.line_of-l.result (sym c.refusal_of-number.ensures ∙ c.if-number-ne0.false)))

pub loop-at-preserved : goal.loop-at-preserved
loop-at-preserved c =
    let k = c in
    let a = k in
    let args = a.args in
    let l = k.line_of-l.result in
    let one = size_more c.args.text.now c.loop-at.at c.loop-at-test.true c.line_of-l.result c.line_of-l.ensures (it_fits _ _ l (sym c.refusal_of-number.ensures ∙ c.if-number-ne0.false)) in (
      size_room c.args.text.now c.loop-at.at c.loop-at-test.true c.line_of-l.result c.line_of-l.ensures,
      omega arith,
      ap (λ (x : Setup). read_lines (a.loop-at.count + 1) (lines_of (drop (a.loop-at.at + l.size) args.text.now)) (set a.loop-at.named l.line.slot true) args.setup x) c.with_line-changed.ensures
          ∙ reads_on args.text.now a.loop-at.at k.loop-at-test.true k.line_of-l.result k.line_of-l.ensures a.loop-at.count a.loop-at.named args.setup a.loop-at.changed c.refusal_of-number.ensures c.if-number-ne0.false
          ∙ a.loop-at.invariant.2,
    )

pub returns : goal.returns
returns c =
    let a = c in
    let args = a.args in
    read_ends args.text.now a.loop-at.at c.loop-at-test.false a.loop-at.count a.loop-at.named args.setup a.loop-at.changed ∙ a.loop-at.invariant.2
