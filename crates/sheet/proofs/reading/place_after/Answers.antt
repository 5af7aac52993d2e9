-- `sheet::reading::place_after` meets its contract. The loop's invariant: the lines left, counted on, end at the place.
use mathlib.Core.Path.{◌≡◌, ◌∙◌}
use mathlib.Core.Bool.{true, ◌&&◌}
use Prim.Native.Nat.{ℕ, ◌<◌}
use native.Mathlib.Omega.{arith}
use lib.ListN.{length}
use borrow.Author.Tests.{not-true, not-false, ltb-true}
use lib.Dec.{ltb}
use Rattle.bits.proofs.Tests.{both_left, both_right}
use Rattle.sheet.proofs.Rests.{size_room, size_more, place_stops, place_on, place-ends}
use borrow.Author.Rules.{rules}
use Rattle.sheet.proofs.reading.place_after.Goals as goal

-- bytes are left, and lines to be counted
inside : (at n left : ℕ) → (ltb at n && ltb 0 left) ≡ true → at < n
inside at n left h = ltb-true at n (both_left (ltb at n) (ltb 0 left) h)

lines_left : (at n left : ℕ) → (ltb at n && ltb 0 left) ≡ true → 0 < left
lines_left at n left h = ltb-true 0 left (both_right (ltb at n) (ltb 0 left) h)

pub loop-at-init : goal.loop-at-init
loop-at-init c = (omega arith, omega arith)

pub slice_bounds-line_of-count : goal.slice_bounds-line_of-count
slice_bounds-line_of-count c = omega (arith, inside c.loop-at.at (length c.args.text.now) c.loop-at.left c.loop-at-test.true)

pub slice_bounds-line_of-start : goal.slice_bounds-line_of-start
slice_bounds-line_of-start c = omega (arith, inside c.loop-at.at (length c.args.text.now) c.loop-at.left c.loop-at-test.true)

pub slice_bounds-line_of-end : goal.slice_bounds-line_of-end
slice_bounds-line_of-end c = omega (arith, inside c.loop-at.at (length c.args.text.now) c.loop-at.left c.loop-at-test.true)

pub returns-then-not-l : goal.returns-then-not-l
returns-then-not-l c =
    let k = c in
    let a = k in
    let args = a.args in
    place_stops args.text.now a.loop-at.at (inside c.loop-at.at (length c.args.text.now) c.loop-at.left c.loop-at-test.true) k.line_of-l.result k.line_of-l.ensures a.loop-at.left (lines_left c.loop-at.at (length c.args.text.now) c.loop-at.left c.loop-at-test.true) (not-true _ c.if-not-l.true) ∙ a.loop-at.invariant.1

pub overflow_add-at : goal.overflow_add-at
overflow_add-at c = let r = size_room c.args.text.now c.loop-at.at (inside c.loop-at.at (length c.args.text.now) c.loop-at.left c.loop-at-test.true) c.line_of-l.result c.line_of-l.ensures in search rules

pub overflow_sub-left : goal.overflow_sub-left
overflow_sub-left c = let h = lines_left c.loop-at.at (length c.args.text.now) c.loop-at.left c.loop-at-test.true in search rules

pub loop-at-smaller : goal.loop-at-smaller
loop-at-smaller c = let k = c in omega (arith, inside c.loop-at.at (length c.args.text.now) c.loop-at.left c.loop-at-test.true, size_room c.args.text.now c.loop-at.at (inside c.loop-at.at (length c.args.text.now) c.loop-at.left c.loop-at-test.true) c.line_of-l.result c.line_of-l.ensures, size_more c.args.text.now c.loop-at.at (inside c.loop-at.at (length c.args.text.now) c.loop-at.left c.loop-at-test.true) c.line_of-l.result c.line_of-l.ensures (not-false _ c.if-not-l.false))

pub loop-at-preserved : goal.loop-at-preserved
loop-at-preserved c =
    let k = c in
    let a = k in
    let args = a.args in
    (size_room c.args.text.now c.loop-at.at (inside c.loop-at.at (length c.args.text.now) c.loop-at.left c.loop-at-test.true) c.line_of-l.result c.line_of-l.ensures, place_on args.text.now a.loop-at.at (inside c.loop-at.at (length c.args.text.now) c.loop-at.left c.loop-at-test.true) k.line_of-l.result k.line_of-l.ensures a.loop-at.left (lines_left c.loop-at.at (length c.args.text.now) c.loop-at.left c.loop-at-test.true) (not-false _ c.if-not-l.false) ∙ a.loop-at.invariant.1)

pub returns : goal.returns
returns c =
    let a = c in
    place-ends a.args.text.now a.loop-at.at a.loop-at.left c.loop-at-test.false ∙ a.loop-at.invariant.1
