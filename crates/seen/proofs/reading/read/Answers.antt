-- `seen::reading::read` meets its contract. The loop's invariant: the lines left, read on, give what all lines give.
use mathlib.Core.Path.{sym, ap, ◌∙◌}
use mathlib.Core.Bool.{true, false}
use Prim.Native.Nat.{◌+◌, ◌≤◌, ◌<◌}
use native.Mathlib.Omega.{arith}
use lib.ListN.{length, drop, set, replicate}
use Rattle.readiness.specs.declared.Moments.{Moments}
use Rattle.sheet_grammar.specs.Reading.{lines_of}
use Rattle.seen_grammar.specs.Reading.{refusal_of, read_lines, seen_of}
use Rattle.seen.proofs.Rests.{its_slot, end_most, end_more, reads_on, stops, read_ends}
use borrow.Author.Rules.{rules}
use Rattle.seen.proofs.reading.read.Goals as goal

pub loop-at-init : goal.loop-at-init
unfolding seen_of
loop-at-init c =
    let args = c.args in
    (omega arith, omega arith, ap (λ (m : Moments). read_lines args.slots 0 (lines_of args.text.now) (replicate 32 false) m) c.no_moments-times.ensures)

pub slice_bounds-line_of-count : goal.slice_bounds-line_of-count
slice_bounds-line_of-count c =
    let further : c.loop-at.at < c.line_after-end.result = end_more c.args.text.now c.loop-at.at c.loop-at-test.true c.line_after-end.ensures in
    omega (arith, further)

pub slice_bounds-line_of-start : goal.slice_bounds-line_of-start
slice_bounds-line_of-start c =
    let further : c.loop-at.at < c.line_after-end.result = end_more c.args.text.now c.loop-at.at c.loop-at-test.true c.line_after-end.ensures in
    omega (arith, further)

pub slice_bounds-line_of-end : goal.slice_bounds-line_of-end
slice_bounds-line_of-end c =
    let within_text : c.line_after-end.result ≤ length c.args.text.now = end_most c.args.text.now c.loop-at.at c.loop-at-test.true c.line_after-end.ensures in
    within_text

pub returns-in-Err : goal.returns-in-Err
returns-in-Err c =
    let l = c.loop-at in
    c.refused.ensures
    ∙ stops c.args.text.now l.at c.loop-at-test.true c.line_after-end.ensures c.args.slots l.count l.named l.times c.refusal_of.result
    (c.refusal_of.ensures ∙ ap (refusal_of c.args.slots l.named) c.line_of.ensures) c.in-Err.why c.in-Err.is
    ∙ l.invariant.2

pub with_time-times-requires : goal.with_time-times-requires
with_time-times-requires c = its_slot c.args.slots c.loop-at.named c.line_of.result (sym c.refusal_of.ensures ∙ c.in-Ok.is)

pub bounds-named-l : goal.bounds-named-l
bounds-named-l c =
    let below : c.in-Ok.l.slot < 32 = its_slot c.args.slots c.loop-at.named c.line_of.result (sym c.refusal_of.ensures ∙ c.in-Ok.is) in
    search rules

pub loop-at-smaller : goal.loop-at-smaller
loop-at-smaller c =
    let within_text : c.line_after-end.result ≤ length c.args.text.now = end_most c.args.text.now c.loop-at.at c.loop-at-test.true c.line_after-end.ensures in
    let further : c.loop-at.at < c.line_after-end.result = end_more c.args.text.now c.loop-at.at c.loop-at-test.true c.line_after-end.ensures in
    let e = c in omega (arith, within_text, further)

pub loop-at-preserved : goal.loop-at-preserved
loop-at-preserved c =
    let within_text : c.line_after-end.result ≤ length c.args.text.now = end_most c.args.text.now c.loop-at.at c.loop-at-test.true c.line_after-end.ensures in
    let further : c.loop-at.at < c.line_after-end.result = end_more c.args.text.now c.loop-at.at c.loop-at-test.true c.line_after-end.ensures in
    let l = c.loop-at in
    let args = c.args in (
      within_text,
      omega (arith, further),
      ap (λ (m : Moments). read_lines args.slots (l.count + 1) (lines_of (drop c.line_after-end.result args.text.now)) (set l.named c.in-Ok.l.slot true) m) c.with_time-times.ensures
          ∙ reads_on args.text.now l.at c.loop-at-test.true c.line_after-end.ensures args.slots l.count l.named l.times c.refusal_of.result
          (c.refusal_of.ensures ∙ ap (refusal_of args.slots l.named) c.line_of.ensures) c.in-Ok.l c.in-Ok.is
          ∙ l.invariant.2,
    )

pub returns : goal.returns
returns c =
    let a = c in
    let args = a.args in
    read_ends args.text.now a.loop-at.at c.loop-at-test.false args.slots a.loop-at.count a.loop-at.named a.loop-at.times ∙ a.loop-at.invariant.2
