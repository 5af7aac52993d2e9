-- `sheet::reading::refusal_of` meets its contract: the first test that the line fails.
use mathlib.Core.Path.{sym, ◌∙◌}
use borrow.Author.Tests.{not-true, not-false}
use Rattle.bits.proofs.Choices.{when_true, when_false, unless-true, unless-false}
use Rattle.sheet_grammar.specs.Reading.{is_slot, is_named, has_too_long, refusal_of}
use Rattle.sheet.proofs.reading.refusal_of.Goals as goal

pub returns-then-not-l : goal.returns-then-not-l
unfolding refusal_of
returns-then-not-l c =
    let args = c.args in
    sym (unless-false args.l.fits _ _ (not-true _ c.if-not-l.true))

pub returns-then-not-is_slot : goal.returns-then-not-is_slot
unfolding refusal_of
returns-then-not-is_slot c =
    let args = c.args in
    sym (unless-true args.l.fits _ _ (not-false _ c.if-not-l.false)
    ∙ unless-false (is_slot args.slots args.l.line) _ _ (sym c.is_slot.ensures ∙ c.if-not-is_slot.true))

pub returns-then-is_named : goal.returns-then-is_named
unfolding refusal_of
returns-then-is_named c =
    let e = c in
    let args = e.args in
    sym (unless-true args.l.fits _ _ (not-false _ e.if-not-l.false)
    ∙ unless-true (is_slot args.slots args.l.line) _ _ (sym e.is_slot.ensures ∙ e.if-not-is_slot.false)
    ∙ when_true (is_named args.named args.l.line) _ _ (sym c.is_named.ensures ∙ c.if-is_named.true))

pub returns-then-has_too_long : goal.returns-then-has_too_long
unfolding refusal_of
returns-then-has_too_long c =
    let f = c in
    let e = f in
    let args = e.args in
    sym (unless-true args.l.fits _ _ (not-false _ e.if-not-l.false)
    ∙ unless-true (is_slot args.slots args.l.line) _ _ (sym e.is_slot.ensures ∙ e.if-not-is_slot.false)
    ∙ when_false (is_named args.named args.l.line) _ _ (sym f.is_named.ensures ∙ f.if-is_named.false)
    ∙ when_true (has_too_long args.l.line) _ _ (sym c.has_too_long.ensures ∙ c.if-has_too_long.true))

pub returns-else-has_too_long : goal.returns-else-has_too_long
unfolding refusal_of
returns-else-has_too_long c =
    let f = c in
    let e = f in
    let args = e.args in
    sym (unless-true args.l.fits _ _ (not-false _ e.if-not-l.false)
    ∙ unless-true (is_slot args.slots args.l.line) _ _ (sym e.is_slot.ensures ∙ e.if-not-is_slot.false)
    ∙ when_false (is_named args.named args.l.line) _ _ (sym f.is_named.ensures ∙ f.if-is_named.false)
    ∙ when_false (has_too_long args.l.line) _ _ (sym c.has_too_long.ensures ∙ c.if-has_too_long.false))
