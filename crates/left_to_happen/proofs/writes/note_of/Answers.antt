use Rattle.happenings.specs.Writes.{note_of}
use Rattle.bits.proofs.Choices.{when_true, when_false}
use mathlib.Core.Path.{sym, ◌∙◌}
use Rattle.left_to_happen.proofs.writes.note_of.Goals as goal

pub returns-then-starts_flr : goal.returns-then-starts_flr
unfolding note_of
returns-then-starts_flr c = sym (when_true _ _ _ (sym c.starts_flr.ensures ∙ c.if-starts_flr.true))

pub returns-then-starts_d3hot : goal.returns-then-starts_d3hot
unfolding note_of
returns-then-starts_d3hot c =
    let flr = when_false _ _ _ (sym c.starts_flr.ensures ∙ c.if-starts_flr.false) in
    c.woken.ensures ∙ sym (flr ∙ when_true _ _ _ (sym c.starts_d3hot.ensures ∙ c.if-starts_d3hot.true))

pub returns-then-starts_flr-2 : goal.returns-then-starts_flr-2
unfolding note_of
returns-then-starts_flr-2 c =
    let flr = when_false _ _ _ (sym c.starts_flr.ensures ∙ c.if-starts_flr.false) in
    let d3hot = when_false _ _ _ (sym c.starts_d3hot.ensures ∙ c.if-starts_d3hot.false) in
    sym (flr ∙ d3hot ∙ when_true _ _ _ (sym c.starts_flr-2.ensures ∙ c.if-starts_flr-2.true))

pub returns-then-enters_d3hot : goal.returns-then-enters_d3hot
unfolding note_of
returns-then-enters_d3hot c =
    let flr = when_false _ _ _ (sym c.starts_flr.ensures ∙ c.if-starts_flr.false) in
    let d3hot = when_false _ _ _ (sym c.starts_d3hot.ensures ∙ c.if-starts_d3hot.false) in
    let asks = when_false _ _ _ (sym c.starts_flr-2.ensures ∙ c.if-starts_flr-2.false) in
    sym (flr ∙ d3hot ∙ asks ∙ when_true _ _ _ (sym c.enters_d3hot.ensures ∙ c.if-enters_d3hot.true))

pub returns : goal.returns
unfolding note_of
returns c =
    let flr = when_false _ _ _ (sym c.starts_flr.ensures ∙ c.if-starts_flr.false) in
    let d3hot = when_false _ _ _ (sym c.starts_d3hot.ensures ∙ c.if-starts_d3hot.false) in
    let asks = when_false _ _ _ (sym c.starts_flr-2.ensures ∙ c.if-starts_flr-2.false) in
    sym (flr ∙ d3hot ∙ asks ∙ when_false _ _ _ (sym c.enters_d3hot.ensures ∙ c.if-enters_d3hot.false))
