-- `sheet::layout::fault_in` meets its contract: the first field that does not fit.
use mathlib.Core.Path.{sym, ◌∙◌}
use borrow.Author.Tests.{not-true, not-false}
use Rattle.sheet.proofs.Fields.{slot_wrong, reset_wrong, dl_up_wrong, flr_wrong, d3hot_wrong, unit_wrong}
use Rattle.sheet.proofs.layout.fault_in.Goals as goal

pub returns-then-not-slot : goal.returns-then-not-slot
returns-then-not-slot c =
    let s = c.args.s.now in
    c.fault.ensures ∙ sym (slot_wrong s c.number_at-slot.ensures (not-true _ c.if-not-slot.true))

pub returns-then-not-reset : goal.returns-then-not-reset
returns-then-not-reset c =
    let e1 = c in
    let s = e1.args.s.now in
    c.fault-then-not-reset.ensures ∙ sym (reset_wrong s e1.number_at-slot.ensures (not-false _ e1.if-not-slot.false) c.number_at-reset.ensures (not-true _ c.if-not-reset.true))

pub returns-then-not-dl_up : goal.returns-then-not-dl_up
returns-then-not-dl_up c =
    let e2 = c in
    let e1 = e2 in
    let s = e1.args.s.now in
    c.fault-then-not-dl_up.ensures ∙ sym (dl_up_wrong s e1.number_at-slot.ensures (not-false _ e1.if-not-slot.false) e2.number_at-reset.ensures (not-false _ e2.if-not-reset.false) c.number_at-dl_up.ensures (not-true _ c.if-not-dl_up.true))

pub returns-then-not-flr : goal.returns-then-not-flr
returns-then-not-flr c =
    let e3 = c in
    let e2 = e3 in
    let e1 = e2 in
    let s = e1.args.s.now in
    c.fault-then-not-flr.ensures ∙ sym (flr_wrong s e1.number_at-slot.ensures (not-false _ e1.if-not-slot.false) e2.number_at-reset.ensures (not-false _ e2.if-not-reset.false) e3.number_at-dl_up.ensures (not-false _ e3.if-not-dl_up.false) c.number_at-flr.ensures (not-true _ c.if-not-flr.true))

pub returns-then-not-d3hot : goal.returns-then-not-d3hot
returns-then-not-d3hot c =
    let e4 = c in
    let e3 = e4 in
    let e2 = e3 in
    let e1 = e2 in
    let s = e1.args.s.now in
    c.fault-then-not-d3hot.ensures ∙ sym (d3hot_wrong s e1.number_at-slot.ensures (not-false _ e1.if-not-slot.false) e2.number_at-reset.ensures (not-false _ e2.if-not-reset.false) e3.number_at-dl_up.ensures (not-false _ e3.if-not-dl_up.false) e4.number_at-flr.ensures (not-false _ e4.if-not-flr.false) c.number_at-d3hot.ensures (not-true _ c.if-not-d3hot.true))

pub returns : goal.returns
returns c =
    let e5 = c in
    let e4 = e5 in
    let e3 = e4 in
    let e2 = e3 in
    let e1 = e2 in
    let s = e1.args.s.now in
    c.fault-2.ensures ∙ sym (unit_wrong s e1.number_at-slot.ensures (not-false _ e1.if-not-slot.false) e2.number_at-reset.ensures (not-false _ e2.if-not-reset.false) e3.number_at-dl_up.ensures (not-false _ e3.if-not-dl_up.false) e4.number_at-flr.ensures (not-false _ e4.if-not-flr.false) e5.number_at-d3hot.ensures (not-false _ e5.if-not-d3hot.false) c.unit_at-u.ensures)
