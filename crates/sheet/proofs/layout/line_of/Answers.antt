-- `sheet::layout::line_of` meets its contract: field by field.
use mathlib.Core.Path.{sym, ◌∙◌}
use Rattle.sheet.proofs.Fields.{line_fits, line_departs}
use Rattle.sheet.proofs.layout.line_of.Goals as goal

pub returns-then-not-slot-reset : goal.returns-then-not-slot-reset
returns-then-not-slot-reset c =
    let k = c in
    let u = k in
    let e = u in
    let d = e in
    let l = d in
    let r = l in
    let n = r in
    c.no_line.ensures ∙ sym (line_departs n.args.s.now n.number_at-slot.ensures r.number_at-reset.ensures l.number_at-dl_up.ensures d.number_at-flr.ensures e.number_at-d3hot.ensures u.unit_at-u.ensures (c.if-not-slot-reset.true))

pub returns : goal.returns
returns c =
    let k = c in
    let u = k in
    let e = u in
    let d = e in
    let l = d in
    let r = l in
    let n = r in
    line_fits n.args.s.now n.number_at-slot.ensures r.number_at-reset.ensures l.number_at-dl_up.ensures d.number_at-flr.ensures e.number_at-d3hot.ensures u.unit_at-u.ensures
    (c.if-not-slot-reset.false) c.claimed.ensures c.claimed-2.ensures c.claimed-3.ensures c.claimed-4.ensures
