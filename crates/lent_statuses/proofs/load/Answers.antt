-- Each turn copies one status; at the end all are copied.
use Rattle.std.proofs.Common.{◌≡◌, ◌<◌, min, length, get_or, set, replicate, List, arith, ap, ◌∙◌}
use Rattle.readiness.specs.declared.Status.{Status}
use Rattle.lent_statuses.proofs.Copies.{pad_to, pad_more, pad_all}
use Rattle.lent_statuses.proofs.load.Goals as goal

pub loop-i-init : goal.loop-i-init
loop-i-init c = ap (replicate 32) c.ready_status-past.ensures

pub loop-i-preserved : goal.loop-i-preserved
loop-i-preserved c =
    let xs = c.args.statuses.now in
    let i = c.loop-i.i in
    let few : i < length xs = omega (arith, c.min-i-end.ensures) in
    let in_array : i < 32 = omega (arith, c.min-i-end.ensures) in
    ap (λ (a : List Status). set a i c.status_at.result) c.loop-i.invariant
    ∙ ap (λ (s : Status). set (pad_to xs i) i s) (c.status_at.ensures ∙ ap (get_or xs i) c.ready_status-past.ensures)
    ∙ pad_more xs i few in_array

pub returns : goal.returns
returns c =
    let xs = c.args.statuses.now in
    let last : c.loop-i.i ≡ min (length xs) 32 = omega (arith, c.min-i-end.ensures) in
    c.loop-i.invariant ∙ ap (pad_to xs) last ∙ pad_all xs
