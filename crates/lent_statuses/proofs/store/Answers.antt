-- Each turn replaces one status.
use Rattle.std.proofs.Common.{◌≡◌, ◌<◌, min, length, set, get_or, List, arith, rules, ap, ◌∙◌}
use Rattle.readiness.specs.Status.{down}
use Rattle.readiness.specs.declared.Status.{Status}
use Rattle.lent_statuses.proofs.Copies.{write_to, write_more, write_all}
use Rattle.lent_statuses.proofs.store.Goals as goal

pub loop-i-preserved : goal.loop-i-preserved
loop-i-preserved c =
    let xs = c.args.statuses.now in
    let array = c.args.array in
    let i = c.loop-i.i in
    let long : length array ≡ 32 = search rules in
    let few : i < length xs = omega (arith, c.min-i-end.ensures) in
    let in_array : i < length array = omega (arith, c.min-i-end.ensures) in
    c.replace_status.ensures
    ∙ ap (λ (a : List Status). set a i (get_or array i down)) c.loop-i.invariant
    ∙ write_more xs array i down few in_array

pub returns : goal.returns
returns c =
    let xs = c.args.statuses.now in
    let long : length c.args.array ≡ 32 = search rules in
    let last : c.loop-i.i ≡ min (length xs) 32 = omega (arith, c.min-i-end.ensures) in
    c.loop-i.invariant ∙ ap (write_to xs c.args.array) last ∙ write_all xs c.args.array long
