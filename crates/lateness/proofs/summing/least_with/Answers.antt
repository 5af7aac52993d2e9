-- `summing::least_with` meets its contract.
use mathlib.Core.Path.{sym, ap, ◌∙◌}
use mathlib.Core.Bool.{Bool, cond}
use borrow.Author.Tests.{eq-eqb, ne_eqb}
use Rattle.lateness.specs.Totals.{lower_of}
use Rattle.lateness.proofs.Ints.{read, told}
use Rattle.lateness.proofs.Picks.{min_lower}
use Rattle.lateness.proofs.summing.least_with.Goals as goal

pub returns-then-rest-eq0 : goal.returns-then-rest-eq0
returns-then-rest-eq0 c =
    let a = c.args in
    read a.d c.ranges.d ∙ sym (ap (λ (b : Bool). cond b a.d (lower_of a.d a.e)) (eq-eqb a.rest 0 c.if-rest-eq0.true))

pub returns-else-rest-eq0 : goal.returns-else-rest-eq0
returns-else-rest-eq0 c =
    let s = c in
    let a = s.args in
    told c.min.result c.min.type_inv ∙ c.min.ensures.value ∙ min_lower _ _ ∙ (λ i. lower_of (read a.d s.ranges.d i) (read a.e s.ranges.e i))
    ∙ sym (ap (λ (b : Bool). cond b a.d (lower_of a.d a.e)) (ne_eqb a.rest 0 c.if-rest-eq0.false))
