-- `score::choosing::pick_if` meets its contract.
use mathlib.Core.Path.{◌≡◌, sym, ap, ◌∙◌}
use Rattle.lateness.proofs.Ints.{read}
use mathlib.Core.Bool.{Bool, true, false}
use lib.ListN.{set}
use lib.IntN.{ℤ}
use Rattle.score.specs.Scores.{next_count, Picked, pick}
use Rattle.score.proofs.choosing.pick_if.Goals as goal

module _ (b : Bool) (d : ℤ) (p : Picked) where
  picks : b ≡ true → pick b d p ≡ record { count = next_count p.count; list = set p.list p.count d }
  unfolding pick
  picks e = ap (λ (t : Bool). pick t d p) e

  passes : b ≡ false → pick b d p ≡ p
  unfolding pick
  passes e = ap (λ (t : Bool). pick t d p) e

pub returns-then-applies : goal.returns-then-applies
returns-then-applies c =
    let a = c.args in
    (λ i. record { count = c.next_count.ensures i; list = c.put.ensures i })
    ∙ ap (λ (z : ℤ). record { count = next_count a.count; list = set a.list.now a.count z }) (read a.d c.ranges.d)
    ∙ sym (picks a.applies a.d (record { count = a.count; list = a.list.now }) c.if-applies.true)

pub returns-else-applies : goal.returns-else-applies
returns-else-applies c =
    let a = c.args in
    sym (passes a.applies a.d (record { count = a.count; list = a.list.now }) c.if-applies.false)
