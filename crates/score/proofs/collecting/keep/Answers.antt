-- `score::collecting::keep` meets its contract.
use mathlib.Core.Path.{ap, ◌∙◌}
use lib.IntN.{ℤ}
use Rattle.lateness.proofs.Ints.{read}
use Rattle.score.specs.Scores.{lists, kept}
use Rattle.score.proofs.collecting.keep.Goals as goal

pub returns : goal.returns
unfolding kept
returns c =
    let a = c.args in
    (λ i. record {
      count = c.next_count.ensures i;
      outside = a.c.outside;
      values = c.put.ensures i;
      slots = c.put-2.ensures i;
    })
    ∙ ap (λ (z : ℤ). kept a.slot z (lists a.c a.values.now a.of.now)) (read a.d c.ranges.d)
