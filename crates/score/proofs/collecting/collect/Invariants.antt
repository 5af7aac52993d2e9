-- `score::collecting::collect` meets its contract.
use mathlib.Core.Path.{◌≡◌}
use lib.ListN.{length}
use Rattle.score.specs.Scores.{lists, collected}
use Rattle.score.proofs.collecting.collect.Given as goal

abbrev pub invariant-loop-i : goal.invariant-loop-i
invariant-loop-i l = (length l.values ≡ length l.initial.values) × (length l.of ≡ length l.initial.of)
    × (lists l.c l.values l.of ≡ collected l.slots l.bench l.seen l.i (lists l.initial.c l.initial.values l.initial.of))
