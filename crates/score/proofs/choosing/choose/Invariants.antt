-- `score::choosing::choose` meets its contract.
use mathlib.Core.Path.{◌≡◌}
use lib.ListN.{length}
use Rattle.score.specs.Scores.{Picked, chosen}
use Rattle.score.proofs.choosing.choose.Given as goal

abbrev pub invariant-loop-i : goal.invariant-loop-i
invariant-loop-i l = (length l.list ≡ length l.initial.list)
    × (◌≡◌ {A = Picked} (record { count = l.count; list = l.list }) (chosen l.values l.of l.slot l.i (record { count = 0; list = l.initial.list })))
