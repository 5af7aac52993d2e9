-- `summing::summed` meets its contract. The loop's invariant: the totals are those of the list from i on.
use mathlib.Core.Path.{◌≡◌}
use lib.ListN.{drop}
use Rattle.lateness.specs.Totals.{totals_of}
use Rattle.lateness.proofs.summing.summed.Given as goal

abbrev pub invariant-loop-i : goal.invariant-loop-i
invariant-loop-i l = l.t ≡ totals_of (drop l.i l.list)
