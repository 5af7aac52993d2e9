-- `settle::phases::in_numbers` meets its contract: the first i slots are in.
use mathlib.Core.Path.{◌≡◌}
use lib.ListN.{length, take}
use Rattle.readiness.specs.inner.Phases.{statuses_in}
use Rattle.settle.proofs.phases.in_numbers.Given as goal

abbrev pub invariant-loop-i : goal.invariant-loop-i
invariant-loop-i l = (length l.phases ≡ 128) × (take l.i (statuses_in l.phases) ≡ take l.i l.statuses)
