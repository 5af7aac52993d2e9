-- `settle::phases::in_statuses` meets its contract: the first i slots are there.
use mathlib.Core.Path.{◌≡◌}
use lib.ListN.{length, take}
use Rattle.readiness.specs.inner.Phases.{statuses_in}
use Rattle.settle.proofs.phases.in_statuses.Given as goal

abbrev pub invariant-loop-i : goal.invariant-loop-i
invariant-loop-i l = (length l.statuses ≡ 32) × (take l.i l.statuses ≡ take l.i (statuses_in l.phases))
