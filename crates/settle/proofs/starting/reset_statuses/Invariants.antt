-- `settle::starting::reset_statuses` meets its contract: the first i slots are Down.
use mathlib.Core.Path.{◌≡◌}
use lib.ListN.{length}
use Rattle.readiness.specs.Status.{down, each_from}
use Rattle.settle.proofs.starting.reset_statuses.Given as goal

abbrev pub invariant-loop-i : goal.invariant-loop-i
invariant-loop-i l = (length l.initial.out ≡ 32) × (l.out ≡ each_from 0 l.i (λ slot. down) l.initial.out)
