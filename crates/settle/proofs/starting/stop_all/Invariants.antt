-- `settle::starting::stop_all` meets its contract: the first i slots are Down.
use mathlib.Core.Path.{◌≡◌}
use lib.ListN.{length}
use Rattle.readiness.specs.Status.{down, each_from}
use Rattle.readiness.specs.inner.Phases.{statuses_in, moments_in}
use Rattle.settle.proofs.starting.stop_all.Given as goal

abbrev pub invariant-loop-i : goal.invariant-loop-i
invariant-loop-i l = (length l.phases ≡ length l.initial.phases) × (statuses_in l.phases ≡ each_from 0 l.i (λ slot. down) (statuses_in l.initial.phases)) × (moments_in l.phases ≡ moments_in l.initial.phases)
