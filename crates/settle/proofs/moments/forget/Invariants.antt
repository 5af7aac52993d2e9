-- `settle::moments::forget` meets its contract: the first i slots have none.
use mathlib.Core.Path.{◌≡◌}
use lib.ListN.{length, take, replicate}
use Rattle.times.specs.Moments.{greatest_nanos}
use Rattle.readiness.specs.inner.Phases.{statuses_in, moments_in}
use Rattle.settle.proofs.moments.forget.Given as goal

abbrev pub invariant-loop-i : goal.invariant-loop-i
invariant-loop-i l = (length l.phases ≡ length l.initial.phases) × (statuses_in l.phases ≡ statuses_in l.initial.phases) × (take l.i (moments_in l.phases) ≡ replicate l.i greatest_nanos)
