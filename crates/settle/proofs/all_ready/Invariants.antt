-- `settle::all_ready` meets its contract: what is left to look at decides.
use mathlib.Core.Path.{◌≡◌}
use lib.ListN.{drop}
use Rattle.readiness.specs.declared.Setup.{Setup}
use Rattle.readiness.specs.Status.{all_ready_from, all_ready}
use Rattle.readiness.specs.inner.Phases.{statuses_in}
use Rattle.settle.proofs.all_ready.Given as goal

abbrev pub invariant-loop-i : goal.invariant-loop-i
invariant-loop-i l = (setup : Setup) → all_ready_from setup l.i (drop l.i (statuses_in l.phases)) ≡ all_ready setup (statuses_in l.phases)
