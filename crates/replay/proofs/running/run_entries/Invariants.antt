-- `replay::running::run_entries` meets its contract. The invariant is Looping's `Head`.
use Prim.Native.Nat.{◌-◌}
use mathlib.Core.Path.{◌≡◌}
use lib.ListN.{length}
use Rattle.readiness.specs.inner.Phases.{statuses_in, moments_in}
use Rattle.records.specs.State.{state}
use Rattle.capture.specs.Lent.{progress_in}
use Rattle.replay.proofs.Looping.{Head}
use Rattle.replay.proofs.running.run_entries.Given as goal

abbrev pub invariant-loop-s : goal.invariant-loop-s
invariant-loop-s l =
    Head l.setup l.defaults l.input l.initial.answers (state l.initial.dev (statuses_in l.initial.phases) l.initial.live l.initial.cells) (moments_in l.initial.phases) (progress_in l.initial.r) l.answers l.dev (statuses_in l.phases) (moments_in l.phases) l.live l.cells l.r l.at l.w
    × (length l.phases ≡ length l.initial.phases)
    × (length l.trace ≡ 4096)

abbrev pub decreases-loop-s : goal.decreases-loop-s
decreases-loop-s l = length l.initial.answers - l.w
