-- `feed::running::run_input` meets its contract.
use Prim.Native.Nat.{◌-◌}
use lib.ListN.{length}
use Rattle.readiness.specs.inner.Phases.{moments_in}
use Rattle.execute.specs.inner.Lent.{state_in}
use Rattle.feed.proofs.Going.{Going}
use Rattle.feed.proofs.running.run_input.Given as goal

abbrev pub invariant-loop-found : goal.invariant-loop-found
invariant-loop-found l =
    Going l.setup l.defaults l.input l.initial.answers (state_in l.initial.dev l.initial.phases l.initial.live l.initial.cells) (moments_in l.initial.phases) (length l.initial.phases)
    l.earliest l.answers l.dev l.phases l.live l.cells l.at l.w

abbrev pub decreases-loop-found : goal.decreases-loop-found
decreases-loop-found l = length l.input - l.at
