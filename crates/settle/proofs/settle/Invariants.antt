-- `settle::settle` meets its contract: what is left to happen, happens to what there is now as all of it would to what there was first; then the DRS.
use Prim.Native.Nat.{◌≤◌}
use mathlib.Core.Path.{◌≡◌}
use lib.ListN.{length}
use Rattle.readiness.specs.Events.{due}
use Rattle.readiness.specs.inner.Phases.{statuses_in, moments_in, notes}
use Rattle.readiness.specs.Settle.{scene}
use Rattle.readiness.proofs.AtTheEnd.{all_happen}
use Rattle.settle.proofs.Settling.{Left, LeftTimes}
use Rattle.settle.proofs.settle.Given as goal

abbrev pub invariant-loop-place : goal.invariant-loop-place
invariant-loop-place l =
    (length l.phases ≡ length l.initial.phases)
    × (length l.cells ≡ length l.initial.cells)
    × (length (statuses_in l.phases) ≡ l.setup.slots)
    × (l.setup.slots ≤ 32)
    × (l.place ≤ 32)
    × Left l.slots l.place (due l.initial.p.dev.clock (statuses_in l.phases))
    × LeftTimes l.times l.place (due l.initial.p.dev.clock (statuses_in l.phases))
    × (notes (due l.initial.p.dev.clock (statuses_in l.phases)) (moments_in l.phases) ≡ notes (due l.initial.p.dev.clock (statuses_in l.initial.phases)) (moments_in l.initial.phases))
    × (all_happen l.setup (due l.initial.p.dev.clock (statuses_in l.phases)) (scene (statuses_in l.phases) l.cells l.p) ≡ all_happen l.setup (due l.initial.p.dev.clock (statuses_in l.initial.phases)) (scene (statuses_in l.initial.phases) l.initial.cells l.initial.p))
