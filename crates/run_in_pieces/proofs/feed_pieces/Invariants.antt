-- `run_in_pieces::feed_pieces` meets its contract. The loop has made some of the calls; a call that gives 0 consumes something.
use Prim.Native.Nat.{suc, ◌-◌, ◌^◌, ◌<◌}
use mathlib.Core.Path.{◌≡◌}
use mathlib.Core.Bool.{cond}
use lib.Dec.{eqb}
use lib.ListN.{length}
use Rattle.readiness.specs.inner.Phases.{statuses_in}
use Rattle.demand3.specs.Held.{held, lent_of}
use Rattle.trace_in_pieces.specs.Pieces.{in_pieces}
use Rattle.trace_in_pieces.proofs.Pieces.{SoFar}
use Rattle.run_in_pieces.proofs.feed_pieces.Given as goal

abbrev pub invariant-loop-consumed : goal.invariant-loop-consumed
invariant-loop-consumed l =
    SoFar l.setup l.defaults l.size l.trace (in_pieces l.setup l.defaults l.size 0 (held l.initial.port (lent_of l.setup.slots (statuses_in l.initial.phases)) l.initial.live l.initial.cells) l.trace l.initial.answers) l.number l.consumed l.written (held l.port (lent_of l.setup.slots (statuses_in l.phases)) l.live l.cells) l.answers
    × (length l.live ≡ length l.initial.live) × (length l.cells ≡ length l.initial.cells) × (length l.answers ≡ length l.initial.answers) × (length l.trace < 2 ^ 64) × (length l.initial.answers < 2 ^ 64) × (length l.phases ≡ 128)

abbrev pub decreases-loop-consumed : goal.decreases-loop-consumed
decreases-loop-consumed l =
    cond (eqb l.number 0) (suc (length l.trace - l.consumed)) 0
