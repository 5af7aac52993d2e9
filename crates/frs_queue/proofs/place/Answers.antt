-- `frs_queue::place` meets its contract: the code never forms start + k, which might not fit.
use Prim.Native.Nat.{◌%◌, ◌<◌}
use native.Mathlib.Nat.{mod-lt}
use native.Mathlib.Omega.{arith}
use Rattle.frs_queue.proofs.Places.{place_near, place_far}
use Rattle.frs_queue.proofs.place.Goals as goal

pub returns-then-k-room-clause-value : goal.returns-then-k-room-clause-value
returns-then-k-room-clause-value c =
    let a = c.args in
    let e = c.in_ring-first.ensures in
    let h : a.start % a.n < a.n = mod-lt a.start c.requires.0 in
    omega (arith, e, place_near a.n a.start a.k (omega (arith, e, h)))

pub returns-else-k-room-clause-value : goal.returns-else-k-room-clause-value
returns-else-k-room-clause-value c =
    let a = c.args in
    let e = c.in_ring-first.ensures in
    let h : a.start % a.n < a.n = mod-lt a.start c.requires.0 in
    omega (arith, e, h, place_far a.n a.start a.k (omega (arith, e, h)) (omega (arith, e, h)))
