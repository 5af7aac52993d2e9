-- `frs_queue::arrive` meets its contract.
use native.Mathlib.Omega.{arith}
use Rattle.frs_queue.proofs.arrive.Goals as goal

pub offset_bounds-cells-at : goal.offset_bounds-cells-at
offset_bounds-cells-at c = omega (arith, c.place-at.ensures.upper_bound)

pub bounds-cells-at : goal.bounds-cells-at
bounds-cells-at c = c.place-at.ensures.upper_bound
