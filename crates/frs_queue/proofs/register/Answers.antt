-- `frs_queue::register` meets its contract.
use native.Mathlib.Omega.{arith}
use Rattle.frs_queue.proofs.register.Goals as goal

pub offset_bounds-cells-oldest : goal.offset_bounds-cells-oldest
offset_bounds-cells-oldest c = omega (arith, c.place-oldest.ensures.upper_bound)

pub bounds-cells-oldest : goal.bounds-cells-oldest
bounds-cells-oldest c = c.place-oldest.ensures.upper_bound
