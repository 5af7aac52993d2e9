-- `settle::phases::put_moment` meets its contract.
use native.Mathlib.Omega.{arith}
use Rattle.readiness.proofs.PhaseNumbers.{statuses_place, moments_set, moments_apart}
use Rattle.settle.proofs.phases.put_moment.Goals as goal

pub overflow_mul-phases : goal.overflow_mul-phases
overflow_mul-phases c = let h = statuses_place c.args.phases.now c.args.i c.requires in omega arith

pub overflow_add-phases : goal.overflow_add-phases
overflow_add-phases c = let h = statuses_place c.args.phases.now c.args.i c.requires in omega arith

pub offset_bounds-phases-i : goal.offset_bounds-phases-i
offset_bounds-phases-i c = let h = statuses_place c.args.phases.now c.args.i c.requires in omega arith

pub bounds-phases-i : goal.bounds-phases-i
bounds-phases-i c = let h = statuses_place c.args.phases.now c.args.i c.requires in omega arith

pub returns-clause-phases_after : goal.returns-clause-phases_after
returns-clause-phases_after c = moments_set c.args.phases.now c.args.i _

pub returns-clause-phases_unchanged : goal.returns-clause-phases_unchanged
returns-clause-phases_unchanged c = moments_apart c.args.phases.now c.args.i _
