-- `settle::phases::status_at` meets its contract.
use native.Mathlib.Omega.{arith}
use mathlib.Core.Path.{sym, ◌∙◌}
use Rattle.readiness.proofs.PhaseNumbers.{statuses_place, statuses_at}
use Rattle.settle.proofs.phases.status_at.Goals as goal

pub overflow_mul-at : goal.overflow_mul-at
overflow_mul-at c = let h = statuses_place c.args.phases.now c.args.i c.requires in omega arith

pub offset_bounds-phases-at : goal.offset_bounds-phases-at
offset_bounds-phases-at c = let h = statuses_place c.args.phases.now c.args.i c.requires in omega arith

pub bounds-phases-at : goal.bounds-phases-at
bounds-phases-at c = let h = statuses_place c.args.phases.now c.args.i c.requires in omega arith

pub overflow_add-at : goal.overflow_add-at
overflow_add-at c = let h = statuses_place c.args.phases.now c.args.i c.requires in omega arith

pub offset_bounds-phases-at-2 : goal.offset_bounds-phases-at-2
offset_bounds-phases-at-2 c = let h = statuses_place c.args.phases.now c.args.i c.requires in omega arith

pub bounds-phases-at-2 : goal.bounds-phases-at-2
bounds-phases-at-2 c = let h = statuses_place c.args.phases.now c.args.i c.requires in omega arith

pub overflow_add-at-2 : goal.overflow_add-at-2
overflow_add-at-2 c = let h = statuses_place c.args.phases.now c.args.i c.requires in omega arith

pub offset_bounds-phases-at-3 : goal.offset_bounds-phases-at-3
offset_bounds-phases-at-3 c = let h = statuses_place c.args.phases.now c.args.i c.requires in omega arith

pub bounds-phases-at-3 : goal.bounds-phases-at-3
bounds-phases-at-3 c = let h = statuses_place c.args.phases.now c.args.i c.requires in omega arith

pub returns : goal.returns
returns c = let s = c in c.status_of.ensures ∙ sym (statuses_at s.args.phases.now s.args.i s.requires)
