-- `settle::phases::put_status` meets its contract.
use native.Mathlib.Omega.{arith}
use lib.ListN.{length-set}
use Rattle.readiness.proofs.PhaseNumbers.{statuses_place, put-down, put-ready, put_link_up, put_d3hot, put-flr, stays, stays_timed, stays-flr}
use Rattle.settle.proofs.phases.put_status.Goals as goal

pub overflow_mul-at : goal.overflow_mul-at
overflow_mul-at c = let h = statuses_place c.args.phases.now c.args.i c.requires in omega arith

pub offset_bounds-phases-at : goal.offset_bounds-phases-at
offset_bounds-phases-at c = let h = statuses_place c.args.phases.now c.args.i c.requires in omega arith

pub bounds-phases-at : goal.bounds-phases-at
bounds-phases-at c = let h = statuses_place c.args.phases.now c.args.i c.requires in omega arith

pub offset_bounds-phases-at-in-Ready : goal.offset_bounds-phases-at-in-Ready
offset_bounds-phases-at-in-Ready c = let h = statuses_place c.args.phases.now c.args.i c.requires in omega arith

pub bounds-phases-at-in-Ready : goal.bounds-phases-at-in-Ready
bounds-phases-at-in-Ready c = let h = statuses_place c.args.phases.now c.args.i c.requires in omega arith

pub overflow_add-phases : goal.overflow_add-phases
overflow_add-phases c = let h = statuses_place c.args.phases.now c.args.i c.requires in omega arith

pub offset_bounds-phases-at-in-Pending : goal.offset_bounds-phases-at-in-Pending
offset_bounds-phases-at-in-Pending c = let h = statuses_place c.args.phases.now c.args.i c.requires in omega arith

pub bounds-phases-at-in-Pending : goal.bounds-phases-at-in-Pending
bounds-phases-at-in-Pending c = let h = statuses_place c.args.phases.now c.args.i c.requires in omega arith

pub offset_bounds-phases-at-in-LinkUp : goal.offset_bounds-phases-at-in-LinkUp
offset_bounds-phases-at-in-LinkUp c = let h = statuses_place c.args.phases.now c.args.i c.requires in omega arith

pub bounds-phases-at-in-LinkUp : goal.bounds-phases-at-in-LinkUp
bounds-phases-at-in-LinkUp c = simp length-set (let h = statuses_place c.args.phases.now c.args.i c.requires in omega arith)

pub offset_bounds-phases-at-in-D3hot : goal.offset_bounds-phases-at-in-D3hot
offset_bounds-phases-at-in-D3hot c = let h = statuses_place c.args.phases.now c.args.i c.requires in omega arith

pub bounds-phases-at-in-D3hot : goal.bounds-phases-at-in-D3hot
bounds-phases-at-in-D3hot c = simp length-set (let h = statuses_place c.args.phases.now c.args.i c.requires in omega arith)

pub offset_bounds-phases-at-in-Flr : goal.offset_bounds-phases-at-in-Flr
offset_bounds-phases-at-in-Flr c = let h = statuses_place c.args.phases.now c.args.i c.requires in omega arith

pub bounds-phases-at-in-Flr : goal.bounds-phases-at-in-Flr
bounds-phases-at-in-Flr c = simp length-set (let h = statuses_place c.args.phases.now c.args.i c.requires in omega arith)

pub overflow_add-phases-in-Flr : goal.overflow_add-phases-in-Flr
overflow_add-phases-in-Flr c = let h = statuses_place c.args.phases.now c.args.i c.requires in omega arith

pub offset_bounds-phases-at-in-Flr-2 : goal.offset_bounds-phases-at-in-Flr-2
offset_bounds-phases-at-in-Flr-2 c = let h = statuses_place c.args.phases.now c.args.i c.requires in omega arith

pub bounds-phases-at-in-Flr-2 : goal.bounds-phases-at-in-Flr-2
bounds-phases-at-in-Flr-2 c = simp length-set (let h = statuses_place c.args.phases.now c.args.i c.requires in omega arith)

pub returns-in-Down-clause-phases_after : goal.returns-in-Down-clause-phases_after
returns-in-Down-clause-phases_after c = let s = c in put-down s.args.phases.now s.args.i s.args.status s.requires c.in-Down.is

pub returns-in-Down-clause-phases_unchanged : goal.returns-in-Down-clause-phases_unchanged
returns-in-Down-clause-phases_unchanged c = let s = c in stays s.args.phases.now s.args.i 0

pub returns-in-Ready-clause-phases_after : goal.returns-in-Ready-clause-phases_after
returns-in-Ready-clause-phases_after c = let s = c in put-ready s.args.phases.now s.args.i s.args.status s.requires c.in-Ready.is

pub returns-in-Ready-clause-phases_unchanged : goal.returns-in-Ready-clause-phases_unchanged
returns-in-Ready-clause-phases_unchanged c = let s = c in stays s.args.phases.now s.args.i 4

pub returns-in-LinkUp-clause-phases_after : goal.returns-in-LinkUp-clause-phases_after
returns-in-LinkUp-clause-phases_after c = let s = c in put_link_up s.args.phases.now s.args.i s.args.status s.requires _ _ _ c.in-Pending.is c.nanos_number.ensures c.in-LinkUp.is

pub returns-in-LinkUp-clause-phases_unchanged : goal.returns-in-LinkUp-clause-phases_unchanged
returns-in-LinkUp-clause-phases_unchanged c = let s = c in stays_timed s.args.phases.now s.args.i 1 _

pub returns-in-D3hot-clause-phases_after : goal.returns-in-D3hot-clause-phases_after
returns-in-D3hot-clause-phases_after c = let s = c in put_d3hot s.args.phases.now s.args.i s.args.status s.requires _ _ _ c.in-Pending.is c.nanos_number.ensures c.in-D3hot.is

pub returns-in-D3hot-clause-phases_unchanged : goal.returns-in-D3hot-clause-phases_unchanged
returns-in-D3hot-clause-phases_unchanged c = let s = c in stays_timed s.args.phases.now s.args.i 3 _

pub returns-in-Flr-clause-phases_after : goal.returns-in-Flr-clause-phases_after
returns-in-Flr-clause-phases_after c = let s = c in put-flr s.args.phases.now s.args.i s.args.status s.requires _ _ _ c.in-Pending.is c.nanos_number.ensures _ _ c.in-Flr.is c.nanos_number-in-Flr.ensures

pub returns-in-Flr-clause-phases_unchanged : goal.returns-in-Flr-clause-phases_unchanged
returns-in-Flr-clause-phases_unchanged c = let s = c in stays-flr s.args.phases.now s.args.i 2 _ _
