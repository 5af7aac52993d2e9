-- `settle::phases::in_statuses` meets its contract: the first i slots are there.
use native.Mathlib.Omega.{arith}
use mathlib.Core.Path.{◌≡◌, refl}
use lib.ListN.{length, length-set}
use Rattle.readiness.specs.inner.Phases.{statuses_in}
use Rattle.settle.proofs.Statuses.{take_put, take_both}
use Rattle.readiness.proofs.PhaseNumbers.{statuses_length}
use borrow.Author.Rules.{rules}
use Rattle.settle.proofs.phases.in_statuses.Goals as goal

pub loop-i-init : goal.loop-i-init
loop-i-init c = (refl, refl)

pub status_at-requires : goal.status_at-requires
status_at-requires c =
    let a = c.args.phases in
    let n : length a ≡ 128 = search rules in
    omega (arith, statuses_length a)

pub loop-i-preserved : goal.loop-i-preserved
loop-i-preserved c =
    let l = c in
    let a = l.args.phases in
    let n : length a ≡ 128 = search rules in
    (simp length-set l.loop-i.invariant.0, take_put l.loop-i.statuses (statuses_in a) _ _ l.loop-i.i (omega arith) (omega (arith, statuses_length a)) l.loop-i.invariant.1 c.status_at.ensures)

pub returns : goal.returns
returns c =
    let l = c in
    let a = l.args.phases in
    let n : length a ≡ 128 = search rules in
    take_both l.loop-i.statuses (statuses_in a) l.loop-i.i (omega arith) (omega (arith, statuses_length a)) l.loop-i.invariant.1
