-- `settle::all_ready` meets its contract: what is left to look at decides.
use native.Mathlib.Omega.{arith}
use mathlib.Core.Bool.{true, false}
use mathlib.Core.Path.{refl, sym, ap, ◌∙◌}
use Rattle.readiness.specs.Status.{is_ready}
use Rattle.readiness.specs.inner.Phases.{statuses_in}
use Rattle.settle.proofs.Statuses.{ready_cons, ready_end}
use Rattle.settle.proofs.all_ready.Goals as goal

pub loop-i-init : goal.loop-i-init
loop-i-init c = λ setup. refl

pub loop-i-preserved : goal.loop-i-preserved
loop-i-preserved c =
    let at = c in
    λ setup. sym (ready_cons setup (statuses_in at.args.phases.now) _ at.loop-i.i true (omega arith) (ap is_ready (sym c.status_at.ensures) ∙ sym c.is_ready.ensures ∙ c.if-not-is_ready.false)) ∙ at.loop-i.invariant setup

pub returns-then-not-is_ready : goal.returns-then-not-is_ready
returns-then-not-is_ready c =
    let at = c in
    λ setup n. sym (ready_cons setup (statuses_in at.args.phases.now) _ at.loop-i.i false (omega arith) (ap is_ready (sym c.status_at.ensures) ∙ sym c.is_ready.ensures ∙ c.if-not-is_ready.true)) ∙ at.loop-i.invariant setup

pub returns : goal.returns
returns c =
    let at = c in
    λ setup n. sym (ready_end setup (statuses_in at.args.phases.now) at.loop-i.i (omega arith)) ∙ at.loop-i.invariant setup
