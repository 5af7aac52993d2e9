-- `settle::phases::status_of` meets its contract.
use mathlib.Core.Path.{ap, ◌∙◌}
use Rattle.times.specs.declared.Nanos.{Nanos}
use Rattle.readiness.specs.declared.Cause.TheVariants.{Flr}
use Rattle.readiness.specs.Status.{pending}
use borrow.Author.Tests.{ne_eqb}
use native.Mathlib.Omega.{arith}
use Rattle.readiness.specs.inner.Phases.{status_of}
use Rattle.settle.proofs.phases.status_of.Goals as goal

pub returns-in-0 : goal.returns-in-0
unfolding status_of
returns-in-0 c = rw c.in-0.is

pub returns-in-1 : goal.returns-in-1
unfolding status_of
returns-in-1 c = rw c.in-1.is c.pending.ensures

pub returns-in-2 : goal.returns-in-2
unfolding status_of
returns-in-2 c = rw c.in-2.is (c.pending-in-2.ensures ∙ ap (λ (t : Nanos). pending (Flr t) (record { 0 = c.args.ready_ns })) c.nanos_of.ensures)

pub returns-in-3 : goal.returns-in-3
unfolding status_of
returns-in-3 c = rw c.in-3.is c.pending-in-3.ensures

pub returns-in_default : goal.returns-in_default
unfolding status_of
returns-in_default c =
    let p = c.args.phase in
    simp (ne_eqb p 0 (λ e. omega arith), ne_eqb p 1 (λ e. omega arith), ne_eqb p 2 (λ e. omega arith), ne_eqb p 3 (λ e. omega arith))
