-- `settle::starting::stop_all` meets its contract: the first i slots are Down.
use Prim.Native.Nat.{ℕ}
use native.Mathlib.Omega.{arith}
use mathlib.Core.Path.{◌≡◌, refl, sym, ap, ◌∙◌}
use mathlib.Core.List.{List}
use lib.ListN.{set}
use Rattle.readiness.specs.declared.Status.{Status}
use Rattle.readiness.specs.Status.{down, each_from}
use Rattle.readiness.specs.inner.Phases.{statuses_in}
use Rattle.settle.proofs.Statuses.{each_none, each_more}
use Rattle.readiness.proofs.PhaseNumbers.{statuses_same}
use Rattle.settle.proofs.starting.stop_all.Goals as goal

pub loop-i-init : goal.loop-i-init
loop-i-init c = (refl, sym (each_none _ 0 0 _ (omega arith)), refl)

pub put_status-requires : goal.put_status-requires
put_status-requires c = let l = c in omega (arith, statuses_same l.loop-i.phases l.args.phases.now l.loop-i.invariant.0)

pub loop-i-preserved : goal.loop-i-preserved
loop-i-preserved c =
    let l = c in
    let a = l.args in (
      omega (arith, c.put_status.auto, l.loop-i.invariant.0),
      c.put_status.ensures.phases_after ∙ ap (λ (o : List Status). set o l.loop-i.i down) l.loop-i.invariant.1 ∙ each_more (λ slot. down) l.loop-i.i (statuses_in a.phases.now) (omega arith),
      c.put_status.ensures.phases_unchanged ∙ l.loop-i.invariant.2,
    )

pub returns : goal.returns
returns c =
    let l = c in
    let a = l.args in
    let e : l.loop-i.i ≡ a.setup.slots = omega arith in
    record { phases_after = l.loop-i.invariant.1 ∙ ap (λ (n : ℕ). each_from 0 n (λ slot. down) (statuses_in a.phases.now)) e; phases_unchanged = l.loop-i.invariant.2 }
