-- `settle::starting::start_all` meets its contract: the first i slots are started.
use Prim.Native.Nat.{ℕ}
use native.Mathlib.Omega.{arith}
use mathlib.Core.Path.{◌≡◌, refl, sym, ap, ap₂, ◌∙◌}
use mathlib.Core.List.{List}
use lib.ListN.{set}
use Rattle.times.specs.declared.Nanos.{Nanos}
use Rattle.times.specs.Codes.{nanos_of}
use Rattle.times.specs.Moments.{sum_of}
use Rattle.readiness.specs.declared.Cause.TheVariants.{LinkUp}
use Rattle.readiness.specs.declared.Status.{Status}
use Rattle.readiness.specs.declared.Setup.{Setup}
use Rattle.readiness.specs.Status.{pending, entry_of, each_from, ready_after_link_up}
use Rattle.readiness.specs.inner.Phases.{statuses_in}
use Rattle.settle.proofs.Statuses.{each_none, each_more}
use Rattle.readiness.proofs.PhaseNumbers.{statuses_same}
use Rattle.settle.proofs.starting.start_all.Goals as goal

abbrev started : Setup → Nanos → ℕ → Status
started setup clock slot = pending LinkUp (sum_of clock (nanos_of (entry_of setup slot).dl_up))

pub loop-i-init : goal.loop-i-init
loop-i-init c = (refl, sym (each_none _ 0 0 _ (omega arith)), refl)

pub put_status-requires : goal.put_status-requires
put_status-requires c = let l = c in omega (arith, statuses_same l.loop-i.phases l.args.phases.now l.loop-i.invariant.0)

pub loop-i-preserved : goal.loop-i-preserved
loop-i-preserved c =
    let l = c in
    let a = l.args in (
      omega (arith, c.put_status.auto, l.loop-i.invariant.0),
      c.put_status.ensures.phases_after
          ∙ ap₂ (λ (o : List Status) (s : Status). set o l.loop-i.i s) l.loop-i.invariant.1 c.link_up_status-status.ensures
          ∙ each_more (started a.setup a.dev.clock) l.loop-i.i (statuses_in a.phases.now) (omega arith),
      c.put_status.ensures.phases_unchanged ∙ l.loop-i.invariant.2,
    )

pub returns : goal.returns
unfolding ready_after_link_up
returns c =
    let l = c in
    let a = l.args in
    let e : l.loop-i.i ≡ a.setup.slots = omega arith in
    record { phases_after = l.loop-i.invariant.1 ∙ ap (λ (n : ℕ). each_from 0 n (started a.setup a.dev.clock) (statuses_in a.phases.now)) e; phases_unchanged = l.loop-i.invariant.2 }
