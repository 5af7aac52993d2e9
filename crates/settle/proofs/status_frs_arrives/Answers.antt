-- `settle::status_frs_arrives` meets its contract.
use Prim.Native.Nat.{ℕ}
use native.Mathlib.Omega.{arith}
use mathlib.Core.Path.{◌≡◌, sym, ap, ◌∙◌}
use Rattle.times.specs.declared.Nanos.{Nanos}
use Rattle.readiness.specs.declared.Cause.{Cause}
use Rattle.readiness.specs.declared.Phase.TheVariants.{Down, Pending, Ready}
use Rattle.readiness.specs.Root.{root, frs_arrive}
use Rattle.readiness.specs.Events.{frs_of_slot}
use Rattle.settle.proofs.status_frs_arrives.Goals as goal

down_pends : (c : Cause) (t : Nanos) → Down ≡ Pending c t → ⊥
down_pends c t q = let z : ◌≡◌ {A = ℕ} 0 1 = cc in omega arith

ready_pends : (c : Cause) (t : Nanos) → Ready ≡ Pending c t → ⊥
ready_pends c t q = let z : ◌≡◌ {A = ℕ} 0 1 = cc in omega arith

same_cause : (c : Cause) (t : Nanos) (d : Cause) (u : Nanos) → Pending c t ≡ Pending d u → c ≡ d
same_cause c t d u q = cc

pub returns-in-Down : goal.returns-in-Down
returns-in-Down c = λ cause time e. absurd (down_pends cause time (sym c.in-Down.is ∙ e))

pub returns-in-Ready : goal.returns-in-Ready
returns-in-Ready c = λ cause time e. absurd (ready_pends cause time (sym c.in-Ready.is ∙ e))

pub returns-in-Pending : goal.returns-in-Pending
returns-in-Pending c = λ cause time e.
    let a = c.args in
    c.slot_frs_arrives.ensures
    ∙ ap (λ (v : Cause). frs_arrive (frs_of_slot a.bus a.entry a.slot v) (root a.cells.now a.port)) (same_cause _ _ cause time (sym c.in-Pending.is ∙ e))
