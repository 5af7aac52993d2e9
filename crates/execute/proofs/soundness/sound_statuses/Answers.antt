-- `execute::soundness::sound_statuses` meets its contract.
use native.Mathlib.Omega.{arith}
use mathlib.Core.Path.{◌≡◌, sym, ap, ◌∙◌}
use mathlib.Core.Bool.{Bool}
use Prim.Native.Nat.{ℕ}
use Rattle.bits.specs.Every.{every}
use Rattle.bits.proofs.Every.{every_none, every_more, every_not}
use Rattle.readiness.specs.inner.Phases.{statuses_in}
use Rattle.records.specs.State.{status_at}
use Rattle.records.specs.Sound.{sound_status}
use Rattle.execute.proofs.soundness.sound_statuses.Goals as goal

pub loop-i-init : goal.loop-i-init
loop-i-init c = (omega arith, every_none _)

pub loop-i-preserved : goal.loop-i-preserved
loop-i-preserved c = (omega arith, every_more _ _ c.loop-i.invariant.1 (ap (sound_status c.args.dev) (sym c.status_at.ensures) ∙ sym c.sound_status.ensures ∙ c.if-not-sound_status.false))

pub returns-then-not-sound_status : goal.returns-then-not-sound_status
returns-then-not-sound_status c =
    let l = c in
    let a = l.args in
    let s = statuses_in a.phases.now in
    let p : ℕ → Bool = λ j. sound_status a.dev (status_at s j) in
    sym (every_not a.slots p l.loop-i.i (omega arith) (ap (sound_status c.args.dev) (sym c.status_at.ensures) ∙ sym c.sound_status.ensures ∙ c.if-not-sound_status.true))

pub returns : goal.returns
returns c =
    let a = c.args in
    let s = statuses_in a.phases.now in
    let p : ℕ → Bool = λ j. sound_status a.dev (status_at s j) in
    let e : a.slots ≡ c.loop-i.i = omega arith in
    sym (ap (λ (n : ℕ). every n p) e ∙ c.loop-i.invariant.1)
