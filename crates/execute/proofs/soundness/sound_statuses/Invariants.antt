-- `execute::soundness::sound_statuses` meets its contract.
use mathlib.Core.Path.{◌≡◌}
use mathlib.Core.Bool.{true}
use Prim.Native.Nat.{◌≤◌}
use Rattle.bits.specs.Every.{every}
use Rattle.readiness.specs.inner.Phases.{statuses_in}
use Rattle.records.specs.State.{status_at}
use Rattle.records.specs.Sound.{sound_status}
use Rattle.execute.proofs.soundness.sound_statuses.Given as goal

abbrev pub invariant-loop-i : goal.invariant-loop-i
invariant-loop-i l = (l.i ≤ l.slots) × (every l.i (λ j. sound_status l.dev (status_at (statuses_in l.phases) j)) ≡ true)
