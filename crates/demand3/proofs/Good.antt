-- The device's records keep a good state good.
use Prim.Native.Nat.{ℕ, ◌-◌}
use mathlib.Core.List.{List}
use lib.ListN.{length}
use Rattle.trace.specs.Format.{pad, longest}
use Rattle.trace.specs.inner.Keeps.{RunKeeps}
use Rattle.bits.proofs.Bytes.{bytes_padded}
use Rattle.readiness.specs.declared.Setup.{Setup}
use Rattle.records.specs.State.{State}
use Rattle.records.specs.Device.{in_bytes, device}
use Rattle.records.specs.StaysSound.{SoundSetup, Keeps}
use Rattle.records.proofs.Keeping.{bytes_keep}

-- a good state: a set-up that is sound, and a state that keeps what the call began with
pub record Good (k : Setup) (defaults : List ℕ) (s₀ s : State) : Type 0 where
  pub setup : SoundSetup k
  pub kept : Keeps k defaults s₀ s

pub good_keeps : (k : Setup) (defaults : List ℕ) (s₀ : State) → RunKeeps (device k defaults) (Good k defaults s₀)
unfolding in_bytes
good_keeps k defaults s₀ s r e b g =
    record { setup = g.setup; kept = bytes_keep k defaults s₀ s g.setup g.kept (pad longest r) (bytes_padded r (longest - length r) b) }
