-- What the code of set-up leaves, where it is not refused.
use Prim.Native.Nat.{ℕ, ◌≤◌}
use mathlib.Core.Path.{◌≡◌, ap₂}
use mathlib.Core.List.{List}
use lib.ListN.{length, replicate}
use Rattle.config_space.specs.Functions.{cold_reset}
use Rattle.config_space.proofs.Slots.{cold_reset_defaults}
use Rattle.readiness.specs.declared.Status.{Status}
use Rattle.readiness.specs.declared.Setup.{Setup}
use Rattle.readiness.specs.Blank.{blank_dev}
use Rattle.readiness.specs.Status.{stopped_by_reset, status_after_reset}
use Rattle.records.specs.Blank.{blank_port}
use Rattle.records.specs.declared.Port.{Port}
use Rattle.demand3.specs.Held.{held, lent_of}
use Rattle.demand3.specs.SettingUp.{Prepared, fresh_held}
use Rattle.set_up.proofs.Lent.{each_lent}

-- what the code leaves is fresh
pub fresh-left : (setup : Setup) (defaults : List ℕ) (port : Port) (n : ℕ) (array : List Status) (live cells : List ℕ)
    → n ≤ length array → length live ≡ length defaults
    → ◌≡◌ {A = Prepared}
    (record { number = 0; held = held blank_port (lent_of n (stopped_by_reset setup blank_dev array)) (cold_reset live defaults) (replicate (length cells) 0) })
    (record { number = 0; held = fresh_held setup defaults (held port (lent_of n array) live cells) })
unfolding fresh_held
fresh-left setup defaults port n array live cells h e =
    ap₂ {C = Prepared} (λ (s : List Status) (l : List ℕ). record { number = 0; held = held blank_port s l (replicate (length cells) 0) })
    (each_lent setup.slots n (status_after_reset setup blank_dev) array h)
    (cold_reset_defaults live defaults e)
