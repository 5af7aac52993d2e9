-- The state of a bench that notes moments, where the statuses are numbers.
use Rattle.times.specs.declared.Nanos.{Nanos}
use Rattle.std.specs.Prelude.{ℕ, List, Option}
use Rattle.trace.specs.Bench.{Device}
use Rattle.readiness.specs.declared.Setup.{Setup}
use Rattle.readiness.specs.declared.Dev.{Dev}
use Rattle.readiness.specs.declared.Status.{Status}
use Rattle.readiness.specs.inner.Phases.{statuses_in, moments_in, moments_with}
use Rattle.records.specs.State.{State, state}
use Rattle.records.specs.Device.{device}
use Rattle.capture.specs.Noting.{Noting, noting}
use Rattle.replay_rules.specs.KeepingMoments.{notes_in}

abbrev pub Noted : Type 0
Noted = Noting State (List (Option Nanos))

abbrev pub noting_device : Setup → (defaults : List ℕ) → Device Noted
noting_device setup defaults = noting (device setup defaults) (notes_in setup defaults)

-- a state with the moments of before the call, and those of the numbers
abbrev pub noted_with : List (Option Nanos) → State → (numbers : List ℕ) → Noted
noted_with kept s numbers = record { base = s; kept = moments_with kept numbers }

abbrev pub noted_in : List (Option Nanos) → Dev → (phases live cells : List ℕ) → Noted
noted_in kept dev phases live cells = noted_with kept (state dev (statuses_in phases) live cells) (moments_in phases)
