-- The slots that a record makes Ready (02, Q-7).
use Rattle.std.specs.Prelude.{ℕ, ◌≤◌, ◌≡◌}
use mathlib.Core.List.{List, [], ◌∷◌, ◌++◌, Memᴰ}
use Rattle.trace.specs.Format.{pad, longest}
use Rattle.times.specs.declared.Nanos.{Nanos}
use Rattle.readiness.specs.declared.Cause.{Cause}
use Rattle.readiness.specs.declared.Phase.{Phase}
use Rattle.readiness.specs.declared.Phase.TheVariants.{Pending, Ready}
use Rattle.readiness.specs.declared.Setup.{Setup}
use Rattle.readiness.specs.Events.{Event, due}
use Rattle.records.specs.declared.Record.{Record}
use Rattle.records.specs.State.{State, phase_at}
use Rattle.records.specs.Answer.{Effect, refused, does}
use Rattle.records.specs.Run.{effect, run}
use Rattle.records.specs.Decode.{decode}
use Rattle.records.specs.Device.{device}

-- those whose ready time is at or before the clock once the record has done its part; a record that is answered with another status than 0 makes none Ready
abbrev pub readied_by : Effect State → List Event
readied_by (refused completion data_word) = []
readied_by (does t tally data_word) = due t.port.clock t.statuses

-- THE SLOTS THAT A RECORD MAKES READY, in order, each with its moment, which is its ready time
unfoldable pub readied : Setup → (defaults : List ℕ) → State → Record → List Event
readied setup defaults s r = readied_by (effect setup defaults s r)

-- ---- What that means, by the state before and after
-- the phase of a slot once the record has done its part, before slots become Ready; as it was, where the record is answered with another status than 0
abbrev pub phase_between : State → Effect State → (slot : ℕ) → Phase
phase_between s (refused completion data_word) slot = phase_at s slot
phase_between s (does t tally data_word) slot = phase_at t slot

pub record ReadiedExactly (setup : Setup) (defaults : List ℕ) (s : State) (r : Record) : Type 0 where
  -- a slot that is made Ready was Pending by then, until its moment, and is Ready once the record is answered
  pub pends : (e : Event) → Memᴰ e (readied setup defaults s r) → phase_between s (effect setup defaults s r) e.slot ≡ Pending e.cause e.time
  pub after : (e : Event) → Memᴰ e (readied setup defaults s r) → phase_at (run setup defaults s r).after e.slot ≡ Ready
  -- its moment is no later than the clock
  pub moment : (e : Event) → Memᴰ e (readied setup defaults s r) → e.time.0 ≤ (run setup defaults s r).after.port.clock.0
  -- a slot that is Pending by then, from before or by the record itself, and Ready once the record is answered, was made so
  pub all : (slot : ℕ) (cause : Cause) (t : Nanos) → phase_between s (effect setup defaults s r) slot ≡ Pending cause t → phase_at (run setup defaults s r).after slot ≡ Ready
      → Memᴰ (record { slot = slot; cause = cause; time = t }) (readied setup defaults s r)

-- ---- Over records
-- by the bytes of a record
abbrev pub readied_in : Setup → (defaults : List ℕ) → State → (bytes : List ℕ) → List Event
readied_in setup defaults s bytes = readied setup defaults s (decode (pad longest bytes))

-- over records that run one after the other
unfoldable pub readied_over : Setup → (defaults : List ℕ) → State → (records : List (List ℕ)) → List Event
readied_over setup defaults s [] = []
readied_over setup defaults s (r ∷ rs) = readied_in setup defaults s r ++ readied_over setup defaults ((device setup defaults).run s r).state rs
