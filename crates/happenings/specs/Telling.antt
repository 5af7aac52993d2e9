-- What is claimed of the happenings of a record: they are the rules' own, all of them, and in order.
use Rattle.std.specs.Prelude.{ℕ, ◌≤◌, Bool, true, false, cond, List, [], ◌∷◌, ◌++◌, ◌≡◌, set}
use Rattle.times.specs.declared.Nanos.{Nanos}
use Rattle.messages.specs.declared.Message.{Message}
use Rattle.frs_queue.specs.declared.Frs.{Frs}
use Rattle.frs_queue.specs.Queue.{no_tally, queues, drops}
use Rattle.readiness.specs.declared.Setup.{Setup}
use Rattle.readiness.specs.Status.{ready}
use Rattle.readiness.specs.Root.{Root, ring_of, with_ring, drs_set, nothing_owed}
use Rattle.readiness.specs.Events.{Event}
use Rattle.readiness.specs.Settle.{Scene, drs_due, settles}
use Rattle.records.specs.declared.Record.{Record}
use Rattle.records.specs.declared.Record.TheVariants as kind
use Rattle.records.specs.State.{State, scene_of}
use Rattle.records.specs.Answer.{Effect, refused, does}
use Rattle.records.specs.Run.{effect}
use Rattle.records.specs.Arrivals.{arrivals}
use Rattle.records.specs.MadeReady.{readied}
use Rattle.happenings.specs.Happenings.{What, becomes_ready, frs_queued, frs_dropped, drs_received, Happening, settling, by_message, happenings}

-- ---- What is told
-- the slots that become Ready, with cause and moment
abbrev pub ready_at : Nanos → What → List Event
ready_at t (becomes_ready slot cause) = record { slot = slot; cause = cause; time = t } ∷ []
ready_at t (frs_queued frs) = []
ready_at t (frs_dropped frs) = []
ready_at t (drs_received owed already) = []

unfoldable pub ready_in : List Happening → List Event
ready_in [] = []
ready_in (h ∷ hs) = ready_at h.at h.what ++ ready_in hs

-- the FRS that arrive, queued or dropped
abbrev pub frs_at : What → List Frs
frs_at (becomes_ready slot cause) = []
frs_at (frs_queued frs) = frs ∷ []
frs_at (frs_dropped frs) = frs ∷ []
frs_at (drs_received owed already) = []

unfoldable pub frs_in : List Happening → List Frs
frs_in [] = []
frs_in (h ∷ hs) = frs_at h.what ++ frs_in hs

-- ---- What it does
-- a happening by itself: the slot is Ready; the FRS is put at the end and Received set, or Overflow is set; DRS Received is set, and nothing is owed if the owed DRS came
abbrev pub plays : What → Scene → Scene
plays (becomes_ready slot cause) x = record { statuses = set x.statuses slot ready; root = x.root }
plays (frs_queued frs) x = record { statuses = x.statuses; root = with_ring (queues x.root.dev.control.frs_interrupt frs (ring_of x.root)) x.root }
plays (frs_dropped frs) x = record { statuses = x.statuses; root = with_ring (drops x.root.dev.control.frs_interrupt (ring_of x.root)) x.root }
plays (drs_received owed already) x = record { statuses = x.statuses; root = cond owed (nothing_owed (drs_set x.root)) (drs_set x.root) }

unfoldable pub plays_all : List Happening → Scene → Scene
plays_all [] x = x
plays_all (h ∷ hs) x = plays_all hs (plays h.what x)

-- ---- In order
-- no happening is before the one that stands before it, nor before a moment
unfoldable pub InOrder : (from : ℕ) → List Happening → Type 0
InOrder from [] = Unit {0}
InOrder from (h ∷ hs) = (from ≤ h.at.0) × InOrder h.at.0 hs

-- ---- THE CLAIM
pub record Told (setup : Setup) (defaults : List ℕ) (s : State) (r : Record) : Type 0 where
  -- the slots that become Ready are those that the record makes Ready, each at its ready time
  pub ready : ready_in (happenings setup defaults s r) ≡ readied setup defaults s r
  -- the FRS are those that arrive in the record
  pub frs : frs_in (happenings setup defaults s r) ≡ arrivals setup defaults s r

-- done one by one, what happens as slots settle leaves what settling leaves: every status, port bit, queue cell, count and interrupt
abbrev pub Settling : Setup → Scene → Type 0
Settling setup x = plays_all (settling setup x) x ≡ settles setup x

pub record Telling : Type 0 where
  pub told : (setup : Setup) (defaults : List ℕ) (s : State) (r : Record) → Told setup defaults s r
  pub leaves : (setup : Setup) (x : Scene) → Settling setup x
  -- none before an earlier one, where no DRS is due before the first slot becomes Ready, as in every sound state
  pub in_order : (setup : Setup) (x : Scene) → drs_due setup x ≡ false → InOrder 0 (settling setup x)
