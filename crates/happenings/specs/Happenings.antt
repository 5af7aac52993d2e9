-- WHAT HAPPENS IN A RECORD, one thing after the other, each at its own moment (01, "Readiness" and "Queue"). It is told of the rules by which slots settle; nothing here changes a state.
use Rattle.std.specs.Prelude.{ℕ, Bool, true, false, cond, List, [], ◌∷◌, ◌++◌, ltb, length, Option, Some, None}
use Rattle.times.specs.declared.Nanos.{Nanos}
use Rattle.messages.specs.declared.Message.{Message}
use Rattle.messages.specs.declared.Message.TheVariants.{Drs, Frs}
use Rattle.frs_queue.specs.declared.Frs as queue_frs
use Rattle.frs_queue.specs.Queue.{no_tally}
use Rattle.readiness.specs.declared.Cause.{Cause}
use Rattle.readiness.specs.declared.Setup.{Setup}
use Rattle.readiness.specs.Root.{Root, frs_arrive, frs_of_drs, drs_set}
use Rattle.readiness.specs.Events.{Event, due, frs_of}
use Rattle.readiness.specs.Settle.{Scene, happens, drs_due, tells, last_of_moment, moment_ends}
use Rattle.records.specs.declared.Record.{Record}
use Rattle.records.specs.declared.Record.TheVariants.{Advance, Read, Write, Message as MessageRecord, LinkUp, LinkDown, ColdReset, ReadQueue, RemoveOldest, ClearBits, Control, HardwareSet, ReadBits, NoKind}
use Rattle.records.specs.State.{State, root_of, scene_of}
use Rattle.records.specs.Answer.{Effect, refused, does}
use Rattle.records.specs.Run.{effect}

-- a slot becomes Ready; an FRS arrives, and is queued or dropped; a DRS is received, the one that was owed or one that comes as a message, with DRS Received set already or not
pub data What : Type 0 where
  becomes_ready : (slot : ℕ) → Cause → What
  frs_queued : queue_frs.Frs → What
  frs_dropped : queue_frs.Frs → What
  drs_received : (owed already : Bool) → What

pub record Happening : Type 0 where
  pub at : Nanos
  pub what : What

abbrev pub happening : Nanos → What → Happening
happening t w = record { at = t; what = w }

-- an FRS that arrives: queued if depth is below the greatest, else dropped
abbrev pub arrival : queue_frs.Frs → Root → What
arrival frs x = cond (ltb x.dev.queue.depth (length x.cells)) (frs_queued frs) (frs_dropped frs)

-- several FRS arrive, one after the other
unfoldable pub frs_happen : Nanos → List queue_frs.Frs → Root → List Happening
frs_happen t [] x = []
frs_happen t (frs ∷ more) x = happening t (arrival frs x) ∷ frs_happen t more (frs_arrive (frs ∷ []) x)

-- a DRS is received, and the port's FRS arrives if it is signalled so
unfoldable pub drs_happens : (owed : Bool) → Nanos → (port_id : ℕ) → Root → List Happening
drs_happens owed t port_id x = happening t (drs_received owed x.dev.drs_received) ∷ frs_happen t (frs_of_drs port_id x.dev) (drs_set x)

-- the DRS that is owed, where it is due
unfoldable pub drs_told : Setup → Nanos → Scene → List Happening
drs_told setup t x = cond (drs_due setup x) (drs_happens true t setup.port_id x.root) []

-- a slot becomes Ready at its ready time, and its FRS, if any, arrives
unfoldable pub slot_happens : Setup → Event → Scene → List Happening
slot_happens setup e x = happening e.time (becomes_ready e.slot e.cause) ∷ frs_happen e.time (frs_of setup e) x.root

-- at the end of a moment, after its FRS, the DRS
unfoldable pub end_happens : Setup → Event → List Event → Scene → List Happening
end_happens setup e es x = cond (last_of_moment e es) (drs_told setup e.time x) []

-- slots become Ready one after the other
unfoldable pub slots_happen : Setup → List Event → Scene → List Happening
slots_happen setup [] x = []
slots_happen setup (e ∷ es) x =
    let y = happens setup e x in
    (slot_happens setup e x ++ end_happens setup e es y) ++ slots_happen setup es (moment_ends setup e es y)

-- all that happens as slots settle
unfoldable pub settling : Setup → Scene → List Happening
settling setup x = drs_told setup x.root.dev.clock x ++ slots_happen setup (due x.root.dev.clock x.statuses) (tells setup x)

-- an FRS or a DRS that comes as a message
abbrev pub by_message : Setup → State → Option Message → List Happening
by_message setup s None = []
by_message setup s (Some (Drs id)) = drs_happens false s.port.clock setup.port_id (root_of s no_tally)
by_message setup s (Some (Frs id reason)) = frs_happen s.port.clock (record { id = id; reason = reason } ∷ []) (root_of s no_tally)

abbrev pub by_record : Setup → State → Record → List Happening
by_record setup s (Advance by) = []
by_record setup s (Read q) = []
by_record setup s (Write q value) = []
by_record setup s (MessageRecord m) = by_message setup s m
by_record setup s LinkUp = []
by_record setup s LinkDown = []
by_record setup s ColdReset = []
by_record setup s ReadQueue = []
by_record setup s RemoveOldest = []
by_record setup s (ClearBits mask) = []
by_record setup s (Control b) = []
by_record setup s (HardwareSet slot word mask) = []
by_record setup s ReadBits = []
by_record setup s NoKind = []

-- then what happens as slots settle; nothing in a record that isn't done
abbrev pub happenings_in : Setup → List Happening → Effect State → List Happening
happenings_in setup own (refused completion data_word) = []
happenings_in setup own (does t tally data_word) = own ++ settling setup (scene_of t no_tally)

-- WHAT HAPPENS IN A RECORD
unfoldable pub happenings : Setup → (defaults : List ℕ) → State → Record → List Happening
happenings setup defaults s r = happenings_in setup (by_record setup s r) (effect setup defaults s r)
