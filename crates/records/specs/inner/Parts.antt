-- A record by the part of the state that it touches: one slot, the root port alone, or the whole card.
use Rattle.std.specs.Prelude.{ℕ, cond, List, [], ltb, set, Result, Ok, Err}
use Rattle.registers.specs.declared.Kind.{Kind}
use Rattle.frs_queue.specs.Queue.{no_tally}
use Rattle.readiness.specs.declared.Slot.{Slot}
use Rattle.readiness.specs.declared.Setup.{Setup}
use Rattle.readiness.specs.declared.Dev.{Dev}
use Rattle.readiness.specs.declared.Status.{Status}
use Rattle.readiness.specs.Events.{Event, due_event}
use Rattle.readiness.specs.inner.OneSlot.{slot_settles}
use Rattle.records.specs.declared.Record.{Record}
use Rattle.records.specs.declared.Record.TheVariants.{Advance, Read, Write, Message, LinkUp, LinkDown, ColdReset, ReadQueue, RemoveOldest, ClearBits, Control, HardwareSet, ReadBits, NoKind}
use Rattle.records.specs.declared.Completion.{Completion}
use Rattle.records.specs.declared.Completion.TheVariants as completion
use Rattle.records.specs.declared.Part.{Part}
use Rattle.records.specs.declared.Part.TheVariants.{OneSlot, PortAlone, WholeCard}
use Rattle.records.specs.declared.SlotDone.{SlotDone}
use Rattle.records.specs.declared.PortDone.{PortDone}
use Rattle.records.specs.State.{State, state, Seat, seat}
use Rattle.records.specs.Answer.{Effect, refused, does, Ran, reply, answered}
use Rattle.records.specs.Requests.{read_effect, write_effect, hardware_effect}
use Rattle.records.specs.PortRecords.{Front, front, message_effect, read_queue_effect, remove_effect, clear_effect, control_effect, read_bits_effect}
use Rattle.records.specs.CardRecords.{advance_effect, link_up_effect, link_down_effect, cold_reset_effect}

-- a request to a slot that there is not touches nothing
abbrev pub part_at : Setup → (slot : ℕ) → Part
part_at setup slot = cond (ltb slot setup.slots) (OneSlot slot) PortAlone

-- which part a record touches
abbrev pub part_of : Setup → Record → Part
part_of setup (Advance by) = WholeCard
part_of setup (Read q) = part_at setup q.slot
part_of setup (Write q value) = part_at setup q.slot
part_of setup (Message m) = PortAlone
part_of setup LinkUp = WholeCard
part_of setup LinkDown = WholeCard
part_of setup ColdReset = WholeCard
part_of setup ReadQueue = PortAlone
part_of setup RemoveOldest = PortAlone
part_of setup (ClearBits mask) = PortAlone
part_of setup (Control b) = PortAlone
part_of setup (HardwareSet slot word mask) = part_at setup slot
part_of setup ReadBits = PortAlone
part_of setup NoKind = PortAlone

-- ---- one slot
-- what a record does to a slot's part; other records do nothing there
unfoldable pub slot_effect : (slots : ℕ) → Kind → Slot → (defaults : List ℕ) → Record → Seat → Effect Seat
slot_effect slots kind entry defaults (Read q) z = read_effect slots kind q z
slot_effect slots kind entry defaults (Write q value) z = write_effect slots kind entry defaults q value z
slot_effect slots kind entry defaults (HardwareSet slot word mask) z = hardware_effect slots kind slot word mask z
slot_effect slots kind entry defaults (Advance by) z = does z no_tally 0
slot_effect slots kind entry defaults (Message m) z = does z no_tally 0
slot_effect slots kind entry defaults LinkUp z = does z no_tally 0
slot_effect slots kind entry defaults LinkDown z = does z no_tally 0
slot_effect slots kind entry defaults ColdReset z = does z no_tally 0
slot_effect slots kind entry defaults ReadQueue z = does z no_tally 0
slot_effect slots kind entry defaults RemoveOldest z = does z no_tally 0
slot_effect slots kind entry defaults (ClearBits mask) z = does z no_tally 0
slot_effect slots kind entry defaults (Control b) z = does z no_tally 0
slot_effect slots kind entry defaults ReadBits z = does z no_tally 0
slot_effect slots kind entry defaults NoKind z = does z no_tally 0

-- the slot becomes Ready before the answer, if its ready time is at or before the clock
unfoldable pub slot_answered : (bus : ℕ) → Slot → (slot : ℕ) → Seat → Effect Seat → Ran Seat
slot_answered bus entry slot z (refused completion data_word) = record { after = z; reply = reply completion no_tally data_word }
slot_answered bus entry slot z (does y tally data_word) =
    let x = slot_settles bus entry slot (record { status = y.status; root = record { dev = y.dev; cells = y.cells; tally = tally } }) in
    record { after = seat x.root.dev x.status y.live x.root.cells; reply = reply completion.Done x.root.tally data_word }

-- it, if it does
abbrev pub slot_readied : (slot : ℕ) → Effect Seat → List Event
slot_readied slot (refused completion data_word) = []
slot_readied slot (does y tally data_word) = due_event y.dev.clock slot y.status.phase

unfoldable pub slot_run : (slots : ℕ) → Kind → (bus : ℕ) → Slot → (defaults : List ℕ) → (slot : ℕ) → Record → Seat → Ran Seat
slot_run slots kind bus entry defaults slot r z = slot_answered bus entry slot z (slot_effect slots kind entry defaults r z)

abbrev pub slot_ran : SlotDone → (live cells : List ℕ) → Ran Seat
slot_ran x live cells = record { after = seat x.dev x.status live cells; reply = x.reply }

-- ---- the root port alone
-- what a record does to the root port; a request to a slot that there is not is refused with 20
unfoldable pub port_effect : (port_id : ℕ) → Record → Front → Effect Front
port_effect port_id (Message m) p = message_effect port_id m p
port_effect port_id ReadQueue p = read_queue_effect p
port_effect port_id RemoveOldest p = remove_effect p
port_effect port_id (ClearBits mask) p = clear_effect mask p
port_effect port_id (Control b) p = control_effect b p
port_effect port_id ReadBits p = read_bits_effect p
port_effect port_id (Read q) p = refused completion.NoSlot 0
port_effect port_id (Write q value) p = refused completion.NoSlot 0
port_effect port_id (HardwareSet slot word mask) p = refused completion.NoSlot 0
port_effect port_id (Advance by) p = does p no_tally 0
port_effect port_id LinkUp p = does p no_tally 0
port_effect port_id LinkDown p = does p no_tally 0
port_effect port_id ColdReset p = does p no_tally 0
port_effect port_id NoKind p = does p no_tally 0

unfoldable pub port_answered : Front → Effect Front → Ran Front
port_answered p (refused completion data_word) = record { after = p; reply = reply completion no_tally data_word }
port_answered p (does y tally data_word) = record { after = y; reply = reply completion.Done tally data_word }

unfoldable pub port_run : (port_id : ℕ) → Record → Front → Ran Front
port_run port_id r p = port_answered p (port_effect port_id r p)

abbrev pub port_ran : PortDone → (cells : List ℕ) → Ran Front
port_ran x cells = record { after = front x.dev cells; reply = x.reply }

-- ---- the whole card
unfoldable pub card_effect : Setup → (defaults : List ℕ) → Record → State → Effect State
card_effect setup defaults (Advance by) s = advance_effect by s
card_effect setup defaults LinkUp s = link_up_effect setup s
card_effect setup defaults LinkDown s = link_down_effect setup defaults s
card_effect setup defaults ColdReset s = cold_reset_effect setup defaults s
card_effect setup defaults (Read q) s = refused completion.Done 0
card_effect setup defaults (Write q value) s = refused completion.Done 0
card_effect setup defaults (HardwareSet slot word mask) s = refused completion.Done 0
card_effect setup defaults (Message m) s = refused completion.Done 0
card_effect setup defaults ReadQueue s = refused completion.Done 0
card_effect setup defaults RemoveOldest s = refused completion.Done 0
card_effect setup defaults (ClearBits mask) s = refused completion.Done 0
card_effect setup defaults (Control b) s = refused completion.Done 0
card_effect setup defaults ReadBits s = refused completion.Done 0
card_effect setup defaults NoKind s = refused completion.Done 0

unfoldable pub card_run : Setup → (defaults : List ℕ) → Record → State → Ran State
card_run setup defaults r s = answered setup s (card_effect setup defaults r s)

abbrev pub card_ran : PortDone → (statuses : List Status) → (live cells : List ℕ) → Ran State
card_ran x statuses live cells = record { after = state x.dev statuses live cells; reply = x.reply }

-- what a record has done before slots become Ready, with the statuses and the live registers that it left: it is refused, or leaves a device
abbrev pub started_effect : Result Dev Completion → (statuses : List Status) → (live cells : List ℕ) → Effect State
started_effect (Err completion) statuses live cells = refused completion 0
started_effect (Ok dev) statuses live cells = does (state dev statuses live cells) no_tally 0

-- ---- a part put back into the state
abbrev pub slot_put : State → (slot : ℕ) → Ran Seat → Ran State
slot_put s slot x = record { after = state x.after.dev (set s.statuses slot x.after.status) x.after.live x.after.cells; reply = x.reply }

abbrev pub port_put : State → Ran Front → Ran State
port_put s x = record { after = state x.after.dev s.statuses s.live x.after.cells; reply = x.reply }
