-- A record runs (01, "Trace records").
use Rattle.std.specs.Prelude.{ℕ, List}
use Rattle.frs_queue.specs.Queue.{no_tally}
use Rattle.readiness.specs.declared.Setup.{Setup}
use Rattle.readiness.specs.Status.{entry_of}
use Rattle.records.specs.declared.Record.{Record}
use Rattle.records.specs.declared.Record.TheVariants.{Advance, Read, Write, Message, LinkUp, LinkDown, ColdReset, ReadQueue, RemoveOldest, ClearBits, Control, HardwareSet, ReadBits, NoKind}
use Rattle.records.specs.State.{State, state, Seat, seat_of, put_back, slot_kind}
use Rattle.records.specs.Answer.{Effect, refused, does, Ran, answered}
use Rattle.records.specs.Requests.{read_effect, write_effect, hardware_effect}
use Rattle.records.specs.PortRecords.{Front, front, message_effect, read_queue_effect, remove_effect, clear_effect, control_effect, read_bits_effect}
use Rattle.records.specs.CardRecords.{advance_effect, link_up_effect, link_down_effect, cold_reset_effect}

-- what a record does to a slot's part, or to the root port, is done to the state
abbrev pub at_slot : State → (slot : ℕ) → Effect Seat → Effect State
at_slot s slot (refused completion data_word) = refused completion data_word
at_slot s slot (does z tally data_word) = does (put_back s slot z) tally data_word

abbrev pub at_port : State → Effect Front → Effect State
at_port s (refused completion data_word) = refused completion data_word
at_port s (does p tally data_word) = does (state p.dev s.statuses s.live p.cells) tally data_word

abbrev pub front_of : State → Front
front_of s = front s.port s.cells

-- what each record does
unfoldable pub effect : Setup → (defaults : List ℕ) → State → Record → Effect State
effect setup defaults s (Advance by) = advance_effect by s
effect setup defaults s (Read q) = at_slot s q.slot (read_effect setup.slots (slot_kind setup q.slot) q (seat_of s q.slot))
effect setup defaults s (Write q value) =
    at_slot s q.slot (write_effect setup.slots (slot_kind setup q.slot) (entry_of setup q.slot) defaults q value (seat_of s q.slot))
effect setup defaults s (Message m) = at_port s (message_effect setup.port_id m (front_of s))
effect setup defaults s LinkUp = link_up_effect setup s
effect setup defaults s LinkDown = link_down_effect setup defaults s
effect setup defaults s ColdReset = cold_reset_effect setup defaults s
effect setup defaults s ReadQueue = at_port s (read_queue_effect (front_of s))
effect setup defaults s RemoveOldest = at_port s (remove_effect (front_of s))
effect setup defaults s (ClearBits mask) = at_port s (clear_effect mask (front_of s))
effect setup defaults s (Control b) = at_port s (control_effect b (front_of s))
effect setup defaults s (HardwareSet slot word mask) =
    at_slot s slot (hardware_effect setup.slots (slot_kind setup slot) slot word mask (seat_of s slot))
effect setup defaults s ReadBits = at_port s (read_bits_effect (front_of s))
-- never run: an unknown kind gives 31
effect setup defaults s NoKind = does s no_tally 0

-- A RECORD RUNS: the state after it, and its answer
unfoldable pub run : Setup → (defaults : List ℕ) → State → Record → Ran State
run setup defaults s r = answered setup s (effect setup defaults s r)
