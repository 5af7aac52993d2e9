-- Examples from 01, which antt computes.
use Prim.Native.Nat.{ℕ, ◌+◌}
use mathlib.Core.Path.{◌≡◌, refl}
use mathlib.Core.Bool.{Bool, true, false}
use mathlib.Core.List.{List, [], ◌∷◌}
use lib.ListN.{get_or, set, replicate}
use Rattle.bits.specs.Bits.{bit, number, word}
use Rattle.bits.specs.Lists.{listed, replaced}
use Rattle.times.specs.declared.Nanos.{Nanos}
use Rattle.times.specs.Codes.{nanos_of, power_of}
use Rattle.times.specs.Moments.{sum_of, least_of}
use Rattle.registers.specs.Rows.{endpoint_table, find, endpoint_row, row_of, reads_zero, starts_flr}
use Rattle.registers.specs.Words.{lane_mask, read_word, write_bit, write_word, reset_bit, link_reset, flr_reset, hardware_set, starts_d3hot}
use Rattle.registers.specs.inner.Masks.{held}
use Rattle.config_space.specs.Functions.{reset_where, link_reset_slot, flr_reset_slot, link_reset_all, cold_reset}
use Rattle.std.specs.Prelude.{Some}
use Rattle.messages.specs.declared.Message.TheVariants.{Drs, Frs}
use Rattle.frs_queue.specs.Queue.{counted, place_of, queues, drops, arrives, arrive_all, removed, register_of, messages_of}
use Rattle.readiness.specs.declared.Cause.TheVariants as cause
use Rattle.readiness.specs.declared.Slot.{Slot}
use Rattle.readiness.specs.declared.Setup.{Setup}
use Rattle.readiness.specs.declared.Control as PortControl
use Rattle.readiness.specs.declared.Dev.{Dev}
use Rattle.readiness.specs.Fields.{with_clock, with_link, with_owed, with_drs_received, with_control, with_queue}
use Rattle.readiness.specs.Blank.{blank_dev, blank_slot}
use Rattle.readiness.specs.Status.{all_ready_from, each_from, ready_after_link_up, after_reset, after_link_down, after_cold_reset, started_by_flr, started_by_d3hot, down, pending, ready}
use Rattle.readiness.specs.Root.{frs_arrive, frs_of_drs, drs_set, drs_arrives}
use Rattle.readiness.specs.Events.{insert, insert_all, due_from, frs_of_slot, frs_of}
use Rattle.readiness.specs.Settle.{happens, tells, moment_ends, happen_all, settles, frs_told, frs_ending, frames_of, frs_sent}
use Rattle.records.specs.declared.Request.{Request}
use Rattle.records.specs.declared.Record.{Record}
use Rattle.records.specs.declared.Record.TheVariants.{Advance, Read, Write, Message, LinkUp, LinkDown, ColdReset, ReadQueue, RemoveOldest, ClearBits, Control, HardwareSet, ReadBits, NoKind}
use Rattle.records.specs.State.{State, state, status_at, kind_of_entry}
use Rattle.records.specs.Blank.{blank_port}
use Rattle.records.specs.Decode.{four, decode}
use Rattle.records.specs.Answer.{answer_bytes, answered, Ran, completion_number}
use Rattle.records.specs.Route.{reads_vendor_id, crs_of, pending_route, phase_route, route_of, crs_data}
use Rattle.records.specs.Requests.{after_flr, after_d3hot, write_seat, read_effect, write_effect, hardware_effect}
use Rattle.records.specs.PortRecords.{message_done, message_effect, cleared_dev, control_of, control_effect, status_bits}
use Rattle.records.specs.CardRecords.{advance_effect, link_up_effect, link_down_effect, cold_reset_effect}
use Rattle.records.specs.Arrivals.{arrivals}
use Rattle.records.specs.Run.{effect, run}

-- a record, computed
unfoldable pub computed : Setup → (defaults : List ℕ) → State → Record → Ran State
unfolding bit number word listed replaced nanos_of power_of sum_of least_of endpoint_table find endpoint_row row_of reads_zero starts_flr lane_mask held read_word write_bit write_word reset_bit link_reset flr_reset hardware_set reset_where link_reset_slot flr_reset_slot link_reset_all cold_reset counted place_of queues drops arrives arrive_all removed register_of messages_of kind_of_entry all_ready_from each_from ready_after_link_up after_reset after_link_down after_cold_reset started_by_flr started_by_d3hot frs_arrive frs_of_drs drs_set drs_arrives insert insert_all due_from frs_of_slot frs_of happens tells moment_ends happen_all settles frs_told frs_ending frames_of frs_sent four decode answer_bytes answered reads_vendor_id crs_of pending_route phase_route route_of crs_data starts_d3hot after_flr after_d3hot write_seat read_effect write_effect hardware_effect message_done message_effect cleared_dev control_of control_effect status_bits advance_effect link_up_effect link_down_effect cold_reset_effect arrivals effect run
computed setup defaults s r = run setup defaults s r

-- ---- a card of one slot

-- DL Up Time 10 ns, FLR Time 134,217,728 ns, D3hot time 3 ns; sends FRS
abbrev entry : Slot
entry = record { reset = record { 0 = 0 }; dl_up = record { 0 = 0x00A }; flr = record { 0 = 0xA04 }; d3hot = record { 0 = 0x003 }; sends_frs = true }

abbrev pub card : Setup
card = record { slots = 1; entries = entry ∷ replicate 31 blank_slot; bus = 1; port_id = 0x0008 }

-- vendor and device ID; FLR capable; device control 2810h; interrupt line FFh
abbrev pub defaults : List ℕ
defaults = set (set (set (set (replicate 64 0) 0 0x56781234) 0x1D 0x10000000) 0x1E 0x00002810) 0x0F 0x000001FF

-- visibility, FRS interrupt and signalling
abbrev pub with : Bool → Bool → ℕ → PortControl.Control
with visibility interrupt signalling = record { visibility = visibility; frs_interrupt = interrupt; signalling = signalling }

-- the link is up, the queue is empty and the status bits are 0
abbrev port : (clock : ℕ) → PortControl.Control → Dev
port clock control = with_control (with_link (with_clock blank_dev (record { 0 = clock })) true) control

-- the slot is Ready; cache line 40h and interrupt line 0Bh were written, PME_Status is set, PowerState is 3
abbrev live : (pmcsr : ℕ) → List ℕ
live pmcsr = set (set (set defaults 3 0x00000040) 0x0F 0x0000010B) 0x11 pmcsr

abbrev settled : PortControl.Control → State
settled control = state (port 1000 control) (ready ∷ []) (live 0x00008000) (0 ∷ [])

abbrev after : State → Record → State
after s r = (run card defaults s r).after

abbrev at : (slot word enables : ℕ) → Request
at slot word enables = record { slot = slot; word = word; enables = enables }

abbrev pub ns : ℕ → Nanos
ns n = record { 0 = n }

abbrev reads : State → (word enables : ℕ) → ℕ
reads s word enables = (run card defaults s (Read (at 0 word enables))).reply.«data»

abbrev status : State → Record → ℕ
status s r = completion_number (run card defaults s r).reply.completion

-- ---- FLR

-- a write to 78h with Max_Payload_Size 5, bit 15 and bits 3:0 set
abbrev flr : Record
flr = Write (at 0 0x1E 3) 0x000080AF

-- FLR resets the interrupt line
pub flr_resets_interrupt_line : get_or (after (settled (with false false 0)) flr).live 0x0F 0 ≡ 0x000001FF
unfolding computed
flr_resets_interrupt_line = refl

-- and the cache line
pub flr_resets_cache_line : get_or (after (settled (with false false 0)) flr).live 3 0 ≡ 0x00000000
unfolding computed
flr_resets_cache_line = refl

-- it keeps Max_Payload_Size written in the same write, and resets the rest of the word
pub flr_keeps_max_payload : get_or (after (settled (with false false 0)) flr).live 0x1E 0 ≡ 0x000028B0
unfolding computed
flr_keeps_max_payload = refl

-- it is in progress until c + 100,000,000, and the slot is Pending until c + 134,217,728
pub flr_starts : status_at (after (settled (with false false 0)) flr).statuses 0 ≡ pending (cause.Flr (ns 100001000)) (ns 134218728)
unfolding computed
flr_starts = refl

-- the slot while an FLR is in progress, at so many nanoseconds after its start
abbrev resetting : (elapsed : ℕ) → PortControl.Control → State
resetting elapsed control = state (port (1000 + elapsed) control) (pending (cause.Flr (ns 100001000)) (ns 134218728) ∷ []) defaults (0 ∷ [])

-- 18 comes before 17: FLR in progress with visibility off
pub unsupported_before_retry : status (resetting 0 (with false false 0)) (Read (at 0 0 15)) ≡ 18
unfolding computed
unsupported_before_retry = refl

-- before the end it is in progress,
pub flr_in_progress : status (resetting 99999999 (with true false 0)) (Read (at 0 0 15)) ≡ 18
unfolding computed
flr_in_progress = refl

-- at the end it is CRS
pub flr_at_its_end : status (resetting 100000000 (with true false 0)) (Read (at 0 0 15)) ≡ 16
unfolding computed
flr_at_its_end = refl

-- a read answered 18 gives FFh in enabled bytes, a write 0
pub unsupported_data : reads (resetting 0 (with true false 0)) 7 9 ≡ 0xFF0000FF
unfolding computed
unsupported_data = refl

pub unsupported_write : (run card defaults (resetting 0 (with true false 0)) (Write (at 0 7 9) 0xFFFFFFFF)).reply.«data» ≡ 0
unfolding computed
unsupported_write = refl

-- when it is over, an FRS with the function's ID and reason 3 arrives
pub flr_sends_frs : messages_of (after (resetting 0 (with false false 0)) (Advance (ns 134217728))).cells (after (resetting 0 (with false false 0)) (Advance (ns 134217728))).port.queue ≡ 0x00030100 ∷ []
unfolding computed
flr_sends_frs = refl

-- without byte 1 enabled nothing starts
pub flr_byte_off : status_at (after (settled (with false false 0)) (Write (at 0 0x1E 13) 0x000080AF)).statuses 0 ≡ ready
unfolding computed
flr_byte_off = refl

-- nor without bit 28 of the default word 74h
pub flr_not_capable : (run card (set defaults 0x1D 0) (settled (with false false 0)) flr).after.statuses ≡ ready ∷ []
unfolding computed
flr_not_capable = refl

-- with an FLR Time of 0 the slot is Ready before that record's own answer, with its FRS counted in it
abbrev at_once : Setup
at_once = record { slots = 1; entries = record { reset = record { 0 = 0 }; dl_up = record { 0 = 0 }; flr = record { 0 = 0x200 }; d3hot = record { 0 = 0 }; sends_frs = true } ∷ replicate 31 blank_slot; bus = 1; port_id = 0x0008 }

pub flr_at_once : answer_bytes (run at_once defaults (settled (with false true 0)) flr).reply ≡ 0 ∷ 1 ∷ 1 ∷ 0 ∷ 0 ∷ 0 ∷ 0 ∷ 0 ∷ []
unfolding computed
flr_at_once = refl

-- bit 15 always reads 0, whatever the live word holds
pub flr_bit_reads_0 : reads (state (port 0 (with false false 0)) (ready ∷ []) (set defaults 0x1E 0xFFFFFFFF) (0 ∷ [])) 0x1E 15 ≡ 0xFFDF7FFF
unfolding computed
flr_bit_reads_0 = refl

-- ---- CRS at the root

abbrev starting : PortControl.Control → State
starting control = state (port 1000 control) (pending cause.LinkUp (ns 1010) ∷ []) defaults (0 ∷ [])

-- enables 3 at word 0 give 00000001h
pub crs_vendor_id : answer_bytes (run card defaults (starting (with true false 0)) (Read (at 0 0 3))).reply ≡ 16 ∷ 0 ∷ 0 ∷ 0 ∷ 0x01 ∷ 0x00 ∷ 0x00 ∷ 0x00 ∷ []
unfolding computed
crs_vendor_id = refl

-- other enabled bytes are FFh
pub crs_other_bytes : reads (starting (with true false 0)) 0 15 ≡ 0xFFFF0001
unfolding computed
crs_other_bytes = refl

pub crs_third_byte : reads (starting (with true false 0)) 0 7 ≡ 0x00FF0001
unfolding computed
crs_third_byte = refl

-- 16 needs both enables 0 and 1, word 0, visibility and a read: else 17, with no data
pub crs_enables_1 : answer_bytes (run card defaults (starting (with true false 0)) (Read (at 0 0 1))).reply ≡ 17 ∷ 0 ∷ 0 ∷ 0 ∷ 0 ∷ 0 ∷ 0 ∷ 0 ∷ []
unfolding computed
crs_enables_1 = refl

pub crs_enables_14 : status (starting (with true false 0)) (Read (at 0 0 14)) ≡ 17
unfolding computed
crs_enables_14 = refl

pub crs_other_word : status (starting (with true false 0)) (Read (at 0 1 15)) ≡ 17
unfolding computed
crs_other_word = refl

pub crs_visibility_off : status (starting (with false false 0)) (Read (at 0 0 15)) ≡ 17
unfolding computed
crs_visibility_off = refl

pub crs_write : status (starting (with true false 0)) (Write (at 0 0 15) 0) ≡ 17
unfolding computed
crs_write = refl

-- the order of numbers: no such slot, then the word, then the enables, then the slot's status
pub order_20 : status (starting (with true false 0)) (Read (at 1 64 16)) ≡ 20
unfolding computed
order_20 = refl

pub order_21 : status (starting (with true false 0)) (Read (at 0 64 16)) ≡ 21
unfolding computed
order_21 = refl

pub order_24 : status (starting (with true false 0)) (Read (at 0 63 16)) ≡ 24
unfolding computed
order_24 = refl

-- ---- D3hot to D0

-- PowerState 3, with No_Soft_Reset or without
abbrev in_d3hot : (pmcsr : ℕ) → State
in_d3hot pmcsr = state (port 1000 (with false true 0)) (ready ∷ []) (live pmcsr) (0 ∷ [])

abbrev to_d0 : Record
to_d0 = Write (at 0 0x11 1) 0

-- No_Soft_Reset 0: as link down in that slot
pub d3hot_resets : get_or (after (in_d3hot 0x00000003) to_d0).live 3 0 ≡ 0x00000000
unfolding computed
d3hot_resets = refl

-- No_Soft_Reset 1: no other bit changes
pub d3hot_no_soft_reset : (after (in_d3hot 0x0000000B) to_d0).live ≡ live 0x00000008
unfolding computed
d3hot_no_soft_reset = refl

-- then an FRS with reason 2 arrives: interrupt 0, one queued
pub d3hot_sends_frs : answer_bytes (run card defaults (after (in_d3hot 0x0000000B) to_d0) (Advance (ns 3))).reply ≡ 0 ∷ 1 ∷ 1 ∷ 0 ∷ 0 ∷ 0 ∷ 0 ∷ 0 ∷ []
unfolding computed
d3hot_sends_frs = refl

pub d3hot_reason_2 : (after (after (in_d3hot 0x0000000B) to_d0) (Advance (ns 3))).cells ≡ 0x00020100 ∷ []
unfolding computed
d3hot_reason_2 = refl

-- Pending until c + D3hot time with either
pub d3hot_starts : (after (in_d3hot 0x00000003) to_d0).statuses ≡ pending cause.D3hot (ns 1003) ∷ []
unfolding computed
d3hot_starts = refl

pub d3hot_starts_too : (after (in_d3hot 0x0000000B) to_d0).statuses ≡ pending cause.D3hot (ns 1003) ∷ []
unfolding computed
d3hot_starts_too = refl

-- writing 1 or 2 to PowerState leaves it, and nothing starts
pub d3hot_not_by_1 : get_or (after (in_d3hot 0x00000003) (Write (at 0 0x11 3) 0x00000101)).live 0x11 0 ≡ 0x00000103
unfolding computed
d3hot_not_by_1 = refl

-- ---- link up, link down, cold reset

-- PME_Status survives link down,
pub pme_survives_link_down : get_or (after (settled (with true true 2)) LinkDown).live 0x11 0 ≡ 0x00008000
unfolding computed
pme_survives_link_down = refl

-- not cold reset
pub pme_not_cold_reset : get_or (after (settled (with true true 2)) ColdReset).live 0x11 0 ≡ 0x00000000
unfolding computed
pme_not_cold_reset = refl

-- all status bits are set, a DRS is owed and a message is queued
abbrev busy : State
busy =
    state
    (with_queue (with_drs_received (with_owed (port 1000 (with true true 2)) true) true) (record { start = 1; depth = 1; received = true; overflow = true }))
    (pending cause.LinkUp (ns 1010) ∷ []) (live 0) (7 ∷ 0x00030100 ∷ [])

-- link down: link and slot Down, nothing owed, queue emptied and cells untouched; DRS Received is cleared, Received and Overflow stay; the clock stays
pub link_down_port : (after busy LinkDown).port
    ≡ record { clock = ns 1000; link = false; owed = false; drs_received = false; control = with true true 2; queue = record { start = 0; depth = 0; received = true; overflow = true } }
unfolding computed
link_down_port = refl

pub link_down_slots : (after busy LinkDown).statuses ≡ down ∷ []
unfolding computed
link_down_slots = refl

pub link_down_cells : (after busy LinkDown).cells ≡ 7 ∷ 0x00030100 ∷ []
unfolding computed
link_down_cells = refl

-- cold reset: the same, all port bits are cleared, and the clock stays
pub cold_reset_port : (after busy ColdReset).port
    ≡ record { clock = ns 1000; link = false; owed = false; drs_received = false; control = with false false 0; queue = record { start = 0; depth = 0; received = false; overflow = false } }
unfolding computed
cold_reset_port = refl

pub cold_reset_registers : (after busy ColdReset).live ≡ defaults
unfolding computed
cold_reset_registers = refl

-- link up at clock c: Pending until c + DL Up Time, a DRS is owed
abbrev link_down : PortControl.Control → State
link_down control = after (settled control) LinkDown

pub link_up_slots : (after (link_down (with false false 1)) LinkUp).statuses ≡ pending cause.LinkUp (ns 1010) ∷ []
unfolding computed
link_up_slots = refl

-- the DRS interrupt with signalling 1, when all slots are Ready; no FRS after link up
pub drs_interrupt : answer_bytes (run card defaults (after (link_down (with false false 1)) LinkUp) (Advance (ns 10))).reply ≡ 0 ∷ 4 ∷ 0 ∷ 0 ∷ 0 ∷ 0 ∷ 0 ∷ 0 ∷ []
unfolding computed
drs_interrupt = refl

-- with signalling 2 an FRS with the port's ID and reason 1
pub drs_as_frs : (after (after (link_down (with false true 2)) LinkUp) (Advance (ns 10))).cells ≡ 0x00010008 ∷ []
unfolding computed
drs_as_frs = refl

-- one nanosecond before, nothing
pub drs_not_yet : answer_bytes (run card defaults (after (link_down (with false false 1)) LinkUp) (Advance (ns 9))).reply ≡ replicate 8 0
unfolding computed
drs_not_yet = refl

-- ---- messages

-- queue of 1, two FRS
abbrev first : State
first = after (settled (with false true 0)) (Message (Some (Frs 0x0101 3)))

abbrev second : State
second = after first (Message (Some (Frs 0x0102 2)))

-- an FRS by message is counted, and raises the interrupt of Received
pub first_queued : answer_bytes (run card defaults (settled (with false true 0)) (Message (Some (Frs 0x0101 3)))).reply ≡ 0 ∷ 1 ∷ 1 ∷ 0 ∷ 0 ∷ 0 ∷ 0 ∷ 0 ∷ []
unfolding computed
first_queued = refl

-- of two the first stays
pub first-stays : messages_of second.cells second.port.queue ≡ 0x00030101 ∷ []
unfolding computed
first-stays = refl

-- and the second is dropped
pub second_dropped : answer_bytes (run card defaults first (Message (Some (Frs 0x0102 2)))).reply ≡ 0 ∷ 2 ∷ 0 ∷ 1 ∷ 0 ∷ 0 ∷ 0 ∷ 0 ∷ []
unfolding computed
second_dropped = refl

-- Received isn't set on a drop
pub drop_not_received : (after (after first (ClearBits 1)) (Message (Some (Frs 0x0102 2)))).port.queue.received ≡ false
unfolding computed
drop_not_received = refl

-- Received stays after removal
pub received-stays : (after first RemoveOldest).port.queue ≡ record { start = 0; depth = 0; received = true; overflow = false }
unfolding computed
received-stays = refl

-- the register shows depth · 2^20 plus the oldest cell
pub queue_register : (run card defaults first ReadQueue).reply.«data» ≡ 0x00130101
unfolding computed
queue_register = refl

-- a DRS by message sets DRS Received, and "owed" stays
pub drs_message_owed : (after (after (link_down (with false false 1)) LinkUp) (Message (Some (Drs 0)))).port.owed ≡ true
unfolding computed
drs_message_owed = refl

pub drs_message_interrupt : answer_bytes (run card defaults (after (link_down (with false false 1)) LinkUp) (Message (Some (Drs 0)))).reply ≡ 0 ∷ 4 ∷ 0 ∷ 0 ∷ 0 ∷ 0 ∷ 0 ∷ 0 ∷ []
unfolding computed
drs_message_interrupt = refl

-- ---- port bits

-- bits 7:3 of 0A are ignored
pub clear_some : (run card defaults (after busy (ClearBits 0xFD)) ReadBits).reply.«data» ≡ 2
unfolding computed
clear_some = refl

-- bit 0 CRS visibility, bit 1 FRS interrupt, bits 3:2 signalling
pub control_bits : (after (settled (with true true 0)) (Control 0x0A)).port.control ≡ with false true 2
unfolding computed
control_bits = refl

-- a refused 0B leaves the visibility bit, and all else: above 15, or signalling 3
pub control_refused : (run card defaults (settled (with true true 0)) (Control 0x10)).after ≡ settled (with true true 0)
unfolding computed
control_refused = refl

pub control_signalling_3 : (run card defaults (settled (with true true 0)) (Control 0x0E)).after ≡ settled (with true true 0)
unfolding computed
control_signalling_3 = refl

-- ---- the clock

-- 10^15 − 1 plus 1 is done,
pub clock_to_its_end : status (state (port 999999999999999 (with true false 0)) (ready ∷ []) defaults (0 ∷ [])) (Advance (ns 1)) ≡ 0
unfolding computed
clock_to_its_end = refl

-- plus 2 gives 22
pub clock_past_its_end : status (state (port 999999999999999 (with true false 0)) (ready ∷ []) defaults (0 ∷ [])) (Advance (ns 2)) ≡ 22
unfolding computed
clock_past_its_end = refl

-- ---- two slots

abbrev pair : Setup
pair = record { slots = 2; entries = entry ∷ entry ∷ replicate 30 blank_slot; bus = 1; port_id = 0x0008 }

-- slot 0 becomes Ready after slot 1
abbrev racing : State
racing =
    state (port 0 (with false true 0)) (pending cause.D3hot (ns 20) ∷ pending (cause.Flr (ns 5)) (ns 10) ∷ []) [] (0 ∷ 0 ∷ [])

-- within one long advance, FRS are sent by ready time and not by slot number
pub by_ready_time : (run pair [] racing (Advance (ns 100))).after.cells ≡ 0x00030101 ∷ 0x00020100 ∷ []
unfolding computed
by_ready_time = refl

-- ties by slot number
pub ties_by_slot : (run pair [] (state (port 0 (with false true 0)) (pending cause.D3hot (ns 20) ∷ pending cause.D3hot (ns 20) ∷ []) [] (0 ∷ 0 ∷ [])) (Advance (ns 20))).after.cells
    ≡ 0x00020100 ∷ 0x00020101 ∷ []
unfolding computed
ties_by_slot = refl

-- link up: each slot is Pending until c + its own DL Up Time, here 10 ns and 1,024 ns
abbrev unlike : Setup
unlike =
    record {
      slots = 2;
      entries = entry ∷ record { reset = record { 0 = 0 }; dl_up = record { 0 = 0x220 }; flr = record { 0 = 0 }; d3hot = record { 0 = 0 }; sends_frs = false } ∷ replicate 30 blank_slot;
      bus = 1;
      port_id = 0x0008;
    }

pub link_up_own_times : (run unlike [] (state (after (settled (with false false 0)) LinkDown).port (down ∷ down ∷ []) [] (0 ∷ [])) LinkUp).after.statuses
    ≡ pending cause.LinkUp (ns 1010) ∷ pending cause.LinkUp (ns 2024) ∷ []
unfolding computed
link_up_own_times = refl

-- hardware sets those mask bits that lie in C; a slot that isn't Ready is refused
pub hardware_status : get_or (after (settled (with false false 0)) (HardwareSet 0 1 0xFFFFFFFF)).live 1 0 ≡ 0xF9000000
unfolding computed
hardware_status = refl

pub hardware_not_ready : status (starting (with false false 0)) (HardwareSet 0 1 0xFFFFFFFF) ≡ 23
unfolding computed
hardware_not_ready = refl

-- ---- decoding

-- numbers low byte first
pub decode-advance : decode (0x01 ∷ 0x0A ∷ 0x01 ∷ 0x00 ∷ 0x80 ∷ []) ≡ Advance (ns 0x8000010A)
unfolding computed
decode-advance = refl

pub decode_write : decode (0x03 ∷ 0x00 ∷ 0x1E ∷ 0x02 ∷ 0x00 ∷ 0x80 ∷ 0x00 ∷ 0x00 ∷ []) ≡ Write (at 0 0x1E 2) 0x00008000
unfolding computed
decode_write = refl

pub decode_hardware : decode (0x0C ∷ 0x02 ∷ 0x01 ∷ 0x78 ∷ 0x56 ∷ 0x34 ∷ 0x12 ∷ []) ≡ HardwareSet 2 1 0x12345678
unfolding computed
decode_hardware = refl

pub decode_unknown : decode (0x0E ∷ []) ≡ NoKind
unfolding computed
decode_unknown = refl

-- ---- the blank port: nothing carried or broken
pub blank_port_lem : (blank_port.carried_len ≡ 0) × (blank_port.broken ≡ false)
blank_port_lem = (refl, refl)
