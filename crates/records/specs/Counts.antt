-- COUNTS AND EDGES (demand 2; 01, "Trace records", "Queue", "Readiness"): FRS queued and dropped are those of the FRS that arrived in the record,
-- and interrupts are bits that went from 0 to 1.
use Rattle.std.specs.Prelude.{ℕ, ◌+◌, ◌-◌, ◌≤◌, ◌<◌, min, Bool, true, false, not, ◌&&◌, ◌||◌, List, [], ◌++◌, map, ◌≢◌, ◌≡◌, eqb, ltb, length, get_or, take, drop}
use Rattle.bits.specs.Bits.{bit}
use Rattle.trace.specs.Format.{longest, pad}
use Rattle.frs_queue.specs.Queue.{cell_of}
use Rattle.readiness.specs.declared.Setup.{Setup}
use Rattle.records.specs.declared.Record.{Record}
use Rattle.records.specs.declared.Record.TheVariants as kind
use Rattle.records.specs.State.{State, list_of}
use Rattle.records.specs.declared.Reply.{Reply}
use Rattle.records.specs.Decode.{four, decode}
use Rattle.records.specs.Answer.{Effect, refused, does, completion_number, answer_bytes}
use Rattle.records.specs.Run.{effect, run}
use Rattle.records.specs.Device.{device}
use Rattle.records.specs.Arrivals.{arrivals}
use Rattle.records.specs.Sound.{Sound, Fitting}

-- ---- the queue's list
-- what a record that is done leaves of it before anything arrives: link down and cold reset empty the queue, 09 takes its head
abbrev pub kept_by : State → Record → List ℕ
kept_by s (kind.Advance by) = list_of s
kept_by s (kind.Read q) = list_of s
kept_by s (kind.Write q value) = list_of s
kept_by s (kind.Message m) = list_of s
kept_by s kind.LinkUp = list_of s
kept_by s kind.LinkDown = []
kept_by s kind.ColdReset = []
kept_by s kind.ReadQueue = list_of s
kept_by s kind.RemoveOldest = drop 1 (list_of s)
kept_by s (kind.ClearBits mask) = list_of s
kept_by s (kind.Control b) = list_of s
kept_by s (kind.HardwareSet slot word mask) = list_of s
kept_by s kind.ReadBits = list_of s
kept_by s kind.NoKind = list_of s

-- a record that isn't done takes nothing
abbrev pub kept_in : State → Record → Effect State → List ℕ
kept_in s r (refused completion data_word) = list_of s
kept_in s r (does t tally data_word) = kept_by s r

abbrev pub kept : Setup → (defaults : List ℕ) → State → Record → List ℕ
kept setup defaults s r = kept_in s r (effect setup defaults s r)

-- ---- Received and Overflow
-- which of them a record that is done clears, as numbered in 0A (0 Received, 1 Overflow): cold reset both, 0A where its mask is 1, link down neither
abbrev pub clears_bit : (i : ℕ) → Record → Bool
clears_bit i (kind.Advance by) = false
clears_bit i (kind.Read q) = false
clears_bit i (kind.Write q value) = false
clears_bit i (kind.Message m) = false
clears_bit i kind.LinkUp = false
clears_bit i kind.LinkDown = false
clears_bit i kind.ColdReset = true
clears_bit i kind.ReadQueue = false
clears_bit i kind.RemoveOldest = false
clears_bit i (kind.ClearBits mask) = bit mask i
clears_bit i (kind.Control b) = false
clears_bit i (kind.HardwareSet slot word mask) = false
clears_bit i kind.ReadBits = false
clears_bit i kind.NoKind = false

-- a record that isn't done clears none
abbrev pub clears_in : (i : ℕ) → Record → Effect State → Bool
clears_in i r (refused completion data_word) = false
clears_in i r (does t tally data_word) = clears_bit i r

-- what a record leaves of each bit before anything arrives
abbrev pub received_kept : Setup → (defaults : List ℕ) → State → Record → Bool
received_kept setup defaults s r = s.port.queue.received && not (clears_in 0 r (effect setup defaults s r))

abbrev pub overflow_kept : Setup → (defaults : List ℕ) → State → Record → Bool
overflow_kept setup defaults s r = s.port.queue.overflow && not (clears_in 1 r (effect setup defaults s r))

-- ---- an answer
-- its 8 bytes: status; interrupts (bit 0 Received, 1 Overflow, 2 DRS); FRS queued; FRS dropped; 4 data bytes, low byte first
pub record AnswerBytes (a : Reply) : Type 0 where
  pub status : get_or (answer_bytes a) 0 0 ≡ completion_number a.completion
  pub received : bit (get_or (answer_bytes a) 1 0) 0 ≡ a.tally.received
  pub overflow : bit (get_or (answer_bytes a) 1 0) 1 ≡ a.tally.overflow
  pub drs : bit (get_or (answer_bytes a) 1 0) 2 ≡ a.tally.drs
  pub others : get_or (answer_bytes a) 1 0 < 8
  pub queued : get_or (answer_bytes a) 2 0 ≡ a.tally.queued
  pub dropped : get_or (answer_bytes a) 3 0 ≡ a.tally.dropped
  pub data_word : a.«data» < 4294967296 → four (answer_bytes a) 4 ≡ a.«data»

abbrev pub EveryAnswer : Type 0
EveryAnswer = (a : Reply) → AnswerBytes a

-- byte i of a record's answer
abbrev pub answer_byte : Setup → (defaults : List ℕ) → State → Record → (i : ℕ) → ℕ
answer_byte setup defaults s r i = get_or (answer_bytes (run setup defaults s r).reply) i 0

-- FRS QUEUED AND DROPPED
pub record Counts (setup : Setup) (defaults : List ℕ) (s : State) (r : Record) : Type 0 where
  -- as many are queued as there was room for: the smaller of the room and of how many arrived
  pub queued : answer_byte setup defaults s r 2 ≡ min (length s.cells - length (kept setup defaults s r)) (length (arrivals setup defaults s r))
  -- queued and dropped are all that arrived
  pub all : answer_byte setup defaults s r 2 + answer_byte setup defaults s r 3 ≡ length (arrivals setup defaults s r)
  -- the queue's list is what was left of it, and the first queued of the messages, in order
  pub list : list_of (run setup defaults s r).after ≡ kept setup defaults s r ++ take (answer_byte setup defaults s r 2) (map cell_of (arrivals setup defaults s r))
  -- Received is set exactly where one was queued, and Overflow where one was dropped; else they are as the record left them
  pub received : (run setup defaults s r).after.port.queue.received ≡ (received_kept setup defaults s r || ltb 0 (answer_byte setup defaults s r 2))
  pub overflow : (run setup defaults s r).after.port.queue.overflow ≡ (overflow_kept setup defaults s r || ltb 0 (answer_byte setup defaults s r 3))

-- a bit goes from 0 to 1
abbrev pub rises : (before after : Bool) → Bool
rises before after = not before && after

-- INTERRUPTS: a bit of the port went from 0 to 1 in this record, with the enables as the record found them
pub record Edges (setup : Setup) (defaults : List ℕ) (s : State) (r : Record) : Type 0 where
  -- bit 0: Received, with the FRS interrupt enabled
  pub received : bit (answer_byte setup defaults s r 1) 0
      ≡ (s.port.control.frs_interrupt && rises s.port.queue.received (run setup defaults s r).after.port.queue.received)
  -- bit 1: Overflow, with the FRS interrupt enabled
  pub overflow : bit (answer_byte setup defaults s r 1) 1
      ≡ (s.port.control.frs_interrupt && rises s.port.queue.overflow (run setup defaults s r).after.port.queue.overflow)
  -- bit 2: DRS Received, with signalling 1
  pub drs : bit (answer_byte setup defaults s r 1) 2
      ≡ (eqb s.port.control.signalling 1 && rises s.port.drs_received (run setup defaults s r).after.port.drs_received)
  -- and no other bit
  pub others : answer_byte setup defaults s r 1 < 8

-- COUNTS AND EDGES, of every record
pub record CountsAndEdges (setup : Setup) (defaults : List ℕ) (s : State) : Type 0 where
  -- with at most 32 slots, and a queue within its cells
  pub counts : length s.statuses ≤ 32 → s.port.queue.depth ≤ length s.cells → (r : Record) → Counts setup defaults s r
  -- in a sound state; at most 33 arrive, so that the counts are bytes
  pub edges : length s.statuses ≤ 32 → Sound setup s → Fitting setup defaults s → (r : Record) → Edges setup defaults s r
  pub at_most33 : length s.statuses ≤ 32 → Sound setup s → Fitting setup defaults s → (r : Record) → length (arrivals setup defaults s r) ≤ 33

-- for every set-up, all defaults and any state
abbrev pub EveryCountAndEdge : Type 0
EveryCountAndEdge = (setup : Setup) (defaults : List ℕ) (s : State) → CountsAndEdges setup defaults s

-- ---- the same on bytes
-- THE DEVICE: a record's bytes are decoded, its answer is these 8 bytes, and a status other than 0 leaves the state as it was
pub record OnBytes (setup : Setup) (defaults : List ℕ) (s : State) (bytes : List ℕ) : Type 0 where
  pub answer : (i : ℕ) → get_or ((device setup defaults).run s bytes).answer i 0 ≡ answer_byte setup defaults s (decode (pad longest bytes)) i
  pub after : ((device setup defaults).run s bytes).state ≡ (run setup defaults s (decode (pad longest bytes))).after
  pub unchanged : get_or ((device setup defaults).run s bytes).answer 0 0 ≢ 0 → ((device setup defaults).run s bytes).state ≡ s

-- for every set-up, all defaults, any state and any bytes
abbrev pub EveryRecordOnBytes : Type 0
EveryRecordOnBytes = (setup : Setup) (defaults : List ℕ) (s : State) (bytes : List ℕ) → OnBytes setup defaults s bytes
