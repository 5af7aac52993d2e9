-- WHAT EACH KIND OF RECORD DOES (01, "Trace records", "Register attributes", "Readiness"), clause by clause.
use Rattle.std.specs.Prelude.{ℕ, ◌+◌, ◌-◌, ◌/◌, ◌%◌, ◌≤◌, ◌<◌, min, Bool, true, false, not, ◌&&◌, ◌||◌, cond, List, ◌≢◌, ◌≡◌, eqb, leb, length, set, drop, Option, Some}
use Rattle.bits.specs.Bits.{bit}
use Rattle.times.specs.declared.Nanos.{Nanos}
use Rattle.times.specs.Codes.{nanos_of}
use Rattle.times.specs.Moments.{clock_end}
use Rattle.messages.specs.declared.Message.{Message}
use Rattle.messages.specs.declared.Message.TheVariants.{Drs, Frs}
use Rattle.registers.specs.Words.{read_word, write_word, hardware_set}
use Rattle.config_space.specs.Functions.{link_reset_slot, link_reset_all, flr_reset_slot}
use Rattle.frs_queue.specs.Queue.{no_tally, register_of}
use Rattle.readiness.specs.declared.Cause.{Cause}
use Rattle.readiness.specs.declared.Cause.TheVariants as cause
use Rattle.readiness.specs.declared.Phase.{Phase}
use Rattle.readiness.specs.declared.Phase.TheVariants.{Down, Pending, Ready}
use Rattle.readiness.specs.declared.Status.{Status}
use Rattle.readiness.specs.declared.Setup.{Setup}
use Rattle.readiness.specs.declared.Dev.{Dev}
use Rattle.readiness.specs.Status.{down, pending, ready, entry_of, all_ready}
use Rattle.records.specs.declared.Request.{Request}
use Rattle.records.specs.declared.Record.{Record}
use Rattle.records.specs.declared.Record.TheVariants as kind
use Rattle.records.specs.State.{State, status_at, phase_at, list_of, slot_kind, word_place}
use Rattle.records.specs.declared.Completion.TheVariants as completion
use Rattle.records.specs.Answer.{Effect, refused, does, Ran, reply}
use Rattle.records.specs.Requests.{word_at}
use Rattle.records.specs.Run.{effect, run}
use Rattle.records.specs.Sound.{Sound, Fitting}
use Rattle.records.specs.Statuses.{status_of, data_of}

-- a record is done, brings no FRS and no interrupt, has data 0, and leaves a state of which P holds, before slots become Ready
abbrev pub Does : (State → Type 0) → Effect State → Type 0
Does P (refused completion data_word) = ⊥
Does P (does t tally data_word) = P t × (tally ≡ no_tally) × (data_word ≡ 0)

-- the same of the record's answer, and of the state once it is answered
pub record Ends (P : State → Type 0) (x : Ran State) : Type 0 where
  pub state : P x.after
  pub answer : x.reply ≡ reply completion.Done no_tally 0

-- ---- 01: advance clock
abbrev pub is_advance : Record → Bool
is_advance (kind.Advance by) = true
is_advance (kind.Read q) = false
is_advance (kind.Write q value) = false
is_advance (kind.Message m) = false
is_advance kind.LinkUp = false
is_advance kind.LinkDown = false
is_advance kind.ColdReset = false
is_advance kind.ReadQueue = false
is_advance kind.RemoveOldest = false
is_advance (kind.ClearBits mask) = false
is_advance (kind.Control b) = false
is_advance (kind.HardwareSet slot word mask) = false
is_advance kind.ReadBits = false
is_advance kind.NoKind = false

-- a slot once the clock is at c: Ready if it was Pending with a ready time at or before c, else as it was
abbrev pub phase_once : (c : ℕ) → Phase → Phase
phase_once c Down = Down
phase_once c Ready = Ready
phase_once c (Pending cause time) = cond (leb time.0 c) Ready (Pending cause time)

-- an advance that is done, to the clock c, leaves t
pub record Advances (setup : Setup) (s : State) (c : ℕ) (t : State) : Type 0 where
  pub slots : (i : ℕ) → phase_at t i ≡ phase_once c (phase_at s i)
  -- if a DRS was owed and all slots are Ready now, DRS Received is set, and nothing is owed
  pub drs_received : t.port.drs_received ≡ (s.port.drs_received || (s.port.owed && all_ready setup t.statuses))
  pub owed : t.port.owed ≡ (s.port.owed && not (all_ready setup t.statuses))
  -- the link, control and the live registers stay
  pub link : t.port.link ≡ s.port.link
  pub control : t.port.control ≡ s.port.control
  pub live : t.live ≡ s.live

-- ---- 02, 03 and 0C: one slot
-- the slot that such a record addresses
abbrev pub Addresses : Record → (slot : ℕ) → Type 0
Addresses (kind.Advance by) slot = ⊥
Addresses (kind.Read q) slot = q.slot ≡ slot
Addresses (kind.Write q value) slot = q.slot ≡ slot
Addresses (kind.Message m) slot = ⊥
Addresses kind.LinkUp slot = ⊥
Addresses kind.LinkDown slot = ⊥
Addresses kind.ColdReset slot = ⊥
Addresses kind.ReadQueue slot = ⊥
Addresses kind.RemoveOldest slot = ⊥
Addresses (kind.ClearBits mask) slot = ⊥
Addresses (kind.Control b) slot = ⊥
Addresses (kind.HardwareSet addressed word mask) slot = addressed ≡ slot
Addresses kind.ReadBits slot = ⊥
Addresses kind.NoKind slot = ⊥

-- a slot's 64 registers and its status are the same in both states
pub record SameSlot (s t : State) (slot : ℕ) : Type 0 where
  pub registers : (word : ℕ) → word < 64 → word_at t.live slot word ≡ word_at s.live slot word
  pub status : status_at t.statuses slot ≡ status_at s.statuses slot

-- ---- 03: configuration write
-- the word before the write and after it, and the live registers once the write is finished
abbrev pub old_word : State → Request → ℕ
old_word s q = word_at s.live q.slot q.word

abbrev pub new_word : Setup → State → Request → (value : ℕ) → ℕ
new_word setup s q value = write_word (slot_kind setup q.slot) q.word (old_word s q) value q.enables

abbrev pub finished : Setup → State → Request → (value : ℕ) → List ℕ
finished setup s q value = set s.live (word_place q.slot q.word) (new_word setup s q value)

-- FLR: a write to 78h with byte 1 enabled and data bit 15 set, where bit 28 of the default word 74h is set
pub record AsksFlr (defaults : List ℕ) (q : Request) (value : ℕ) : Type 0 where
  pub word : q.word ≡ 0x78 / 4
  pub byte1 : bit q.enables 1 ≡ true
  pub bit15 : bit value 15 ≡ true
  pub capable : bit (word_at defaults q.slot (0x74 / 4)) 28 ≡ true

-- a write to 44h that takes PowerState, bits 1:0, from 3 to 0
abbrev pub From3To0 : (word old new : ℕ) → Type 0
From3To0 word old new = (word ≡ 0x44 / 4) × (old % 4 ≡ 3) × (new % 4 ≡ 0)

-- Pending until c + t, or Ready at once where t is 0
abbrev pub pending_for : Cause → (c t : ℕ) → Status
pending_for cause c t = record { phase = cond (eqb t 0) Ready (Pending cause (record { 0 = c + t })) }

-- a write that is done leaves t
pub record WriteLeaves (setup : Setup) (defaults : List ℕ) (s : State) (q : Request) (value : ℕ) (t : State) : Type 0 where
  -- the write is finished first, then the FLR starts: Pending until c + T with T the FLR Time, in progress until c + min(T, 100,000,000)
  pub flr : AsksFlr defaults q value
      → (let time = (nanos_of (entry_of setup q.slot).flr).0 in
      status_at t.statuses q.slot ≡ pending_for (cause.Flr (record { 0 = s.port.clock.0 + min time 100000000 })) s.port.clock.0 time)
  pub flr_registers : AsksFlr defaults q value → t.live ≡ flr_reset_slot (slot_kind setup q.slot) q.slot (finished setup s q value) defaults
  -- PowerState from 3 to 0: Pending until c + D3hot time
  pub d3hot : From3To0 q.word (old_word s q) (new_word setup s q value)
      → status_at t.statuses q.slot ≡ pending_for cause.D3hot s.port.clock.0 (nanos_of (entry_of setup q.slot).d3hot).0
  -- if live 44h bit 3 (No_Soft_Reset) is 0, as link down in that slot; else no other bit changes
  pub d3hot_registers : From3To0 q.word (old_word s q) (new_word setup s q value) → bit (new_word setup s q value) 3 ≡ false
      → t.live ≡ link_reset_slot (slot_kind setup q.slot) q.slot (finished setup s q value) defaults
  pub no_soft_reset : From3To0 q.word (old_word s q) (new_word setup s q value) → bit (new_word setup s q value) 3 ≡ true → t.live ≡ finished setup s q value
  -- any other: Ready as it was, the write and no more
  pub other : (AsksFlr defaults q value → ⊥) → (From3To0 q.word (old_word s q) (new_word setup s q value) → ⊥) → status_at t.statuses q.slot ≡ ready
  pub other_registers : (AsksFlr defaults q value → ⊥) → (From3To0 q.word (old_word s q) (new_word setup s q value) → ⊥) → t.live ≡ finished setup s q value

-- ---- 05, 06, 07: link up, link down, cold reset
-- link up at clock c
pub record LinkedUp (setup : Setup) (s t : State) : Type 0 where
  -- the link is up and a DRS is owed; slot i is Pending until c + its own DL Up Time
  pub link : t.port.link ≡ true
  pub owed : t.port.owed ≡ true
  pub slots : (i : ℕ) → i < setup.slots → status_at t.statuses i ≡ pending cause.LinkUp (record { 0 = s.port.clock.0 + (nanos_of (entry_of setup i).dl_up).0 })
  -- the clock, the port's bits, queue, cells and registers stay
  pub clock : t.port.clock ≡ s.port.clock
  pub drs_received : t.port.drs_received ≡ s.port.drs_received
  pub control : t.port.control ≡ s.port.control
  pub queue : t.port.queue ≡ s.port.queue
  pub cells : t.cells ≡ s.cells
  pub live : t.live ≡ s.live

-- once link up is answered: a DRS is owed, unless all slots are Ready at once and DRS Received is set
pub record LinkUpEnds (setup : Setup) (s t : State) : Type 0 where
  pub link : t.port.link ≡ true
  pub drs_received : t.port.drs_received ≡ (s.port.drs_received || all_ready setup t.statuses)
  pub owed : t.port.owed ≡ not (all_ready setup t.statuses)
  -- control and the live registers stay
  pub control : t.port.control ≡ s.port.control
  pub live : t.live ≡ s.live

-- link down or cold reset: link and every slot Down, nothing owed, queue emptied, cells untouched; DRS Received cleared. The clock stays
pub record Stopped (setup : Setup) (s t : State) : Type 0 where
  pub link : t.port.link ≡ false
  pub owed : t.port.owed ≡ false
  pub slots : (i : ℕ) → i < setup.slots → status_at t.statuses i ≡ down
  pub start : t.port.queue.start ≡ 0
  pub depth : t.port.queue.depth ≡ 0
  pub drs_received : t.port.drs_received ≡ false
  pub cells : t.cells ≡ s.cells
  pub clock : t.port.clock ≡ s.port.clock

-- link down leaves every other bit of the port, and resets each slot's registers
pub record LinkedDown (setup : Setup) (defaults : List ℕ) (s t : State) : Type 0 where
  pub stopped : Stopped setup s t
  pub control : t.port.control ≡ s.port.control
  pub received : t.port.queue.received ≡ s.port.queue.received
  pub overflow : t.port.queue.overflow ≡ s.port.queue.overflow
  pub live : t.live ≡ link_reset_all (slot_kind setup) s.live defaults

-- cold reset clears all of them, and the live registers equal the defaults
pub record ColdStarted (setup : Setup) (defaults : List ℕ) (s t : State) : Type 0 where
  pub stopped : Stopped setup s t
  pub received : t.port.queue.received ≡ false
  pub overflow : t.port.queue.overflow ≡ false
  pub visibility : t.port.control.visibility ≡ false
  pub frs_interrupt : t.port.control.frs_interrupt ≡ false
  pub signalling : t.port.control.signalling ≡ 0
  pub live : t.live ≡ defaults

-- ---- what stays
-- 03, 04: of the port all but DRS Received stays, and what arrives is put at the end of its queue
pub record PortStays (d e : Dev) : Type 0 where
  pub clock : e.clock ≡ d.clock
  pub link : e.link ≡ d.link
  pub owed : e.owed ≡ d.owed
  pub control : e.control ≡ d.control
  pub start : e.queue.start ≡ d.queue.start

-- 04: no slot's status and no register changes
pub record CardStays (s t : State) : Type 0 where
  pub statuses : t.statuses ≡ s.statuses
  pub live : t.live ≡ s.live

-- 0C: nothing but the live registers changes
pub record LiveAlone (s t : State) : Type 0 where
  pub port : t.port ≡ s.port
  pub statuses : t.statuses ≡ s.statuses
  pub cells : t.cells ≡ s.cells

-- ---- 09, 0A, 0B, 0D: the root port
-- all but the port's own part stays
pub record PortAlone (s t : State) : Type 0 where
  pub clock : t.port.clock ≡ s.port.clock
  pub link : t.port.link ≡ s.port.link
  pub owed : t.port.owed ≡ s.port.owed
  pub statuses : t.statuses ≡ s.statuses
  pub live : t.live ≡ s.live
  pub cells : t.cells ≡ s.cells

-- remove oldest: the queue's list loses its head, by moving start one on; no cell or status bit changes
pub record Removes (s t : State) : Type 0 where
  pub list : list_of t ≡ drop 1 (list_of s)
  pub depth : t.port.queue.depth ≡ s.port.queue.depth - 1
  pub start : 0 < s.port.queue.depth → t.port.queue.start ≡ (s.port.queue.start + 1) % length s.cells
  -- on an empty queue it does nothing
  pub empty : s.port.queue.depth ≡ 0 → t ≡ s
  pub received : t.port.queue.received ≡ s.port.queue.received
  pub overflow : t.port.queue.overflow ≡ s.port.queue.overflow
  pub drs_received : t.port.drs_received ≡ s.port.drs_received
  pub control : t.port.control ≡ s.port.control
  pub rest : PortAlone s t

-- clear status bits where 1: 0 Received, 1 Overflow, 2 DRS Received; others ignored
pub record ClearsWhere1 (mask : ℕ) (s t : State) : Type 0 where
  pub received : t.port.queue.received ≡ cond (bit mask 0) false s.port.queue.received
  pub overflow : t.port.queue.overflow ≡ cond (bit mask 1) false s.port.queue.overflow
  pub drs_received : t.port.drs_received ≡ cond (bit mask 2) false s.port.drs_received
  pub start : t.port.queue.start ≡ s.port.queue.start
  pub depth : t.port.queue.depth ≡ s.port.queue.depth
  pub control : t.port.control ≡ s.port.control
  pub rest : PortAlone s t

-- bit 0 CRS visibility, bit 1 FRS interrupt, bits 3:2 signalling
pub record Controls (b : ℕ) (s t : State) : Type 0 where
  pub visibility : t.port.control.visibility ≡ bit b 0
  pub frs_interrupt : t.port.control.frs_interrupt ≡ bit b 1
  pub signalling : t.port.control.signalling ≡ b / 4 % 4
  pub queue : t.port.queue ≡ s.port.queue
  pub drs_received : t.port.drs_received ≡ s.port.drs_received
  pub rest : PortAlone s t

-- the three status bits, numbered as in 0A, and no other
pub record ShowsBits (s : State) (word : ℕ) : Type 0 where
  pub received : bit word 0 ≡ s.port.queue.received
  pub overflow : bit word 1 ≡ s.port.queue.overflow
  pub drs_received : bit word 2 ≡ s.port.drs_received
  pub others : word < 8

-- ---- 02, 08 and 0D: the records that give data
abbrev pub gives_data : Record → Bool
gives_data (kind.Advance by) = false
gives_data (kind.Read q) = true
gives_data (kind.Write q value) = false
gives_data (kind.Message m) = false
gives_data kind.LinkUp = false
gives_data kind.LinkDown = false
gives_data kind.ColdReset = false
gives_data kind.ReadQueue = true
gives_data kind.RemoveOldest = false
gives_data (kind.ClearBits mask) = false
gives_data (kind.Control b) = false
gives_data (kind.HardwareSet slot word mask) = false
gives_data kind.ReadBits = true
gives_data kind.NoKind = false

-- EACH KIND, in the state s; what arrives of FRS and DRS is in Counts. `Does P (effect …)` is what a record leaves before slots become Ready
pub record EachKind (setup : Setup) (defaults : List ℕ) (s : State) : Type 0 where
  -- 01: the clock moves by just its nanoseconds, and by no other record; slots become Ready
  pub advance : (by : Nanos) → s.port.clock.0 + by.0 ≤ clock_end → (run setup defaults s (kind.Advance by)).after.port.clock.0 ≡ s.port.clock.0 + by.0
  pub advance_leaves : (by : Nanos) → s.port.clock.0 + by.0 ≤ clock_end → Advances setup s (s.port.clock.0 + by.0) (run setup defaults s (kind.Advance by)).after
  pub clock_stays : (r : Record) → is_advance r ≡ false → (run setup defaults s r).after.port.clock ≡ s.port.clock
  -- 02: a read that is done gives the enabled bytes, 0 in the others; bits 15 and 21 of 78h read 0, whatever the live registers hold
  pub read : (q : Request) → status_of setup defaults s (kind.Read q) ≡ 0
      → data_of setup defaults s (kind.Read q) ≡ read_word (slot_kind setup q.slot) q.word (word_at s.live q.slot q.word) q.enables
  pub reads_zero : (q : Request) → q.word ≡ 0x78 / 4 → status_of setup defaults s (kind.Read q) ≡ 0
      → (bit (data_of setup defaults s (kind.Read q)) 15 ≡ false) × (bit (data_of setup defaults s (kind.Read q)) 21 ≡ false)
  -- 03
  pub write : (q : Request) (value : ℕ) → status_of setup defaults s (kind.Write q value) ≡ 0 → s.port.clock.0 ≤ clock_end → setup.slots ≤ length s.statuses
      → WriteLeaves setup defaults s q value (run setup defaults s (kind.Write q value)).after
  -- 0C: hardware sets those mask bits that lie in C
  pub hardware : (slot word mask : ℕ) → status_of setup defaults s (kind.HardwareSet slot word mask) ≡ 0
      → (run setup defaults s (kind.HardwareSet slot word mask)).after.live
      ≡ set s.live (word_place slot word) (hardware_set (slot_kind setup slot) word (word_at s.live slot word) mask)
  -- 02, 03, 0C: a slot other than the one addressed keeps its registers and its status
  pub other_slots : (r : Record) (addressed slot : ℕ) → Sound setup s → Addresses r addressed → slot < setup.slots → slot ≢ addressed
      → SameSlot s (run setup defaults s r).after slot
  -- 04: a DRS sets DRS Received; "owed" stays, in a sound state
  pub drs : (id : ℕ) → s.port.link ≡ true → (run setup defaults s (kind.Message (Some (Drs id)))).after.port.drs_received ≡ true
  pub drs_owed : Sound setup s → Fitting setup defaults s → (id : ℕ) → s.port.link ≡ true
      → (run setup defaults s (kind.Message (Some (Drs id)))).after.port.owed ≡ s.port.owed
  -- 05, before slots become Ready; each slot's status and the port once it is answered
  pub link_up : s.port.link ≡ false → s.port.clock.0 ≤ clock_end → setup.slots ≤ length s.statuses
      → Does (LinkedUp setup s) (effect setup defaults s kind.LinkUp)
  pub link_up_slots : s.port.clock.0 ≤ clock_end → setup.slots ≤ length s.statuses → (i : ℕ) → s.port.link ≡ false → i < setup.slots
      → status_at (run setup defaults s kind.LinkUp).after.statuses i ≡ pending_for cause.LinkUp s.port.clock.0 (nanos_of (entry_of setup i).dl_up).0
  pub link_up_ends : s.port.link ≡ false → LinkUpEnds setup s (run setup defaults s kind.LinkUp).after
  -- 06, 07, before slots become Ready
  pub link_down : setup.slots ≤ length s.statuses → s.port.link ≡ true → Does (LinkedDown setup defaults s) (effect setup defaults s kind.LinkDown)
  pub cold_reset : setup.slots ≤ length s.statuses → length s.live ≡ length defaults → Does (ColdStarted setup defaults s) (effect setup defaults s kind.ColdReset)
  -- 08: depth · 2^20 plus the oldest cell, or 0 if empty
  pub read_queue : data_of setup defaults s kind.ReadQueue ≡ register_of s.cells s.port.queue
  -- 09, 0A, 0B, before slots become Ready; 0D
  pub remove : s.port.queue.depth ≤ length s.cells → Does (Removes s) (effect setup defaults s kind.RemoveOldest)
  pub clear : (mask : ℕ) → Does (ClearsWhere1 mask s) (effect setup defaults s (kind.ClearBits mask))
  pub control : (b : ℕ) → b ≤ 15 → b / 4 % 4 ≢ 3 → Does (Controls b s) (effect setup defaults s (kind.Control b))
  pub read_bits : ShowsBits s (data_of setup defaults s kind.ReadBits)
  -- what stays, in a sound state, answered 0 or not; 02, 08 and 0D change nothing
  pub no_change : Sound setup s → Fitting setup defaults s → (r : Record) → gives_data r ≡ true → (run setup defaults s r).after ≡ s
  -- 03: the port, but for what arrives
  pub write_port : Sound setup s → Fitting setup defaults s → (q : Request) (value : ℕ) → PortStays s.port (run setup defaults s (kind.Write q value)).after.port
  pub write_drs : Sound setup s → Fitting setup defaults s → (q : Request) (value : ℕ)
      → (run setup defaults s (kind.Write q value)).after.port.drs_received ≡ s.port.drs_received
  -- 04: statuses, registers, and the port but for what arrives; an FRS leaves DRS Received
  pub message_port : Sound setup s → Fitting setup defaults s → (m : Option Message) → PortStays s.port (run setup defaults s (kind.Message m)).after.port
  pub message_card : Sound setup s → Fitting setup defaults s → (m : Option Message) → CardStays s (run setup defaults s (kind.Message m)).after
  pub frs_drs : Sound setup s → Fitting setup defaults s → (id reason : ℕ)
      → (run setup defaults s (kind.Message (Some (Frs id reason)))).after.port.drs_received ≡ s.port.drs_received
  -- 0C: all but the live registers
  pub hardware_alone : Sound setup s → Fitting setup defaults s → (slot word mask : ℕ) → LiveAlone s (run setup defaults s (kind.HardwareSet slot word mask)).after
  -- 06, 07, 09, 0A, 0B once they are answered, in a sound state: no slot becomes Ready in them
  pub link_down_ends : Sound setup s → Fitting setup defaults s → s.port.link ≡ true → Ends (LinkedDown setup defaults s) (run setup defaults s kind.LinkDown)
  pub cold_reset_ends : Sound setup s → Fitting setup defaults s → Ends (ColdStarted setup defaults s) (run setup defaults s kind.ColdReset)
  pub remove_ends : Sound setup s → Fitting setup defaults s → Ends (Removes s) (run setup defaults s kind.RemoveOldest)
  pub clear_ends : Sound setup s → Fitting setup defaults s → (mask : ℕ) → Ends (ClearsWhere1 mask s) (run setup defaults s (kind.ClearBits mask))
  pub control_ends : Sound setup s → Fitting setup defaults s → (b : ℕ) → b ≤ 15 → b / 4 % 4 ≢ 3 → Ends (Controls b s) (run setup defaults s (kind.Control b))
  -- data is 0 unless said
  pub no_data : (r : Record) → gives_data r ≡ false → data_of setup defaults s r ≡ 0

-- for every set-up, all defaults and any state
abbrev pub EveryKind : Type 0
EveryKind = (setup : Setup) (defaults : List ℕ) (s : State) → EachKind setup defaults s
