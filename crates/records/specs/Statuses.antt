-- STATUSES IN AN ANSWER (01, "Numbers given for no"): which each kind of record can give, and each exactly under its condition.
use Rattle.std.specs.Prelude.{ℕ, ◌+◌, ◌*◌, ◌/◌, ◌%◌, ◌≤◌, ◌<◌, Bool, true, false, ◌||◌, List, [], ◌∷◌, ◌≢◌, ◌⊎◌, ◌↔◌, ◌≡◌, T, eqb, Option, None}
use Rattle.bits.specs.Bits.{bit, one}
use Rattle.times.specs.declared.Nanos.{Nanos}
use Rattle.times.specs.Moments.{clock_end}
use Rattle.messages.specs.declared.Message.{Message}
use Rattle.frs_queue.specs.Queue.{no_tally}
use Rattle.readiness.specs.declared.Cause.{Cause}
use Rattle.readiness.specs.declared.Cause.TheVariants.{Flr}
use Rattle.readiness.specs.declared.Phase.TheVariants.{Down, Pending, Ready}
use Rattle.readiness.specs.declared.Setup.{Setup}
use Rattle.records.specs.declared.Request.{Request}
use Rattle.records.specs.declared.Record.{Record}
use Rattle.records.specs.declared.Record.TheVariants as kind
use Rattle.records.specs.State.{State, phase_at}
use Rattle.records.specs.Answer.{Ran, completion_number}
use Rattle.records.specs.Run.{run}

-- a record's status, and its data
abbrev pub status_of : Setup → (defaults : List ℕ) → State → Record → ℕ
status_of setup defaults s r = completion_number (run setup defaults s r).reply.completion

abbrev pub data_of : Setup → (defaults : List ℕ) → State → Record → ℕ
data_of setup defaults s r = (run setup defaults s r).reply.«data»

-- ---- what each kind can give
abbrev pub can_give : Record → List ℕ
can_give (kind.Advance by) = 0 ∷ 22 ∷ []
can_give (kind.Read q) = 0 ∷ 16 ∷ 17 ∷ 18 ∷ 20 ∷ 21 ∷ 24 ∷ []
can_give (kind.Write q value) = 0 ∷ 17 ∷ 18 ∷ 20 ∷ 21 ∷ 24 ∷ []
can_give (kind.Message m) = 0 ∷ 19 ∷ 23 ∷ []
can_give kind.LinkUp = 0 ∷ 23 ∷ []
can_give kind.LinkDown = 0 ∷ 23 ∷ []
can_give kind.ColdReset = 0 ∷ []
can_give kind.ReadQueue = 0 ∷ []
can_give kind.RemoveOldest = 0 ∷ []
can_give (kind.ClearBits mask) = 0 ∷ []
can_give (kind.Control b) = 0 ∷ 24 ∷ []
can_give (kind.HardwareSet slot word mask) = 0 ∷ 20 ∷ 21 ∷ 23 ∷ []
can_give kind.ReadBits = 0 ∷ []
can_give kind.NoKind = 0 ∷ []

-- a number is one of a list's
abbrev pub one_of : ℕ → List ℕ → Bool
one_of n [] = false
one_of n (m ∷ l) = eqb n m || one_of n l

-- ---- kinds 02 and 03; order: 20, 21, 24, 18, then 16 or 17
-- a configuration read, or a configuration write of this value
abbrev pub request : (is_read : Bool) → Request → (value : ℕ) → Record
request true q value = kind.Read q
request false q value = kind.Write q value

-- none of 20, 21 and 24: there is such a slot, the word is at most 63, the enables are at most 15
pub record InRange (slots : ℕ) (q : Request) : Type 0 where
  pub slot : q.slot < slots
  pub word : q.word ≤ 63
  pub enables : q.enables ≤ 15

-- 18: link down, or FLR in progress, the clock before its end; a slot that is Down with the link up, which is unsound, counts as link down
pub data Unsupported (s : State) (slot : ℕ) : Type 0 where
  link_down : s.port.link ≡ false → Unsupported s slot
  slot_down : phase_at s slot ≡ Down → Unsupported s slot
  in_progress : (end t : Nanos) → phase_at s slot ≡ Pending (Flr end) t → s.port.clock.0 < end.0 → Unsupported s slot

-- CRS: the slot is Pending, none of the earlier numbers
pub data IsPending (s : State) (slot : ℕ) : Type 0 where
  until : (cause : Cause) (t : Nanos) → phase_at s slot ≡ Pending cause t → IsPending s slot

pub record IsCrs (setup : Setup) (s : State) (q : Request) : Type 0 where
  pub in_range : InRange setup.slots q
  pub supported : Unsupported s q.slot → ⊥
  pub pending : IsPending s q.slot

-- CRS is shown: visibility on, read of word 0 with enables 0 and 1
pub record ShowsCrs (visibility is_read : Bool) (q : Request) : Type 0 where
  pub visible : visibility ≡ true
  pub read : is_read ≡ true
  pub word : q.word ≡ 0
  pub low : bit q.enables 0 ≡ true
  pub high : bit q.enables 1 ≡ true

pub record RequestStatuses (setup : Setup) (defaults : List ℕ) (s : State) (is_read : Bool) (q : Request) (value : ℕ) : Type 0 where
  -- 20: no such slot
  pub no_slot : (status_of setup defaults s (request is_read q value) ≡ 20) ↔ (setup.slots ≤ q.slot)
  -- 21: word above 63
  pub no_word : (status_of setup defaults s (request is_read q value) ≡ 21) ↔ ((q.slot < setup.slots) × (63 < q.word))
  -- 24: enables above 15
  pub bad_enables : (status_of setup defaults s (request is_read q value) ≡ 24) ↔ ((q.slot < setup.slots) × (q.word ≤ 63) × (15 < q.enables))
  -- 18: link down, or FLR in progress
  pub unsupported : (status_of setup defaults s (request is_read q value) ≡ 18) ↔ (InRange setup.slots q × Unsupported s q.slot)
  -- 16: CRS shown
  pub shown : (status_of setup defaults s (request is_read q value) ≡ 16) ↔ (IsCrs setup s q × ShowsCrs s.port.control.visibility is_read q)
  -- 17: any other CRS, to be re-issued
  pub retry : (status_of setup defaults s (request is_read q value) ≡ 17) ↔ (IsCrs setup s q × (ShowsCrs s.port.control.visibility is_read q → ⊥))
  -- 0: done
  pub done : (status_of setup defaults s (request is_read q value) ≡ 0) ↔ (InRange setup.slots q × (s.port.link ≡ true) × (phase_at s q.slot ≡ Ready))

-- ---- kind 0C; order: 20, 21, 23
pub record HardwareStatuses (setup : Setup) (defaults : List ℕ) (s : State) (slot word mask : ℕ) : Type 0 where
  -- 20: no such slot
  pub no_slot : (status_of setup defaults s (kind.HardwareSet slot word mask) ≡ 20) ↔ (setup.slots ≤ slot)
  -- 21: word above 63
  pub no_word : (status_of setup defaults s (kind.HardwareSet slot word mask) ≡ 21) ↔ ((slot < setup.slots) × (63 < word))
  -- 23: at a slot not Ready
  pub not_ready : (status_of setup defaults s (kind.HardwareSet slot word mask) ≡ 23) ↔ ((slot < setup.slots) × (word ≤ 63) × (phase_at s slot ≢ Ready))
  -- 0: done
  pub done : (status_of setup defaults s (kind.HardwareSet slot word mask) ≡ 0) ↔ ((slot < setup.slots) × (word ≤ 63) × (phase_at s slot ≡ Ready))

-- ---- kind 04; order: 23, 19
pub record MessageStatuses (setup : Setup) (defaults : List ℕ) (s : State) (m : Option Message) : Type 0 where
  -- 23: a message with the link down
  pub link_down : (status_of setup defaults s (kind.Message m) ≡ 23) ↔ (s.port.link ≡ false)
  -- 19: no readiness message
  pub no_message : (status_of setup defaults s (kind.Message m) ≡ 19) ↔ ((s.port.link ≡ true) × (m ≡ None))
  -- 0: done
  pub done : (status_of setup defaults s (kind.Message m) ≡ 0) ↔ ((s.port.link ≡ true) × (m ≢ None))

-- ---- kind 01
pub record AdvanceStatuses (setup : Setup) (defaults : List ℕ) (s : State) (by : Nanos) : Type 0 where
  -- 22: clock would pass 10^15
  pub past_end : (status_of setup defaults s (kind.Advance by) ≡ 22) ↔ (clock_end < s.port.clock.0 + by.0)
  -- 0: done
  pub done : (status_of setup defaults s (kind.Advance by) ≡ 0) ↔ (s.port.clock.0 + by.0 ≤ clock_end)

-- ---- kinds 05 and 06
pub record LinkStatuses (setup : Setup) (defaults : List ℕ) (s : State) : Type 0 where
  -- 23: link up when up, down when down
  pub up_when_up : (status_of setup defaults s kind.LinkUp ≡ 23) ↔ (s.port.link ≡ true)
  pub down_when_down : (status_of setup defaults s kind.LinkDown ≡ 23) ↔ (s.port.link ≡ false)
  -- 0: done
  pub up_done : (status_of setup defaults s kind.LinkUp ≡ 0) ↔ (s.port.link ≡ false)
  pub down_done : (status_of setup defaults s kind.LinkDown ≡ 0) ↔ (s.port.link ≡ true)

-- ---- kind 0B
pub record ControlStatuses (setup : Setup) (defaults : List ℕ) (s : State) (b : ℕ) : Type 0 where
  -- 24: a control byte above 15, or signalling 3
  pub bad_value : (status_of setup defaults s (kind.Control b) ≡ 24) ↔ ((15 < b) ⊎ (b / 4 % 4 ≡ 3))
  -- 0: done
  pub done : (status_of setup defaults s (kind.Control b) ≡ 0) ↔ ((b ≤ 15) × (b / 4 % 4 ≢ 3))

-- ---- the data of a read that isn't done
-- FFh in the byte of weight w, if enable i is on
abbrev pub ff_in : (enables i w : ℕ) → ℕ
ff_in enables i w = one (bit enables i) * (255 * w)

pub record RefusedReadData (setup : Setup) (defaults : List ℕ) (s : State) (q : Request) : Type 0 where
  -- 16: vendor bytes 0001h, other enabled bytes FFh
  pub shown : status_of setup defaults s (kind.Read q) ≡ 16 → data_of setup defaults s (kind.Read q) ≡ 1 + ff_in q.enables 2 65536 + ff_in q.enables 3 16777216
  -- 18: FFh in enabled bytes
  pub unsupported : status_of setup defaults s (kind.Read q) ≡ 18
      → data_of setup defaults s (kind.Read q) ≡ ff_in q.enables 0 1 + ff_in q.enables 1 256 + ff_in q.enables 2 65536 + ff_in q.enables 3 16777216
  -- any other: 0
  pub other : status_of setup defaults s (kind.Read q) ≢ 0 → status_of setup defaults s (kind.Read q) ≢ 16 → status_of setup defaults s (kind.Read q) ≢ 18
      → data_of setup defaults s (kind.Read q) ≡ 0

-- ---- a status other than 0
-- no register, slot status, queue cell, port bit or clock is changed; interrupts and counts are 0
pub record Unchanged (s : State) (x : Ran State) : Type 0 where
  pub state : x.after ≡ s
  pub tally : x.reply.tally ≡ no_tally

-- STATUSES, in any state
pub record Statuses (setup : Setup) (defaults : List ℕ) (s : State) : Type 0 where
  -- no kind gives a number that isn't in its list
  pub only_these : (r : Record) → T (one_of (status_of setup defaults s r) (can_give r))
  -- each number exactly under its condition
  pub requests : (is_read : Bool) (q : Request) (value : ℕ) → RequestStatuses setup defaults s is_read q value
  pub hardware : (slot word mask : ℕ) → HardwareStatuses setup defaults s slot word mask
  pub messages : (m : Option Message) → MessageStatuses setup defaults s m
  pub advance : (by : Nanos) → AdvanceStatuses setup defaults s by
  pub link : LinkStatuses setup defaults s
  pub control : (b : ℕ) → ControlStatuses setup defaults s b
  pub read_data : (q : Request) → RefusedReadData setup defaults s q
  -- every status but 0 changes nothing
  pub refused : (r : Record) → status_of setup defaults s r ≢ 0 → Unchanged s (run setup defaults s r)

-- for every set-up and all defaults
abbrev pub EveryStatus : Type 0
EveryStatus = (setup : Setup) (defaults : List ℕ) (s : State) → Statuses setup defaults s
