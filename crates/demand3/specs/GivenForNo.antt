-- NUMBERS GIVEN FOR NO (01): what each of 1 to 5, 30 and 31 says of the set-up and of all that is lent, exactly; the first that applies.
use Rattle.std.specs.Prelude.{ℕ, ◌-◌, ◌*◌, ◌≤◌, ◌<◌, true, false, List, [], ◌∷◌, ◌++◌, ◌⊎◌, ◌↔◌, ◌≡◌, T, length, drop}
use Rattle.bits.specs.Bits.{bit}
use Rattle.registers.specs.Rows.{pmcsr, device_control}
use Rattle.readiness.specs.declared.Slot.{Slot}
use Rattle.readiness.specs.declared.Setup.{Setup}
use Rattle.readiness.specs.Status.{entry_of}
use Rattle.trace.specs.Format.{known, next, complete, incomplete}
use Rattle.records.specs.Requests.{word_at}
use Rattle.records.specs.Sound.{Sound}
use Rattle.records.specs.Statuses.{one_of}
use Rattle.demand3.specs.Held.{Held, state_of, carried_of}
use Rattle.demand3.specs.SettingUp.{sets_up}
use Rattle.demand3.specs.Feeding.{feeds}

-- ---- what 1 to 5 are about
-- 1: slots 1 to 32, one status per slot, 64 live and 64 default registers per slot
pub record Fits (slots statuses live defaults : ℕ) : Type 0 where
  pub some : 0 < slots
  pub most : slots ≤ 32
  pub per_slot : statuses ≡ slots
  pub words : live ≡ 64 * slots
  pub default_words : defaults ≡ 64 * slots

-- 2: queue length 1 to 4,095
pub record QueueFits (cells : ℕ) : Type 0 where
  pub some : 0 < cells
  pub most : cells ≤ 4095

-- 3: no code above A1Eh
pub record CodesFit (e : Slot) : Type 0 where
  pub reset : e.reset.0 ≤ 0xA1E
  pub dl_up : e.dl_up.0 ≤ 0xA1E
  pub flr : e.flr.0 ≤ 0xA1E
  pub d3hot : e.d3hot.0 ≤ 0xA1E

-- 4: no default with bit 15 or 21 of 78h or bits 1:0 of 44h set
pub record DefaultsFit (defaults : List ℕ) (slot : ℕ) : Type 0 where
  pub initiate_flr : bit (word_at defaults slot device_control) 15 ≡ false
  pub transactions_pending : bit (word_at defaults slot device_control) 21 ≡ false
  pub power_state0 : bit (word_at defaults slot pmcsr) 0 ≡ false
  pub power_state1 : bit (word_at defaults slot pmcsr) 1 ≡ false

-- of each slot
abbrev pub AllCodesFit : Setup → Type 0
AllCodesFit setup = (i : ℕ) → i < setup.slots → CodesFit (entry_of setup i)

abbrev pub AllDefaultsFit : Setup → List ℕ → Type 0
AllDefaultsFit setup defaults = (i : ℕ) → i < setup.slots → DefaultsFit defaults i

-- 5: port and statuses are sound, and the carried bytes, if any, are the start of one incomplete record
pub record HeldSound (setup : Setup) (h : Held) : Type 0 where
  pub state : Sound setup (state_of h)
  pub count : h.port.carried_len ≤ 16
  pub carried : next (carried_of h.port) ≡ incomplete

module _ (setup : Setup) (defaults : List ℕ) (h : Held) where
  abbrev pub LengthsFit : Type 0
  LengthsFit = Fits setup.slots (length h.statuses) (length h.live) (length defaults)

  -- none of 1 to 4
  pub record SetUpFacts : Type 0 where
    pub lengths : LengthsFit
    pub queue : QueueFits (length h.cells)
    pub codes : AllCodesFit setup
    pub default_bits : AllDefaultsFit setup defaults

  -- none of 1 to 5
  pub record Accepted : Type 0 where
    pub set_up : SetUpFacts
    pub sound : HeldSound setup h

  -- ---- set-up and feed, first that applies
  pub record FirstOf1To4 (number : ℕ) : Type 0 where
    -- 1: slots not 1 to 32, statuses not one per slot, or register lengths not 64 per slot
    pub is1 : (number ≡ 1) ↔ (LengthsFit → ⊥)
    -- 2: queue length not 1 to 4,095
    pub is2 : (number ≡ 2) ↔ (LengthsFit × (QueueFits (length h.cells) → ⊥))
    -- 3: a code above A1Eh
    pub is3 : (number ≡ 3) ↔ (LengthsFit × QueueFits (length h.cells) × (AllCodesFit setup → ⊥))
    -- 4: a default with bit 15 or 21 of 78h or bits 1:0 of 44h set
    pub is4 : (number ≡ 4) ↔ (LengthsFit × QueueFits (length h.cells) × AllCodesFit setup × (AllDefaultsFit setup defaults → ⊥))

  -- SET-UP'S NUMBER
  pub record SetUpNumbers : Type 0 where
    pub refused : FirstOf1To4 (sets_up setup defaults h).number
    -- 0: none of them
    pub is0 : ((sets_up setup defaults h).number ≡ 0) ↔ SetUpFacts
    pub no_other : T (one_of (sets_up setup defaults h).number (0 ∷ 1 ∷ 2 ∷ 3 ∷ 4 ∷ []))

-- ---- what 30 and 31 are about: the bytes that are carried and those that are not consumed
-- the next kind is unknown
pub data UnknownNext (carried rest : List ℕ) : Type 0 where
  unknown : (b : ℕ) (more : List ℕ) → rest ≡ b ∷ more → carried ≡ [] → known b ≡ false → UnknownNext carried rest

-- a record's last byte is next
pub data LastByteNext (carried rest : List ℕ) : Type 0 where
  last : (b : ℕ) (more : List ℕ) → rest ≡ b ∷ more → next (carried ++ b ∷ []) ≡ complete (carried ++ b ∷ []) → LastByteNext carried rest

module _ (setup : Setup) (defaults : List ℕ) (h : Held) (input answers : List ℕ) where
  -- a call's number, the bytes that it leaves carried, those that it doesn't consume, and how many answer bytes are left
  abbrev pub number_given : ℕ
  number_given = (feeds setup defaults h input answers).number

  abbrev pub carried_after : List ℕ
  carried_after = carried_of (feeds setup defaults h input answers).held.port

  abbrev pub not_consumed : List ℕ
  not_consumed = drop (feeds setup defaults h input answers).consumed input

  abbrev pub room_left : ℕ
  room_left = length answers - (feeds setup defaults h input answers).written

  -- FEED'S NUMBER
  pub record FeedNumbers : Type 0 where
    pub refused : FirstOf1To4 setup defaults h number_given
    -- 5: port or statuses unsound
    pub is5 : (number_given ≡ 5) ↔ (SetUpFacts setup defaults h × (HeldSound setup h → ⊥))
    -- 31: the trace is broken, or the next kind is unknown
    pub is31 : (number_given ≡ 31) ↔ (Accepted setup defaults h × ((h.port.broken ≡ true) ⊎ UnknownNext carried_after not_consumed))
    -- 30: a record's last byte is next and fewer than 8 answer bytes are left
    pub is30 : (number_given ≡ 30) ↔ (Accepted setup defaults h × (h.port.broken ≡ false) × LastByteNext carried_after not_consumed × (room_left < 8))
    -- 0: otherwise feed consumes everything
    pub is0 : (number_given ≡ 0) ↔ (Accepted setup defaults h × (h.port.broken ≡ false) × (not_consumed ≡ []))
    pub no_other : T (one_of number_given (0 ∷ 1 ∷ 2 ∷ 3 ∷ 4 ∷ 5 ∷ 30 ∷ 31 ∷ []))

-- NUMBERS GIVEN FOR NO, for every set-up and all that is lent, any input and any answers slice
pub record GivenForNo (setup : Setup) (defaults : List ℕ) (h : Held) : Type 0 where
  pub set_up : SetUpNumbers setup defaults h
  pub feed : (input answers : List ℕ) → FeedNumbers setup defaults h input answers

abbrev pub EveryNumber : Type 0
EveryNumber = (setup : Setup) (defaults : List ℕ) (h : Held) → GivenForNo setup defaults h
