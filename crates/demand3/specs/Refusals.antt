-- Numbers given for no (01), 1 to 5: the first that applies.
use Rattle.std.specs.Prelude.{ℕ, ◌*◌, Bool, true, ◌&&◌, cond, List, [], ◌∷◌, eqb, leb, ltb, length}
use Rattle.bits.specs.Every.{every}
use Rattle.times.specs.Codes.{allowed}
use Rattle.registers.specs.declared.Kind.{Kind}
use Rattle.registers.specs.Rows.{checked_words, default_allowed}
use Rattle.readiness.specs.declared.Slot.{Slot}
use Rattle.readiness.specs.declared.Setup.{Setup}
use Rattle.readiness.specs.Status.{entry_of}
use Rattle.trace.specs.Format.{begun}
use Rattle.records.specs.State.{slot_kind}
use Rattle.records.specs.Requests.{word_at}
use Rattle.records.specs.Sound.{sound}
use Rattle.records.specs.declared.Port.{Port}
use Rattle.demand3.specs.Held.{Held, state_of, carried_of}

-- slots 1 to 32, one status per slot, 64 live and 64 default registers per slot
unfoldable pub lengths_fit : (slots statuses live defaults : ℕ) → Bool
lengths_fit slots statuses live defaults =
    ltb 0 slots && leb slots 32 && eqb statuses slots && eqb live (64 * slots) && eqb defaults (64 * slots)

-- queue length 1 to 4,095
unfoldable pub queue_fits : (cells : ℕ) → Bool
queue_fits cells = ltb 0 cells && leb cells 4095

-- no code above A1Eh
unfoldable pub codes_allowed : Slot → Bool
codes_allowed e = allowed e.reset && allowed e.dl_up && allowed e.flr && allowed e.d3hot

unfoldable pub all_codes_allowed : Setup → Bool
all_codes_allowed setup = every setup.slots λ i. codes_allowed (entry_of setup i)

-- a slot's default words, of those listed, have none of the bits set that must be 0
unfoldable pub words_allowed : Kind → (defaults : List ℕ) → (slot : ℕ) → List ℕ → Bool
words_allowed kind defaults slot [] = true
words_allowed kind defaults slot (word ∷ words) = default_allowed kind word (word_at defaults slot word) && words_allowed kind defaults slot words

-- no default with bit 15 or 21 of 78h or bits 1:0 of 44h set
unfoldable pub all_defaults_allowed : Setup → (defaults : List ℕ) → Bool
all_defaults_allowed setup defaults = every setup.slots λ i. words_allowed (slot_kind setup i) defaults i (checked_words (slot_kind setup i))

-- a number given for no, and the test that must hold
pub record Test : Type 0 where
  pub number : ℕ
  pub holds : Bool

-- the number of the first test that fails, else 0
unfoldable pub first_failed : List Test → ℕ
first_failed [] = 0
first_failed (t ∷ ts) = cond t.holds (first_failed ts) t.number

-- the refusals of a set-up, in order
unfoldable pub set_up_tests : Setup → (defaults : List ℕ) → (statuses live cells : ℕ) → List Test
set_up_tests setup defaults statuses live cells =
    record { number = 1; holds = lengths_fit setup.slots statuses live (length defaults) }
    ∷ record { number = 2; holds = queue_fits cells }
    ∷ record { number = 3; holds = all_codes_allowed setup }
    ∷ record { number = 4; holds = all_defaults_allowed setup defaults }
    ∷ []

unfoldable pub set_up_refusal : Setup → (defaults : List ℕ) → Held → ℕ
set_up_refusal setup defaults h = first_failed (set_up_tests setup defaults (length h.statuses) (length h.live) (length h.cells))

-- the carried bytes, if any, are the start of one incomplete record
unfoldable pub sound_carried : Port → Bool
sound_carried p = leb p.carried_len 16 && begun (carried_of p)

-- nothing that 5 lists
unfoldable pub sound_held : Setup → Held → Bool
sound_held setup h = sound_carried h.port && sound setup (state_of h)
