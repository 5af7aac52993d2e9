-- What a configuration write starts, or asks for in vain (01, "Readiness": FLR; "Register attributes": PowerState).
use Rattle.std.specs.Prelude.{ℕ, Bool, true, false, not, ◌&&◌, cond, List, ◌≡◌, eqb}
use Rattle.bits.specs.Bits.{bit}
use Rattle.registers.specs.declared.Kind.{Kind}
use Rattle.registers.specs.Rows.{pmcsr, flr_capability_word, starts_flr}
use Rattle.registers.specs.Words.{power_state, write_word, starts_d3hot}
use Rattle.config_space.specs.Functions.{link_reset_slot}
use Rattle.readiness.specs.declared.Slot.{Slot}
use Rattle.readiness.specs.declared.Setup.{Setup}
use Rattle.readiness.specs.Status.{started_by_d3hot}
use Rattle.records.specs.declared.Request.{Request}
use Rattle.records.specs.declared.Record.{Record}
use Rattle.records.specs.declared.Record.TheVariants as kinds
use Rattle.records.specs.State.{State, Seat, seat, status_at, slot_kind}
use Rattle.records.specs.Route.{route_of, is_access}
use Rattle.records.specs.Requests.{word_at, written, after_flr, write_seat}
use Rattle.happenings.specs.declared.Note.{Note}
use Rattle.happenings.specs.declared.Note.TheVariants.{Plain, FlrStarted, NoFlr, EntersD3hot, WakesReset, WakesKept}

-- device capabilities with bit 28, FLR capable, alone
abbrev pub capable : ℕ
capable = 0x10000000

-- PowerState becomes 3
unfoldable pub enters_d3hot : (i old new : ℕ) → Bool
enters_d3hot i old new = eqb i pmcsr && not (eqb (power_state old) 3) && eqb (power_state new) 3

-- with No_Soft_Reset (44h bit 3) 1 no other bit changes, with 0 there is a reset
abbrev pub wakes : (keeps : Bool) → Note
wakes keeps = cond keeps WakesKept WakesReset

-- a write of word i, from old to new: `capabilities` is the default word that says FLR capable; a write that would start an FLR in a slot that is FLR capable asks for one
unfoldable pub note_of : Kind → (i old new value enables capabilities : ℕ) → Note
note_of kind i old new value enables capabilities =
    cond (starts_flr kind i value enables capabilities) FlrStarted
    (cond (starts_d3hot kind i old new) (wakes (bit new 3))
    (cond (starts_flr kind i value enables capable) NoFlr
    (cond (enters_d3hot i old new) EntersD3hot Plain)))

-- of a write that is done; a write that is answered with another status than 0 has none
unfoldable pub write_note : Setup → (defaults : List ℕ) → State → Request → (value : ℕ) → Note
write_note setup defaults s q value =
    let kind = slot_kind setup q.slot in
    let old = word_at s.live q.slot q.word in
    cond (is_access (route_of setup.slots kind s.port (status_at s.statuses q.slot) false q))
    (note_of kind q.word old (write_word kind q.word old value q.enables) value q.enables (word_at defaults q.slot (flr_capability_word kind)))
    Plain

-- of a record
abbrev pub record_note : Setup → (defaults : List ℕ) → State → Record → Note
record_note setup defaults s (kinds.Advance by) = Plain
record_note setup defaults s (kinds.Read q) = Plain
record_note setup defaults s (kinds.Write q value) = write_note setup defaults s q value
record_note setup defaults s (kinds.Message m) = Plain
record_note setup defaults s kinds.LinkUp = Plain
record_note setup defaults s kinds.LinkDown = Plain
record_note setup defaults s kinds.ColdReset = Plain
record_note setup defaults s kinds.ReadQueue = Plain
record_note setup defaults s kinds.RemoveOldest = Plain
record_note setup defaults s (kinds.ClearBits mask) = Plain
record_note setup defaults s (kinds.Control b) = Plain
record_note setup defaults s (kinds.HardwareSet slot word mask) = Plain
record_note setup defaults s kinds.ReadBits = Plain
record_note setup defaults s kinds.NoKind = Plain

-- ---- What a note says, by what the write leaves
-- a slot's part with its register written: an FLR starts; or the way from D3hot to D0, with the registers reset or kept; or nothing more
unfoldable pub left_by : Note → Kind → Slot → (defaults : List ℕ) → (slot : ℕ) → Seat → Seat
left_by FlrStarted kind entry defaults slot z = after_flr kind entry defaults slot z
left_by WakesReset kind entry defaults slot z = seat z.dev (started_by_d3hot z.dev.clock entry) (link_reset_slot kind slot z.live defaults) z.cells
left_by WakesKept kind entry defaults slot z = seat z.dev (started_by_d3hot z.dev.clock entry) z.live z.cells
left_by NoFlr kind entry defaults slot z = z
left_by EntersD3hot kind entry defaults slot z = z
left_by Plain kind entry defaults slot z = z

-- THE CLAIM: what a write that is done leaves, its note says
abbrev pub NoteSays : Kind → Slot → (defaults : List ℕ) → Request → (value : ℕ) → Seat → Type 0
NoteSays kind entry defaults q value z =
    let old = word_at z.live q.slot q.word in
    let new = write_word kind q.word old value q.enables in
    write_seat kind entry defaults q value z
    ≡ left_by (note_of kind q.word old new value q.enables (word_at defaults q.slot (flr_capability_word kind))) kind entry defaults q.slot (written q.slot q.word new z)

abbrev pub EveryNote : Type 0
EveryNote = (kind : Kind) (entry : Slot) (defaults : List ℕ) (q : Request) (value : ℕ) (z : Seat) → NoteSays kind entry defaults q value z
