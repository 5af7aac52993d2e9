-- Records that touch one slot: configuration read, configuration write, hardware set (01, "Register attributes", "Readiness").
use Rattle.std.specs.Prelude.{ℕ, true, false, not, cond, List, ltb, get_or, set}
use Rattle.bits.specs.Bits.{bit}
use Rattle.registers.specs.declared.Kind.{Kind}
use Rattle.registers.specs.Rows.{flr_capability_word, starts_flr}
use Rattle.registers.specs.Words.{read_word, write_word, hardware_set, starts_d3hot}
use Rattle.config_space.specs.Functions.{link_reset_slot, flr_reset_slot}
use Rattle.frs_queue.specs.Queue.{no_tally}
use Rattle.readiness.specs.declared.Slot.{Slot}
use Rattle.readiness.specs.Status.{is_ready, started_by_flr, started_by_d3hot}
use Rattle.records.specs.declared.Request.{Request}
use Rattle.records.specs.declared.Completion.TheVariants as completion
use Rattle.records.specs.State.{Seat, seat, word_place}
use Rattle.records.specs.Answer.{Effect, refused, does}
use Rattle.records.specs.Route.{route_of, route_completion, refused_data, is_access}

-- a slot's live or default word
abbrev pub word_at : List ℕ → (slot word : ℕ) → ℕ
word_at l slot word = get_or l (word_place slot word) 0

-- configuration read of a Ready slot
abbrev pub read_done : Kind → Request → Seat → Effect Seat
read_done kind q z = does z no_tally (read_word kind q.word (word_at z.live q.slot q.word) q.enables)

-- FLR, once the write is finished: the slot Pending, its registers reset
unfoldable pub after_flr : Kind → Slot → (defaults : List ℕ) → (slot : ℕ) → Seat → Seat
after_flr kind entry defaults slot z = seat z.dev (started_by_flr z.dev.clock entry) (flr_reset_slot kind slot z.live defaults) z.cells

-- PowerState from 3 to 0, with 44h now `new`: as link down in that slot if No_Soft_Reset (44h bit 3) is 0, else no other bit changes; Pending with either
unfoldable pub after_d3hot : Kind → Slot → (defaults : List ℕ) → (slot new : ℕ) → Seat → Seat
after_d3hot kind entry defaults slot new z =
    seat z.dev (started_by_d3hot z.dev.clock entry) (cond (bit new 3) z.live (link_reset_slot kind slot z.live defaults)) z.cells

-- the write is finished first
abbrev pub written : (slot word new : ℕ) → Seat → Seat
written slot word new z = seat z.dev z.status (set z.live (word_place slot word) new) z.cells

-- configuration write of a Ready slot: then the FLR or the way from D3hot starts, if it is one
unfoldable pub write_seat : Kind → Slot → (defaults : List ℕ) → Request → (value : ℕ) → Seat → Seat
write_seat kind entry defaults q value z =
    let old = word_at z.live q.slot q.word in
    let new = write_word kind q.word old value q.enables in
    let w = written q.slot q.word new z in
    cond (starts_flr kind q.word value q.enables (word_at defaults q.slot (flr_capability_word kind))) (after_flr kind entry defaults q.slot w)
    (cond (starts_d3hot kind q.word old new) (after_d3hot kind entry defaults q.slot new w) w)

abbrev pub write_done : Kind → Slot → (defaults : List ℕ) → Request → (value : ℕ) → Seat → Effect Seat
write_done kind entry defaults q value z = does (write_seat kind entry defaults q value z) no_tally 0

-- a read or a write, by its route
unfoldable pub read_effect : (slots : ℕ) → Kind → Request → Seat → Effect Seat
read_effect slots kind q z =
    let r = route_of slots kind z.dev z.status true q in
    cond (is_access r) (read_done kind q z) (refused (route_completion r) (refused_data true q.enables r))

unfoldable pub write_effect : (slots : ℕ) → Kind → Slot → (defaults : List ℕ) → Request → (value : ℕ) → Seat → Effect Seat
write_effect slots kind entry defaults q value z =
    let r = route_of slots kind z.dev z.status false q in
    cond (is_access r) (write_done kind entry defaults q value z) (refused (route_completion r) (refused_data false q.enables r))

-- hardware sets those mask bits that lie in C; order: 20, 21, 23
unfoldable pub hardware_effect : (slots : ℕ) → Kind → (slot word mask : ℕ) → Seat → Effect Seat
hardware_effect slots kind slot word mask z =
    cond (not (ltb slot slots)) (refused completion.NoSlot 0)
    (cond (ltb 63 word) (refused completion.NoWord 0)
    (cond (not (is_ready z.status)) (refused completion.WrongState 0)
    (does (written slot word (hardware_set kind word (word_at z.live slot word) mask) z) no_tally 0)))
