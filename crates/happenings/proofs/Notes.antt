-- What a write leaves, its note says.
use Prim.Native.Nat.{ℕ}
use mathlib.Core.Bool.{Bool, true, false, cond}
use mathlib.Core.List.{List}
use mathlib.Core.Path.{◌≡◌, refl}
use Rattle.bits.specs.Bits.{bit}
use Rattle.registers.specs.declared.Kind.{Kind}
use Rattle.registers.specs.Rows.{flr_capability_word, starts_flr}
use Rattle.registers.specs.Words.{write_word, starts_d3hot}
use Rattle.readiness.specs.declared.Slot.{Slot}
use Rattle.records.specs.declared.Request.{Request}
use Rattle.config_space.specs.Functions.{link_reset_slot}
use Rattle.readiness.specs.Status.{started_by_d3hot}
use Rattle.records.specs.State.{Seat, seat}
use Rattle.records.specs.Requests.{word_at, written, after_flr, after_d3hot, write_seat}
use Rattle.happenings.specs.declared.Note.{Note}
use Rattle.happenings.specs.declared.Note.TheVariants.{Plain, FlrStarted, NoFlr, EntersD3hot}
use Rattle.happenings.specs.Writes.{capable, enters_d3hot, wakes, note_of, left_by, NoteSays, EveryNote}

module _ (kind : Kind) (entry : Slot) (defaults : List ℕ) (slot new : ℕ) (w : Seat) where
  woken : (keeps : Bool) → seat w.dev (started_by_d3hot w.dev.clock entry) (cond keeps w.live (link_reset_slot kind slot w.live defaults)) w.cells ≡ left_by (wakes keeps) kind entry defaults slot w
  unfolding left_by
  woken true = refl
  woken false = refl

  -- by the tests, in their order
  by_tests : (flr d3hot asks enters : Bool)
      → cond flr (after_flr kind entry defaults slot w) (cond d3hot (after_d3hot kind entry defaults slot new w) w)
      ≡ left_by (cond flr FlrStarted (cond d3hot (wakes (bit new 3)) (cond asks NoFlr (cond enters EntersD3hot Plain)))) kind entry defaults slot w
  unfolding left_by after_d3hot
  by_tests true d3hot asks enters = refl
  by_tests false true asks enters = woken (bit new 3)
  by_tests false false true enters = refl
  by_tests false false false true = refl
  by_tests false false false false = refl

pub notes : EveryNote
unfolding write_seat note_of
notes kind entry defaults q value z =
    let old = word_at z.live q.slot q.word in
    let new = write_word kind q.word old value q.enables in
    by_tests kind entry defaults q.slot new (written q.slot q.word new z) (starts_flr kind q.word value q.enables (word_at defaults q.slot (flr_capability_word kind)))
    (starts_d3hot kind q.word old new) (starts_flr kind q.word value q.enables capable) (enters_d3hot q.word old new)
