-- Unsound states: each thing that 5 lists (01, "Numbers given for no"), beside a neighbour that is sound.
use Prim.Native.Nat.{ℕ}
use mathlib.Core.Path.{◌≡◌, refl}
use mathlib.Core.Bool.{Bool, true, false}
use mathlib.Core.List.{[], ◌∷◌}
use Rattle.bits.specs.Every.{every}
use Rattle.messages.specs.Messages.{frs_allowed}
use Rattle.frs_queue.specs.Queue.{place_of}
use Rattle.readiness.specs.declared.Cause.TheVariants as cause
use Rattle.readiness.specs.declared.Status.{Status}
use Rattle.readiness.specs.Fields.{with_clock, with_link, with_owed, with_queue}
use Rattle.readiness.specs.Blank.{blank_dev}
use Rattle.readiness.specs.Status.{all_ready_from, down, pending, ready}
use Rattle.records.specs.State.{State, state}
use Rattle.records.specs.Sound.{sound}
use Rattle.records.proofs.Examples.{card, defaults, ns}

-- one slot at clock 1,000, with the link up or down and a DRS owed or not
abbrev lent : (link owed : Bool) → Status → State
lent link owed v = state (with_owed (with_link (with_clock blank_dev (ns 1000)) link) owed) (v ∷ []) defaults (0 ∷ [])

unfoldable pub tested : State → Bool
unfolding sound every place_of frs_allowed all_ready_from
tested s = sound card s

-- one slot Ready and one message, whose cell has this value
abbrev queued : (cell : ℕ) → State
queued cell =
    state (with_queue (with_link (with_clock blank_dev (ns 1000)) true) (record { start = 0; depth = 1; received = true; overflow = false })) (ready ∷ []) defaults (cell ∷ [])

-- a live cell of 2^20, whose reason has a fifth bit; the greatest below it
pub cell_below : (tested (queued 0x100000) ≡ false) × (tested (queued 0x0FFFFF) ≡ true)
unfolding tested
cell_below = (refl, refl)

-- a Pending ready time at the clock; one nanosecond after it
pub pending_after_clock : (tested (lent true false (pending cause.D3hot (ns 1000))) ≡ false) × (tested (lent true false (pending cause.D3hot (ns 1001))) ≡ true)
unfolding tested
pending_after_clock = (refl, refl)

-- 1,006,632,961 after the clock; 1,006,632,960
pub pending_at_most : (tested (lent true false (pending cause.D3hot (ns 1006633961))) ≡ false) × (tested (lent true false (pending cause.D3hot (ns 1006633960))) ≡ true)
unfolding tested
pending_at_most = (refl, refl)

-- an FLR end after its ready time; at it
pub flr_end_by_ready : (tested (lent true false (pending (cause.Flr (ns 1011)) (ns 1010))) ≡ false) × (tested (lent true false (pending (cause.Flr (ns 1010)) (ns 1010))) ≡ true)
unfolding tested
flr_end_by_ready = (refl, refl)

-- a Down slot with the link up; with it down
pub down_link_down : (tested (lent true false down) ≡ false) × (tested (lent false false down) ≡ true)
unfolding tested
down_link_down = (refl, refl)

-- a Ready slot with the link down; with it up
pub ready_link_up : (tested (lent false false ready) ≡ false) × (tested (lent true false ready) ≡ true)
unfolding tested
ready_link_up = (refl, refl)

-- a Pending slot with the link down; with it up
pub pending_link_up : (tested (lent false false (pending cause.LinkUp (ns 1010))) ≡ false) × (tested (lent true false (pending cause.LinkUp (ns 1010))) ≡ true)
unfolding tested
pending_link_up = (refl, refl)

-- a DRS owed with the link down; not owed
pub owed_link_up : (tested (lent false true down) ≡ false) × (tested (lent false false down) ≡ true)
unfolding tested
owed_link_up = (refl, refl)

-- a DRS owed with every slot Ready; with one Pending
pub owed_not_ready : (tested (lent true true ready) ≡ false) × (tested (lent true true (pending cause.LinkUp (ns 1010))) ≡ true)
unfolding tested
owed_not_ready = (refl, refl)
