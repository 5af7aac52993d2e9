-- A record after which nothing is due is answered as it stands.
use mathlib.Core.Path.{◌≡◌, refl, ap}
use mathlib.Core.Bool.{true, false, ◌&&◌, false≢true}
use mathlib.Core.List.{List, []}
use Prim.Native.Nat.{ℕ}
use Rattle.times.specs.declared.Nanos.{Nanos}
use Rattle.frs_queue.specs.Queue.{no_tally}
use Rattle.readiness.specs.declared.Phase.{Phase}
use Rattle.readiness.specs.declared.Phase.TheVariants.{Down, Pending, Ready}
use Rattle.readiness.specs.declared.Slot.{Slot}
use Rattle.readiness.specs.declared.Status.{Status}
use Rattle.readiness.specs.declared.Setup.{Setup}
use Rattle.readiness.specs.declared.Dev.{Dev}
use Rattle.readiness.specs.Status.{ready_phase, is_ready, all_ready}
use Rattle.readiness.specs.Events.{due_event, due}
use Rattle.readiness.specs.Settle.{Scene}
use Rattle.readiness.specs.inner.OneSlot.{SlotScene, slot_happens, slot_settles}
use Rattle.readiness.proofs.Laws.{settle_rest}
use Rattle.records.specs.declared.Completion.TheVariants as completion
use Rattle.records.specs.declared.Reply.{Reply}
use Rattle.records.specs.State.{State, state, Seat, seat, scene_of, with_live}
use Rattle.records.specs.Answer.{Ran, does, reply, answered}
use Rattle.records.specs.inner.Parts.{slot_answered}

-- a slot as it is left, and the answer
abbrev pub told : Seat → Reply → Ran Seat
told z r = record { after = z; reply = r }

-- a slot that is Ready isn't due
pub ready_none : (clock : Nanos) (slot : ℕ) (p : Phase) → ready_phase p ≡ true → due_event clock slot p ≡ []
ready_none clock slot Down h = absurd (false≢true h)
ready_none clock slot (Pending c t) h = absurd (false≢true h)
ready_none clock slot Ready h = refl

pub ready-settles : (bus : ℕ) (entry : Slot) (slot : ℕ) (x : SlotScene) → is_ready x.status ≡ true → slot_settles bus entry slot x ≡ x
unfolding slot_settles
ready-settles bus entry slot x e = ap (slot_happens bus entry x) (ready_none x.root.dev.clock slot x.status.phase e)

-- so a record that leaves a slot Ready is answered with what it leaves
pub ready-answered : (bus : ℕ) (entry : Slot) (slot : ℕ) (before z : Seat) (n : ℕ) → is_ready z.status ≡ true
    → slot_answered bus entry slot before (does z no_tally n) ≡ told z (reply completion.Done no_tally n)
unfolding slot_answered
ready-answered bus entry slot before z n e =
    ap (λ (x : SlotScene). record { after = seat x.root.dev x.status z.live x.root.cells; reply = reply completion.Done x.root.tally n })
    (ready-settles bus entry slot (record { status = z.status; root = record { dev = z.dev; cells = z.cells; tally = no_tally } }) e)

-- a record after which no slot is due and no DRS is to be told is answered with what it leaves
pub rest_answered : (setup : Setup) (before : State) (dev : Dev) (statuses : List Status) (live cells : List ℕ)
    → due dev.clock statuses ≡ [] → (dev.owed && all_ready setup statuses) ≡ false
    → answered setup before (does (state dev statuses live cells) no_tally 0) ≡ record { after = state dev statuses live cells; reply = reply completion.Done no_tally 0 }
unfolding answered
rest_answered setup before dev statuses live cells e d =
    ap (λ (x : Scene). record { after = with_live x live; reply = reply completion.Done x.root.tally 0 })
    (settle_rest setup (scene_of (state dev statuses live cells) no_tally) e d)
