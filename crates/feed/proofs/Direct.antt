-- Records that take their turn apart: those that touch one slot, and an advance before any slot becomes Ready; and moments before which none does.
use Rattle.std.specs.Prelude.{Option, None}
use Prim.Native.Nat.{ℕ, ◌<◌}
use native.Mathlib.Omega.{arith}
use mathlib.Core.Path.{◌≡◌, refl, sym, ap, ◌∙◌, subst}
use mathlib.Core.Bool.{Bool, true, false, not, ◌&&◌, ◌||◌, cond}
use mathlib.Core.List.{List, [], ◌∷◌}
use lib.ListN.{set}
use lib.Seq.{paste, set-get_or}
use borrow.Author.Tests.{lt-ltb}
use Rattle.registers.specs.declared.Kind.{Kind}
use Rattle.times.specs.declared.Nanos.{Nanos}
use Rattle.times.specs.Moments.{sum_of, least_of}
use Rattle.readiness.specs.declared.Cause.{Cause}
use Rattle.readiness.specs.declared.Phase.{Phase}
use Rattle.readiness.specs.declared.Phase.TheVariants.{Down, Pending, Ready}
use Rattle.readiness.specs.declared.Status.{Status}
use Rattle.readiness.specs.declared.Slot.{Slot}
use Rattle.readiness.specs.declared.Setup.{Setup}
use Rattle.readiness.specs.declared.Dev.{Dev}
use Rattle.readiness.specs.Status.{ready, all_ready, entry_of}
use Rattle.readiness.specs.Events.{Event, due}
use Rattle.readiness.specs.MadeReady.{made_by}
use Rattle.readiness.specs.inner.Phases.{notes, notes_at}
use Rattle.readiness.specs.inner.Earliest.{ready_time, PhaseFrom, ReadyFrom}
use Rattle.readiness.proofs.PhaseNumbers.{notes_one}
use Rattle.readiness.proofs.Bounds.{bound_quiet, bound_set, bound_least}
use Rattle.records.specs.declared.Record.{Record}
use Rattle.frs_queue.specs.declared.Queue.{Queue}
use Rattle.std.specs.Prelude.{Some}
use Rattle.messages.specs.declared.Message.TheVariants.{Frs}
use Rattle.records.specs.declared.Record.TheVariants.{Advance, Message}
use Rattle.records.specs.declared.Reply.{Reply}
use Rattle.records.specs.declared.Part.TheVariants.{OneSlot, PortAlone}
use Rattle.records.specs.declared.PortDone.{PortDone}
use Rattle.records.specs.State.{State, Seat, state, status_at, seat, kind_of_entry, slot_kind}
use Rattle.readiness.specs.Fields.{with_queue}
use Rattle.records.specs.PortRecords.{Front, front}
use Rattle.records.specs.Answer.{Effect, refused, does, Ran, answer_bytes}
use Rattle.records.specs.MadeReady.{readied}
use Rattle.records.specs.inner.Parts.{part_at, part_of, slot_effect, slot_readied, slot_run, port_run, card_run}
use Rattle.records.proofs.SoundFacts.{owed_test}
use Rattle.records.proofs.Parted.{run-card}
use Rattle.records.proofs.Readying.{readied_slot}
use Rattle.records.specs.Sound.{Sound, Fitting}
use Rattle.feed.specs.inner.Turns.{Turned}
use Rattle.feed.proofs.Parts.{slot_runs, port_runs}

-- ---- moments before which no slot becomes Ready
-- the first moment is one
pub bound_zero : (l : List Status) → ReadyFrom (record { 0 = 0 }) l
bound_zero [] = tt
bound_zero (s ∷ l) = (phase_zero s.phase, bound_zero l)
  where
    phase_zero : (p : Phase) → PhaseFrom (record { 0 = 0 }) p
    phase_zero Down = tt
    phase_zero Ready = tt
    phase_zero (Pending c t) = omega arith

-- one slot's status anew
pub bound_down : (e : Nanos) (s : Status) → s.phase ≡ Down → (l : List Status) (i : ℕ) → ReadyFrom e l → ReadyFrom e (set l i s)
bound_down e s q l i b = bound_set e l i s b (subst (PhaseFrom e) (sym q) tt)

pub bound_brought : (e : Nanos) (s : Status) → s.phase ≡ Ready → (l : List Status) (i : ℕ) → ReadyFrom e l → ReadyFrom e (set l i s)
bound_brought e s q l i b = bound_set e l i s b (subst (PhaseFrom e) (sym q) tt)

pub bound_started : (e : Nanos) (s : Status) (c : Cause) (t r : Nanos) → s.phase ≡ Pending c t → r ≡ least_of t e → (l : List Status) (i : ℕ) → ReadyFrom e l → ReadyFrom r (set l i s)
bound_started e s c t r q f l i b =
    subst (λ (m : Nanos). ReadyFrom m (set l i s)) (sym (f ∙ ap (λ (p : Phase). least_of (ready_time p) e) (sym q))) (bound_least e l i s b)

-- ---- a DRS that is owed on a sound state: not every slot is Ready
owed_rests : (owed link all : Bool) → (not owed || (link && not all)) ≡ true → (owed && all) ≡ false
owed_rests false link all e = refl
owed_rests true link false e = refl
owed_rests true true true e = sym e
owed_rests true false true e = sym e

-- ---- a slot of the card
pub at_slot : (setup : Setup) (i : ℕ) → i < setup.slots → part_at setup i ≡ OneSlot i
at_slot setup i h = ap (λ (b : Bool). cond b (OneSlot i) PortAlone) (lt-ltb i setup.slots h)

-- the moment of a slot that a record makes Ready
notes-effect : (i : ℕ) (e : Effect Seat) (m : List ℕ) → notes (slot_readied i e) m ≡ notes_at (made_by (slot_readied i e)) i m
unfolding notes
notes-effect i (refused c v) m = refl
notes-effect i (does y tally v) m = notes_one y.dev.clock i y.status.phase m

module _ (k : Setup) (defaults : List ℕ) (dev : Dev) (statuses : List Status) (live cells : List ℕ) (r : Record) where
  abbrev present : State
  present = state dev statuses live cells

  -- a record of one slot, with the kind that code is told
  pub as_told : (i : ℕ) (kind : Kind) → kind ≡ slot_kind k i → (z : Seat)
      → slot_run k.slots (slot_kind k i) k.bus (entry_of k i) defaults i r z ≡ slot_run k.slots kind k.bus (entry_of k i) defaults i r z
  as_told i kind c z = ap (λ (x : Kind). slot_run k.slots x k.bus (entry_of k i) defaults i r z) (sym c)

  module _ (sound : Sound k present) (fits : Fitting k defaults present) where
    -- a record that touches one slot, and leaves its status and the root port
    pub still_runs : (i : ℕ) → part_of k r ≡ OneSlot i → (a : Reply) (live' : List ℕ)
        → ◌≡◌ {A = Ran Seat} (slot_run k.slots (slot_kind k i) k.bus (entry_of k i) defaults i r (seat dev (status_at statuses i) live cells))
        (record { after = seat dev (status_at statuses i) live' cells; reply = a })
        → Turned k defaults present r (state dev statuses live' cells) a
    still_runs i o a live' y =
        subst (λ (l : List Status). Turned k defaults present r (state dev l live' cells) a) (set-get_or statuses i ready)
        (slot_runs k defaults dev statuses live cells r sound fits i o (record { dev = dev; status = status_at statuses i; reply = a; made = None }) live' cells (sym y))

    -- the moment that it notes
    pub slot_notes : (i : ℕ) → part_of k r ≡ OneSlot i → (kind : Kind) → kind ≡ slot_kind k i
        → (status : Status) → status ≡ status_at statuses i → (made : Option Nanos) → made ≡ made_by (slot_readied i (slot_effect k.slots kind (entry_of k i) defaults r (seat dev status live cells)))
        → (m : List ℕ) → notes_at made i m ≡ notes (readied k defaults present r) m
    slot_notes i o kind c status q made w m =
        let told = slot_effect k.slots kind (entry_of k i) defaults r (seat dev status live cells) in
        let part = slot_effect k.slots (slot_kind k i) (entry_of k i) defaults r (seat dev (status_at statuses i) live cells) in
        let p : told ≡ part = (λ j. slot_effect k.slots (c j) (entry_of k i) defaults r (seat dev (q j) live cells)) in
        ap (λ (x : Option Nanos). notes_at x i m) (w ∙ ap (λ (y : Effect Seat). made_by (slot_readied i y)) p)
        ∙ sym (notes-effect i part m)
        ∙ ap (λ (es : List Event). notes es m) (sym (readied_slot k defaults present sound fits r i o))

    -- an FRS that arrives by a message
    pub frs-runs : (id reason : ℕ) → r ≡ Message (Some (Frs id reason)) → (q : Queue) (a : Reply) (cells' : List ℕ)
        → ◌≡◌ {A = Ran Front} (port_run k.port_id (Message (Some (Frs id reason))) (front dev cells)) (record { after = front (with_queue dev q) cells'; reply = a })
        → Turned k defaults present r (state (with_queue dev q) statuses live cells') a
    frs-runs id reason e q a cells' y =
        port_runs k defaults dev statuses live cells r sound fits (ap (part_of k) e) (record { dev = with_queue dev q; reply = a }) cells'
        (sym y ∙ ap (λ (z : Record). port_run k.port_id z (front dev cells)) (sym e))

    -- an advance to a moment before which no slot becomes Ready
    pub clock_runs : (bound : Nanos) → ReadyFrom bound statuses → (by : Nanos) → r ≡ Advance by → (sum_of dev.clock by).0 < bound.0 → (x : PortDone)
        → (due (sum_of dev.clock by) statuses ≡ [] → (dev.owed && all_ready k statuses) ≡ false
        → card_run k defaults (Advance by) present ≡ record { after = state x.dev statuses live cells; reply = x.reply })
        → Turned k defaults present r (state x.dev statuses live cells) x.reply
    clock_runs bound b by e h x c =
        let y = run-card k defaults present r (ap (part_of k) e)
        ∙ ap (λ (z : Record). card_run k defaults z present) e
        ∙ c (bound_quiet bound (sum_of dev.clock by) statuses b h) (owed_rests dev.owed dev.link (all_ready k statuses) (owed_test sound)) in
        record { state = sym (ap (λ (z : Ran State). z.after) y); reply = sym (ap (λ (z : Ran State). z.reply) y) }
