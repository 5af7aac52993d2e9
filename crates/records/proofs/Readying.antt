-- The slots that a record makes Ready, by the part of the state that it touches.
use Prim.Native.Nat.{ℕ, ◌≤◌, ◌<◌}
use native.Mathlib.Omega.{arith}
use native.Mathlib.Nat.{zero-add}
use mathlib.Core.Path.{◌≡◌, refl, ap, sym, ◌∙◌, subst}
use mathlib.Core.Bool.{Bool, true, false, not, cond}
use mathlib.Core.List.Memᴰ
use mathlib.Core.List.{List, [], Memᴰ}
use lib.Dec.{ltb, leb}
use lib.ListN.{length}
use borrow.Author.Tests.{not-false, le-leb, leb-true}
use Rattle.bits.proofs.Choices.{either_way, when_true}
use Rattle.times.specs.declared.Nanos.{Nanos}
use Rattle.times.specs.Moments.{sum_of, clock_end, greatest_nanos}
use Rattle.registers.specs.declared.Kind.{Kind}
use Rattle.frs_queue.specs.declared.Tally.{Tally}
use Rattle.readiness.specs.declared.Cause.{Cause}
use Rattle.readiness.specs.declared.Phase.TheVariants.{Pending, Ready}
use Rattle.readiness.specs.declared.Status.{Status}
use Rattle.readiness.specs.declared.Setup.{Setup}
use Rattle.readiness.specs.declared.Dev.{Dev}
use Rattle.readiness.specs.Status.{ready, is_ready, entry_of}
use Rattle.readiness.specs.Events.{Event, due, due_event}
use Rattle.readiness.specs.Settle.{settles}
use Rattle.readiness.proofs.Order.{Each, due-set, phase_by, never-pending}
use Rattle.readiness.proofs.Laws.{due_order}
use Rattle.readiness.proofs.Scenes.{settled_kept, settled_statuses}
use Rattle.readiness.proofs.KeptMoments.{Within, due-within}
use Rattle.records.specs.declared.Request.{Request}
use Rattle.records.specs.declared.Record.{Record}
use Rattle.records.specs.declared.Record.TheVariants.{Advance, Read, HardwareSet}
use Rattle.records.specs.declared.Part.TheVariants.{OneSlot, PortAlone, WholeCard}
use Rattle.records.specs.State.{State, Seat, seat_of, scene_of, with_live, status_at, phase_at, slot_kind}
use Rattle.records.specs.Answer.{Effect, refused, does, answered}
use Rattle.records.specs.Route.{route_of, is_access}
use Rattle.records.specs.Requests.{read_done, read_effect, hardware_effect}
use Rattle.records.specs.PortRecords.{Front}
use Rattle.records.specs.CardRecords.{advance_effect}
use Rattle.records.specs.Run.{at_slot, at_port, front_of, effect, run}
use Rattle.records.specs.MadeReady.{readied_by, readied, phase_between, ReadiedExactly}
use Rattle.records.specs.inner.Parts.{part_at, part_of, slot_effect, slot_readied, port_effect, card_effect}
use Rattle.records.specs.Sound.{Sound, Fitting}
use Rattle.records.proofs.Resting.{sound_rests}
use Rattle.records.proofs.SlotsKept.{at_ready_by}
use Rattle.records.proofs.Parted.{access_ready, ready_status, SlotDoes, PortDoes, port_does, effect_slot, effect_port, effect-card}

-- ---- in a state where nothing is due
module _ (s : State) (none : due s.port.clock s.statuses ≡ []) where
  port_readies : (e : Effect Front) → PortDoes (front_of s) e → readied_by (at_port s e) ≡ []
  port_readies (refused c v) h = refl
  port_readies (does y tally v) h = ap (λ (t : Nanos). due t s.statuses) h.0 ∙ none

  slot_readies : (i : ℕ) → i < length s.statuses → (e : Effect Seat) → SlotDoes (seat_of s i) e → readied_by (at_slot s i e) ≡ slot_readied i e
  slot_readies i l (refused c v) h = refl
  slot_readies i l (does y tally v) h =
      due-set 0 y.dev.clock s.statuses i y.status l (ap (λ (d : Dev). due d.clock s.statuses) h.1 ∙ none)
      ∙ ap (λ (j : ℕ). due_event y.dev.clock j y.status.phase) (zero-add i)

-- ---- the three parts
module _ (setup : Setup) (defaults : List ℕ) (s : State) (good : Sound setup s) (fits : Fitting setup defaults s) where
  -- a record that touches one slot can make that slot Ready alone,
  pub readied_slot : (r : Record) (i : ℕ) → part_of setup r ≡ OneSlot i
      → readied setup defaults s r ≡ slot_readied i (slot_effect setup.slots (slot_kind setup i) (entry_of setup i) defaults r (seat_of s i))
  unfolding readied
  readied_slot r i e =
      let p = effect_slot setup defaults s r i e in
      ap readied_by p.2 ∙ slot_readies s (sound_rests setup defaults s good fits).due i (omega (arith, fits.slots, p.0)) (slot_effect setup.slots (slot_kind setup i) (entry_of setup i) defaults r (seat_of s i)) p.1

  -- and one that touches no slot none
  pub readied_port : (r : Record) → part_of setup r ≡ PortAlone → readied setup defaults s r ≡ []
  unfolding readied
  readied_port r e =
      ap readied_by (effect_port setup defaults s r e) ∙ port_readies s (sound_rests setup defaults s good fits).due (port_effect setup.port_id r (front_of s)) (port_does setup.port_id r (front_of s))

pub readied-card : (setup : Setup) (defaults : List ℕ) (s : State) (r : Record) → part_of setup r ≡ WholeCard → readied setup defaults s r ≡ readied_by (card_effect setup defaults r s)
unfolding readied
readied-card setup defaults s r e = ap readied_by (effect-card setup defaults s r e)

-- ---- a read and a hardware set leave their slot Ready
abbrev StaysReady : Effect Seat → Type 0
StaysReady (refused c v) = Unit {0}
StaysReady (does y tally v) = y.status ≡ ready

none_readied : (i : ℕ) (e : Effect Seat) → StaysReady e → slot_readied i e ≡ []
none_readied i (refused c v) h = refl
none_readied i (does y tally v) h = ap (λ (t : Status). due_event y.dev.clock i t.phase) h

read_stays : (slots : ℕ) (kind : Kind) (z : Seat) (q : Request) → StaysReady (read_effect slots kind q z)
unfolding read_effect
read_stays slots kind z q =
    either_way StaysReady (is_access (route_of slots kind z.dev z.status true q)) _ _ (λ e. access_ready slots kind z.dev z.status true q e) (λ e. tt)

set-stays : (slots : ℕ) (kind : Kind) (z : Seat) (slot word mask : ℕ) → StaysReady (hardware_effect slots kind slot word mask z)
unfolding hardware_effect
set-stays slots kind z slot word mask =
    either_way StaysReady (not (ltb slot slots)) _ _ (λ e. tt)
    (λ e. either_way StaysReady (ltb 63 word) _ _ (λ e. tt)
    (λ e. either_way StaysReady (not (is_ready z.status)) _ _ (λ e. tt) (λ e. ready_status z.status (not-false (is_ready z.status) e))))

module _ (setup : Setup) (defaults : List ℕ) (s : State) (good : Sound setup s) (fits : Fitting setup defaults s) where
  pub readied_read : (q : Request) → part_at setup q.slot ≡ OneSlot q.slot → readied setup defaults s (Read q) ≡ []
  unfolding slot_effect
  readied_read q e = readied_slot setup defaults s good fits (Read q) q.slot e ∙ none_readied q.slot (read_effect setup.slots (slot_kind setup q.slot) q (seat_of s q.slot)) (read_stays setup.slots (slot_kind setup q.slot) (seat_of s q.slot) q)

  pub readied-set : (slot word mask : ℕ) → part_at setup slot ≡ OneSlot slot → readied setup defaults s (HardwareSet slot word mask) ≡ []
  unfolding slot_effect
  readied-set slot word mask e = readied_slot setup defaults s good fits (HardwareSet slot word mask) slot e ∙ none_readied slot (hardware_effect setup.slots (slot_kind setup slot) slot word mask (seat_of s slot)) (set-stays setup.slots (slot_kind setup slot) (seat_of s slot) slot word mask)

-- ---- an advance to a moment at which nothing is due
pub readied_clock : (setup : Setup) (defaults : List ℕ) (s : State) (by : Nanos) → due (sum_of s.port.clock by) s.statuses ≡ [] → readied setup defaults s (Advance by) ≡ []
unfolding readied effect advance_effect
readied_clock setup defaults s by e =
    either_way (λ (x : Effect State). readied_by x ≡ []) (leb (sum_of s.port.clock by).0 clock_end) _ _ (λ _. e) (λ _. refl)

-- ---- they are slots of the card, at moments before the greatest
pub readied-within : (setup : Setup) (defaults : List ℕ) (s : State) (r : Record)
    → (let after = (run setup defaults s r).after in
    after.port.clock.0 < greatest_nanos → Each (Within (length after.statuses)) (readied setup defaults s r))
unfolding run readied answered
readied-within setup defaults s r = go (effect setup defaults s r)
  where
    go : (e : Effect State) → (let after = (answered setup s e).after in after.port.clock.0 < greatest_nanos → Each (Within (length after.statuses)) (readied_by e))
    go (refused c v) h = tt
    go (does t tally v) h =
        let k = settled_kept setup (scene_of t tally) in
        subst (λ (n : ℕ). Each (Within n) (due t.port.clock t.statuses)) (sym k.slots) (due-within t.port.clock t.statuses (omega (arith, h, ap (λ (u : Nanos). u.0) k.clock)))

-- ---- EXACTLY: a slot that is Pending once the record has done its part, and Ready after it
module _ (setup : Setup) (defaults : List ℕ) (s : State) (r : Record) where
  abbrev what : Effect State
  what = effect setup defaults s r

  -- once slots have become Ready
  then_by : (t : State) (tally : Tally) (slot : ℕ) → phase_at (with_live (settles setup (scene_of t tally)) t.live) slot ≡ phase_by t.port.clock (phase_at t slot)
  then_by t tally slot =
      ap (λ (l : List Status). (status_at l slot).phase) (settled_statuses setup (scene_of t tally)) ∙ ap (λ (u : Status). u.phase) (at_ready_by t.port.clock t.statuses slot)

  never-ready : (c : Cause) (t : Nanos) → Pending c t ≡ Ready → ⊥
  never-ready c t e = never-pending c t (sym e)

  by_then : (clock : Nanos) (c : Cause) (t : Nanos) → phase_by clock (Pending c t) ≡ Ready → t.0 ≤ clock.0
  by_then clock c t e = go (leb t.0 clock.0) refl e
    where
      go : (b : Bool) → leb t.0 clock.0 ≡ b → cond b Ready (Pending c t) ≡ Ready → t.0 ≤ clock.0
      go true q z = leb-true t.0 clock.0 q
      go false q z = absurd (never-ready c t z)

  pub readied_exactly : ReadiedExactly setup defaults s r
  unfolding readied run answered
  readied_exactly = record { pends = pends what; after = after what; moment = moment what; all = all what }
    where
      pends : (x : Effect State) (e : Event) → Memᴰ e (readied_by x) → phase_between s x e.slot ≡ Pending e.cause e.time
      pends (refused c v) e m = absurd (Memᴰ.not-nil m)
      pends (does t tally v) e m = (((due_order t.port.clock t.statuses).exactly e).0 m).0

      after : (x : Effect State) (e : Event) → Memᴰ e (readied_by x) → phase_at (answered setup s x).after e.slot ≡ Ready
      after (refused c v) e m = absurd (Memᴰ.not-nil m)
      after (does t tally v) e m =
          let d = ((due_order t.port.clock t.statuses).exactly e).0 m in
          then_by t tally e.slot
          ∙ ap (phase_by t.port.clock) d.0
          ∙ when_true (leb e.time.0 t.port.clock.0) Ready (Pending e.cause e.time) (le-leb e.time.0 t.port.clock.0 d.1)

      moment : (x : Effect State) (e : Event) → Memᴰ e (readied_by x) → e.time.0 ≤ (answered setup s x).after.port.clock.0
      moment (refused c v) e m = absurd (Memᴰ.not-nil m)
      moment (does t tally v) e m =
          omega (arith, (((due_order t.port.clock t.statuses).exactly e).0 m).1, ap (λ (u : Nanos). u.0) (settled_kept setup (scene_of t tally)).clock)

      all : (x : Effect State) (slot : ℕ) (c : Cause) (t : Nanos) → phase_between s x slot ≡ Pending c t → phase_at (answered setup s x).after slot ≡ Ready
          → Memᴰ (record { slot = slot; cause = c; time = t }) (readied_by x)
      all (refused k v) slot c t p q = absurd (never-ready c t (sym p ∙ q))
      all (does u tally v) slot c t p q =
          ((due_order u.port.clock u.statuses).exactly (record { slot = slot; cause = c; time = t })).1
          (p, by_then u.port.clock c t (sym (ap (phase_by u.port.clock) p) ∙ sym (then_by u tally slot) ∙ q))
