-- The order of events, where settling rests, and which messages arrive.
use Prim.Native.Nat.{ℕ, ◌+◌, ◌*◌, ◌≤◌, ◌<◌}
use native.Mathlib.Nat.{zero-add}
use native.Mathlib.Omega.{arith}
use mathlib.Core.Bool.{Bool, true, false, cond, or-false}
use mathlib.Core.List.{List, [], ◌∷◌, Memᴰ}
use mathlib.Core.Logic.{◌↔◌}
use mathlib.Core.Path.{◌≡◌, refl, sym, ap, ◌∙◌, subst}
use lib.Dec.{leb}
use lib.ListN.{get_or}
use borrow.Author.Tests.{leb-true, leb-false}
use Rattle.bits.proofs.Choices.{either_way}
use Rattle.times.specs.declared.Nanos.{Nanos}
use Rattle.frs_queue.specs.declared.Frs.{Frs}
use Rattle.frs_queue.specs.Queue.{arrive_all}
use Rattle.readiness.specs.declared.Cause.{Cause}
use Rattle.readiness.specs.declared.Cause.TheVariants.{LinkUp, Flr, D3hot}
use Rattle.readiness.specs.declared.Phase.TheVariants.{Pending}
use Rattle.readiness.specs.declared.Status.{Status}
use Rattle.readiness.specs.declared.Setup.{Setup}
use Rattle.readiness.specs.Status.{ready, entry_of}
use Rattle.readiness.specs.Fields.{with_drs_received}
use Rattle.readiness.specs.Root.{Root, frs_arrive, frs_of_drs, drs_set, drs_arrives}
use Rattle.readiness.specs.Events.{Event, due, frs_of, frs_of_slot, reason_after, frs_with, function_id}
use Rattle.readiness.specs.Settle.{Scene, happens, happen_all, moment_ends, drs_due, tells, settles}
use Rattle.readiness.proofs.Order.{Awaited, Ordered, Once, each-mem, due_from-sound, due_from_complete, due_from_ordered, due_from_once, due_rest, ordered_unique}
use Rattle.readiness.proofs.Scenes.{told, fresh, settled_kept, settled_statuses}

-- ---- the order of events

-- the events of the slots that become Ready by a moment
pub record InOrder (clock : Nanos) (l : List Status) (es : List Event) : Type 0 where
  -- just those of the slots that are Pending with a ready time at or before the clock, with the slot's cause and ready time
  pub exactly : (e : Event) → Memᴰ e es ↔ (((get_or l e.slot ready).phase ≡ Pending e.cause e.time) × (e.time.0 ≤ clock.0))
  -- each slot once
  pub once : Once es
  -- by ready time, ties by slot number
  pub ordered : Ordered es

-- `due` holds exactly the slots that become Ready, each once, by ready time, ties by slot number.
pub due_order : (clock : Nanos) (l : List Status) → InOrder clock l (due clock l)
due_order clock l = record { exactly = λ e. (sound e, complete e); once = due_from_once 0 clock l; ordered = due_from_ordered 0 clock l }
  where
    pends : Event → Type 0
    pends e = ((get_or l e.slot ready).phase ≡ Pending e.cause e.time) × (e.time.0 ≤ clock.0)

    sound : (e : Event) → Memᴰ e (due clock l) → pends e
    sound e m =
        let d = each-mem (Awaited 0 clock l) e (due clock l) (due_from-sound 0 clock l) m in
        let n : e.slot ≡ d.at = omega (arith, d.slot) in
        (ap (λ (i : ℕ). (get_or l i ready).phase) n ∙ d.pends, d.now)

    complete : (e : Event) → pends e → Memᴰ e (due clock l)
    complete e h = rw zero-add at (due_from_complete 0 clock l e.slot e.cause e.time h.0 h.1)

-- No other list is in that order.
pub due_unique : (clock : Nanos) (l : List Status) (es : List Event) → InOrder clock l es → es ≡ due clock l
due_unique clock l es h =
    let d = due_order clock l in
    ordered_unique es (due clock l) h.ordered d.ordered (λ e m. (d.exactly e).1 ((h.exactly e).0 m)) (λ e m. (h.exactly e).1 ((d.exactly e).0 m))

-- ---- where settling rests

pub tells_quiet : (setup : Setup) (x : Scene) → drs_due setup x ≡ false → tells setup x ≡ x
unfolding tells
tells_quiet setup x e = ap (λ (b : Bool). cond b (told setup x) x) e

-- Where nothing is due and no DRS is to be told, settling changes nothing.
pub settle_rest : (setup : Setup) (x : Scene) → due x.root.dev.clock x.statuses ≡ [] → drs_due setup x ≡ false → settles setup x ≡ x
unfolding settles happen_all
settle_rest setup x e d = ap (λ (es : List Event). happen_all setup es (tells setup x)) e ∙ tells_quiet setup x d

-- After settling nothing is due.
pub settled_due : (setup : Setup) (x : Scene) → due (settles setup x).root.dev.clock (settles setup x).statuses ≡ []
settled_due setup x =
    ap (λ (t : Nanos). due t (settles setup x).statuses) (settled_kept setup x).clock
    ∙ ap (due x.root.dev.clock) (settled_statuses setup x)
    ∙ due_rest 0 x.root.dev.clock x.statuses

-- After settling no slot is Pending at or before the clock.
pub settled_pending : (setup : Setup) (x : Scene) (k : ℕ) (c : Cause) (t : Nanos)
    → (get_or (settles setup x).statuses k ready).phase ≡ Pending c t → (settles setup x).root.dev.clock.0 < t.0
settled_pending setup x k c t e = by (leb t.0 clock.0) refl
  where
    clock : Nanos
    clock = (settles setup x).root.dev.clock

    by : (b : Bool) → leb t.0 clock.0 ≡ b → clock.0 < t.0
    by true h =
        let v : Event = record { slot = k; cause = c; time = t } in
        let m : Memᴰ v [] = subst (Memᴰ v) (settled_due setup x) (((due_order clock (settles setup x).statuses).exactly v).1 (e, leb-true _ _ h)) in
        absurd (mathlib.Core.List.Memᴰ.not-nil m)
    by false h = leb-false t.0 clock.0 h

-- A DRS that was told is no longer owed, and none is told that isn't to be.
pub tells-drs : (setup : Setup) (x : Scene) → drs_due setup (tells setup x) ≡ false
unfolding tells
tells-drs setup x = either_way (λ (y : Scene). drs_due setup y ≡ false) (drs_due setup x) (told setup x) x (λ e. refl) (λ e. e)

-- The last event's moment ends with it.
happen_all-last : (setup : Setup) (e : Event) (es : List Event) (x : Scene) → drs_due setup (happen_all setup (e ∷ es) x) ≡ false
unfolding happen_all moment_ends
happen_all-last setup e [] x = tells-drs setup (happens setup e x)
happen_all-last setup e (f ∷ es) x = happen_all-last setup f es (moment_ends setup e (f ∷ es) (happens setup e x))

pub happen_all-drs : (setup : Setup) (es : List Event) (x : Scene) → drs_due setup x ≡ false → drs_due setup (happen_all setup es x) ≡ false
unfolding happen_all
happen_all-drs setup [] x d = d
happen_all-drs setup (e ∷ es) x d = happen_all-last setup e es x

-- After settling nothing is owed with all slots Ready that count.
pub settled_drs : (setup : Setup) (x : Scene) → drs_due setup (settles setup x) ≡ false
unfolding settles
settled_drs setup x = happen_all-drs setup _ (tells setup x) (tells-drs setup x)

-- Settling is idempotent: a second time it changes nothing and brings nothing.
pub settle_again : (setup : Setup) (x : Scene) → settles setup (fresh (settles setup x)) ≡ fresh (settles setup x)
settle_again setup x = settle_rest setup (fresh (settles setup x)) (settled_due setup x) (settled_drs setup x)

-- ---- which messages arrive

-- After link up no slot's FRS arrives, nor ever one of a slot that sends none.
pub frs_after_link_up : (setup : Setup) (slot : ℕ) (t : Nanos) → frs_of setup (record { slot = slot; cause = LinkUp; time = t }) ≡ []
unfolding frs_of frs_of_slot
frs_after_link_up setup slot t = either_way (λ (m : List Frs). m ≡ []) (entry_of setup slot).sends_frs [] [] (λ e. refl) (λ e. refl)

pub frs_of_silent : (setup : Setup) (e : Event) → (entry_of setup e.slot).sends_frs ≡ false → frs_of setup e ≡ []
unfolding frs_of frs_of_slot
frs_of_silent setup e h = ap (λ (b : Bool). cond b (frs_with (function_id setup.bus e.slot) (reason_after e.cause)) []) h

-- After FLR and D3hot one arrives of a slot that sends FRS, with the slot's function ID and reason 3 or 2.
pub frs_after_flr : (setup : Setup) (slot : ℕ) (end t : Nanos) → (entry_of setup slot).sends_frs ≡ true
    → frs_of setup (record { slot = slot; cause = Flr end; time = t }) ≡ record { id = 256 * setup.bus + slot; reason = 3 } ∷ []
unfolding frs_of frs_of_slot
frs_after_flr setup slot end t h = ap (λ (b : Bool). cond b (frs_with (function_id setup.bus slot) (3 ∷ [])) []) h

pub frs_after_d3hot : (setup : Setup) (slot : ℕ) (t : Nanos) → (entry_of setup slot).sends_frs ≡ true
    → frs_of setup (record { slot = slot; cause = D3hot; time = t }) ≡ record { id = 256 * setup.bus + slot; reason = 2 } ∷ []
unfolding frs_of frs_of_slot
frs_after_d3hot setup slot t h = ap (λ (b : Bool). cond b (frs_with (function_id setup.bus slot) (2 ∷ [])) []) h

-- A DRS with DRS Received set already changes nothing and signals nothing.
pub drs-again : (port_id : ℕ) (x : Root) → x.dev.drs_received ≡ true → drs_arrives port_id x ≡ x
unfolding drs_arrives drs_set frs_of_drs frs_arrive arrive_all
drs-again port_id x e =
    subst (λ (b : Bool). drs_arrives port_id (with b x.tally.drs) ≡ with b x.tally.drs) (sym e) (ap (with true) (or-false x.tally.drs))
  where
    with : (received raised : Bool) → Root
    with received raised =
        let t = x.tally in
        record {
          dev = with_drs_received x.dev received;
          cells = x.cells;
          tally = record { received = t.received; overflow = t.overflow; drs = raised; queued = t.queued; dropped = t.dropped };
        }
