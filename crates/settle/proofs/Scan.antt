-- One slot that is due or not, and the first of all that are due.
use Rattle.std.specs.Prelude.{None, Some}
use Prim.Native.Nat.{ℕ, ◌≤◌, ◌<◌}
use native.Mathlib.Omega.{arith}
use mathlib.Core.Path.{◌≡◌, refl, sym, ap, subst, ◌∙◌}
use mathlib.Core.Bool.{Bool, true, false, cond}
use mathlib.Core.List.Memᴰ
use mathlib.Core.List.{List, [], ◌∷◌, Memᴰ}
use mathlib.Core.Logic.{◌≢◌, ⊎_elim}
use lib.Dec.{eqb}
use lib.ListN.{length, get_or, set}
use lib.Seq.{get_or-set_same, get_or-set_other}
use borrow.Author.Tests.{eqb-true, eqb-false}
use Rattle.times.specs.declared.Nanos.{Nanos}
use Rattle.readiness.specs.declared.Cause.{Cause}
use Rattle.readiness.specs.declared.Phase.{Phase}
use Rattle.readiness.specs.declared.Phase.TheVariants.{Down, Pending, Ready}
use Rattle.readiness.specs.declared.Status.{Status}
use Rattle.readiness.specs.declared.Slot.{Slot}
use Rattle.readiness.specs.Status.{ready}
use Rattle.readiness.specs.Root.{frs_arrive}
use Rattle.readiness.specs.MadeReady.{made_by}
use Rattle.readiness.specs.Events.{Event, reached, due_event, due, frs_of_slot}
use Rattle.settle.specs.inner.Next.{first_due}
use Rattle.readiness.proofs.Order.{each-mem, never-pending}
use Rattle.readiness.proofs.KeptMoments.{pending_there}
use Rattle.readiness.proofs.Laws.{InOrder, due_order, due_unique}
use Rattle.readiness.specs.inner.OneSlot.{SlotScene, slot_happens, slot_settles}

-- nothing is due where there is no first
pub none_due : (l : List Event) → first_due l ≡ None → l ≡ []
none_due [] e = refl
none_due (f ∷ l) e = let z : ◌≡◌ {A = ℕ} 0 1 = cc in absurd (omega arith)

-- a Pending slot is due by the test of its ready time
pub due_by_lem :
    (clock : Nanos) (slot : ℕ) (p : Phase) (cause : Cause) (t : Nanos) (b : Bool) →
    p ≡ Pending cause t → b ≡ reached clock t → first_due (due_event clock slot p) ≡ cond b (Some (cause, t)) None
due_by_lem clock slot p cause t b e f = ap (λ (q : Phase). first_due (due_event clock slot q)) e ∙ first (reached clock t) ∙ ap (λ (q : Bool). cond q (Some (cause, t)) None) (sym f)
  where
    first : (q : Bool) → first_due (cond q (record { slot = slot; cause = cause; time = t } ∷ []) []) ≡ cond q (Some (cause, t)) None
    first true = refl
    first false = refl

-- one slot that is not due stays as it is
pub slot_stays : (bus : ℕ) (entry : Slot) (slot : ℕ) (x : SlotScene) → first_due (due_event x.root.dev.clock slot x.status.phase) ≡ None → slot_settles bus entry slot x ≡ x
unfolding slot_settles
slot_stays bus entry slot x e = ap (slot_happens bus entry x) (none_due (due_event x.root.dev.clock slot x.status.phase) e)

-- one slot that is due becomes Ready
pub slot_readies :
    (bus : ℕ) (entry : Slot) (slot : ℕ) (x : SlotScene) (cause : Cause) (t : Nanos) →
    first_due (due_event x.root.dev.clock slot x.status.phase) ≡ Some (cause, t) →
    slot_settles bus entry slot x ≡ record { status = ready; root = frs_arrive (frs_of_slot bus entry slot cause) x.root }
unfolding slot_settles
slot_readies bus entry slot x cause t e = go x.status.phase e
  where
    at : (b : Bool) (d : Cause) (u : Nanos) → first_due (cond b (record { slot = slot; cause = d; time = u } ∷ []) []) ≡ Some (cause, t) → slot_happens bus entry x (cond b (record { slot = slot; cause = d; time = u } ∷ []) []) ≡ record { status = ready; root = frs_arrive (frs_of_slot bus entry slot cause) x.root }
    at true d u q = let s : ◌≡◌ {A = Cause × Nanos} (d, u) (cause, t) = cc in ap (λ (v : Cause × Nanos). record { status = ready; root = frs_arrive (frs_of_slot bus entry slot v.0) x.root }) s
    at false d u q = let z : ◌≡◌ {A = ℕ} 0 1 = cc in absurd (omega arith)

    go : (p : Phase) → first_due (due_event x.root.dev.clock slot p) ≡ Some (cause, t) → slot_happens bus entry x (due_event x.root.dev.clock slot p) ≡ record { status = ready; root = frs_arrive (frs_of_slot bus entry slot cause) x.root }
    go Down q = let z : ◌≡◌ {A = ℕ} 0 1 = cc in absurd (omega arith)
    go Ready q = let z : ◌≡◌ {A = ℕ} 0 1 = cc in absurd (omega arith)
    go (Pending d u) q = at (reached x.root.dev.clock u) d u q

-- when it did, if it did
pub made_none : (es : List Event) → first_due es ≡ None → None ≡ made_by es
made_none es e = sym (ap made_by (none_due es e))

pub made_at : (es : List Event) (cause : Cause) (t : Nanos) → first_due es ≡ Some (cause, t) → Some t ≡ made_by es
made_at [] cause t e = let z : ◌≡◌ {A = ℕ} 0 1 = cc in absurd (omega arith)
made_at (f ∷ es) cause t e = let s : ◌≡◌ {A = Cause × Nanos} (f.cause, f.time) (cause, t) = cc in sym (ap (λ (v : Cause × Nanos). Some v.1) s)

-- ---- the first of the events that are due, and the others

module _ (l : List Status) (k : ℕ) (there : k < length l) where
  -- the slots that are Pending once slot k is Ready: those that were, but for slot k
  still_pending : (j : ℕ) (c : Cause) (t : Nanos) → (get_or (set l k ready) j ready).phase ≡ Pending c t → ((get_or l j ready).phase ≡ Pending c t) × (j ≢ k)
  still_pending j c t e = by (eqb j k) refl
    where
      by : (b : Bool) → eqb j k ≡ b → ((get_or l j ready).phase ≡ Pending c t) × (j ≢ k)
      by true h =
          let n = eqb-true j k h in
          absurd (never-pending c t (sym (ap (λ (s : Status). s.phase) (ap (λ (i : ℕ). get_or (set l k ready) i ready) n ∙ get_or-set_same l k ready ready there)) ∙ e))
      by false h =
          let n = eqb-false j k h in
          (sym (ap (λ (s : Status). s.phase) (get_or-set_other l k j ready ready n)) ∙ e, n)

  stays-pending : (j : ℕ) (c : Cause) (t : Nanos) → (get_or l j ready).phase ≡ Pending c t → j ≢ k → (get_or (set l k ready) j ready).phase ≡ Pending c t
  stays-pending j c t e n = ap (λ (s : Status). s.phase) (get_or-set_other l k j ready ready n) ∙ e

-- the first: its slot is there, and was Pending; once it is Ready, the others are due
pub record First (clock : Nanos) (l : List Status) (e : Event) (es : List Event) : Type 0 where
  pub within : e.slot < length l
  pub pends : (get_or l e.slot ready).phase ≡ Pending e.cause e.time
  pub others : es ≡ due clock (set l e.slot ready)

pub first-due : (clock : Nanos) (l : List Status) (e : Event) (es : List Event) → due clock l ≡ e ∷ es → First clock l e es
first-due clock l e es q = record { within = there; pends = pends; others = due_unique clock (set l e.slot ready) es (record { exactly = λ f. (sound f, complete f); once = whole.once.1; ordered = whole.ordered.1 }) }
  where
    whole : InOrder clock l (e ∷ es)
    whole = subst (InOrder clock l) q (due_order clock l)

    pends : (get_or l e.slot ready).phase ≡ Pending e.cause e.time
    pends = ((whole.exactly e).0 (Memᴰ.head refl)).0

    there : e.slot < length l
    there = pending_there l e.slot e.cause e.time pends

    Waits : Event → Type 0
    Waits f = ((get_or (set l e.slot ready) f.slot ready).phase ≡ Pending f.cause f.time) × (f.time.0 ≤ clock.0)

    sound : (f : Event) → Memᴰ f es → Waits f
    sound f m =
        let a = (whole.exactly f).0 (Memᴰ.tail m) in
        let n = each-mem (λ g. e.slot ≢ g.slot) f es whole.once.0 m in
        (stays-pending l e.slot there f.slot f.cause f.time a.0 (λ r. n (sym r)), a.1)

    complete : (f : Event) → Waits f → Memᴰ f es
    complete f a =
        let b = still_pending l e.slot there f.slot f.cause f.time a.0 in
        ⊎_elim (λ (r : f ≡ e). absurd (b.1 (ap (λ (g : Event). g.slot) r))) (λ (m : Memᴰ f es). m) (Memᴰ.cases_cons ((whole.exactly f).1 (b.0, a.1)))
