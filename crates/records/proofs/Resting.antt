-- A sound state is at rest, and so is one after a reset: nothing is due, and no DRS is to be told.
use Prim.Native.Nat.{ℕ, suc, ◌+◌, ◌≤◌, ◌<◌}
use native.Mathlib.Omega.{arith}
use mathlib.Core.Path.{◌≡◌, refl, ap, ◌∙◌}
use mathlib.Core.Bool.{Bool, true, false, not, ◌&&◌, ◌||◌, cond, false≢true}
use mathlib.Core.List.{List, [], ◌∷◌, Memᴰ}
use lib.Dec.{ltb}
use borrow.Author.Tests.{ltb-true, ltb-false}
use Rattle.times.specs.declared.Nanos.{Nanos}
use Rattle.readiness.specs.declared.Cause.{Cause}
use Rattle.readiness.specs.declared.Phase.{Phase}
use Rattle.readiness.specs.declared.Phase.TheVariants.{Pending}
use Rattle.readiness.specs.declared.Status.{Status}
use Rattle.readiness.specs.declared.Setup.{Setup}
use Rattle.readiness.specs.Status.{ready, down, all_ready, each_from, stopped_by_reset}
use Rattle.readiness.specs.Events.{Event, due, due_event, due_from, insert_all}
use Rattle.readiness.proofs.Laws.{due_order}
use Rattle.records.specs.State.{State, status_at}
use Rattle.records.specs.Sound.{sound_phase, Sound, Fitting}
use Rattle.records.proofs.SoundFacts.{pending_exactly, phase_test, owed_test}

-- nothing is due at the clock, and no DRS is owed with every slot Ready
pub record Resting (setup : Setup) (clock : Nanos) (owed : Bool) (l : List Status) : Type 0 where
  pub due : due clock l ≡ []
  pub drs : (owed && all_ready setup l) ≡ false

-- a slot that is sound isn't due
pub pends_later : (clock : Nanos) (p : Phase) (c : Cause) (t : Nanos) → sound_phase clock p ≡ true → p ≡ Pending c t → clock.0 < t.0
pends_later clock p c t e q = ((pending_exactly clock c t).0 (rw q at e)).0

no_member : (es : List Event) → ((e : Event) → Memᴰ e es → ⊥) → es ≡ []
no_member [] f = refl
no_member (e ∷ es) f = absurd (f e (Memᴰ.head refl))

-- where every slot, also past the last, is sound, nothing is due
pub none_due : (clock : Nanos) (l : List Status) → ((i : ℕ) → sound_phase clock (status_at l i).phase ≡ true) → due clock l ≡ []
none_due clock l h =
    no_member (due clock l)
    (λ e m.
    let d = ((due_order clock l).exactly e).0 m in
    let later = pends_later clock (status_at l e.slot).phase e.cause e.time (h e.slot) d.0 in
    omega (arith, d.1))

not_owed : (owed link all : Bool) → (not owed || (link && not all)) ≡ true → (owed && all) ≡ false
not_owed false link all e = refl
not_owed true link false e = refl
not_owed true false true e = absurd (false≢true e)
not_owed true true true e = absurd (false≢true e)

-- every slot, also past the last, is sound
pub all_phases : (setup : Setup) (defaults : List ℕ) (s : State) → Sound setup s → Fitting setup defaults s
    → (i : ℕ) → sound_phase s.port.clock (status_at s.statuses i).phase ≡ true
all_phases setup defaults s h f i = by (ltb i setup.slots) refl
  where
    by : (b : Bool) → ltb i setup.slots ≡ b → sound_phase s.port.clock (status_at s.statuses i).phase ≡ true
    by true e = phase_test h i (ltb-true i setup.slots e)
    by false e = ap (λ (t : Status). sound_phase s.port.clock t.phase) (f.past i (ltb-false i setup.slots e))

-- A sound state is at rest.
pub sound_rests : (setup : Setup) (defaults : List ℕ) (s : State) → Sound setup s → Fitting setup defaults s → Resting setup s.port.clock s.port.owed s.statuses
sound_rests setup defaults s h f =
    record {
      due = none_due s.port.clock s.statuses (all_phases setup defaults s h f);
      drs = not_owed s.port.owed s.port.link (all_ready setup s.statuses) (owed_test h);
    }

-- after a reset every slot of the card is Down, and the others are Ready
due_stopped : (k slots : ℕ) (clock : Nanos) (l : List Status) → ((i : ℕ) → slots ≤ k + i → status_at l i ≡ ready) → due_from k clock (each_from k slots (λ i. down) l) ≡ []
unfolding due_from each_from insert_all
due_stopped k slots clock [] h = refl
due_stopped k slots clock (s ∷ l) h =
    ap (insert_all (due_event clock k (cond (ltb k slots) down s).phase)) (due_stopped (suc k) slots clock l (λ i e. h (suc i) (omega arith))) ∙ by (ltb k slots) refl
  where
    by : (b : Bool) → ltb k slots ≡ b → insert_all (due_event clock k (cond b down s).phase) [] ≡ []
    by true e = refl
    by false e = ap (λ (x : Status). insert_all (due_event clock k x.phase) []) (h 0 (omega (arith, ltb-false k slots e)))

-- A state after link down or cold reset is at rest.
pub stopped_rests : (setup : Setup) (defaults : List ℕ) (s : State) → Fitting setup defaults s → Resting setup s.port.clock false (stopped_by_reset setup s.port s.statuses)
stopped_rests setup defaults s f = record { due = due_stopped 0 setup.slots s.port.clock s.statuses (λ i e. f.past i (omega arith)); drs = refl }
