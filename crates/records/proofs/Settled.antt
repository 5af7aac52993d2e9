-- Settling makes a state sound whose slots may be due.
use Prim.Native.Nat.{ℕ, ◌+◌, ◌≤◌, ◌<◌}
use native.Mathlib.Omega.{arith}
use mathlib.Core.Path.{◌≡◌, refl, ap, sym, subst, ◌∙◌}
use mathlib.Core.Bool.{Bool, true, false, not, ◌&&◌, ◌||◌, true≢false, false≢true}
use mathlib.Core.List.{List, Memᴰ}
use lib.Dec.{leb, ltb}
use lib.ListN.{length}
use borrow.Author.Tests.{ltb-true, ltb-false, lt-ltb, leb-false, le-leb}
use Rattle.bits.proofs.Choices.{either_way}
use Rattle.bits.proofs.Tests.{both, both_left}
use Rattle.times.specs.declared.Nanos.{Nanos}
use Rattle.times.specs.Codes.{greatest_time}
use Rattle.frs_queue.specs.declared.Tally.{Tally}
use Rattle.readiness.specs.declared.Phase.{Phase}
use Rattle.readiness.specs.declared.Phase.TheVariants.{Down, Pending, Ready}
use Rattle.readiness.specs.declared.Status.{Status}
use Rattle.readiness.specs.declared.Setup.{Setup}
use Rattle.readiness.specs.declared.Control.{Control as PortControl}
use Rattle.readiness.specs.Status.{ready, all_ready}
use Rattle.readiness.specs.Events.{Event, due}
use Rattle.readiness.specs.Settle.{Scene, settles}
use Rattle.readiness.proofs.Order.{phase_by, never-pending}
use Rattle.readiness.proofs.Scenes.{Kept, settled_kept, settled_statuses}
use Rattle.readiness.proofs.Laws.{due_order, settled_drs}
use Rattle.records.specs.State.{State, status_at, scene_of, with_live}
use Rattle.times.specs.Moments.{clock_end}
use Rattle.records.specs.Sound.{sound_cause, sound_phase, matches_link, Fitting}
use Rattle.records.specs.StaysSound.{SoundSetup, Keeps}
use Rattle.records.proofs.SoundFacts.{by_tests}
use Rattle.records.proofs.QueueKept.{SoundRing, sound-cells, settle_ring}
use Rattle.records.proofs.SlotsKept.{at_ready_by}
use Rattle.records.proofs.Sending.{told_owed}

-- ---- before slots become Ready

-- a Pending slot may be due, but isn't longer Pending than the greatest time
abbrev pub Starting : Nanos → Phase → Type 0
Starting clock Down = Unit {0}
Starting clock Ready = Unit {0}
Starting clock (Pending c t) = (t.0 ≤ clock.0 + greatest_time) × (sound_cause c t ≡ true)

-- sound, but for slots that are due and a DRS that is to be told
pub record Settling (setup : Setup) (defaults : List ℕ) (s t : State) : Type 0 where
  pub clock : t.port.clock.0 ≤ clock_end
  pub ring : SoundRing t.cells t.port.queue
  pub signalling : t.port.control.signalling ≤ 2
  pub phases : (i : ℕ) → i < setup.slots → Starting t.port.clock (status_at t.statuses i).phase
  pub links : (i : ℕ) → i < setup.slots → matches_link t.port.link (status_at t.statuses i).phase ≡ true
  pub owed : t.port.owed ≡ true → t.port.link ≡ true
  pub past : (i : ℕ) → setup.slots ≤ i → status_at t.statuses i ≡ ready
  pub cells : length t.cells ≡ length s.cells
  pub live : length t.live ≡ length s.live
  pub statuses : length t.statuses ≡ length s.statuses

-- a status where the slot's ready time has come is sound
phase_settled : (clock : Nanos) (p : Phase) → Starting clock p → sound_phase clock (phase_by clock p) ≡ true
phase_settled clock Down h = refl
phase_settled clock Ready h = refl
phase_settled clock (Pending c t) h =
    either_way (λ (p : Phase). sound_phase clock p ≡ true) (leb t.0 clock.0) Ready (Pending c t) (λ e. refl)
    (λ e. both _ _ (both _ _ (lt-ltb clock.0 t.0 (leb-false t.0 clock.0 e)) (le-leb t.0 (clock.0 + greatest_time) h.0)) h.1)

link_settled : (link : Bool) (clock : Nanos) (p : Phase) → matches_link link p ≡ true → matches_link link (phase_by clock p) ≡ true
link_settled link clock Down h = h
link_settled link clock Ready h = h
link_settled link clock (Pending c t) h = either_way (λ (p : Phase). matches_link link p ≡ true) (leb t.0 clock.0) Ready (Pending c t) (λ e. h) (λ e. h)

-- nothing is owed after settling that wasn't before
settles_owed : (setup : Setup) (x : Scene) → (settles setup x).root.dev.owed ≡ true → x.root.dev.owed ≡ true
settles_owed setup x f = both_left x.root.dev.owed _ (sym (told_owed setup x) ∙ f)

owed_sound : (owed link all : Bool) → (owed ≡ true → link ≡ true) → (owed && all) ≡ false → (not owed || (link && not all)) ≡ true
owed_sound false link all f e = refl
owed_sound true true false f e = refl
owed_sound true true true f e = absurd (true≢false e)
owed_sound true false all f e = absurd (false≢true (f refl))

module _ (setup : Setup) (good : SoundSetup setup) (defaults : List ℕ) (s : State) (fits : Fitting setup defaults s) where
  -- only the card's slots are due
  pub slots_due : (t : State) → Settling setup defaults s t → (e : Event) → Memᴰ e (due t.port.clock t.statuses) → e.slot < 256
  slots_due t h e m = by (ltb e.slot setup.slots) refl
    where
      by : (b : Bool) → ltb e.slot setup.slots ≡ b → e.slot < 256
      by true q = let few = fits.most in omega (arith, ltb-true e.slot setup.slots q)
      by false q =
          let gone = h.past e.slot (ltb-false e.slot setup.slots q) in
          let pends = (((due_order t.port.clock t.statuses).exactly e).0 m).0 in
          absurd (never-pending e.cause e.time (sym (ap (λ (v : Status). v.phase) gone) ∙ pends))

  -- settling makes the state sound
  pub settle_sound : (t : State) (tally : Tally) → Settling setup defaults s t → Keeps setup defaults s (with_live (settles setup (scene_of t tally)) t.live)
  settle_sound t tally h =
      record {
        sound =
            by_tests setup (with_live x t.live) (subst (λ (c : Nanos). c.0 ≤ clock_end) (sym k.clock) h.clock) ring.start ring.depth
            (sound-cells x.root.cells x.root.dev.queue ring.values) (subst (λ (c : PortControl). c.signalling ≤ 2) (sym k.control) h.signalling)
            (λ i l.
            ap (λ (v : Status). sound_phase x.root.dev.clock v.phase) (at i) ∙ ap (λ (c : Nanos). sound_phase c (phase_by clock (status_at t.statuses i).phase)) k.clock
            ∙ phase_settled clock (status_at t.statuses i).phase (h.phases i l))
            (λ i l.
            ap (λ (v : Status). matches_link x.root.dev.link v.phase) (at i) ∙ ap (λ (b : Bool). matches_link b (phase_by clock (status_at t.statuses i).phase)) k.link
            ∙ link_settled t.port.link clock (status_at t.statuses i).phase (h.links i l))
            (owed_sound x.root.dev.owed x.root.dev.link (all_ready setup x.statuses) (λ e. k.link ∙ h.owed (settles_owed setup (scene_of t tally) e)) (settled_drs setup (scene_of t tally)));
        fits = record {
          some = fits.some;
          most = fits.most;
          words = h.live ∙ fits.words;
          default_words = fits.default_words;
          slots = let few = fits.slots in omega (arith, k.slots, h.statuses);
          past = λ i l. at i ∙ ap (λ (v : Status). record { phase = phase_by clock v.phase }) (h.past i l);
        };
        cells = k.cells ∙ h.cells;
        live = h.live;
        statuses = k.slots ∙ h.statuses;
      }
    where
      x : Scene
      x = settles setup (scene_of t tally)

      clock : Nanos
      clock = t.port.clock

      k : Kept (scene_of t tally) x
      k = settled_kept setup (scene_of t tally)

      at : (i : ℕ) → status_at x.statuses i ≡ record { phase = phase_by clock (status_at t.statuses i).phase }
      at i = ap (λ (l : List Status). status_at l i) (settled_statuses setup (scene_of t tally)) ∙ at_ready_by clock t.statuses i

      ring : SoundRing x.root.cells x.root.dev.queue
      ring = settle_ring setup good.bus good.port_id (scene_of t tally) (slots_due t h) h.ring
