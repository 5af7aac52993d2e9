-- Soundness: the test for refusal 5 and what 5 lists, clause by clause; each gives the other.
use Prim.Native.Nat.{ℕ, zero, suc, ◌+◌, ◌*◌, ◌≤◌, ◌<◌}
use native.Mathlib.Omega.{arith}
use mathlib.Core.Path.{◌≡◌, refl, ap, sym, subst, ◌∙◌}
use mathlib.Core.Logic.{◌≢◌, ◌↔◌}
use mathlib.Core.Bool.{Bool, true, false, not, ◌&&◌, ◌||◌, false≢true}
use mathlib.Core.List.{List, [], ◌∷◌}
use lib.Dec.{leb, ltb}
use lib.ListN.{length, get_or, get_or-eq_default}
use borrow.Author.Tests.{lt-ltb, le-leb, ltb-true, leb-true}
use Rattle.bits.proofs.Tests.{both, both_left, both_right}
use Rattle.bits.proofs.Every.{every_at, every_of}
use Rattle.times.specs.declared.Nanos.{Nanos}
use Rattle.messages.proofs.Laws.{any_reason}
use Rattle.frs_queue.specs.Queue.{place_of, reason_in}
use Rattle.readiness.specs.declared.Cause.{Cause}
use Rattle.readiness.specs.declared.Cause.TheVariants.{LinkUp, Flr, D3hot}
use Rattle.readiness.specs.declared.Phase.{Phase}
use Rattle.readiness.specs.declared.Phase.TheVariants.{Down, Pending, Ready}
use Rattle.readiness.specs.declared.Status.{Status}
use Rattle.readiness.specs.declared.Setup.{Setup}
use Rattle.readiness.specs.declared.Dev.{Dev}
use Rattle.readiness.specs.Status.{ready, down, ready_phase, is_ready, all_ready_from, all_ready}
use Rattle.records.specs.State.{State, status_at, phase_at}
use Rattle.times.specs.Moments.{clock_end}
use Rattle.records.specs.Sound.{sound_cause, sound_phase, matches_link, sound_statuses, sound_cell, sound_cells, sound_owed, sound, Sound, SoundExactly, Fitting}

-- ---- each clause of 5

-- An FLR end isn't after its ready time.
pub flr_end_exactly : (cause : Cause) (t : Nanos) → (sound_cause cause t ≡ true) ↔ ((end : Nanos) → cause ≡ Flr end → end.0 ≤ t.0)
flr_end_exactly LinkUp t = (λ e end q. let z : ◌≡◌ {A = ℕ} 0 1 = cc in absurd (omega arith), λ f. refl)
flr_end_exactly D3hot t = (λ e end q. let z : ◌≡◌ {A = ℕ} 0 1 = cc in absurd (omega arith), λ f. refl)
flr_end_exactly (Flr end) t =
    (λ e other q. let same : end ≡ other = cc in subst (λ (x : Nanos). x.0 ≤ t.0) same (leb-true end.0 t.0 e), λ f. le-leb end.0 t.0 (f end refl))

-- A Pending ready time is after the clock, and at most 1,006,632,960 after it.
pub pending_exactly : (clock : Nanos) (cause : Cause) (t : Nanos)
    → (sound_phase clock (Pending cause t) ≡ true) ↔ ((clock.0 < t.0) × (t.0 ≤ clock.0 + 1006632960) × ((end : Nanos) → cause ≡ Flr end → end.0 ≤ t.0))
pending_exactly clock cause t = (holds, tested)
  where
    later : Bool
    later = ltb clock.0 t.0

    most : Bool
    most = leb t.0 (clock.0 + 1006632960)

    holds : (later && most && sound_cause cause t) ≡ true → (clock.0 < t.0) × (t.0 ≤ clock.0 + 1006632960) × ((end : Nanos) → cause ≡ Flr end → end.0 ≤ t.0)
    holds e =
        let a = both_left (later && most) (sound_cause cause t) e in (
          ltb-true clock.0 t.0 (both_left later most a),
          leb-true t.0 (clock.0 + 1006632960) (both_right later most a),
          (flr_end_exactly cause t).0 (both_right (later && most) (sound_cause cause t) e),
        )

    tested : (clock.0 < t.0) × (t.0 ≤ clock.0 + 1006632960) × ((end : Nanos) → cause ≡ Flr end → end.0 ≤ t.0) → (later && most && sound_cause cause t) ≡ true
    tested f = both _ _ (both _ _ (lt-ltb clock.0 t.0 f.0) (le-leb t.0 (clock.0 + 1006632960) f.1)) ((flr_end_exactly cause t).1 f.2)

-- A live cell is below 2^20; then its reason has four bits, which an FRS may have.
pub cell_exactly : (v : ℕ) → (sound_cell v ≡ true) ↔ (v < 1048576)
cell_exactly v = (λ e. ltb-true v 1048576 (both_left (ltb v 1048576) _ e), λ h. both _ _ (lt-ltb v 1048576 h) (any_reason (reason_in v) (omega arith)))

-- A Down slot only with the link down,
pub down_exactly : (link : Bool) → (matches_link link Down ≡ true) ↔ (link ≡ false)
down_exactly true = (λ e. sym e, λ e. sym e)
down_exactly false = (λ e. refl, λ e. refl)

-- any other only with it up.
pub other_exactly : (link : Bool) (p : Phase) → p ≢ Down → (matches_link link p ≡ true) ↔ (link ≡ true)
other_exactly link Down n = absurd (n refl)
other_exactly link (Pending cause t) n = (λ e. e, λ e. e)
other_exactly link Ready n = (λ e. e, λ e. e)

pub ready_phase_lem : (p : Phase) → ready_phase p ≡ true → p ≡ Ready
ready_phase_lem Down e = absurd (false≢true e)
ready_phase_lem (Pending cause t) e = absurd (false≢true e)
ready_phase_lem Ready e = refl

-- all slots are Ready, each of which counts
pub all_ready_exactly : (setup : Setup) (k : ℕ) (l : List Status) → (all_ready_from setup k l ≡ true) ↔ ((i : ℕ) → (status_at l i).phase ≡ Ready)
unfolding all_ready_from
all_ready_exactly setup k [] = (λ e i. refl, λ f. refl)
all_ready_exactly setup k (s ∷ l) =
    let more = all_ready_exactly setup (suc k) l in
    (holds more.0, λ f. both (is_ready s) (all_ready_from setup (suc k) l) (ap ready_phase (f 0)) (more.1 (λ i. f (suc i))))
  where
    holds : (all_ready_from setup (suc k) l ≡ true → (i : ℕ) → (status_at l i).phase ≡ Ready) → (is_ready s && all_ready_from setup (suc k) l) ≡ true → (i : ℕ) → (status_at (s ∷ l) i).phase ≡ Ready
    holds more e zero = ready_phase_lem s.phase (both_left (is_ready s) (all_ready_from setup (suc k) l) e)
    holds more e (suc i) = more (both_right (is_ready s) (all_ready_from setup (suc k) l) e) i

owed_bits : (owed link all : Bool) → ((not owed || (link && not all)) ≡ true) ↔ (owed ≡ true → (link ≡ true) × (all ≡ true → ⊥))
owed_bits false link all = (λ e o. absurd (false≢true o), λ f. refl)
owed_bits true true false = (λ e o. (refl, false≢true), λ f. refl)
owed_bits true true true = (λ e o. absurd (false≢true e), λ f. absurd ((f refl).1 refl))
owed_bits true false all = (λ e o. absurd (false≢true e), λ f. absurd (false≢true (f refl).0))

-- A DRS is owed only with the link up, and not with every slot Ready.
pub owed_exactly : (setup : Setup) (d : Dev) (l : List Status)
    → (sound_owed setup d l ≡ true) ↔ (d.owed ≡ true → (d.link ≡ true) × (((i : ℕ) → (status_at l i).phase ≡ Ready) → ⊥))
owed_exactly setup d l =
    let bits = owed_bits d.owed d.link (all_ready setup l) in
    (λ e o. ((bits.0 e o).0, λ f. (bits.0 e o).1 ((all_ready_exactly setup 0 l).1 f)), λ g. bits.1 (λ o. ((g o).0, λ a. (g o).1 ((all_ready_exactly setup 0 l).0 a))))

-- ---- the test and what 5 lists

-- soundness by the tests of each slot
pub by_tests : (setup : Setup) (s : State) → s.port.clock.0 ≤ clock_end → s.port.queue.start < length s.cells → s.port.queue.depth ≤ length s.cells
    → ((k : ℕ) → k < s.port.queue.depth → sound_cell (get_or s.cells (place_of (length s.cells) s.port.queue.start k) 0) ≡ true) → s.port.control.signalling ≤ 2
    → ((i : ℕ) → i < setup.slots → sound_phase s.port.clock (phase_at s i) ≡ true) → ((i : ℕ) → i < setup.slots → matches_link s.port.link (phase_at s i) ≡ true)
    → sound_owed setup s.port s.statuses ≡ true → Sound setup s
by_tests setup s clock start depth cells signalling phases links owed =
    record {
      clock = clock;
      start = start;
      depth = depth;
      cells = λ k l. (cell_exactly _).0 (cells k l);
      signalling = signalling;
      later = λ i c t l e. (pends i c t l e).0;
      most = λ i c t l e. (pends i c t l e).1;
      flr_end = λ i end t l e. (pends i (Flr end) t l e).2 end refl;
      link_down = λ i l e. (down_exactly s.port.link).0 (subst (λ (p : Phase). matches_link s.port.link p ≡ true) e (links i l));
      link_up = λ i l n. (other_exactly s.port.link (phase_at s i) n).0 (links i l);
      owed_link = λ o. ((owed_exactly setup s.port s.statuses).0 owed o).0;
      owed_slots = λ o. ((owed_exactly setup s.port s.statuses).0 owed o).1;
    }
  where
    pends : (i : ℕ) (c : Cause) (t : Nanos) → i < setup.slots → phase_at s i ≡ Pending c t
        → (s.port.clock.0 < t.0) × (t.0 ≤ s.port.clock.0 + 1006632960) × ((end : Nanos) → c ≡ Flr end → end.0 ≤ t.0)
    pends i c t l e = (pending_exactly s.port.clock c t).0 (subst (λ (p : Phase). sound_phase s.port.clock p ≡ true) e (phases i l))

ready_not_down : Ready ≡ Down → ⊥
ready_not_down q = let z : ◌≡◌ {A = ℕ} 0 1 = cc in omega arith

pub pending_not_down : (c : Cause) (t : Nanos) → Pending c t ≡ Down → ⊥
pending_not_down c t q = let z : ◌≡◌ {A = ℕ} 0 1 = cc in omega arith

-- the tests of a sound state
module _ {setup : Setup} {s : State} (h : Sound setup s) where
  pub phase_test : (i : ℕ) → i < setup.slots → sound_phase s.port.clock (phase_at s i) ≡ true
  phase_test i l = by (phase_at s i) refl
    where
      by : (p : Phase) → phase_at s i ≡ p → sound_phase s.port.clock p ≡ true
      by Down e = refl
      by Ready e = refl
      by (Pending c t) e =
          (pending_exactly s.port.clock c t).1
          (h.later i c t l e, h.most i c t l e, λ end q. h.flr_end i end t l (e ∙ ap (λ (x : Cause). Pending x t) q))

  pub link_test : (i : ℕ) → i < setup.slots → matches_link s.port.link (phase_at s i) ≡ true
  link_test i l = by (phase_at s i) refl
    where
      by : (p : Phase) → phase_at s i ≡ p → matches_link s.port.link p ≡ true
      by Down e = (down_exactly s.port.link).1 (h.link_down i l e)
      by Ready e = h.link_up i l (λ q. ready_not_down (sym e ∙ q))
      by (Pending c t) e = h.link_up i l (λ q. pending_not_down c t (sym e ∙ q))

  pub cell_test : (k : ℕ) → k < s.port.queue.depth → sound_cell (get_or s.cells (place_of (length s.cells) s.port.queue.start k) 0) ≡ true
  cell_test k l = (cell_exactly _).1 (h.cells k l)

  pub owed_test : sound_owed setup s.port s.statuses ≡ true
  owed_test = (owed_exactly setup s.port s.statuses).1 (λ o. (h.owed_link o, h.owed_slots o))

-- A state that passes the test for refusal 5 is sound in every point.
pub sound_facts : (setup : Setup) (s : State) → sound setup s ≡ true → Sound setup s
unfolding sound
sound_facts setup s t =
    let d = s.port in
    let q = d.queue in
    let n = length s.cells in
    let a = leb d.clock.0 clock_end in
    let b = a && ltb q.start n in
    let c = b && leb q.depth n in
    let e = c && sound_cells q.depth s.cells q.start in
    let f = e && leb d.control.signalling 2 in
    let g = f && sound_statuses setup.slots d s.statuses in
    let tg : g ≡ true = both_left g (sound_owed setup d s.statuses) t in
    let tf : f ≡ true = both_left f _ tg in
    let te : e ≡ true = both_left e _ tf in
    let tc : c ≡ true = both_left c _ te in
    let tb : b ≡ true = both_left b _ tc in
    let slots = every_at setup.slots _ (both_right f _ tg) in
    by_tests setup s (leb-true d.clock.0 clock_end (both_left a _ tb)) (ltb-true q.start n (both_right a _ tb)) (leb-true q.depth n (both_right b _ tc))
    (every_at q.depth _ (both_right c _ te)) (leb-true d.control.signalling 2 (both_right e _ tf))
    (λ i h. both_left (sound_phase d.clock (phase_at s i)) _ (slots i h)) (λ i h. both_right (sound_phase d.clock (phase_at s i)) _ (slots i h))
    (both_right g (sound_owed setup d s.statuses) t)

-- A state that is sound in every point passes the test.
pub facts_sound : (setup : Setup) (s : State) → Sound setup s → sound setup s ≡ true
unfolding sound
facts_sound setup s h =
    let d = s.port in
    let q = d.queue in
    both _ _
    (both _ _
    (both _ _
    (both _ _
    (both _ _
    (both _ _ (le-leb d.clock.0 clock_end h.clock) (lt-ltb q.start (length s.cells) h.start))
    (le-leb q.depth (length s.cells) h.depth))
    (every_of q.depth _ (cell_test h)))
    (le-leb d.control.signalling 2 h.signalling))
    (every_of setup.slots _ (λ i l. both _ _ (phase_test h i l) (link_test h i l))))
    (owed_test h)

-- Refusal 5, the carried bytes aside: the test passes exactly on a sound state.
pub sound_exactly : (setup : Setup) (s : State) → SoundExactly setup s
sound_exactly setup s = (sound_facts setup s, facts_sound setup s)

-- ---- states that are sound

-- With the link down, nothing owed, every slot Down and the queue empty at cell 0 a state is sound.
pub down-sound : (setup : Setup) (s : State) → s.port.clock.0 ≤ clock_end → 0 < length s.cells → s.port.control.signalling ≤ 2
    → s.port.link ≡ false → s.port.owed ≡ false → s.port.queue.start ≡ 0 → s.port.queue.depth ≡ 0
    → ((i : ℕ) → i < setup.slots → status_at s.statuses i ≡ down) → Sound setup s
down-sound setup s clock some signalling link owed start depth slots =
    by_tests setup s clock (omega arith) (omega arith) (λ k h. absurd (omega arith)) signalling
    (λ i h. ap (λ (v : Status). sound_phase s.port.clock v.phase) (slots i h))
    (λ i h. ap (λ (v : Status). matches_link s.port.link v.phase) (slots i h) ∙ ap not link)
    (ap (λ (b : Bool). not b || (s.port.link && not (all_ready setup s.statuses))) owed)

-- One status per slot and 64 registers per slot: the state fits the set-up.
pub exact_fits : (setup : Setup) (defaults : List ℕ) (s : State) → 0 < setup.slots → setup.slots ≤ 32 → length s.statuses ≡ setup.slots
    → length s.live ≡ 64 * setup.slots → length defaults ≡ 64 * setup.slots → Fitting setup defaults s
exact_fits setup defaults s some most statuses live default =
    record {
      some = some;
      most = most;
      words = live;
      default_words = default;
      slots = omega arith;
      past = λ i h. get_or-eq_default s.statuses ready (omega arith);
    }
