-- A call of replay by the number that stops it: with one nothing changes; with none it goes on from a state that can be relied on.
use Rattle.times.specs.declared.Nanos.{Nanos}
use Rattle.std.specs.Prelude.{Option}
use Prim.Native.Nat.{ℕ, zero, suc, ◌*◌, ◌≤◌, ◌<◌}
use mathlib.Core.Path.{◌≡◌, refl, ap, sym, ◌∙◌, subst}
use mathlib.Core.Bool.{Bool, true, false}
use mathlib.Core.List.{List, ◌++◌}
use native.Mathlib.Omega.{arith}
use lib.ListN.{length, take}
use Rattle.trace.specs.Format.{when◌then◌else◌}
use Rattle.trace.specs.Outcome.{first}
use Rattle.trace.specs.Lent.{Lent, Left, unchanged, refusal, refusal_or31}
use Rattle.trace.proofs.Refusing as trace
use Rattle.trace.proofs.Gathering.{begun_partial}
use Rattle.bits.proofs.Tests.{both_left, both_right}
use Rattle.readiness.specs.declared.Status.{Status}
use Rattle.readiness.specs.declared.Setup.{Setup}
use Rattle.readiness.specs.MadeReady.{moments_of}
use Rattle.readiness.specs.inner.Phases.{statuses_in}
use Rattle.records.specs.declared.Port.{Port}
use Rattle.records.specs.State.{State}
use Rattle.capture.specs.declared.Replay.{Replay}
use Rattle.capture.specs.Advances.{due}
use Rattle.capture.specs.Replay.{Progress, replay_open}
use Rattle.capture.specs.Lent.{Held, progress_in, replay_of, bench_in, stamp_fits, matching, refusal_with, stops_first, leaves, replays}
use Rattle.capture.proofs.Refusing.{refuses-first, stops_refused, replays_stopped, replays_open}
use Rattle.capture.specs.Noting.{base_held, base_left}
use Rattle.capture.proofs.Kept.{read_kept}
use Rattle.capture.proofs.Noting.{same_stops, replays_base}
use Rattle.capture.proofs.Reasons.{matched_stands}
use Rattle.demand3.specs.Held.{Held as HeldPort, held, lent_of, state_of, carried_of}
use Rattle.demand3.specs.Feeding.{bench}
use Rattle.set_up.specs.Lent.{held_in}
use Rattle.set_up.proofs.Stopping.{too_many}
use Rattle.feed.proofs.Accepting.{Accepted, accepted}
use Rattle.feed.proofs.Lent.{lent-numbers, numbers-lent}
use Rattle.replay_rules.specs.Replaying.{HeldWith, replays as replays_at}
use Rattle.replay_rules.specs.KeepingMoments.{notes_in, noting_bench, HeldNoting, held_noting, replays_noting}
use Rattle.replay.specs.declared.ReplayedInPlace.{ReplayedInPlace}
use Rattle.replay.specs.Left.{left_kept_in_place}
use Rattle.replay.specs.inner.Noted.{Noted, noting_device}
use Rattle.feed.specs.inner.Calls.{NotRefused}
use Rattle.replay.specs.inner.Calls.{Between, comes_to}
use Rattle.replay.proofs.NextStep.{tidy_kept}

-- ---- over any bench
module _ {S H : Type 0} (L : Lent S H) (h : Held H) where
  -- with a number nothing changes
  pub replays_no : (input answers : List ℕ) (n : ℕ) → n ≡ stops_first L h → (n ≡ 0 → ⊥) → unchanged h answers n ≡ replays L h input answers
  replays_no input answers zero e f = absurd (f refl)
  replays_no input answers (suc n) e f = sym (replays_stopped L h input answers n (sym e))

  -- with none the port is not refused nor broken, and the state of the replay matches
  record Unstopped : Type 0 where
    accepted : refusal_or31 L h.port ≡ 0
    matched : matching L h ≡ true
    unbroken : (bench_in L h).broken ≡ false

  unstopped : stops_first L h ≡ 0 → Unstopped
  unfolding stops_first refusal_with
  unstopped e = go _ _ _ _ refl refl refl refl e
    where
      go : (r : ℕ) (m : Bool) (n : ℕ) (b : Bool) → refusal L h.port ≡ r → matching L h ≡ m → h.replay.ended ≡ n → (bench_in L h).broken ≡ b
          → first (first r (when m then 0 else 5)) (first n (when b then 31 else 0)) ≡ 0 → Unstopped
      go zero true zero false er em en eb q = record { accepted = trace.stops_not L h.port er eb; matched = em; unbroken = eb }
      go zero true zero true er em en eb q = absurd (omega arith)
      go zero true (suc n) b er em en eb q = absurd (omega arith)
      go zero false n b er em en eb q = absurd (omega arith)
      go (suc r) m n b er em en eb q = absurd (omega arith)

-- ---- more statuses than a card can have slots
pub stops_many : (setup : Setup) (defaults : List ℕ) (h : HeldWith) → 32 < length h.port.statuses → 1 ≡ stops_first (bench setup defaults) h
stops_many setup defaults h m =
    let L = bench setup defaults in
    sym (stops_refused L h 0 (refuses-first L h 0 (trace.refusal_set_up L h.port 0 (sym (too_many setup defaults h.port m)))))

-- ---- a call that no number stops
module _ (setup : Setup) (defaults : List ℕ) (h : HeldWith) (bus : setup.bus < 256) (port : setup.port_id < 65536) (e : stops_first (bench setup defaults) h ≡ 0) where
  abbrev L : Lent State HeldPort
  L = bench setup defaults

  relies : Accepted setup defaults h.port
  relies = accepted setup defaults h.port (unstopped L h e).accepted bus port

  -- it is not refused
  pub goes : NotRefused setup defaults h.port
  goes = (unstopped L h e).accepted

  abbrev q : Progress
  q = progress_in h.replay

  -- the state of the replay, with 0 where it says nothing
  pub stands_between : Between (replay_of q)
  stands_between =
      let s = matched_stands (carried_of h.port.port) q (begun_partial (carried_of h.port.port) relies.begun) (both_right (stamp_fits h.replay) _ (unstopped L h e).matched) in
      record { tidy = tidy_kept q; few = s.stamp; answered = subst (λ (p : Progress). q.answered ≤ length (due p.earlier p.stamp)) (sym (read_kept q)) s.some }

  -- what it comes to, with the moments
  pub replays-opened : (kept : List (Option Nanos)) (input answers : List ℕ)
      → comes_to setup defaults (record { base = state_of h.port; kept = kept }) (carried_of h.port.port) (progress_in (replay_of q)) input answers ≡ replays_noting setup defaults (held_noting h.port kept h.replay) input answers
  replays-opened kept input answers =
      let N = noting_bench setup defaults in
      let s : Noted = record { base = state_of h.port; kept = kept } in
      (λ i. comes_to setup defaults s (carried_of h.port.port) (read_kept q i) input answers)
      ∙ (λ i. leaves N (replay_open (noting_device setup defaults) (record { state = s; carried = carried_of h.port.port; broken = sym (unstopped L h e).unbroken i }) q (length answers) input) answers)
      ∙ sym (replays_open N (held_noting h.port kept h.replay) input answers (same_stops L (notes_in setup defaults) (held_noting h.port kept h.replay) ∙ e))

-- with a number nothing changes, the moments neither
pub replays_not : (setup : Setup) (defaults : List ℕ) (h : HeldWith) (kept : List (Option Nanos)) (input answers : List ℕ) (n : ℕ) → n ≡ stops_first (bench setup defaults) h → (n ≡ 0 → ⊥)
    → unchanged (held_noting h.port kept h.replay) answers n ≡ replays_noting setup defaults (held_noting h.port kept h.replay) input answers
replays_not setup defaults h kept input answers n e z =
    let N = noting_bench setup defaults in
    let g = held_noting h.port kept h.replay in
    replays_no N g input answers n (e ∙ sym (same_stops (bench setup defaults) (notes_in setup defaults) g)) z

-- the stamp fits
pub stamp_fits_lem : (setup : Setup) (defaults : List ℕ) (h : HeldWith) → stops_first (bench setup defaults) h ≡ 0 → stamp_fits h.replay ≡ true
stamp_fits_lem setup defaults h e = let L = bench setup defaults in both_left (stamp_fits h.replay) _ (unstopped L h e).matched

-- ---- a call that changes the lent numbers in place is a call on the lent statuses
pub in_place_lent : (setup : Setup) (defaults : List ℕ) (n k : ℕ) (phases : List ℕ) (port : Port) (live cells : List ℕ) (m : Replay) (kept : List (Option Nanos)) (input answers : List ℕ) (r : ReplayedInPlace) (lent' after live' cells' answers' : List ℕ)
    → k ≡ 4 * n → k ≤ length phases → length lent' ≡ k
    → left_kept_in_place r lent' live' cells' answers' ≡ replays_noting setup defaults (held_noting (held_in port (take k phases) live cells) kept m) input answers
    → ◌≡◌ {A = Left HeldNoting}
    (record { number = r.number; consumed = r.consumed; written = r.written; held = held_noting (held r.port (lent_of n (statuses_in (lent' ++ after))) live' cells') (moments_of r.moments) r.replay; answers = answers' })
    (replays_noting setup defaults (held_noting (held port (lent_of n (statuses_in phases)) live cells) kept m) input answers)
in_place_lent setup defaults n k phases port live cells m kept input answers r lent' after live' cells' answers' e h j x =
    ap {B = Left HeldNoting}
    (λ (l : List Status). record { number = r.number; consumed = r.consumed; written = r.written; held = held_noting (held r.port l live' cells') (moments_of r.moments) r.replay; answers = answers' })
    (numbers-lent n lent' after (j ∙ e))
    ∙ x
    ∙ ap (λ (l : List Status). replays_noting setup defaults (held_noting (held port l live cells) kept m) input answers) (lent-numbers n k phases e h)

-- ---- a call without the moments
pub without_moments : (setup : Setup) (defaults : List ℕ) (h : HeldNoting) (input answers : List ℕ) (x : Left HeldNoting) → x ≡ replays_noting setup defaults h input answers
    → base_left (bench setup defaults) (notes_in setup defaults) x ≡ replays_at setup defaults (base_held (bench setup defaults) (notes_in setup defaults) h) input answers
without_moments setup defaults h input answers x e =
    ap (base_left (bench setup defaults) (notes_in setup defaults)) e ∙ replays_base (bench setup defaults) (notes_in setup defaults) h input answers
