-- What a set-up leaves (01, "Set-up, and memory lent"): nothing is changed where it is refused, else all that is lent is as 01 says, and
-- the port is sound, unbroken, with nothing carried.
use Prim.Native.Nat.{ℕ, zero, suc, ◌+◌, ◌≤◌, ◌<◌}
use mathlib.Core.Path.{◌≡◌, refl, ap, ap₂, sym, ◌∙◌}
use mathlib.Core.Bool.{Bool, true, cond}
use mathlib.Core.List.{List, [], ◌∷◌}
use native.Mathlib.Omega.{arith}
use lib.ListN.{length, replicate, length-replicate}
use borrow.Author.Tests.{lt-ltb}
use Rattle.readiness.specs.declared.Status.{Status}
use Rattle.readiness.specs.declared.Setup.{Setup}
use Rattle.readiness.specs.declared.Dev.{Dev}
use Rattle.readiness.specs.Blank.{blank_dev}
use Rattle.readiness.specs.Status.{down, each_from, status_after_reset, stopped_by_reset}
use Rattle.trace.specs.Format.{begun}
use Rattle.trace.specs.Lent.{Start}
use Rattle.trace.proofs.Refusing.{refusal_none}
use Rattle.records.specs.State.{status_at}
use Rattle.records.specs.Sound.{Sound}
use Rattle.records.proofs.SoundFacts.{facts_sound, down-sound}
use Rattle.demand3.specs.Held.{Held, held, state_of}
use Rattle.demand3.specs.Refusals.{set_up_refusal, sound_carried, sound_held}
use Rattle.demand3.specs.SettingUp.{Prepared, fresh_held, sets_up, Fresh, EverySetUp}
use Rattle.demand3.specs.Feeding.{bench}
use Rattle.demand3.proofs.Refusals.{refusal_held}
use Rattle.demand3.proofs.SettingUp.{set_up_no, set_up_yes}
use Rattle.demand3.proofs.Numbers.{set_up_facts}

-- ---- every slot Down
each-down : (setup : Setup) (dev : Dev) (k n : ℕ) (l : List Status) → k + length l ≤ n → each_from k n (status_after_reset setup dev) l ≡ replicate (length l) down
unfolding each_from
each-down setup dev k n [] h = refl
each-down setup dev k n (s ∷ l) h =
    ap₂ {C = List Status} (λ (b : Bool) (r : List Status). cond b down s ∷ r) (lt-ltb k n (omega arith)) (each-down setup dev (suc k) n l (omega arith))

down_at : (n i : ℕ) → i < n → status_at (replicate n down) i ≡ down
down_at zero i h = absurd (omega arith)
down_at (suc n) zero h = refl
down_at (suc n) (suc i) h = down_at n i (omega arith)

-- ---- what a set-up leaves
module _ (setup : Setup) (defaults : List ℕ) (h : Held) where
  -- the number is the first of 1 to 4 that applies, else 0
  pub set_up_number : (sets_up setup defaults h).number ≡ set_up_refusal setup defaults h
  set_up_number = by (set_up_refusal setup defaults h) refl
    where
      by : (n : ℕ) → n ≡ set_up_refusal setup defaults h → (sets_up setup defaults h).number ≡ n
      by zero e = ap (λ (p : Prepared). p.number) (set_up_yes setup defaults h (sym e))
      by (suc n) e = sym (ap (λ (p : Prepared). p.number) (set_up_no setup defaults h (suc n) e (λ z. omega arith)))

  -- A REFUSED SET-UP changes nothing
  pub set_up_refused : (n : ℕ) → set_up_refusal setup defaults h ≡ suc n → sets_up setup defaults h ≡ record { number = suc n; held = h }
  set_up_refused n e = sym (set_up_no setup defaults h (suc n) (sym e) (λ z. omega arith))

  module _ (e : set_up_refusal setup defaults h ≡ 0) where
    slots_down : stopped_by_reset setup blank_dev h.statuses ≡ replicate setup.slots down
    slots_down =
        let f = (set_up_facts setup defaults h e).lengths in
        each-down setup blank_dev 0 setup.slots h.statuses (omega (arith, f.per_slot)) ∙ ap (λ (n : ℕ). replicate n down) f.per_slot

    -- A SET-UP THAT ISN'T REFUSED leaves all that is lent as 01 says
    fresh-left : Fresh setup defaults (length h.cells) (fresh_held setup defaults h)
    unfolding fresh_held
    fresh-left =
        record {
          live = refl;
          cells = refl;
          clock = refl;
          link = refl;
          statuses = slots_down;
          owed = refl;
          control = refl;
          drs_received = refl;
          received = refl;
          overflow = refl;
          depth = refl;
          start = refl;
          carried = refl;
          broken = refl;
        }

    set_up_fresh : Fresh setup defaults (length h.cells) (sets_up setup defaults h).held
    set_up_fresh = rw (set_up_yes setup defaults h e) fresh-left

    -- its port is sound
    fresh-sound : Sound setup (state_of (fresh_held setup defaults h))
    unfolding fresh_held
    fresh-sound =
        down-sound setup (state_of (fresh_held setup defaults h)) (omega arith) (omega (arith, length-replicate {A = ℕ} (length h.cells) 0, (set_up_facts setup defaults h e).queue.some)) (omega arith) refl refl refl refl
        (λ i l. ap (λ (s : List Status). status_at s i) slots_down ∙ down_at setup.slots i l)

    fresh_held_sound : sound_held setup (fresh_held setup defaults h) ≡ true
    unfolding sound_held sound_carried fresh_held begun
    fresh_held_sound = facts_sound setup (state_of (fresh_held setup defaults h)) fresh-sound

    -- and the set-up isn't refused from then on
    fresh_accepted : set_up_refusal setup defaults (fresh_held setup defaults h) ≡ 0
    unfolding fresh_held
    fresh_accepted =
        let f = (set_up_facts setup defaults h e).lengths in
        sym (refusal_held setup defaults (fresh_held setup defaults h) (length h.statuses) (length h.live) (length h.cells)
        (ap length slots_down ∙ length-replicate setup.slots down ∙ sym f.per_slot)
        (f.default_words ∙ sym f.words)
        (length-replicate {A = ℕ} (length h.cells) 0))
        ∙ refusal_held setup defaults h (length h.statuses) (length h.live) (length h.cells) refl refl refl
        ∙ e

    fresh_start : Start (bench setup defaults) (fresh_held setup defaults h)
    unfolding fresh_held
    fresh_start =
        record {
          accepted = refusal_none (bench setup defaults) (fresh_held setup defaults h) fresh_accepted fresh_held_sound;
          none_carried = refl;
          unbroken = refl;
        }

    -- (f) it leaves a sound port, unbroken, with nothing carried
    pub set_up_start : Start (bench setup defaults) (sets_up setup defaults h).held
    set_up_start = rw (set_up_yes setup defaults h e) fresh_start

-- WHAT A SET-UP LEAVES
pub set_up_leaves : EverySetUp
set_up_leaves setup defaults h = record { refused = set_up_refused setup defaults h; fresh = set_up_fresh setup defaults h }
