-- A call by its refusal, and lists of calls that are refused.
use Prim.Native.Nat.{ℕ, zero, suc}
use mathlib.Core.Path.{◌≡◌, refl, ap, sym, ◌∙◌}
use mathlib.Core.Bool.{Bool, true, false, ◌||◌}
use mathlib.Core.List.{List, [], ◌∷◌}
use native.Mathlib.Omega.{arith}
use lib.ListN.{length}
use lib.Dec.{eqb}
use Rattle.trace.specs.Format.{when◌then◌else◌}
use Rattle.trace.specs.Bench.{Device}
use Rattle.trace.specs.Outcome.{Outcome, nothing, first, outcome_of}
use Rattle.trace.specs.Feed.{feed_open}
use Rattle.trace.specs.Lent.{Lent, Left, unchanged, unless, refusal, refusal_or31, leaves, feeds}
use Rattle.trace.specs.Calls.{Call, before, calls, all_give, all_refused, expected_from}
use Rattle.trace.proofs.Tests.{if_true, if_false}

module _ {S H : Type 0} (L : Lent S H) where
  -- ---- the refusal
  -- a refused set-up gives its number, sound or not
  pub refusal_set_up : (h : H) (n : ℕ) → L.set_up h ≡ suc n → refusal L h ≡ suc n
  unfolding refusal
  refusal_set_up h n e = ap (λ (m : ℕ). first m (when L.sound h then 0 else 5)) e

  pub refusal_unsound : (h : H) → L.set_up h ≡ 0 → L.sound h ≡ false → refusal L h ≡ 5
  unfolding refusal
  refusal_unsound h e f = ap (λ (m : ℕ). first m (when L.sound h then 0 else 5)) e ∙ if_false (L.sound h) 0 5 f

  pub refusal_none : (h : H) → L.set_up h ≡ 0 → L.sound h ≡ true → refusal L h ≡ 0
  unfolding refusal
  refusal_none h e f = ap (λ (m : ℕ). first m (when L.sound h then 0 else 5)) e ∙ if_true (L.sound h) 0 5 f

  -- what is not refused is set up and sound
  pub refusal_accepted : (h : H) → refusal L h ≡ 0 → (L.set_up h ≡ 0) × (L.sound h ≡ true)
  unfolding refusal
  refusal_accepted h e = go _ _ refl refl e
    where
      go : (n : ℕ) (t : Bool) → L.set_up h ≡ n → L.sound h ≡ t → first n (when t then 0 else 5) ≡ 0 → (L.set_up h ≡ 0) × (L.sound h ≡ true)
      go zero true en et q = (en, et)
      go zero false en et q = absurd (omega arith)
      go (suc n) t en et q = absurd (omega arith)

  -- ---- what stands before a byte is looked at
  pub stops_refused : (h : H) (n : ℕ) → refusal L h ≡ suc n → refusal_or31 L h ≡ suc n
  unfolding refusal_or31
  stops_refused h n e = ap (λ (m : ℕ). first m (when (L.view h).broken then 31 else 0)) e

  pub stops_broken : (h : H) → refusal L h ≡ 0 → (L.view h).broken ≡ true → refusal_or31 L h ≡ 31
  unfolding refusal_or31
  stops_broken h e b = ap (λ (m : ℕ). first m (when (L.view h).broken then 31 else 0)) e ∙ if_true (L.view h).broken 31 0 b

  pub stops_not : (h : H) → refusal L h ≡ 0 → (L.view h).broken ≡ false → refusal_or31 L h ≡ 0
  unfolding refusal_or31
  stops_not h e b = ap (λ (m : ℕ). first m (when (L.view h).broken then 31 else 0)) e ∙ if_false (L.view h).broken 31 0 b

  -- what goes on to look at bytes is not refused, and not broken
  pub goes_on : (h : H) → refusal_or31 L h ≡ 0 → (refusal L h ≡ 0) × ((L.view h).broken ≡ false)
  unfolding refusal_or31
  goes_on h e = go _ _ refl refl e
    where
      go : (n : ℕ) (t : Bool) → refusal L h ≡ n → (L.view h).broken ≡ t → first n (when t then 31 else 0) ≡ 0 → (refusal L h ≡ 0) × ((L.view h).broken ≡ false)
      go zero false en et q = (en, et)
      go zero true en et q = absurd (omega arith)
      go (suc n) t en et q = absurd (omega arith)

  -- ---- a call by what stands before
  module _ (h : H) (input answers : List ℕ) where
    abbrev by : ℕ → Left H
    by n = unless n (unchanged h answers) (leaves L (feed_open L.device (L.view h) (length answers) input) answers)

    pub feeds_stopped : (n : ℕ) → refusal_or31 L h ≡ suc n → feeds L h input answers ≡ unchanged h answers (suc n)
    unfolding feeds
    feeds_stopped n e = ap by e

    pub feeds_open : refusal_or31 L h ≡ 0 → feeds L h input answers ≡ leaves L (feed_open L.device (L.view h) (length answers) input) answers
    unfolding feeds
    feeds_open e = ap by e

    -- as code says it: some number, which is not 0
    pub feeds_no : (n : ℕ) → n ≡ refusal_or31 L h → (n ≡ 0 → ⊥) → unchanged h answers n ≡ feeds L h input answers
    feeds_no zero e f = absurd (f refl)
    feeds_no (suc n) e f = sym (feeds_stopped n (sym e))

  -- ---- every call is refused, and nothing changes
  pub all_stopped : (n : ℕ) (h : H) (cs : List Call) → refusal_or31 L h ≡ suc n → calls L h cs ≡ all_refused (suc n) h cs
  unfolding calls
  all_stopped n h [] e = refl
  all_stopped n h (c ∷ cs) e = rw (feeds_stopped h c.input c.answers n e) (ap (before c (unchanged h c.answers (suc n))) (all_stopped n h cs e))

  pub all_refused_lem : (n : ℕ) (h : H) (cs : List Call) → refusal L h ≡ suc n → calls L h cs ≡ all_refused (suc n) h cs
  all_refused_lem n h cs e = all_stopped n h cs (stops_refused h n e)

  pub refused_outcomes : (D : Device S) (n : ℕ) (s : S) (broken : Bool) (done : List ℕ) (cs : List Call) → all_give (suc n) cs ≡ expected_from D (suc n) s broken done cs
  unfolding expected_from outcome_of
  refused_outcomes D n s broken done [] = refl
  refused_outcomes D n s broken done (c ∷ cs) = ap (λ (os : List Outcome). nothing (suc n) ∷ os) (refused_outcomes D n s (broken || eqb (suc n) 31) _ cs)
