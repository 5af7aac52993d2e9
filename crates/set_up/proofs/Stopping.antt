-- What is refused before a byte is looked at, as code finds it.
use Prim.Native.Nat.{ℕ, zero, suc, ◌<◌}
use mathlib.Core.Path.{◌≡◌, refl, ap, sym, ◌∙◌}
use mathlib.Core.Bool.{Bool, true, false, ◌&&◌, cond}
use mathlib.Core.List.{List, [], ◌∷◌}
use native.Mathlib.Omega.{arith}
use lib.ListN.{length}
use Rattle.trace.specs.Lent.{refusal, refusal_or31}
use Rattle.trace.proofs.Refusing.{refusal_set_up, refusal_unsound, refusal_none, stops_refused, stops_broken, stops_not}
use Rattle.readiness.specs.declared.Setup.{Setup}
use Rattle.records.specs.Sound.{sound}
use Rattle.demand3.specs.Held.{Held, state_of}
use Rattle.demand3.specs.Refusals.{lengths_fit, queue_fits, all_codes_allowed, all_defaults_allowed, first_failed, set_up_tests, set_up_refusal, sound_carried, sound_held}
use Rattle.demand3.specs.Feeding.{bench}
use Rattle.demand3.proofs.Refusals.{fits_of}
use Rattle.set_up.specs.declared.Refusal.{Refusal}
use Rattle.set_up.specs.declared.Refusal.TheVariants.{Lengths, Queue, Codes, Defaults, Unsound, Broken}
use Rattle.set_up.specs.Refused.{number_of}

-- ---- more statuses than a card can have slots
pub too_many : (setup : Setup) (defaults : List ℕ) (h : Held) → 32 < length h.statuses → 1 ≡ set_up_refusal setup defaults h
unfolding set_up_refusal set_up_tests first_failed
too_many setup defaults h m = by (lengths_fit setup.slots (length h.statuses) (length h.live) (length defaults)) refl
  where
    by : (b : Bool) → lengths_fit setup.slots (length h.statuses) (length h.live) (length defaults) ≡ b → 1 ≡ set_up_refusal setup defaults h
    by true e = let f = fits_of _ _ _ _ e in absurd (omega (arith, f.most, f.per_slot))
    by false e = sym (ap (λ (b : Bool). cond b (first_failed (record { number = 2; holds = queue_fits (length h.cells) } ∷ record { number = 3; holds = all_codes_allowed setup } ∷ record { number = 4; holds = all_defaults_allowed setup defaults } ∷ [])) 1) e)

-- a refusal has a number
pub some_number : (why : Refusal) → number_of why ≡ 0 → ⊥
some_number Lengths e = omega arith
some_number Queue e = omega arith
some_number Codes e = omega arith
some_number Defaults e = omega arith
some_number Unsound e = omega arith
some_number Broken e = omega arith

-- ---- the first number that applies
module _ (setup : Setup) (defaults : List ℕ) (h : Held) where
  abbrev number : ℕ
  number = refusal_or31 (bench setup defaults) h

  -- 1 to 4
  pub stops_set_up : (n : ℕ) → n ≡ set_up_refusal setup defaults h → (n ≡ 0 → ⊥) → n ≡ number
  stops_set_up zero e f = absurd (f refl)
  stops_set_up (suc n) e f = sym (stops_refused (bench setup defaults) h n (refusal_set_up (bench setup defaults) h n (sym e)))

  -- 5
  stops_unsound : set_up_refusal setup defaults h ≡ 0 → sound_held setup h ≡ false → 5 ≡ number
  stops_unsound e f = sym (stops_refused (bench setup defaults) h 4 (refusal_unsound (bench setup defaults) h e f))

  pub stops_carried : set_up_refusal setup defaults h ≡ 0 → sound_carried h.port ≡ false → 5 ≡ number
  unfolding sound_held
  stops_carried e f = stops_unsound e (ap (λ (b : Bool). b && sound setup (state_of h)) f)

  pub stops_state : set_up_refusal setup defaults h ≡ 0 → sound_carried h.port ≡ true → sound setup (state_of h) ≡ false → 5 ≡ number
  unfolding sound_held
  stops_state e f g = stops_unsound e (ap (λ (b : Bool). b && sound setup (state_of h)) f ∙ g)

  -- 31, and 0
  module _ (e : set_up_refusal setup defaults h ≡ 0) (f : sound_carried h.port ≡ true) (g : sound setup (state_of h) ≡ true) where
    not_refused_lem : refusal (bench setup defaults) h ≡ 0
    unfolding sound_held
    not_refused_lem = refusal_none (bench setup defaults) h e (ap (λ (b : Bool). b && sound setup (state_of h)) f ∙ g)

    pub stops_31 : h.port.broken ≡ true → 31 ≡ number
    stops_31 b = sym (stops_broken (bench setup defaults) h not_refused_lem b)

    pub stops_none : h.port.broken ≡ false → 0 ≡ number
    stops_none b = sym (stops_not (bench setup defaults) h not_refused_lem b)
