-- Set-up by its refusal.
use Prim.Native.Nat.{ℕ, zero, suc}
use mathlib.Core.Path.{◌≡◌, refl, ap}
use mathlib.Core.List.{List}
use Rattle.trace.specs.Lent.{unless}
use Rattle.readiness.specs.declared.Setup.{Setup}
use Rattle.demand3.specs.Held.{Held}
use Rattle.demand3.specs.Refusals.{set_up_refusal}
use Rattle.demand3.specs.SettingUp.{Prepared, fresh_held, sets_up}

module _ (setup : Setup) (defaults : List ℕ) (h : Held) where
  abbrev by : ℕ → Prepared
  by n = unless n (λ n. record { number = n; held = h }) (record { number = 0; held = fresh_held setup defaults h })

  -- refused: as code says it, some number that is not 0
  pub set_up_no : (n : ℕ) → n ≡ set_up_refusal setup defaults h → (n ≡ 0 → ⊥) → record { number = n; held = h } ≡ sets_up setup defaults h
  unfolding sets_up
  set_up_no zero e f = absurd (f refl)
  set_up_no (suc n) e f = ap by e

  pub set_up_yes : set_up_refusal setup defaults h ≡ 0 → sets_up setup defaults h ≡ record { number = 0; held = fresh_held setup defaults h }
  unfolding sets_up
  set_up_yes e = ap by e
