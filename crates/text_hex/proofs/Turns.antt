-- What the first character of a text does, by its turn.
use Rattle.std.proofs.Common.{◌≡◌, ℕ, suc, ◌-◌, true, false, List, [], ◌∷◌, refl, arith, ne_eqb}
use Rattle.text_hex.specs.declared.Within.{Within}
use Rattle.text_hex.specs.declared.Within.TheVariants.{Gap}
use Rattle.text_hex.specs.declared.Turn.TheVariants.{Goes, Completes, Bad}
use Rattle.text_hex.specs.declared.Packing.{Packing}
use Rattle.text_hex.specs.declared.Step.TheVariants.{Puts}
use Rattle.text_hex.specs.Text.{turn_of}
use Rattle.text_hex.specs.Packing.{past, spoiled, step_by, step_of, ends, later, packs}

-- nothing follows a bad character
pub after_bad : (p : Packing) (text : List ℕ) (room : ℕ) → p.bad ≡ true → packs p text room ≡ ends p
unfolding packs step_of
after_bad p [] room e = refl
after_bad p (c ∷ text) room e = simp e

module _ (p : Packing) (c : ℕ) where
  room-left : (room b : ℕ) → step_by (Completes b) p c (suc room) ≡ Puts b (past c Gap p)
  unfolding step_by
  room-left room b = simp (ne_eqb (suc room) 0 (λ (z : suc room ≡ 0). omega arith))

module _ (p : Packing) (fine : p.bad ≡ false) (c : ℕ) (text : List ℕ) where
  pub by_goes : (room : ℕ) (within : Within) → turn_of p.within c ≡ Goes within → packs p (c ∷ text) room ≡ later 1 [] (packs (past c within p) text room)
  unfolding packs step_of step_by
  by_goes room within e = simp (fine, e)

  put_step : (room b : ℕ) → turn_of p.within c ≡ Completes b → step_of p c (suc room) ≡ Puts b (past c Gap p)
  unfolding step_of
  put_step room b e = simp (fine, e, room-left p c room b)

  pub by_completes : (room b : ℕ) → turn_of p.within c ≡ Completes b → packs p (c ∷ text) (suc room) ≡ later 1 (b ∷ []) (packs (past c Gap p) text room)
  unfolding packs
  by_completes room b e = let n : suc room - 1 ≡ room = omega arith in simp (put_step room b e, n)

  pub by_full : (b : ℕ) → turn_of p.within c ≡ Completes b → packs p (c ∷ text) 0 ≡ ends p
  unfolding packs step_of step_by
  by_full b e = simp (fine, e)

  pub by_bad : (room : ℕ) → turn_of p.within c ≡ Bad → packs p (c ∷ text) room ≡ ends (spoiled p)
  unfolding packs step_of step_by
  by_bad room e = simp (fine, e)

pub past_fine : (c : ℕ) (within : Within) (p : Packing) → (past c within p).bad ≡ false
unfolding past
past_fine c within p = refl

pub spoiled_bad : (p : Packing) → (spoiled p).bad ≡ true
unfolding spoiled
spoiled_bad p = refl

pub past-within : (c : ℕ) (within : Within) (p : Packing) → (past c within p).within ≡ within
unfolding past
past-within c within p = refl
