-- The room: it is never overrun, the packing stops short of the text's end only where the room is full, and half as much room as
-- text is enough.
use Rattle.std.proofs.Common.{◌≡◌, ℕ, zero, suc, ◌+◌, ◌*◌, ◌<◌, ◌≤◌, false, List, [], ◌∷◌, length, refl, ap, subst, ⊎_elim, eq-or-lt_of_le, arith}
use Rattle.text_hex.specs.declared.Within.{Within}
use Rattle.text_hex.specs.declared.Within.TheVariants.{Gap, Byte, Comment}
use Rattle.text_hex.specs.declared.Turn.{Turn}
use Rattle.text_hex.specs.declared.Turn.TheVariants.{Goes, Completes, Bad}
use Rattle.text_hex.specs.declared.Packing.{Packing}
use Rattle.text_hex.specs.Text.{turn_of}
use Rattle.text_hex.specs.Packing.{start, past, Given, packs}
use Rattle.text_hex.proofs.Turns.{by_goes, by_completes, by_full, by_bad, spoiled_bad}
use Rattle.text_hex.proofs.Walk.{Does, does}
use Rattle.text_hex.proofs.Walk.Does.{low}

-- 1 where a byte lacks its second digit
abbrev pub half : Within → ℕ
half Gap = 0
half (Byte h) = 1
half Comment = 0

half_one : (w : Within) → half w ≤ 1
half_one Gap = omega arith
half_one (Byte h) = omega arith
half_one Comment = omega arith

only-low : {w : Within} {c b : ℕ} → Does w c (Completes b) → half w ≡ 1
only-low (low e) = refl

-- what holds of the bytes, of what was consumed, and of where the packing stopped
pub record Fits (w : Within) (text : List ℕ) (room : ℕ) (g : Given) : Type 0 where
  pub at_most_lem : length g.bytes ≤ room
  pub within : g.consumed ≤ length text
  pub two_each : 2 * length g.bytes ≤ g.consumed + half w
  pub full : g.after.bad ≡ false → g.consumed < length text → length g.bytes ≡ room

abbrev Fitting : List ℕ → Type 0
Fitting text = (p : Packing) → p.bad ≡ false → (room : ℕ) → Fits p.within text room (packs p text room)

fits_turn : (p : Packing) → p.bad ≡ false → (c : ℕ) (text : List ℕ) → Fitting text → (t : Turn) (room : ℕ) → turn_of p.within c ≡ t
    → Fits p.within (c ∷ text) room (packs p (c ∷ text) room)
unfolding past
fits_turn p o c text f (Goes v) room e =
    let h = f (past c v p) refl room in
    let n : half v ≤ 1 = half_one v in
    rw (by_goes p o c text room v e)
    record {
      at_most_lem = h.at_most_lem;
      within = omega (arith, h.within);
      two_each = omega (arith, h.two_each);
      full = λ b l. h.full b (omega arith);
    }
fits_turn p o c text f (Completes b) zero e =
    rw (by_full p o c text b e)
    record { at_most_lem = omega arith; within = omega arith; two_each = omega arith; full = λ b l. refl }
fits_turn p o c text f (Completes b) (suc room) e =
    let h = f (past c Gap p) refl room in
    let n : half p.within ≡ 1 = only-low (subst (λ (t : Turn). Does p.within c t) e (does p.within c)) in
    rw (by_completes p o c text room b e)
    record {
      at_most_lem = omega (arith, h.at_most_lem);
      within = omega (arith, h.within);
      two_each = omega (arith, h.two_each);
      full = λ b l. ap suc (h.full b (omega arith));
    }
fits_turn p o c text f Bad room e =
    rw (by_bad p o c text room e)
    record {
      at_most_lem = omega arith;
      within = omega arith;
      two_each = omega arith;
      full = λ b l. let z : ◌≡◌ {A = ℕ} 0 1 = cc (spoiled_bad p) in absurd (omega arith);
    }

-- from any place in a text without a bad character
pub fits : (text : List ℕ) → Fitting text
unfolding packs
fits [] p o room = record { at_most_lem = omega arith; within = omega arith; two_each = omega arith; full = λ b l. absurd (omega arith) }
fits (c ∷ text) p o room = fits_turn p o c text (fits text) (turn_of p.within c) room refl

exactly : (k n : ℕ) → k ≤ n → (k < n → ⊥) → k ≡ n
exactly k n h f = ⊎_elim (λ (e : k ≡ n). e) (λ (l : k < n). absurd (f l)) (eq-or-lt_of_le h)

-- where the room is at least half as long as the text, all is consumed up to a bad character
pub enough : (text : List ℕ) (room : ℕ) → length text ≤ 2 * room → (packs start text room).after.bad ≡ false → (packs start text room).consumed ≡ length text
enough text room h b =
    let f = fits text start refl room in
    let g = packs start text room in
    let n : g.consumed < length text → ⊥ = λ l. let e : length g.bytes ≡ room = f.full b l in omega (arith, f.two_each) in
    exactly g.consumed (length text) f.within n
