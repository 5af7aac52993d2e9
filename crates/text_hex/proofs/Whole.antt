-- The packing and the grammar: a hex text is packed whole, into its bytes, and what is packed whole is hex text. The first bad
-- character is the first with which no hex text goes on.
use Rattle.std.proofs.Common.{◌≡◌, ℕ, zero, suc, ◌≤◌, true, false, not, List, [], ◌∷◌, ◌++◌, length, refl, ap, ◌∙◌, subst, one-add, arith}
use Rattle.bits.proofs.Tests.{both_right}
use Rattle.text_hex.specs.declared.Within.{Within}
use Rattle.text_hex.specs.declared.Within.TheVariants.{Gap, Byte, Comment}
use Rattle.text_hex.specs.declared.Turn.{Turn}
use Rattle.text_hex.specs.declared.Turn.TheVariants.{Goes, Completes, Bad}
use Rattle.text_hex.specs.declared.Packing.{Packing}
use Rattle.text_hex.specs.Text.{turn_of}
use Rattle.text_hex.specs.Packing.{start, is_between, is_whole, past, Given, later, packs}
use Rattle.text_hex.specs.Grammar.{HexText}
use Rattle.text_hex.proofs.Turns.{by_goes, by_completes, by_full, by_bad, past_fine, past-within}
use Rattle.text_hex.proofs.Walk.{From, walked, is_hex}
use Rattle.text_hex.proofs.Walk.From.{ends_gap, ends_comment, goes, completes}

-- everything is consumed, and the text may end there
pub record Whole (g : Given) (text bytes : List ℕ) : Type 0 where
  pub whole : is_whole g.after ≡ true
  pub all : g.consumed ≡ length text
  pub these : g.bytes ≡ bytes

-- ---- hex text is packed whole

more : (g : Given) (c : ℕ) (text bytes front : List ℕ) → Whole g text bytes → Whole (later 1 front g) (c ∷ text) (front ++ bytes)
more g c text bytes front h =
    record { whole = h.whole; all = one-add g.consumed ∙ ap suc h.all; these = ap (λ (l : List ℕ). front ++ l) h.these }

packs-from : {w : Within} {text bytes : List ℕ} → From w text bytes
    → (p : Packing) → p.within ≡ w → p.bad ≡ false → (room : ℕ) → length bytes ≤ room → Whole (packs p text room) text bytes
unfolding packs
packs-from ends_gap p e o room h = record { whole = simp (e, o); all = refl; these = refl }
packs-from ends_comment p e o room h = record { whole = simp (e, o); all = refl; these = refl }
packs-from (goes {w} {v} {c} {text} {bytes} t f) p e o room h =
    rw (by_goes p o c text room v (ap (λ (x : Within). turn_of x c) e ∙ t))
    (more _ c text bytes [] (packs-from f (past c v p) (past-within c v p) (past_fine c v p) room h))
packs-from (completes {w} {c} {b} {text} {bytes} t f) p e o zero h = absurd (omega arith)
packs-from (completes {w} {c} {b} {text} {bytes} t f) p e o (suc room) h =
    rw (by_completes p o c text room b (ap (λ (x : Within). turn_of x c) e ∙ t))
    (more _ c text bytes (b ∷ []) (packs-from f (past c Gap p) (past-within c Gap p) (past_fine c Gap p) room (omega arith)))

-- a hex text is packed whole into its bytes, where there is room
pub hex_packs : {text bytes : List ℕ} → HexText text bytes → (room : ℕ) → length bytes ≤ room → Whole (packs start text room) text bytes
hex_packs h room e = packs-from (walked h) start refl refl room e

-- ---- what is packed whole is hex text

end_from : (w : Within) → is_between w ≡ true → From w [] []
end_from Gap e = ends_gap
end_from (Byte h) e = let z : ◌≡◌ {A = ℕ} 0 1 = cc in absurd (omega arith)
end_from Comment e = ends_comment

abbrev Read : List ℕ → Type 0
Read text =
    (p : Packing) → p.bad ≡ false → (room : ℕ) → is_whole (packs p text room).after ≡ true → (packs p text room).consumed ≡ length text
    → From p.within text (packs p text room).bytes

module _ (p : Packing) (o : p.bad ≡ false) (c : ℕ) (text : List ℕ) (f : Read text) where
  -- what the first call gives is known
  abbrev ReadAs : Given → Type 0
  ReadAs g = is_whole g.after ≡ true → g.consumed ≡ suc (length text) → From p.within (c ∷ text) g.bytes

  read_turn : (t : Turn) (room : ℕ) → turn_of p.within c ≡ t → ReadAs (packs p (c ∷ text) room)
  read_turn (Goes v) room e =
      rw (by_goes p o c text room v e)
      (λ w n. goes e (subst (λ (x : Within). From x text (packs (past c v p) text room).bytes) (past-within c v p)
      (f (past c v p) (past_fine c v p) room w (omega arith))))
  read_turn (Completes b) zero e = rw (by_full p o c text b e) (λ w n. absurd (omega arith))
  read_turn (Completes b) (suc room) e =
      rw (by_completes p o c text room b e)
      (λ w n. completes e (subst (λ (x : Within). From x text (packs (past c Gap p) text room).bytes) (past-within c Gap p)
      (f (past c Gap p) (past_fine c Gap p) room w (omega arith))))
  read_turn Bad room e = rw (by_bad p o c text room e) (λ w n. absurd (omega arith))

from-packs : (text : List ℕ) → Read text
unfolding packs
from-packs [] p o room w n = end_from p.within (both_right (not p.bad) (is_between p.within) w)
from-packs (c ∷ text) p o room w n = read_turn p o c text (from-packs text) (turn_of p.within c) room refl w n

-- what is packed whole is hex text, and has the bytes that were put
pub packs_hex : (text : List ℕ) (room : ℕ) → is_whole (packs start text room).after ≡ true → (packs start text room).consumed ≡ length text
    → HexText text (packs start text room).bytes
packs_hex text room w n = is_hex (from-packs text start refl room w n)
