-- Two pieces packed one after the other are their join packed.
use Rattle.std.proofs.Common.{◌≡◌, ℕ, zero, suc, ◌+◌, Bool, true, false, List, [], ◌∷◌, ◌++◌, length, drop, refl, ap, ◌∙◌, suc-add, zero-add, one-add}
use lib.Seq.{drop-length}
use Rattle.text_hex.specs.declared.Within.TheVariants.{Gap}
use Rattle.text_hex.specs.declared.Turn.{Turn}
use Rattle.text_hex.specs.declared.Turn.TheVariants.{Goes, Completes, Bad}
use Rattle.text_hex.specs.declared.Packing.{Packing}
use Rattle.text_hex.specs.Text.{turn_of}
use Rattle.text_hex.specs.Packing.{past, spoiled, Given, ends, later, packs}
use Rattle.text_hex.proofs.Steps.{later-later}
use Rattle.text_hex.proofs.Turns.{after_bad, by_goes, by_completes, by_full, by_bad, spoiled_bad}

-- what a call gives and then the next, which has room for n bytes and starts at the character where the first stopped
abbrev pub one_after_the_other : Given → (a b : List ℕ) → ℕ → Given
one_after_the_other g a b n = later g.consumed g.bytes (packs g.after (drop g.consumed a ++ b) n)

-- where the first call gives nothing
none : (p : Packing) (a b : List ℕ) (n : ℕ) → packs p (a ++ b) (0 + n) ≡ one_after_the_other (ends p) a b n
none p a b n = rw (zero-add n, zero-add)

module _ (b : List ℕ) (n : ℕ) where
  -- the claim for the first piece a
  Claim : List ℕ → Type 0
  Claim a = (p : Packing) (m : ℕ) → packs p (a ++ b) (length (packs p a m).bytes + n) ≡ one_after_the_other (packs p a m) a b n

  -- where the first call is known
  known : (p : Packing) (c : ℕ) (a : List ℕ) (m : ℕ) (g : Given) → packs p (c ∷ a) m ≡ g
      → packs p (c ∷ a ++ b) (length g.bytes + n) ≡ one_after_the_other g (c ∷ a) b n
      → packs p (c ∷ a ++ b) (length (packs p (c ∷ a) m).bytes + n) ≡ one_after_the_other (packs p (c ∷ a) m) (c ∷ a) b n
  known p c a m g e h = rw e h

  by_turn : (p : Packing) (c : ℕ) (a : List ℕ) (m : ℕ) (t : Turn) → Claim a → p.bad ≡ false → turn_of p.within c ≡ t
      → packs p (c ∷ a ++ b) (length (packs p (c ∷ a) m).bytes + n) ≡ one_after_the_other (packs p (c ∷ a) m) (c ∷ a) b n
  unfolding Claim
  by_turn p c a m (Goes within) f o e =
      let q = past c within p in
      let x = packs q a m in
      known p c a m _ (by_goes p o c a m within e)
      (by_goes p o c (a ++ b) (length x.bytes + n) within e
      ∙ ap (later 1 []) (f q m)
      ∙ later-later 1 x.consumed [] x.bytes _
      ∙ rw one-add)
  by_turn p c a zero (Completes y) f o e = known p c a zero _ (by_full p o c a y e) (none p (c ∷ a) b n)
  by_turn p c a (suc m) (Completes y) f o e =
      let q = past c Gap p in
      let x = packs q a m in
      known p c a (suc m) _ (by_completes p o c a m y e)
      (rw suc-add
      (by_completes p o c (a ++ b) (length x.bytes + n) y e
      ∙ ap (later 1 (y ∷ [])) (f q m)
      ∙ later-later 1 x.consumed (y ∷ []) x.bytes _
      ∙ rw one-add))
  by_turn p c a m Bad f o e =
      known p c a m _ (by_bad p o c a m e)
      (by_bad p o c (a ++ b) (0 + n) e ∙ rw (after_bad (spoiled p) (c ∷ a ++ b) n (spoiled_bad p)))

  by_bad_or_not : (t : Bool) (p : Packing) (c : ℕ) (a : List ℕ) (m : ℕ) → p.bad ≡ t → Claim a
      → packs p (c ∷ a ++ b) (length (packs p (c ∷ a) m).bytes + n) ≡ one_after_the_other (packs p (c ∷ a) m) (c ∷ a) b n
  by_bad_or_not true p c a m o f = known p c a m _ (after_bad p (c ∷ a) m o) (none p (c ∷ a) b n)
  by_bad_or_not false p c a m o f = by_turn p c a m (turn_of p.within c) f o refl

  claim : (a : List ℕ) → Claim a
  unfolding Claim packs
  claim [] p m = none p [] b n
  claim (c ∷ a) p m = by_bad_or_not p.bad p c a m refl (claim a)

-- two pieces packed one after the other, the first into a room for m bytes, of which some may be left, and the second into a
-- room for n: their join packed into a room for the bytes of the first and n more
pub pieces : (p : Packing) (a b : List ℕ) (m n : ℕ)
    → packs p (a ++ b) (length (packs p a m).bytes + n) ≡ one_after_the_other (packs p a m) a b n
unfolding Claim
pieces p a b m n = claim b n a p m

-- and where the first call consumes its whole piece
pub whole_pieces : (p : Packing) (a b : List ℕ) (m n : ℕ) → (packs p a m).consumed ≡ length a
    → packs p (a ++ b) (length (packs p a m).bytes + n) ≡ later (length a) (packs p a m).bytes (packs (packs p a m).after b n)
whole_pieces p a b m n e = pieces p a b m n ∙ rw (e, drop-length a)
