-- The image of a run, piece by piece.
use Prim.Native.Nat.{ℕ, zero, suc, ◌+◌, ◌*◌, ◌-◌, ◌≤◌}
use mathlib.Core.Path.{◌≡◌, refl, ap, sym, ◌∙◌}
use mathlib.Core.Bool.{Bool, true, false, not}
use mathlib.Core.List.{List, ◌∷◌, ◌++◌, append-nil}
use native.Mathlib.Omega.{arith}
use native.Mathlib.Nat.{zero-add}
use lib.ListN.{length, take, drop, replicate, length-take, length-drop, drop_of_length-le}
use lib.Seq.{sets, sets-eq, take_all, take-take, take-append-le}
use Rattle.bits.specs.Widths.{at_most}
use Rattle.readiness.specs.declared.Status.{Status}
use Rattle.readiness.specs.Status.{ready}
use Rattle.records.specs.declared.Port.{Port}
use Rattle.demand3.specs.Held.{lent_of}
use Rattle.state_layout.specs.Numbers.{low_first, word_bytes}
use Rattle.state_layout.specs.Image.{state_bytes}
use Rattle.state_layout.proofs.Stores.{sets-next, sets-part}
use Rattle.library_run.specs.Run.{image_of}
use Rattle.library_run.proofs.Laws.{lengths}

-- a refusal's test
pub off : (b : Bool) → not b ≡ true → b ≡ false
off true h = sym h
off false h = refl

pub on : (b : Bool) → not b ≡ false → b ≡ true
on true h = refl
on false h = sym h

pub at_most_is : (n most : ℕ) → n ≤ most → at_most n most ≡ n
at_most_is n most h = omega (arith, h)

pub take_same : (n m a : ℕ) → n ≤ m → take n (replicate m a) ≡ replicate n a
take_same zero m a h = refl
take_same (suc n) zero a h = absurd (omega (arith, h))
take_same (suc n) (suc m) a h = ap (λ (l : List ℕ). a ∷ l) (take_same n m a (omega (arith, h)))

-- in the part from an index on
pub tail_stores : (vs l ys : List ℕ) (at : ℕ) → at + length vs ≤ length l → ys ≡ sets (take (length l - at) (drop at l)) 0 vs
    → take at l ++ (ys ++ drop (length l - at) (drop at l)) ≡ sets l at vs
tail_stores vs l ys at h e =
    let k : length (drop at l) ≤ length l - at = omega (arith, length-drop at l) in
    ap (λ (y : List ℕ). take at l ++ (y ++ drop (length l - at) (drop at l))) (e ∙ ap (λ (d : List ℕ). sets d 0 vs) (take_all (length l - at) (drop at l) k))
    ∙ ap (λ (r : List ℕ). take at l ++ (sets (drop at l) 0 vs ++ r)) (drop_of_length-le (drop at l) k)
    ∙ ap (λ (r : List ℕ). take at l ++ r) (append-nil (sets (drop at l) 0 vs))
    ∙ sets-part vs l at h

-- at the front
pub sets-front : (vs l : List ℕ) → length vs ≤ length l → sets l 0 vs ≡ vs ++ drop (length vs) l
sets-front vs l h = sets-eq vs l 0 (omega (arith, h)) ∙ ap (λ (k : ℕ). vs ++ drop k l) (zero-add (length vs))

-- the statuses of the first slots, among those that an array stands for
pub lent-front : (n k : ℕ) (s : List Status) → k ≤ n → k ≤ length s → take k (lent_of n s) ≡ take k s
lent-front n k s h g =
    let e : k ≤ length (take n s) = omega (arith, h, g, length-take n s) in
    take-append-le k (take n s) (replicate (n - length (take n s)) ready) e ∙ take-take k n s h

module _ (consumed written : ℕ) (port : Port) (s : List Status) (live cells : List ℕ) (slots : ℕ) (long : length port.carried ≡ 16)
    (all : length s ≡ slots) (words : length live ≡ 64 * slots) where
  abbrev counts : List ℕ
  counts = low_first 8 consumed ++ low_first 8 written

  pub image_stores : (l : List ℕ) (at : ℕ) → at ≡ 16 + (46 + 27 * slots)
      → sets (sets (sets (sets l 0 counts) 16 (state_bytes port s)) at (word_bytes live)) (at + 256 * slots) (word_bytes cells) ≡ sets l 0 (image_of consumed written port s live cells)
  unfolding image_of
  image_stores l at e =
      let n = lengths consumed written port s live cells slots long all words in
      let k₁ : 16 ≡ 0 + length counts = omega (arith, n.to_counts) in
      let k₂ : at ≡ 0 + length (counts ++ state_bytes port s) = omega (arith, n.to_state, e) in
      let k₃ : at + 256 * slots ≡ 0 + length (counts ++ state_bytes port s ++ word_bytes live) = omega (arith, n.to_live, e) in
      ap (λ (x : List ℕ). sets (sets x at (word_bytes live)) (at + 256 * slots) (word_bytes cells)) (sets-next counts (state_bytes port s) l 0 16 k₁)
      ∙ ap (λ (x : List ℕ). sets x (at + 256 * slots) (word_bytes cells)) (sets-next (counts ++ state_bytes port s) (word_bytes live) l 0 at k₂)
      ∙ sets-next (counts ++ state_bytes port s ++ word_bytes live) (word_bytes cells) l 0 (at + 256 * slots) k₃
