-- Laws of statuses as they are lent: the first n of an array; and lists that are filled.
use Prim.Native.Nat.{ℕ, zero, suc, ◌+◌, ◌-◌, ◌≤◌, ◌<◌}
use mathlib.Core.Path.{◌≡◌, refl, ap, ap₂, sym, ◌∙◌}
use mathlib.Core.Bool.{cond}
use mathlib.Core.List.{List, [], ◌∷◌, ◌++◌, append-nil, append_assoc}
use native.Mathlib.Omega.{arith}
use native.Mathlib.Numerals.{add-one}
use lib.Dec.{ltb}
use lib.ListN.{length, get_or, take, drop, set, replicate, length-append, length-take, length-replicate, take-append-drop, drop_of_length-le, replicate-append-replicate}
use lib.Seq.{length-take-le, drop-cons, set_at}
use Rattle.readiness.specs.declared.Status.{Status}
use Rattle.readiness.specs.Status.{ready, each_from}
use Rattle.readiness.proofs.Clauses.{each-length}
use Rattle.demand3.specs.Held.{lent_of}

-- as many as are lent
pub length-lent : (n : ℕ) (l : List Status) → length (lent_of n l) ≡ n
length-lent n l = omega (arith, length-append (take n l) (replicate (n - length (take n l)) ready), length-replicate (n - length (take n l)) ready, length-take n l)

-- of an array that has them, they are the first n
pub lent-take : (n : ℕ) (l : List Status) → n ≤ length l → lent_of n l ≡ take n l
lent-take n l h =
    let z : n - length (take n l) ≡ 0 = omega (arith, length-take-le n l h) in
    ap (λ (m : ℕ). take n l ++ replicate m ready) z ∙ append-nil (take n l)

-- a status for each slot, of the first n
each_take : (j m n : ℕ) (f : ℕ → Status) (l : List Status) → take n (each_from j m f l) ≡ each_from j m f (take n l)
unfolding each_from
each_take j m zero f l = refl
each_take j m (suc n) f [] = refl
each_take j m (suc n) f (s ∷ l) = ap (λ (r : List Status). cond (ltb j m) (f j) s ∷ r) (each_take (suc j) m n f l)

pub each_lent : (m n : ℕ) (f : ℕ → Status) (l : List Status) → n ≤ length l → lent_of n (each_from 0 m f l) ≡ each_from 0 m f (lent_of n l)
each_lent m n f l h =
    lent-take n (each_from 0 m f l) (omega (arith, each-length 0 m f l))
    ∙ each_take 0 m n f l
    ∙ ap (each_from 0 m f) (sym (lent-take n l h))

-- ---- a list filled from its element n on, one element after the other
module _ {A : Type 0} (a : A) where
  abbrev pub filled : ℕ → ℕ → List A → List A
  filled n i l = take n l ++ (replicate (i - n) a ++ drop i l)

  pub filled_none : (n : ℕ) (l : List A) → l ≡ filled n n l
  filled_none n l =
      let z : n - n ≡ 0 = omega arith in
      sym (ap (λ (m : ℕ). take n l ++ (replicate m a ++ drop n l)) z ∙ take-append-drop n l)

  pub filled_more : (n i : ℕ) (l : List A) → n ≤ i → i < length l → set (filled n i l) i a ≡ filled n (i + 1) l
  filled_more n i l h k =
      let p = take n l ++ replicate (i - n) a in
      let q : length p ≡ i = omega (arith, length-append (take n l) (replicate (i - n) a), length-take-le n l (omega arith), length-replicate (i - n) a) in
      let m : i - n + 1 ≡ i + 1 - n = omega arith in
      ap (λ (r : List A). set r i a) (sym (append_assoc (take n l) (replicate (i - n) a) (drop i l)) ∙ ap (λ (r : List A). p ++ r) (drop-cons l i a k))
      ∙ set_at p (get_or l i a) (drop (suc i) l) a i q
      ∙ append_assoc (take n l) (replicate (i - n) a) (a ∷ drop (suc i) l)
      ∙ ap (λ (r : List A). take n l ++ r)
      (sym (append_assoc (replicate (i - n) a) (a ∷ []) (drop (suc i) l))
      ∙ ap₂ (λ (x y : List A). x ++ y) (replicate-append-replicate (i - n) 1 a ∙ ap (λ (j : ℕ). replicate j a) m) (ap (λ (j : ℕ). drop j l) (sym (add-one i))))

  pub filled_all : (n i m : ℕ) (l : List A) → length l ≤ i → i - n ≡ m → filled n i l ≡ take n l ++ replicate m a
  filled_all n i m l h k =
      ap₂ (λ (j : ℕ) (r : List A). take n l ++ (replicate j a ++ r)) k (drop_of_length-le l {i = i} h) ∙ ap (λ (r : List A). take n l ++ r) (append-nil (replicate m a))
