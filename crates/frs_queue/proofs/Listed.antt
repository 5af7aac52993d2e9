-- A list by its elements: by equal elements, with one more, and from its head.
use mathlib.Core.Path.{◌≡◌, refl, ap, ap₂}
use mathlib.Core.List.{List, [], ◌∷◌, ◌++◌}
use Prim.Native.Nat.{ℕ, zero, suc, ◌+◌, ◌<◌}
use native.Mathlib.Numerals.{add-one}
use native.Mathlib.Omega.{arith}
use Rattle.bits.specs.Lists.{listed}

pub listed_same : (n : ℕ) (f g : ℕ → ℕ) → ((k : ℕ) → k < n → f k ≡ g k) → listed n f ≡ listed n g
unfolding listed
listed_same zero f g e = refl
listed_same (suc n) f g e = ap₂ (λ (l : List ℕ) (x : ℕ). l ++ (x ∷ [])) (listed_same n f g (λ k h. e k (omega arith))) (e n (omega arith))

pub listed_more : (n : ℕ) (f : ℕ → ℕ) → listed (n + 1) f ≡ listed n f ++ (f n ∷ [])
unfolding listed
listed_more n f = rw add-one

pub listed_head : (n : ℕ) (f : ℕ → ℕ) → listed (suc n) f ≡ f 0 ∷ listed n (λ k. f (suc k))
unfolding listed
listed_head zero f = refl
listed_head (suc n) f = ap (λ (l : List ℕ). l ++ (f (suc n) ∷ [])) (listed_head n f)
