-- Where the k-th message of a ring lies.
use mathlib.Core.Path.{◌≡◌, refl, sym, ap, ◌∙◌}
use mathlib.Core.Bool.{Bool, true, false}
use Prim.Native.Nat.{ℕ, suc, ◌+◌, ◌-◌, ◌*◌, ◌%◌, ◌≤◌, ◌<◌}
use native.Mathlib.Nat.{mod-lt, mod-eq_of_lt, mod-eq-sub-mod, mod-add-mod}
use native.Mathlib.Omega.{arith}
use lib.Dec.{ltb}
use borrow.Author.Tests.{ltb-true, ltb-false}
use mathlib.Core.Logic.{◌⊎◌, inl, inr, ⊎_elim}
use Rattle.frs_queue.specs.Queue.{place_of}

module _ (n start k : ℕ) where
  -- in the ring
  pub place_lt : 0 < n → place_of n start k < n
  unfolding place_of
  place_lt h = mod-lt (start + k) h

  -- k cells on from the first, where the ring does not end before
  pub place_near : start % n + k < n → place_of n start k ≡ start % n + k
  unfolding place_of
  place_near h = sym (mod-add-mod start n k) ∙ mod-eq_of_lt h

  -- else from the ring's beginning
  pub place_far : n ≤ start % n + k → start % n + k - n < n → place_of n start k ≡ start % n + k - n
  unfolding place_of
  place_far h l = sym (mod-add-mod start n k) ∙ mod-eq-sub-mod h ∙ mod-eq_of_lt l

-- the one or the other
place_either : (n start k : ℕ) → 0 < n → k < n → (place_of n start k ≡ start % n + k) ⊎ (place_of n start k + n ≡ start % n + k)
place_either n start k p h = by (ltb (start % n + k) n) refl
  where
    by : (t : Bool) → ltb (start % n + k) n ≡ t → (place_of n start k ≡ start % n + k) ⊎ (place_of n start k + n ≡ start % n + k)
    by true e = inl (place_near n start k (ltb-true _ _ e))
    by false e =
        let l = mod-lt start p in
        let far = ltb-false (start % n + k) n e in
        inr (omega (arith, place_far n start k far (omega arith)))

-- two messages never lie in one cell
pub place_differs : (n start j k : ℕ) → j < k → k < n → place_of n start j ≡ place_of n start k → ⊥
place_differs n start j k l h e =
    let i = mod-lt start {m = n} (omega arith) in
    ⊎_elim
    (λ x. ⊎_elim (λ y. omega arith) (λ y. omega arith) (place_either n start k (omega arith) h))
    (λ x. ⊎_elim (λ y. omega arith) (λ y. omega arith) (place_either n start k (omega arith) h))
    (place_either n start j (omega arith) (omega arith))

-- one message on from the oldest is the oldest of a ring that starts one cell on
pub place_moved : (n start k : ℕ) → place_of n (place_of n start 1) k ≡ place_of n start (suc k)
unfolding place_of
place_moved n start k = let e : start + 1 + k ≡ start + suc k = omega arith in mod-add-mod (start + 1) n k ∙ ap (λ (m : ℕ). m % n) e

-- of a depth only the low 12 bits reach the word of the register
pub low_bits : (depth cell : ℕ) → (depth % 4096 * 1048576 + cell) % 4294967296 ≡ (depth * 1048576 + cell) % 4294967296
low_bits depth cell = omega arith
