-- Laws of a test at every number below a bound.
use mathlib.Core.Path.{◌≡◌, refl, sym, ◌∙◌}
use Rattle.std.specs.Prelude.{IsTrue, ◌↔◌}
use mathlib.Core.Bool.{Bool, true, false, true≢false}
use mathlib.Core.Logic.{⊎_elim}
use Prim.Native.Nat.{ℕ, zero, suc, ◌+◌, ◌<◌}
use native.Mathlib.Nat.{eq-or-lt_of_le}
use native.Mathlib.Numerals.{add-one}
use native.Mathlib.Omega.{arith}
use Rattle.bits.specs.Every.{every}
use Rattle.bits.proofs.Tests.{both, both_left, both_right, untrue, same_test}

pub every_at : (n : ℕ) (p : ℕ → Bool) → every n p ≡ true → (i : ℕ) → i < n → p i ≡ true
unfolding every
every_at zero p e i h = absurd (omega arith)
every_at (suc n) p e i h =
    ⊎_elim
    (λ (q : suc i ≡ suc n). let m : i ≡ n = omega arith in rw m (both_right (every n p) (p n) e))
    (λ (k : suc i < suc n). every_at n p (both_left (every n p) (p n) e) i (omega arith))
    (eq-or-lt_of_le h)

pub every_of : (n : ℕ) (p : ℕ → Bool) → ((i : ℕ) → i < n → p i ≡ true) → every n p ≡ true
unfolding every
every_of zero p h = refl
every_of (suc n) p h = both (every n p) (p n) (every_of n p (λ i k. h i (omega arith))) (h n (omega arith))

pub every_none : (p : ℕ → Bool) → every 0 p ≡ true
unfolding every
every_none p = refl

pub every_more : (n : ℕ) (p : ℕ → Bool) → every n p ≡ true → p n ≡ true → every (n + 1) p ≡ true
unfolding every
every_more n p e f = rw add-one (both (every n p) (p n) e f)

pub every_not : (n : ℕ) (p : ℕ → Bool) (i : ℕ) → i < n → p i ≡ false → every n p ≡ false
every_not n p i h e = untrue (every n p) (λ q. true≢false (sym (every_at n p q i h) ∙ e))

-- a Bool that tells whether p holds at every number below n
pub every_is : (n : ℕ) (p : ℕ → Bool) (b : Bool) → (IsTrue b ↔ ((i : ℕ) → i < n → p i ≡ true)) → b ≡ every n p
every_is n p b h = same_test b (every n p) (λ e. every_of n p (h.0 e)) (λ e. h.1 (every_at n p e))
