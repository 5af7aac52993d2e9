-- Numbers: two that are compared, the smaller of two, and a number by its four bytes.
use mathlib.Core.Path.{◌≡◌, refl, sym, ◌∙◌}
use Prim.Native.Nat.{ℕ, ◌+◌, ◌*◌, ◌/◌, ◌%◌, ◌≤◌, ◌<◌}
use native.Mathlib.Nat.{div-div-eq-div-mul}
use native.Mathlib.Omega.{arith}
use lib.Dec.{leb}
use borrow.Author.Tests.{leb-true, leb-false}
use Rattle.bits.proofs.Tests.{split}

pub by_le : {P : Type 0} (n m : ℕ) → (n ≤ m → P) → (m < n → P) → P
by_le n m f g = split (leb n m) (λ e. f (leb-true n m e)) (λ e. g (leb-false n m e))

-- a number below 2^32 is what its four bytes say, low byte first
pub four_bytes : (n : ℕ) → n < 4294967296 → n % 256 + 256 * (n / 256 % 256) + 65536 * (n / 65536 % 256) + 16777216 * (n / 16777216 % 256) ≡ n
four_bytes n h =
    let a : n / 65536 ≡ n / 256 / 256 = sym (div-div-eq-div-mul n 256 256) in
    let b : n / 16777216 ≡ n / 256 / 256 / 256 = sym (div-div-eq-div-mul (n / 256) 256 256 ∙ div-div-eq-div-mul n 256 65536) in
    rw (a, b) (sums n (n / 256) (n / 256 / 256) (n / 256 / 256 / 256) refl refl refl h)
  where
    sums : (n p q r : ℕ) → n / 256 ≡ p → p / 256 ≡ q → q / 256 ≡ r → n < 4294967296 → n % 256 + 256 * (p % 256) + 65536 * (q % 256) + 16777216 * (r % 256) ≡ n
    sums n p q r d e f h = omega arith
