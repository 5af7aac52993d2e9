-- Numbers in hex and decimal.
use Prim.Native.Nat.{ℕ, zero, suc, ◌+◌, ◌-◌, ◌*◌, ◌/◌, ◌%◌, ◌^◌, ◌≤◌, ◌<◌}
use mathlib.Core.Path.{◌≡◌, refl, ap}
use mathlib.Core.Bool.{Bool, true, false}
use mathlib.Core.List.{List, [], ◌∷◌, ◌++◌}
use native.Mathlib.Omega.{arith}
use native.Mathlib.Numerals.{add-one}
use native.Mathlib.Nat.{div-div-eq-div-mul, div-eq_of_lt, div-lt_iff_lt-mul, le-div_iff_mul-le, mod-eq_of_lt, mod-lt, pow-suc, pow-le-pow_right}
use borrow.Author.Tests.{lt-ltb, le-ltb, leb-true, leb-false}
use lib.Dec.{leb}
use Rattle.io.specs.Digits.{hex_digit_ascii, last_digits, IsDigitCount}
use Rattle.text_line.specs.Text.{glyph_of, hex_of, decimal_from}

-- ---- hex

pow_16 : (k : ℕ) → 2 ^ (4 * k) ≡ 16 ^ k
pow_16 zero = refl
pow_16 (suc k) =
    let e : 4 * suc k ≡ suc (suc (suc (suc (4 * k)))) = omega arith in
    let h : 2 ^ (4 * k) ≡ 16 ^ k = pow_16 k in
    rw (e, pow-suc 2 (suc (suc (suc (4 * k)))), pow-suc 2 (suc (suc (4 * k))), pow-suc 2 (suc (4 * k)), pow-suc 2 (4 * k), pow-suc 16 k) (omega (arith, h))

-- a digit by a shift
pub shifted : (n k : ℕ) → n / 2 ^ (4 * k) % 16 ≡ n / 16 ^ k % 16
shifted n k = rw (pow_16 k) refl

-- above the sixteenth all digits are 0
pub none_above : (n k : ℕ) → n < 2 ^ 64 → 16 ≤ k → 0 ≡ n / 16 ^ k % 16
none_above n k h g =
    let a : 16 ^ 16 ≤ 16 ^ k = pow-le-pow_right (omega arith) g in
    let b : n < 16 ^ k = omega arith in
    let e : n / 16 ^ k ≡ 0 = div-eq_of_lt b in
    rw e refl

-- the highest i digits, and one more
pub next_digit : (k n i : ℕ) → i < k → hex_of i (n / 16 ^ (k - i)) ++ (glyph_of (n / 16 ^ (k - 1 - i) % 16) ∷ []) ≡ hex_of (i + 1) (n / 16 ^ (k - (i + 1)))
unfolding hex_of
next_digit k n i h =
    let e : k - i ≡ suc (k - 1 - i) = omega arith in
    let f : k - (i + 1) ≡ k - 1 - i = omega arith in
    rw (e, f, add-one, pow-suc 16 (k - 1 - i), div-div-eq-div-mul n (16 ^ (k - 1 - i)) 16) refl

pub all_digits : (k i n : ℕ) → i ≡ k → hex_of i (n / 16 ^ (k - i)) ≡ hex_of k n
all_digits k i n e =
    let z : k - k ≡ 0 = omega arith in
    let f : n / 16 ^ 0 ≡ n = omega arith in
    rw (e, z, f) refl

-- ---- decimal

glyph_same : (d : ℕ) → d < 10 → hex_digit_ascii d ≡ glyph_of d
unfolding glyph_of
glyph_same d h = simp (lt-ltb d 10 h)

small : (n : ℕ) → n < 10 → hex_digit_ascii (n % 10) ∷ [] ≡ glyph_of n ∷ []
small n h = let e : n % 10 ≡ n = mod-eq_of_lt h in rw (e, glyph_same n h)

pow_pos : (k : ℕ) → 0 < 10 ^ k
pow_pos zero = omega arith
pow_pos (suc k) = let h : 0 < 10 ^ k = pow_pos k in rw (pow-suc 10 k) (omega arith)

lower : (k n : ℕ) → 10 ^ suc k ≤ n → 10 ^ (suc k - 1) * 10 ≤ n
lower k n h =
    let e : suc k - 1 ≡ k = omega arith in
    rw e (rw (pow-suc 10 k) at h)

-- the fewest digits that hold a number are those of its decimal form
pub digits_decimal : (k most n : ℕ) → k ≤ most → IsDigitCount 10 1 n k → last_digits 10 k n ≡ decimal_from most n
unfolding decimal_from
digits_decimal zero most n h f = absurd (omega (arith, f.0))
digits_decimal (suc k) zero n h f = absurd (omega arith)
digits_decimal (suc zero) (suc most) n h f =
    let s : n < 10 = f.1 in
    rw (lt-ltb n 10 s) (small n s)
digits_decimal (suc (suc k)) (suc most) n h f =
    let m : suc (suc k) - 1 ≡ suc k = omega arith in
    let p : 10 ^ suc k ≤ n = rw m at (f.2 (omega arith)) in
    let q : 0 < 10 ^ k = pow_pos k in
    let e : 10 ^ suc k ≡ 10 ^ k * 10 = pow-suc 10 k in
    let g : 10 ^ suc (suc k) ≡ 10 ^ suc k * 10 = pow-suc 10 (suc k) in
    let t : 10 ≤ n = omega arith in
    rw (le-ltb n 10 t, glyph_same (n % 10) (mod-lt n (omega arith)))
    (ap (λ (l : List ℕ). l ++ (glyph_of (n % 10) ∷ []))
    (digits_decimal (suc k) most (n / 10) (omega arith) (
      omega arith,
      (div-lt_iff_lt-mul {k = 10} {x = n} {y = 10 ^ suc k} (omega arith)).1 (rw g at f.1),
      λ r. (le-div_iff_mul-le {k = 10} {x = 10 ^ (suc k - 1)} {y = n} (omega arith)).1 (lower k n p),
    )))

-- 20 digits hold every number below 2^64
by_test : (n k : ℕ) → n < 2 ^ 64 → IsDigitCount 10 1 n k → (t : Bool) → leb k 20 ≡ t → k ≤ 20
by_test n k h f true e = leb-true k 20 e
by_test n k h f false e =
    let g : 20 < k = leb-false k 20 e in
    let q : 20 ≤ k - 1 = omega arith in
    let a : 10 ^ 20 ≤ 10 ^ (k - 1) = pow-le-pow_right (omega arith) q in
    let b : 10 ^ (k - 1) ≤ n = f.2 (omega arith) in
    absurd (omega arith)

pub at_most_20 : (n k : ℕ) → n < 2 ^ 64 → IsDigitCount 10 1 n k → k ≤ 20
at_most_20 n k h f = by_test n k h f (leb k 20) refl
