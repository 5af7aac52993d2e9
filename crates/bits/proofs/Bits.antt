-- Code on whole words, bit by bit: what each operator does to bit k, and that a number is known by its bits.
use mathlib.Core.Path.{◌≡◌, refl, sym, ap, ap₂, ◌∙◌, subst}
use mathlib.Core.Bool.{Bool, true, false, not, ◌&&◌, ◌||◌}
use Prim.Native.Nat.{ℕ, zero, suc, ◌+◌, ◌-◌, ◌*◌, ◌/◌, ◌%◌, ◌^◌, ◌≤◌, ◌<◌, min, max}
use native.Mathlib.Nat.{mod-lt, zero-lt-suc, pow-suc, mod-eq_of_lt, eq-or-lt_of_le, div-eq_of_lt, lt_of_lt_of_le, zero-mul, one-mul}
use native.Mathlib.Numerals.{one-add}
use native.Mathlib.Omega.{arith}
use mathlib.Core.Logic.{⊎_elim}
use lib.Dec.{eqb, lit<}
use borrow.Author.Tests.{eq-eqb, ne_eqb, not-true, not-false}
use lib.Arith.{digits_mod, digits_lt}
use lib.Pow.{pow_pos, pow_mono, split, high, low, shr-shr, shr_lt, field, mod-mod-pow, ones_sub-lt}
use lib.Bits.{bit_and, bit_or, and_step, or_step, and_shr, or_shr, and_lt, or_lt, and_high}
use mir.Syntax.{w32}
use mir.Val.{Fits}
use Rattle.bits.specs.Bits.{bit, one, number, word}

two_pos : 0 < 2
two_pos = zero-lt-suc 1

one_lt : (b : Bool) → one b < 2
one_lt true = omega arith
one_lt false = omega arith

pub one_most : (b : Bool) → one b ≤ 1
one_most true = omega arith
one_most false = omega arith

-- a digit is 0 or 1
digit_of_lem : (d : ℕ) → d < 2 → d ≡ one (eqb d 1)
digit_of_lem zero h = refl
digit_of_lem (suc zero) h = refl
digit_of_lem (suc (suc d)) h = absurd (omega arith)

pub is_one : (b : Bool) → eqb (one b) 1 ≡ b
is_one true = refl
is_one false = refl

-- the lowest bit after others
last_bit : (q : ℕ) (b : Bool) → eqb ((q * 2 + one b) % 2) 1 ≡ b
last_bit q b = ap (λ (d : ℕ). eqb d 1) (digits_mod q (one_lt b)) ∙ is_one b

-- ---- and, or

-- an operator that goes digit by digit, with f on the digits, goes bit by bit, with g on the bits
module _ (op f : ℕ → ℕ → ℕ) (g : Bool → Bool → Bool)
    (shr : (a b k : ℕ) → op a b / 2 ^ k ≡ op (a / 2 ^ k) (b / 2 ^ k))
    (step : (a b : ℕ) → op a b ≡ op (a / 2) (b / 2) * 2 + f (a % 2) (b % 2))
    (digit : (p q : Bool) → f (one p) (one q) ≡ one (g p q)) where
  bit_op : (a b k : ℕ) → bit (op a b) k ≡ g (bit a k) (bit b k)
  unfolding bit
  bit_op a b k =
      let x = a / 2 ^ k in
      let y = b / 2 ^ k in
      ap (λ (n : ℕ). eqb (n % 2) 1) (shr a b k ∙ step x y
      ∙ ap (λ (n : ℕ). op (x / 2) (y / 2) * 2 + n)
      (ap₂ f (digit_of_lem (x % 2) (mod-lt x two_pos)) (digit_of_lem (y % 2) (mod-lt y two_pos)) ∙ digit (eqb (x % 2) 1) (eqb (y % 2) 1)))
      ∙ last_bit (op (x / 2) (y / 2)) (g (eqb (x % 2) 1) (eqb (y % 2) 1))

min_digit : (p q : Bool) → min (one p) (one q) ≡ one (p && q)
min_digit true true = refl
min_digit true false = refl
min_digit false true = refl
min_digit false false = refl

max_digit : (p q : Bool) → max (one p) (one q) ≡ one (p || q)
max_digit true true = refl
max_digit true false = refl
max_digit false true = refl
max_digit false false = refl

pub bit_and_lem : (a b k : ℕ) → bit (bit_and a b) k ≡ (bit a k && bit b k)
bit_and_lem = bit_op bit_and min (λ p q. p && q) and_shr and_step min_digit

pub bit_or_lem : (a b k : ℕ) → bit (bit_or a b) k ≡ (bit a k || bit b k)
bit_or_lem = bit_op bit_or max (λ p q. p || q) or_shr or_step max_digit

-- ---- not

bit_half : (a k : ℕ) → bit a (suc k) ≡ bit (a / 2) k
unfolding bit
bit_half a k = ap (λ (n : ℕ). eqb (n % 2) 1) (ap (λ (e : ℕ). a / 2 ^ e) (sym (one-add k)) ∙ sym (shr-shr a 1 k))

bit-zero : (a : ℕ) → bit a 0 ≡ eqb (a % 2) 1
unfolding bit
bit-zero a = let e : a / 1 ≡ a = omega arith in ap (λ (n : ℕ). eqb (n % 2) 1) e

-- of two digits that add up to 1 each is set where the other is not
other : (d e : ℕ) → e + d ≡ 1 → eqb e 1 ≡ not (eqb d 1)
other zero e p = let q : e ≡ 1 = omega arith in ap (λ (n : ℕ). eqb n 1) q
other (suc zero) e p = let q : e ≡ 0 = omega arith in ap (λ (n : ℕ). eqb n 1) q
other (suc (suc d)) e p = absurd (omega arith)

-- all n bits turned, as `!a` turns them
pub bit_not : (n a k : ℕ) → a < 2 ^ n → k < n → bit ((2 ^ n - 1) - a) k ≡ not (bit a k)
bit_not zero a k ha hk = absurd (omega arith)
bit_not (suc n) a zero ha hk =
    let p = pow-suc 2 n in
    bit-zero ((2 ^ suc n - 1) - a) ∙ other (a % 2) (((2 ^ suc n - 1) - a) % 2) (omega arith) ∙ ap not (sym (bit-zero a))
bit_not (suc n) a (suc k) ha hk =
    let p = pow-suc 2 n in
    let e : ((2 ^ suc n - 1) - a) / 2 ≡ (2 ^ n - 1) - a / 2 = omega arith in
    bit_half ((2 ^ suc n - 1) - a) k ∙ ap (λ (m : ℕ). bit m k) e ∙ bit_not n (a / 2) k (omega arith) (omega arith) ∙ ap not (sym (bit_half a k))

-- ---- a number by its bits

-- what is left below 2 ^ n has the n low bits
pub bit-low : (x n k : ℕ) → k < n → bit (x % 2 ^ n) k ≡ bit x k
unfolding bit
bit-low x n k h =
    let j : ℕ = n - suc k in
    let e : n ≡ (j + 1) + k = omega arith in
    ap (λ (m : ℕ). eqb (m % 2) 1) (ap (λ (m : ℕ). x % 2 ^ m / 2 ^ k) e ∙ field x (j + 1) k) ∙ ap (λ (m : ℕ). eqb m 1) (mod-mod-pow (x / 2 ^ k) j 1)

pub number_lt : (n : ℕ) (f : ℕ → Bool) → number n f < 2 ^ n
unfolding number
number_lt zero f = omega arith
number_lt (suc n) f = omega (arith, digits_lt (one_lt (f n)) (number_lt n f), pow-suc 2 n)

pub bit-number : (n : ℕ) (f : ℕ → Bool) (k : ℕ) → k < n → bit (number n f) k ≡ f k
unfolding number bit
bit-number zero f k h = absurd (omega arith)
bit-number (suc n) f k h =
    let x : ℕ = one (f n) * 2 ^ n + number n f in
    ⊎_elim
    (λ e. let m : k ≡ n = omega arith in
    ap (bit x) m ∙ ap (λ (d : ℕ). eqb (d % 2) 1) (high (one (f n)) n (number_lt n f)) ∙ ap (λ (d : ℕ). eqb d 1) (mod-eq_of_lt (one_lt (f n))) ∙ is_one (f n) ∙ ap f (sym m))
    (λ l. sym (bit-low x n k (omega arith)) ∙ ap (λ (m : ℕ). bit m k) (low (one (f n)) n (number_lt n f)) ∙ bit-number n f k (omega arith))
    (eq-or-lt_of_le h)

-- a number of n bits is the one that its bits say
pub by_bits : (n x : ℕ) (f : ℕ → Bool) → x < 2 ^ n → ((k : ℕ) → k < n → bit x k ≡ f k) → x ≡ number n f
unfolding number bit
by_bits zero x f hx h = omega arith
by_bits (suc n) x f hx h =
    let q : x / 2 ^ n < 2 = shr_lt 1 n (omega (arith, ap (λ (m : ℕ). 2 ^ m) (one-add n))) in
    let e : x / 2 ^ n ≡ one (f n) = digit_of_lem (x / 2 ^ n) q ∙ ap (λ (m : ℕ). one (eqb m 1)) (sym (mod-eq_of_lt q)) ∙ ap one (h n (omega arith)) in
    sym (split x n) ∙ ap₂ (λ (a b : ℕ). a * 2 ^ n + b) e
    (by_bits n (x % 2 ^ n) f (mod-lt x (pow_pos n)) (λ k l. bit-low x n k l ∙ h k (omega arith)))

-- ---- words: what code on whole words computes is known bit by bit

-- x is the word whose bit k is f k
pub record Is (x : ℕ) (f : ℕ → Bool) : Type 0 where
  pub below : x < 2 ^ 32
  pub bits : (k : ℕ) → k < 32 → bit x k ≡ f k

-- a parameter, and a number that equals another
pub is_arg : {x : ℕ} → Fits w32 x → Is x (bit x)
is_arg h = record { below = h.fits; bits = λ k l. refl }

pub is_of_lem : {x y : ℕ} → x ≡ y → x < 2 ^ 32 → Is x (bit y)
is_of_lem e h = record { below = h; bits = λ k l. ap (λ (n : ℕ). bit n k) e }

pub is_word : {x : ℕ} {f : ℕ → Bool} → x ≡ word f → Is x f
unfolding word
is_word {x} {f} e = subst (λ (n : ℕ). Is n f) (sym e) (record { below = number_lt 32 f; bits = bit-number 32 f })

pub is_and : {x y : ℕ} {f g : ℕ → Bool} → Is x f → Is y g → Is (bit_and x y) (λ k. f k && g k)
is_and {x} {y} p q = record { below = and_lt 32 x y p.below q.below; bits = λ k l. bit_and_lem x y k ∙ ap₂ (λ (a b : Bool). a && b) (p.bits k l) (q.bits k l) }

pub is_or : {x y : ℕ} {f g : ℕ → Bool} → Is x f → Is y g → Is (bit_or x y) (λ k. f k || g k)
is_or {x} {y} p q = record { below = or_lt 32 x y p.below q.below; bits = λ k l. bit_or_lem x y k ∙ ap₂ (λ (a b : Bool). a || b) (p.bits k l) (q.bits k l) }

pub is_not : {x : ℕ} {f : ℕ → Bool} → Is x f → Is ((2 ^ 32 - 1) - x) (λ k. not (f k))
is_not {x} p = record { below = ones_sub-lt 32 x; bits = λ k l. bit_not 32 x k p.below l ∙ ap not (p.bits k l) }

-- code that is known bit by bit is the word that a definition gives bit by bit, where the two agree at each bit
pub is_the : {x : ℕ} {f g : ℕ → Bool} → Is x f → ((k : ℕ) → k < 32 → f k ≡ g k) → x ≡ word g
unfolding word
is_the {x} {g = g} p e = by_bits 32 x g p.below (λ k l. p.bits k l ∙ e k l)

-- a word that is given bit by bit has those bits, and is known by them
pub bit_word : (f : ℕ → Bool) (k : ℕ) → k < 32 → bit (word f) k ≡ f k
bit_word f k h = (is_word refl).bits k h

pub word_ext : {f g : ℕ → Bool} → ((k : ℕ) → k < 32 → f k ≡ g k) → word f ≡ word g
word_ext e = is_the (is_word refl) e

-- ---- a test of one bit

-- a number below 2 ^ n has no bit from n on
pub bit_above : (x n k : ℕ) → x < 2 ^ n → n ≤ k → bit x k ≡ false
unfolding bit
bit_above x n k hx h =
    let e : x / 2 ^ k ≡ 0 = div-eq_of_lt (lt_of_lt_of_le hx (pow_mono h)) in
    ap (λ (m : ℕ). eqb (m % 2) 1) e

-- a digit times what is not 0 is 0 where the digit is
digit_times : (d : ℕ) → d < 2 → (p : ℕ) → 0 < p → eqb (d * p) 0 ≡ not (eqb d 1)
digit_times zero h p q = ap (λ (n : ℕ). eqb n 0) (zero-mul p)
digit_times (suc zero) h p q = ap (λ (n : ℕ). eqb n 0) (one-mul p) ∙ ne_eqb p 0 (λ e. omega arith)
digit_times (suc (suc d)) h p q = absurd (omega arith)

-- `x & 2^k == 0` where bit k is not set
pub bit_test : (x k : ℕ) → eqb (bit_and x (2 ^ k)) 0 ≡ not (bit x k)
unfolding bit
bit_test x k =
    let e : 2 ^ k ≡ 2 ^ (1 + k) - 2 ^ k = omega (arith, ap (λ (m : ℕ). 2 ^ m) (one-add k), pow-suc 2 k) in
    let d : x / 2 ^ k % 2 < 2 = mod-lt (x / 2 ^ k) two_pos in
    ap (λ (m : ℕ). eqb (bit_and x m) 0) e ∙ ap (λ (m : ℕ). eqb m 0) (and_high x 1 k) ∙ digit_times (x / 2 ^ k % 2) d (2 ^ k) (pow_pos k)

-- a word is 0 where each bit is 0, and has no bit set where it is 0
pub bit_none : (k : ℕ) → bit 0 k ≡ false
bit_none k = bit_above 0 0 k (zero-lt-suc 0) (omega arith)

pub word_none : {f : ℕ → Bool} → ((k : ℕ) → k < 32 → f k ≡ false) → word f ≡ 0
word_none e = sym (is_the {f = bit 0} (is_of_lem refl (lit< tt)) (λ k l. bit_none k ∙ sym (e k l)))

twice : (b : Bool) → not (not b) ≡ b
twice true = refl
twice false = refl

pub bit_clear : (x k : ℕ) → bit_and x (2 ^ k) ≡ 0 → bit x k ≡ false
bit_clear x k e = not-true (bit x k) (sym (bit_test x k) ∙ eq-eqb (bit_and x (2 ^ k)) 0 e)

pub bit-set : (x k : ℕ) → (bit_and x (2 ^ k) ≡ 0 → ⊥) → bit x k ≡ true
bit-set x k e = not-false (bit x k) (sym (bit_test x k) ∙ ne_eqb (bit_and x (2 ^ k)) 0 e)

-- `x & 2^k != 0` where bit k is set
pub bit_test_set : (x k : ℕ) → not (eqb (bit_and x (2 ^ k)) 0) ≡ bit x k
bit_test_set x k = ap not (bit_test x k) ∙ twice (bit x k)

-- two numbers that have the same n low bits have the same remainder
pub low_ext : (n x y : ℕ) → ((k : ℕ) → k < n → bit x k ≡ bit y k) → x % 2 ^ n ≡ y % 2 ^ n
low_ext n x y e =
    by_bits n (x % 2 ^ n) (bit y) (mod-lt x (pow_pos n)) (λ k l. bit-low x n k l ∙ e k l)
    ∙ sym (by_bits n (y % 2 ^ n) (bit y) (mod-lt y (pow_pos n)) (λ k l. bit-low y n k l))
