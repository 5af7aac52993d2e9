-- Numbers are read back from their bytes.
use Prim.Native.Nat.{ℕ, zero, suc, ◌+◌, ◌*◌, ◌/◌, ◌<◌}
use mathlib.Core.Path.{◌≡◌, refl, ap}
use mathlib.Core.List.{List, [], ◌∷◌, ◌++◌}
use native.Mathlib.Omega.{arith}
use lib.ListN.{length, take, drop, get_or}
use Rattle.state_layout.specs.Numbers.{low_first, number_of, number_at, word_bytes, words_in}

pub length-low : (n x : ℕ) → length (low_first n x) ≡ n
unfolding low_first
length-low zero x = refl
length-low (suc n) x = ap suc (length-low n (x / 256))

-- how many numbers n bytes have room for
abbrev pub room : ℕ → ℕ
room zero = 1
room (suc n) = 256 * room n

pub number-low : (n x : ℕ) → x < room n → number_of (low_first n x) ≡ x
unfolding low_first number_of
number-low zero x h = omega (arith, h)
number-low (suc n) x h = let e = number-low n (x / 256) (omega (arith, h)) in omega (arith, e)

-- ---- As sums of bytes
pub two_bytes : (l : List ℕ) → number_of (take 2 l) ≡ get_or l 0 0 + 256 * get_or l 1 0
unfolding number_of
two_bytes [] = refl
two_bytes (a ∷ []) = refl
two_bytes (a ∷ b ∷ l) = omega arith

pub four_bytes : (l : List ℕ) → number_of (take 4 l) ≡ get_or l 0 0 + 256 * get_or l 1 0 + 65536 * get_or l 2 0 + 16777216 * get_or l 3 0
unfolding number_of
four_bytes [] = refl
four_bytes (a ∷ []) = omega arith
four_bytes (a ∷ b ∷ []) = omega arith
four_bytes (a ∷ b ∷ c ∷ []) = omega arith
four_bytes (a ∷ b ∷ c ∷ d ∷ l) = omega arith

pub eight_bytes : (l : List ℕ) → number_of (take 8 l) ≡ number_of (take 4 l) + 4294967296 * number_of (take 4 (drop 4 l))
unfolding number_of
eight_bytes [] = refl
eight_bytes (a ∷ []) = omega arith
eight_bytes (a ∷ b ∷ []) = omega arith
eight_bytes (a ∷ b ∷ c ∷ []) = omega arith
eight_bytes (a ∷ b ∷ c ∷ d ∷ l) = omega arith

-- ---- Words
pub length_words : (l : List ℕ) → length (word_bytes l) ≡ 4 * length l
unfolding word_bytes low_first
length_words [] = refl
length_words (w ∷ l) = omega (arith, length_words l)

pub length_words_in : (n : ℕ) (l : List ℕ) → length (words_in n l) ≡ n
unfolding words_in
length_words_in zero l = refl
length_words_in (suc n) l = ap suc (length_words_in n (drop 4 l))

-- WORDS BACK, whatever follows them
pub words_back : (l rest : List ℕ) → ((i : ℕ) → i < length l → get_or l i 0 < 4294967296) → words_in (length l) (word_bytes l ++ rest) ≡ l
unfolding word_bytes words_in low_first number_at number_of
words_back [] rest h = refl
words_back (w ∷ l) rest h = λ i. number-low 4 w (h 0 (omega arith)) i ∷ words_back l rest (λ j k. h (suc j) (omega (arith, k))) i
