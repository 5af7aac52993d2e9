-- A number, bit by bit.
use Rattle.std.specs.Prelude.{ℕ, zero, suc, ◌+◌, ◌*◌, ◌/◌, ◌%◌, ◌^◌, Bool, true, false, eqb}

-- bit k of x is set
unfoldable pub bit : ℕ → ℕ → Bool
bit x k = eqb (x / 2 ^ k % 2) 1

abbrev pub one : Bool → ℕ
one true = 1
one false = 0

-- the number whose bit k is f k, for each k below n, and that has no other bit: the sum of 2 ^ k over those k where f k is true
unfoldable pub number : ℕ → (ℕ → Bool) → ℕ
number zero f = 0
number (suc n) f = one (f n) * 2 ^ n + number n f

-- a word of 32 bits, each given by f
unfoldable pub word : (ℕ → Bool) → ℕ
word f = number 32 f

-- bit k lies in a byte lane that is enabled: bit 0 of the enables is for bits 7:0, bit 3 for bits 31:24
abbrev pub enabled : (enables k : ℕ) → Bool
enabled enables k = bit enables (k / 8)
