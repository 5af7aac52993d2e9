-- Numbers as bytes, low byte first.
use Rattle.std.specs.Prelude.{ℕ, zero, suc, ◌+◌, ◌*◌, ◌/◌, ◌%◌, Bool, List, [], ◌∷◌, ◌++◌, eqb, take, drop}
use Rattle.bits.specs.Bytes.{byte_at}
use Rattle.times.specs.declared.Nanos.{Nanos}

-- the n low bytes of a number
unfoldable pub low_first : (n x : ℕ) → List ℕ
low_first zero x = []
low_first (suc n) x = x % 256 ∷ low_first n (x / 256)

-- the number that bytes are
unfoldable pub number_of : List ℕ → ℕ
number_of [] = 0
number_of (b ∷ l) = b + 256 * number_of l

-- the number in the n bytes from an index on; bytes past the end count as 0
unfoldable pub number_at : (n at : ℕ) → List ℕ → ℕ
number_at n at l = number_of (take n (drop at l))

-- a time from an index on; yes is 1
abbrev pub time_at : ℕ → List ℕ → Nanos
time_at at l = record { 0 = number_at 8 at l }

abbrev pub yes : ℕ → List ℕ → Bool
yes at l = eqb (byte_at l at) 1

-- words, four bytes each
unfoldable pub word_bytes : List ℕ → List ℕ
word_bytes [] = []
word_bytes (w ∷ l) = low_first 4 w ++ word_bytes l

-- the first n words
unfoldable pub words_in : ℕ → List ℕ → List ℕ
words_in zero l = []
words_in (suc n) l = number_at 4 0 l ∷ words_in n (drop 4 l)
