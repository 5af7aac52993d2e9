-- Laws of lists of bytes.
use Prim.Native.Nat.{ℕ, zero, suc, ◌<◌}
use native.Mathlib.Omega.{arith}
use mathlib.Core.List.{List, [], ◌∷◌, ◌++◌}
use lib.ListN.{length, get_or, take, drop, replicate}
use Rattle.bits.specs.Bytes.{Bytes}

-- each element below 256, as code knows it of a slice or an array
pub bytes_of : (l : List ℕ) → ((i : ℕ) → i < length l → get_or l i 0 < 256) → Bytes l
bytes_of [] h = tt
bytes_of (b ∷ bs) h = (h 0 (omega arith), bytes_of bs (λ i j. h (suc i) (omega arith)))

pub byte_at_lem : (l : List ℕ) (i : ℕ) → Bytes l → get_or l i 0 < 256
byte_at_lem [] i h = omega arith
byte_at_lem (b ∷ bs) zero h = h.0
byte_at_lem (b ∷ bs) (suc i) h = byte_at_lem bs i h.1

pub bytes_append : (a b : List ℕ) → Bytes a → Bytes b → Bytes (a ++ b)
bytes_append [] b h j = j
bytes_append (x ∷ a) b h j = (h.0, bytes_append a b h.1 j)

pub bytes_take : (n : ℕ) (l : List ℕ) → Bytes l → Bytes (take n l)
bytes_take zero l h = tt
bytes_take (suc n) [] h = tt
bytes_take (suc n) (b ∷ bs) h = (h.0, bytes_take n bs h.1)

pub bytes_drop : (n : ℕ) (l : List ℕ) → Bytes l → Bytes (drop n l)
bytes_drop zero l h = h
bytes_drop (suc n) [] h = tt
bytes_drop (suc n) (b ∷ bs) h = bytes_drop n bs h.1

-- bytes with zeros after them are bytes
zeros : (n : ℕ) → Bytes (replicate n 0)
zeros zero = tt
zeros (suc n) = (omega arith, zeros n)

pub bytes_padded : (r : List ℕ) (n : ℕ) → Bytes r → Bytes (r ++ replicate n 0)
bytes_padded r n b = bytes_append r (replicate n 0) b (zeros n)
