-- The format of a trace: records one after the other, each a byte of kind and then a body.
use Rattle.std.specs.Prelude.{ℕ, ◌-◌, Bool, true, false, ◌&&◌, List, [], ◌∷◌, ◌++◌, length, get_or, take, replicate, leb, ltb}
-- each number of a list is a byte
pub use Rattle.bits.specs.Bytes.{Bytes}

infixr 10 when◌then◌else◌
abbrev pub when◌then◌else◌ : {A : Type 0} → Bool → A → A → A
when◌then◌else◌ true a b = a
when◌then◌else◌ false a b = b

-- ---- The table of kinds
-- How many bytes a record has, its byte of kind with them, by kind; 0 where there is no such kind.
-- From 00 on: none; 01 advance; 02 read, 03 write; 04 message; 05, 06, 07 link up, link down, cold reset; 08, 09 queue register, remove oldest; 0A clear; 0B control; 0C hardware sets; 0D status bits
abbrev pub record_sizes : List ℕ
record_sizes = 0 ∷ 5 ∷ 4 ∷ 8 ∷ 17 ∷ 1 ∷ 1 ∷ 1 ∷ 1 ∷ 1 ∷ 2 ∷ 2 ∷ 7 ∷ 1 ∷ []

unfoldable pub size_of : ℕ → ℕ
size_of kind = get_or record_sizes kind 0

-- no record has more bytes, so an incomplete one has at most 16
abbrev pub longest : ℕ
longest = 17

-- there is such a kind
unfoldable pub known : ℕ → Bool
known kind = ltb 0 (size_of kind)

-- how many bytes follow the byte of kind
unfoldable pub body : ℕ → ℕ
body kind = size_of kind - 1

-- ---- What stands at the front of a trace
-- a whole record, with its bytes; the start of one, or nothing; or a kind that there is not
pub data Next : Type 0 where
  complete : List ℕ → Next
  incomplete : Next
  unknown : Next

-- the bytes after the byte of kind are all there
unfoldable pub whole : ℕ → List ℕ → Bool
whole kind rest = known kind && leb (body kind) (length rest)

unfoldable pub next : List ℕ → Next
next [] = incomplete
next (kind ∷ rest) =
    when known kind then (when leb (body kind) (length rest) then complete (kind ∷ take (body kind) rest) else incomplete) else unknown

-- the start of one incomplete record, or nothing: what carried bytes must be (else 5)
unfoldable pub begun : List ℕ → Bool
begun [] = true
begun (kind ∷ rest) = known kind && ltb (length rest) (body kind)

-- ---- Bytes
-- bytes with zeros after them, n in all
abbrev pub pad : ℕ → List ℕ → List ℕ
pad n bs = bs ++ replicate (n - length bs) 0
