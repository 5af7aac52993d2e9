-- A record's bytes are all that decoding looks at: what stands after a whole record does not matter.
use Prim.Native.Nat.{ℕ, zero, suc, ◌+◌, ◌*◌, ◌≤◌, ◌<◌}
use mathlib.Core.Path.{◌≡◌, refl, sym, ap, ap₂, ◌∙◌, subst}
use mathlib.Core.List.{List, [], ◌∷◌}
use native.Mathlib.Omega.{arith}
use lib.ListN.{length, get_or, take, drop, get_or-append}
use lib.Seq.{get_or-take, length-take-le, take-append-le, take-take}
use Rattle.trace.specs.Format.{record_sizes, size_of, pad, longest}
use Rattle.messages.specs.Messages.{read_message}
use Rattle.records.specs.declared.Record.{Record}
use Rattle.records.specs.declared.Record.TheVariants.{Advance, Read, Write, Message, ClearBits, Control, HardwareSet}
use Rattle.bits.specs.Bytes.{byte_at}
use Rattle.records.specs.Decode.{four, request_in, decode}
use Rattle.decode.proofs.Fields.{decode_1, decode_2, decode_3, decode_4, decode_5, decode_6, decode_7, decode_8, decode_9, decode_10, decode_11, decode_12, decode_13}

-- ---- the first n bytes of l, with zeros after them
abbrev front : List ℕ → ℕ → List ℕ
front l n = pad longest (take n l)

module _ (l : List ℕ) (n : ℕ) (h : n ≤ length l) where
  same_byte : (j : ℕ) → j < n → byte_at l j ≡ byte_at (front l n) j
  same_byte j b =
      let m : length (take n l) ≡ n = length-take-le n l h in
      sym (get_or-append (take n l) _ 0 j (omega arith) ∙ get_or-take n l j 0 b)

  same_four : (j : ℕ) → j + 4 ≤ n → four l j ≡ four (front l n) j
  unfolding four
  same_four j b =
      λ i. same_byte j (omega arith) i
      + 256 * same_byte (j + 1) (omega arith) i
      + 65536 * same_byte (j + 2) (omega arith) i
      + 16777216 * same_byte (j + 3) (omega arith) i

  same_request : 4 ≤ n → request_in l ≡ request_in (front l n)
  same_request b = λ i. record { slot = same_byte 1 (omega arith) i; word = same_byte 2 (omega arith) i; enables = same_byte 3 (omega arith) i }

  same_kind : (k : ℕ) → 0 < n → byte_at l 0 ≡ k → byte_at (front l n) 0 ≡ k
  same_kind k b e = sym (same_byte 0 b) ∙ e

-- the bytes of a message
same_message : (l : List ℕ) → 17 ≤ length l → take 16 (drop 1 l) ≡ take 16 (drop 1 (front l 17))
same_message [] h = absurd (omega arith)
same_message (x ∷ xs) h =
    let n : length (take 16 xs) ≡ 16 = length-take-le 16 xs (omega arith) in
    sym (take-append-le 16 (take 16 xs) _ (omega arith) ∙ take-take 16 16 xs (omega arith))

-- ---- kind by kind
abbrev Alone : ℕ → Type 0
Alone k = (l : List ℕ) → byte_at l 0 ≡ k → size_of k ≤ length l → decode l ≡ decode (front l (size_of k))

alone_1 : Alone 1
unfolding size_of
alone_1 l e h = decode_1 l e ∙ ap (λ (n : ℕ). Advance (record { 0 = n })) (same_four l 5 h 1 (omega arith)) ∙ sym (decode_1 _ (same_kind l 5 h 1 (omega arith) e))

alone_2 : Alone 2
unfolding size_of
alone_2 l e h = decode_2 l e ∙ ap Read (same_request l 4 h (omega arith)) ∙ sym (decode_2 _ (same_kind l 4 h 2 (omega arith) e))

alone_3 : Alone 3
unfolding size_of
alone_3 l e h = decode_3 l e ∙ ap₂ Write (same_request l 8 h (omega arith)) (same_four l 8 h 4 (omega arith)) ∙ sym (decode_3 _ (same_kind l 8 h 3 (omega arith) e))

alone_4 : Alone 4
unfolding size_of
alone_4 l e h = decode_4 l e ∙ ap (λ (m : List ℕ). Message (read_message m)) (same_message l h) ∙ sym (decode_4 _ (same_kind l 17 h 4 (omega arith) e))

alone_5 : Alone 5
unfolding size_of
alone_5 l e h = decode_5 l e ∙ sym (decode_5 _ (same_kind l 1 h 5 (omega arith) e))

alone_6 : Alone 6
unfolding size_of
alone_6 l e h = decode_6 l e ∙ sym (decode_6 _ (same_kind l 1 h 6 (omega arith) e))

alone_7 : Alone 7
unfolding size_of
alone_7 l e h = decode_7 l e ∙ sym (decode_7 _ (same_kind l 1 h 7 (omega arith) e))

alone_8 : Alone 8
unfolding size_of
alone_8 l e h = decode_8 l e ∙ sym (decode_8 _ (same_kind l 1 h 8 (omega arith) e))

alone_9 : Alone 9
unfolding size_of
alone_9 l e h = decode_9 l e ∙ sym (decode_9 _ (same_kind l 1 h 9 (omega arith) e))

alone_13 : Alone 13
unfolding size_of
alone_13 l e h = decode_13 l e ∙ sym (decode_13 _ (same_kind l 1 h 13 (omega arith) e))

alone_10 : Alone 10
unfolding size_of
alone_10 l e h = decode_10 l e ∙ ap ClearBits (same_byte l 2 h 1 (omega arith)) ∙ sym (decode_10 _ (same_kind l 2 h 10 (omega arith) e))

alone_11 : Alone 11
unfolding size_of
alone_11 l e h = decode_11 l e ∙ ap Control (same_byte l 2 h 1 (omega arith)) ∙ sym (decode_11 _ (same_kind l 2 h 11 (omega arith) e))

alone_12 : Alone 12
unfolding size_of
alone_12 l e h =
    ◌∙◌ {A = Record} (decode_12 l e)
    (◌∙◌ {A = Record}
    (λ i. HardwareSet (same_byte l 7 h 1 (omega arith) i) (same_byte l 7 h 2 (omega arith) i) (same_four l 7 h 3 (omega arith) i))
    (sym (decode_12 _ (same_kind l 7 h 12 (omega arith) e))))

-- ---- and for all: P of each kind that the table has a size for, the table's first entry being that of kind i
abbrev EachFrom : (P : ℕ → Type 0) → ℕ → List ℕ → Type 0
EachFrom P i [] = Unit {0}
EachFrom P i (zero ∷ sizes) = EachFrom P (suc i) sizes
EachFrom P i (suc n ∷ sizes) = P i × EachFrom P (suc i) sizes

each : (P : ℕ → Type 0) (i : ℕ) (sizes : List ℕ) → EachFrom P i sizes → (k : ℕ) → 0 < get_or sizes k 0 → P (i + k)
each P i [] h k j = absurd (omega arith)
each P i (zero ∷ sizes) h zero j = absurd (omega arith)
each P i (suc n ∷ sizes) h zero j = let z : i ≡ i + 0 = omega arith in subst P z h.0
each P i (zero ∷ sizes) h (suc k) j = let z : suc i + k ≡ i + suc k = omega arith in subst P z (each P (suc i) sizes h k j)
each P i (suc n ∷ sizes) h (suc k) j = let z : suc i + k ≡ i + suc k = omega arith in subst P z (each P (suc i) sizes h.1 k j)

alone : (k : ℕ) → 0 < size_of k → Alone k
unfolding size_of
alone k j =
    let z : 0 + k ≡ k = omega arith in
    subst Alone z (each Alone 0 record_sizes (alone_1, (alone_2, (alone_3, (alone_4, (alone_5, (alone_6, (alone_7, (alone_8, (alone_9, (alone_10, (alone_11, (alone_12, (alone_13, tt))))))))))))) k j)

-- A WHOLE RECORD: decoding looks at its own bytes alone
pub decode_alone : (l : List ℕ) (size : ℕ) → size_of (get_or l 0 0) ≡ size → 0 < size → size ≤ length l → decode l ≡ decode (pad longest (take size l))
decode_alone l size e h j =
    alone (get_or l 0 0) (omega (arith, e, h)) l refl (omega (arith, e, j)) ∙ ap (λ (n : ℕ). decode (pad longest (take n l))) e
