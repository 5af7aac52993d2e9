-- The moment that is kept for a slot, and one more.
use Rattle.std.specs.Prelude.{Option, None, Some}
use Prim.Native.Nat.{ℕ, zero, suc, ◌+◌, ◌*◌, ◌%◌, ◌^◌, ◌≤◌, ◌<◌}
use native.Mathlib.Omega.{arith}
use mathlib.Core.Path.{◌≡◌, refl, ap, ap₂, ◌∙◌}
use mathlib.Core.Bool.{Bool, true, false, not, ◌||◌}
use mathlib.Core.List.{List, [], ◌∷◌}
use lib.Bits.{bit_or}
use lib.Dec.{eqb, T}
use lib.ListN.{length, get_or, set, get_or-eq_default}
use borrow.Author.Tests.{eq-eqb, ne_eqb}
use mir.Syntax.{w32}
use mir.Val.{Fits}
use Rattle.bits.specs.Bits.{bit}
use Rattle.bits.proofs.Bits.{is_arg, is_of_lem, is_or, is_the, bit_word}
use Rattle.bits.proofs.Tests.{all, all_at}
use Rattle.times.specs.declared.Nanos.{Nanos}
use Rattle.readiness.specs.declared.Moments.{Moments}
use Rattle.readiness.specs.MadeReady.{moment_in, moments_from, moments_of, with_bit, with_moment}

-- ---- the moment of a slot
moment_at : (first made : ℕ) (l : List ℕ) (i : ℕ) → i < length l → get_or (moments_from first made l) i None ≡ moment_in (bit made (first + i)) (get_or l i 0)
unfolding moments_from
moment_at first made [] i h = absurd (omega arith)
moment_at first made (t ∷ l) zero h = ap (λ (k : ℕ). moment_in (bit made k) t) (omega arith)
moment_at first made (t ∷ l) (suc i) h =
    moment_at (suc first) made l i (omega arith) ∙ ap (λ (k : ℕ). moment_in (bit made k) (get_or l i 0)) (omega arith)

-- as many moments as numbers
from-length : (j made : ℕ) (l : List ℕ) → length (moments_from j made l) ≡ length l
unfolding moments_from
from-length j made [] = refl
from-length j made (x ∷ l) = ap suc (from-length (suc j) made l)

pub length_moments : (m : Moments) → length (moments_of m) ≡ length m.at_ns
length_moments m = from-length 0 m.made m.at_ns

slot_moment : (m : Moments) (i : ℕ) → i < length m.at_ns → get_or (moments_of m) i None ≡ moment_in (bit m.made i) (get_or m.at_ns i 0)
slot_moment m i h = moment_at 0 m.made m.at_ns i h ∙ ap (λ (k : ℕ). moment_in (bit m.made k) (get_or m.at_ns i 0)) (omega arith)

pub there : (m : Moments) (i : ℕ) → i < length m.at_ns → bit m.made i ≡ true → get_or (moments_of m) i None ≡ Some (record { 0 = get_or m.at_ns i 0 })
there m i h e = slot_moment m i h ∙ ap (λ (b : Bool). moment_in b (get_or m.at_ns i 0)) e

pub not_there : (m : Moments) (i : ℕ) → i < length m.at_ns → bit m.made i ≡ false → get_or (moments_of m) i None ≡ None
not_there m i h e = slot_moment m i h ∙ ap (λ (b : Bool). moment_in b (get_or m.at_ns i 0)) e

pub past_32 : (m : Moments) (i : ℕ) → length m.at_ns ≤ i → get_or (moments_of m) i None ≡ None
past_32 m i h = get_or-eq_default (moments_of m) None (omega (arith, length_moments m))

-- ---- a word with a bit set
alike : Bool → Bool → Bool
alike true b = b
alike false b = not b

alike_is : (a b : Bool) → T (alike a b) → a ≡ b
unfolding alike
alike_is true true h = refl
alike_is true false h = absurd h
alike_is false true h = absurd h
alike_is false false h = refl

-- 1 shifted by k has bit k alone
shifted : ℕ → ℕ
shifted k = 1 * 2 ^ k % 4294967296

row : ℕ → Bool
row k = all 32 (λ i. alike (bit (shifted k) i) (eqb k i))

shifted_bit : (k i : ℕ) → k < 32 → i < 32 → bit (shifted k) i ≡ eqb k i
unfolding row shifted alike bit
shifted_bit k i h l = alike_is (bit (shifted k) i) (eqb k i) (all_at 32 (λ i. alike (bit (shifted k) i) (eqb k i)) (all_at 32 row tt k h) i l)

turn : (a b : Bool) → (a || b) ≡ (b || a)
turn true true = refl
turn true false = refl
turn false true = refl
turn false false = refl

pub with_bit_lem : (w k : ℕ) → Fits w32 w → k < 32 → bit_or w (1 * 2 ^ k % 4294967296) ≡ with_bit w k
unfolding with_bit shifted
with_bit_lem w k f h =
    let small : shifted k < 2 ^ 32 = omega arith in
    is_the (is_or (is_arg f) (is_of_lem {x = shifted k} {y = shifted k} refl small)) (λ i l. turn (bit w i) (bit (shifted k) i) ∙ ap₂ ◌||◌ (shifted_bit k i h l) refl)

-- ---- one moment more
-- the bits from slot j on
from_same : (j made made' : ℕ) (l : List ℕ) → ((k : ℕ) → j ≤ k → k < j + length l → bit made' k ≡ bit made k) → moments_from j made' l ≡ moments_from j made l
unfolding moments_from
from_same j made made' [] h = refl
from_same j made made' (x ∷ l) h =
    ap₂ (λ (b : Bool) (r : List (Option Nanos)). moment_in b x ∷ r) (h j (omega arith) (omega arith)) (from_same (suc j) made made' l (λ k a b. h k (omega (arith, a)) (omega (arith, b))))

-- the bit of slot j + i is set
from-set : (j i made made' t : ℕ) (l : List ℕ) → i < length l → ((k : ℕ) → k < j + length l → bit made' k ≡ (eqb (j + i) k || bit made k))
    → moments_from j made' (set l i t) ≡ set (moments_from j made l) i (Some (record { 0 = t }))
unfolding moments_from
from-set j i made made' t [] g h = absurd (omega arith)
from-set j zero made made' t (x ∷ l) g h =
    ap₂ (λ (b : Bool) (r : List (Option Nanos)). moment_in b t ∷ r)
    (h j (omega arith) ∙ ap (λ (b : Bool). b || bit made j) (eq-eqb (j + 0) j (omega arith)))
    (from_same (suc j) made made' l (λ k p q. h k (omega (arith, q)) ∙ ap (λ (b : Bool). b || bit made k) (ne_eqb (j + 0) k (λ z. omega (arith, p, z)))))
from-set j (suc i) made made' t (x ∷ l) g h =
    ap₂ (λ (b : Bool) (r : List (Option Nanos)). moment_in b x ∷ r)
    (h j (omega arith) ∙ ap (λ (b : Bool). b || bit made j) (ne_eqb (j + suc i) j (λ z. omega (arith, z))))
    (from-set (suc j) i made made' t l (omega arith)
    (λ k q. let z : j + suc i ≡ suc j + i = omega arith in h k (omega (arith, q)) ∙ ap (λ (n : ℕ). eqb n k || bit made k) z))

pub moments_noted : (m : Moments) (slot : ℕ) (t : Nanos) → length m.at_ns ≡ 32 → slot < 32 → moments_of (with_moment slot t m) ≡ set (moments_of m) slot (Some t)
unfolding with_bit
moments_noted m slot t n h =
    from-set 0 slot m.made (with_bit m.made slot) t.0 m.at_ns (omega (arith, n))
    (λ k q. bit_word (λ i. eqb slot i || bit m.made i) k (omega (arith, q, n)) ∙ (let z : slot ≡ 0 + slot = omega arith in ap (λ (s : ℕ). eqb s k || bit m.made k) z))
