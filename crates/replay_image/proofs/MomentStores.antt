-- The bytes of moments, slot by slot: how they are stored and read.
use Rattle.times.specs.declared.Nanos.{Nanos}
use Rattle.std.specs.Prelude.{Option, None, Some}
use Prim.Native.Nat.{ℕ, zero, suc, ◌+◌, ◌≤◌, ◌<◌}
use native.Mathlib.Omega.{arith}
use native.Mathlib.Numerals.{add-one}
use native.Mathlib.Nat.{zero-add}
use mathlib.Core.Path.{◌≡◌, refl, sym, ap, ◌∙◌, subst}
use mathlib.Core.List.{List, [], ◌++◌}
use lib.ListN.{length, get_or, drop, set, drop_of_length-le, length-set, length-replicate}
use lib.Seq.{drop-cons, ext_get_or, get_or-set_same, get_or-set_other}
use Rattle.bits.proofs.Bits.{bit_none}
use Rattle.bits.proofs.Numbers.{by_le}
use Rattle.readiness.specs.declared.Moments.{Moments}
use Rattle.readiness.specs.MadeReady.{moments_of, no_moments, with_moment}
use Rattle.readiness.proofs.SlotMoments.{length_moments, not_there, past_32, moments_noted}
use Rattle.state_layout.proofs.Numbers.{length-low}
use Rattle.replay_image.specs.Moments.{moment_bytes, moments_bytes, moment_at, moments_at}

-- ---- written
pub length_moment : (m : Option Nanos) → length (moment_bytes m) ≡ 9
unfolding moment_bytes
length_moment None = ap suc (length-low 8 0)
length_moment (Some t) = ap suc (length-low 8 t.0)

-- one slot more
pub moments_more : (i : ℕ) (l : List (Option Nanos)) → i < length l → moments_bytes (drop i l) ≡ moment_bytes (get_or l i None) ++ moments_bytes (drop (i + 1) l)
unfolding moments_bytes
moments_more i l h = ap moments_bytes (drop-cons l i None h) ∙ ap (λ (k : ℕ). moment_bytes (get_or l i None) ++ moments_bytes (drop k l)) (sym (add-one i))

pub moments_none : (i : ℕ) (l : List (Option Nanos)) → length l ≤ i → moments_bytes (drop i l) ≡ []
unfolding moments_bytes
moments_none i l h = ap moments_bytes (drop_of_length-le l {i = i} h)

-- ---- read
at_length : (n i : ℕ) (bytes : List ℕ) → length (moments_at n i bytes) ≡ n
unfolding moments_at
at_length zero i bytes = refl
at_length (suc n) i bytes = ap suc (at_length n (suc i) bytes)

at_slot : (n i : ℕ) (bytes : List ℕ) (k : ℕ) → k < n → get_or (moments_at n i bytes) k None ≡ moment_at (i + k) bytes
unfolding moments_at
at_slot zero i bytes k h = absurd (omega arith)
at_slot (suc n) i bytes zero h = let e : i ≡ i + 0 = omega arith in ap (λ (j : ℕ). moment_at j bytes) e
at_slot (suc n) i bytes (suc k) h = let e : suc i + k ≡ i + suc k = omega arith in at_slot n (suc i) bytes k (omega arith) ∙ ap (λ (j : ℕ). moment_at j bytes) e

pub read_all : (bytes : List ℕ) (l : List (Option Nanos)) → length l ≡ 32 → ((k : ℕ) → k < 32 → get_or l k None ≡ moment_at k bytes) → l ≡ moments_at 32 0 bytes
read_all bytes l n read =
    ext_get_or None l (moments_at 32 0 bytes) (n ∙ sym (at_length 32 0 bytes))
    (λ k g. read k (omega (arith, g, n)) ∙ ap (λ (j : ℕ). moment_at j bytes) (sym (zero-add k)) ∙ sym (at_slot 32 0 bytes k (omega (arith, g, n))))

never_made : (k : ℕ) → get_or (moments_of no_moments) k None ≡ None
never_made k = by_le 32 k (λ h. past_32 no_moments k h) (λ h. not_there no_moments k h (bit_none k))

-- the first i slots are read, and the others have none
pub record ReadTo (i : ℕ) (bytes : List ℕ) (m : Moments) : Type 0 where
  pub long : length m.at_ns ≡ 32
  pub first : (k : ℕ) → k < i → get_or (moments_of m) k None ≡ moment_at k bytes
  pub others : (k : ℕ) → i ≤ k → get_or (moments_of m) k None ≡ None

pub none_read : (bytes : List ℕ) (m : Moments) → m ≡ no_moments → ReadTo 0 bytes m
none_read bytes m e = subst (ReadTo 0 bytes) (sym e) (record { long = length-replicate {A = ℕ} 32 0; first = λ k h. absurd (omega (arith, h)); others = λ k h. never_made k })

-- ONE SLOT MORE: it has none
module _ (bytes : List ℕ) (m : Moments) (i : ℕ) (h : i < 32) (r : ReadTo i bytes m) where
  pub none_more : moment_at i bytes ≡ None → ReadTo (i + 1) bytes m
  none_more e =
      record {
        long = r.long;
        first = λ k g. by_le i k (λ p. let q : k ≡ i = omega (arith, p, g) in r.others k p ∙ sym e ∙ ap (λ (j : ℕ). moment_at j bytes) (sym q)) (λ p. r.first k p);
        others = λ k g. r.others k (omega (arith, g));
      }

  -- or it has one, which is noted
  pub one_more : (t : Nanos) → moment_at i bytes ≡ Some t → ReadTo (i + 1) bytes (with_moment i t m)
  one_more t e =
      let there : i < length (moments_of m) = omega (arith, length_moments m, r.long, h) in
      let noted = λ (k : ℕ). ap (λ (l : List (Option Nanos)). get_or l k None) (moments_noted m i t r.long h) in
      record {
        long = length-set m.at_ns i t.0 ∙ r.long;
        first =
            λ k g.
            noted k
            ∙ by_le i k
            (λ p. let q : k ≡ i = omega (arith, p, g) in
            ap (λ (j : ℕ). get_or (set (moments_of m) i (Some t)) j None) q
            ∙ get_or-set_same (moments_of m) i (Some t) None there
            ∙ sym e
            ∙ ap (λ (j : ℕ). moment_at j bytes) (sym q))
            (λ p. get_or-set_other (moments_of m) i k (Some t) None (λ q. omega (arith, p, q)) ∙ r.first k p);
        others = λ k g. noted k ∙ get_or-set_other (moments_of m) i k (Some t) None (λ q. omega (arith, g, q)) ∙ r.others k (omega (arith, g));
      }

-- ALL SLOTS
pub all_read : (bytes : List ℕ) (m : Moments) (i : ℕ) → 32 ≤ i → ReadTo i bytes m → moments_of m ≡ moments_at 32 0 bytes
all_read bytes m i h r = read_all bytes (moments_of m) (length_moments m ∙ r.long) (λ k g. r.first k (omega (arith, g, h)))
