-- The count of kind bytes goes from one to the next, and stops where the bytes do.
use Prim.Native.Nat.{ℕ, zero, suc, ◌+◌, ◌-◌, ◌≤◌, ◌<◌}
use mathlib.Core.Path.{◌≡◌, refl, ap, sym, ◌∙◌}
use mathlib.Core.List.{List, [], ◌∷◌}
use native.Mathlib.Omega.{arith}
use lib.ListN.{length, get_or, take, drop, length-drop}
use lib.Seq.{take-length}
use Rattle.cli_replay.specs.Counting.{to_next, kinds_in, ahead_after}

kinds_on : (k : ℕ) (m : List ℕ) → k < length m → kinds_in k m ≡ suc (kinds_in (to_next (get_or m k 0)) (drop (suc k) m))
unfolding kinds_in
kinds_on k [] h = absurd (omega arith)
kinds_on zero (b ∷ m) h = refl
kinds_on (suc k) (b ∷ m) h = kinds_on k m (omega arith)

ahead_on : (k : ℕ) (m : List ℕ) → k < length m → ahead_after k m ≡ ahead_after (to_next (get_or m k 0)) (drop (suc k) m)
unfolding ahead_after
ahead_on k [] h = absurd (omega arith)
ahead_on zero (b ∷ m) h = refl
ahead_on (suc k) (b ∷ m) h = ahead_on k m (omega arith)

kinds_none : (k : ℕ) (m : List ℕ) → length m ≤ k → kinds_in k m ≡ 0
unfolding kinds_in
kinds_none k [] h = refl
kinds_none zero (b ∷ m) h = absurd (omega arith)
kinds_none (suc k) (b ∷ m) h = kinds_none k m (omega arith)

ahead_left : (k : ℕ) (m : List ℕ) → length m ≤ k → ahead_after k m ≡ k - length m
unfolding ahead_after
ahead_left k [] h = omega arith
ahead_left zero (b ∷ m) h = absurd (omega arith)
ahead_left (suc k) (b ∷ m) h = ahead_left k m (omega arith) ∙ omega arith

-- ---- the loop: n kind bytes were passed, `rest` is what comes after the last of them, and `ahead` more bytes lie before the next one
pub record Inv (bytes : List ℕ) (first n : ℕ) (rest : List ℕ) (ahead : ℕ) : Type 0 where
  pub few : n + length rest ≤ length bytes
  pub count : kinds_in first bytes ≡ n + kinds_in ahead rest
  pub lie : ahead_after first bytes ≡ ahead_after ahead rest

pub starts : (bytes : List ℕ) (first : ℕ) → Inv bytes first 0 bytes first
starts bytes first = record { few = omega arith; count = omega arith; lie = refl }

-- the bytes behind the kind byte, as the loop cuts them off
behind : (k : ℕ) (m : List ℕ) → take (length m - (k + 1)) (drop (k + 1) m) ≡ drop (suc k) m
behind k m =
    let one : k + 1 ≡ suc k = omega arith in
    rw one (ap (λ (i : ℕ). take i (drop (suc k) m)) (sym (length-drop (suc k) m)) ∙ take-length (drop (suc k) m))

pub turns : (bytes : List ℕ) (first n : ℕ) (rest : List ℕ) (ahead : ℕ) → Inv bytes first n rest ahead → ahead < length rest
    → (next : ℕ) → next ≡ to_next (get_or rest ahead 0) → Inv bytes first (n + 1) (take (length rest - (ahead + 1)) (drop (ahead + 1) rest)) next
turns bytes first n rest ahead h l next e =
    let long : length (drop (suc ahead) rest) ≡ length rest - suc ahead = length-drop (suc ahead) rest in
    rw (behind ahead rest) (record {
      few = omega (arith, h.few, long);
      count = rw e (omega (arith, h.count, kinds_on ahead rest l));
      lie = rw e (h.lie ∙ ahead_on ahead rest l);
    })

pub counted : (bytes : List ℕ) (first n : ℕ) (rest : List ℕ) (ahead : ℕ) → Inv bytes first n rest ahead → length rest ≤ ahead
    → n ≡ kinds_in first bytes
counted bytes first n rest ahead h l = omega (arith, h.count, kinds_none ahead rest l)

pub left : (bytes : List ℕ) (first n : ℕ) (rest : List ℕ) (ahead : ℕ) → Inv bytes first n rest ahead → length rest ≤ ahead
    → ahead - length rest ≡ ahead_after first bytes
left bytes first n rest ahead h l = sym (h.lie ∙ ahead_left ahead rest l)
