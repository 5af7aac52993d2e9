-- The statuses of the card's slots, changed slot by slot.
use Prim.Native.Nat.{ℕ, zero, suc, ◌+◌, ◌≤◌, ◌<◌, min}
use native.Mathlib.Numerals.{add-one}
use native.Mathlib.Omega.{arith}
use mathlib.Core.Path.{◌≡◌, refl, sym, ap, ap₂, ◌∙◌}
use mathlib.Core.Bool.{Bool, true, ◌&&◌, cond}
use mathlib.Core.List.{List, [], ◌∷◌, ◌++◌}
use lib.ListN.{length, get_or, take, drop, set, drop_of_length-le}
use lib.Seq.{take-suc, take-suc-set, take_all, drop-cons}
use borrow.Author.Tests.{lt-ltb, le-ltb}
use Rattle.bits.proofs.Numbers.{by_le}
use Rattle.readiness.specs.declared.Status.{Status}
use Rattle.readiness.specs.declared.Setup.{Setup}
use Rattle.readiness.specs.Status.{is_ready, all_ready_from, each_from}

-- all that count are Ready, slot by slot
pub ready_cons : (setup : Setup) (l : List Status) (d : Status) (i : ℕ) (b : Bool) → i < length l → is_ready (get_or l i d) ≡ b → all_ready_from setup i (drop i l) ≡ (b && all_ready_from setup (i + 1) (drop (i + 1) l))
unfolding all_ready_from
ready_cons setup l d i b h e = rw (add-one, drop-cons l i d, e)

pub ready_end : (setup : Setup) (l : List Status) (i : ℕ) → length l ≤ i → all_ready_from setup i (drop i l) ≡ true
unfolding all_ready_from
ready_end setup l i h = rw (drop_of_length-le l h)

-- one slot more of a list is the same as another's
pub take_put : (l m : List Status) (d s : Status) (i : ℕ) → i < length l → i < length m → take i l ≡ take i m → s ≡ get_or m i d → take (i + 1) (set l i s) ≡ take (i + 1) m
take_put l m d s i h k e q =
    ap (λ (n : ℕ). take n (set l i s)) (add-one i)
    ∙ take-suc-set l i s h
    ∙ ap₂ (λ (r : List Status) (v : Status). r ++ (v ∷ [])) e q
    ∙ sym (take-suc m i d k)
    ∙ ap (λ (n : ℕ). take n m) (sym (add-one i))

pub take_both : (l m : List Status) (i : ℕ) → length l ≤ i → length m ≤ i → take i l ≡ take i m → l ≡ m
take_both l m i h k e = sym (take_all i l h) ∙ e ∙ take_all i m k

module _ (f : ℕ → Status) where
  -- where no slot is the card's, nothing changes
  pub each_none : (j n : ℕ) (l : List Status) → n ≤ j → each_from j n f l ≡ l
  unfolding each_from
  each_none j n [] h = refl
  each_none j n (s ∷ l) h = ap₂ (λ (b : Bool) (r : List Status). cond b (f j) s ∷ r) (le-ltb j n h) (each_none (suc j) n l (omega arith))

  -- one slot more
  each-suc : (j i n : ℕ) (l : List Status) → n ≡ j + i → i < length l → set (each_from j n f l) i (f n) ≡ each_from j (suc n) f l
  unfolding each_from
  each-suc j i n [] e h = absurd (omega arith)
  each-suc j zero n (s ∷ l) e h =
      let z : n ≡ j = omega arith in
      let a : j < suc n = omega arith in
      ap₂ (λ (v : Status) (r : List Status). v ∷ r) (ap f z ∙ ap (λ (b : Bool). cond b (f j) s) (sym (lt-ltb j (suc n) a))) (each_none (suc j) n l (omega arith) ∙ sym (each_none (suc j) (suc n) l (omega arith)))
  each-suc j (suc i) n (s ∷ l) e h =
      let a : j < n = omega arith in
      let b : j < suc n = omega arith in
      ap₂ (λ (v : Status) (r : List Status). v ∷ r) (ap (λ (b : Bool). cond b (f j) s) (lt-ltb j n a ∙ sym (lt-ltb j (suc n) b))) (each-suc (suc j) i n l (omega arith) (omega arith))

  pub each_more : (i : ℕ) (l : List Status) → i < length l → set (each_from 0 i f l) i (f i) ≡ each_from 0 (i + 1) f l
  each_more i l h = rw add-one (each-suc 0 i i l (omega arith) h)

  -- slots past the list's end don't matter
  each-past : (j n m : ℕ) (l : List Status) → j + length l ≤ n → j + length l ≤ m → each_from j n f l ≡ each_from j m f l
  unfolding each_from
  each-past j n m [] h k = refl
  each-past j n m (s ∷ l) h k =
      let a : j < n = omega arith in
      let b : j < m = omega arith in
      ap₂ (λ (v : Bool) (r : List Status). cond v (f j) s ∷ r) (lt-ltb j n a ∙ sym (lt-ltb j m b)) (each-past (suc j) n m l (omega arith) (omega arith))

  pub each-held : (slots : ℕ) (l : List Status) → length l ≡ 32 → each_from 0 (min slots 32) f l ≡ each_from 0 slots f l
  each-held slots l e =
      by_le slots 32
      (λ h. let m : min slots 32 ≡ slots = omega arith in ap (λ (n : ℕ). each_from 0 n f l) m)
      (λ h. each-past 0 (min slots 32) slots l (omega arith) (omega arith))
