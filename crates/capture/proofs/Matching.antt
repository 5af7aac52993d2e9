-- Which states of a replay match, clause by clause: `matches_exactly`.
use Prim.Native.Nat.{ℕ, zero, suc, ◌≤◌, ◌<◌}
use mathlib.Core.Path.{◌≡◌, refl, ap, sym, subst, ◌∙◌}
use mathlib.Core.Bool.{Bool, true, false, not, ◌&&◌, ◌||◌, false≢true}
use mathlib.Core.Logic.{◌⊎◌, inl, inr, ⊎_elim}
use mathlib.Core.List.{List, [], ◌∷◌}
use native.Mathlib.Omega.{arith}
use lib.ListN.{length}
use lib.Dec.{leb, eqb}
use borrow.Author.Tests.{eqb-true, eq-eqb, ne_eqb, leb-true, le-leb, not-true}
use Rattle.std.specs.Prelude.{is_some}
use Rattle.bits.proofs.Tests.{both, both_left, both_right, or_last, not_both}
use Rattle.times.specs.declared.Nanos.{Nanos}
use Rattle.trace.specs.Format.{when◌then◌else◌}
use Rattle.trace.proofs.Tests.{if_true, if_false}
use Rattle.capture.specs.Advances.{Earlier, stamp_in, back, between, due}
use Rattle.capture.specs.Replay.{Progress, end_fits, matches}
use Rattle.capture.specs.Exactly.{Matching, MatchesExactly}

-- ---- the advances that are due, and those of the stamp
-- some are due only after 4 stamp bytes, where the recorder did not go back
module _ (e : Earlier) (stamp : List ℕ) where
  abbrev is_back : Bool
  is_back = back e (stamp_in stamp)

  due_all : length stamp ≡ 4 → is_back ≡ false → due e stamp ≡ between e (stamp_in stamp)
  unfolding due
  due_all l f = if_true (eqb (length stamp) 4) _ _ (eq-eqb (length stamp) 4 l) ∙ if_false (back e (stamp_in stamp)) _ _ f

  pub some_due : (n : ℕ) → 0 < n → n ≤ length (due e stamp) → (length stamp ≡ 4) × (is_back ≡ false)
  unfolding due
  some_due n h = go (eqb (length stamp) 4) is_back refl refl
    where
      go : (x y : Bool) → eqb (length stamp) 4 ≡ x → is_back ≡ y → n ≤ length (when x then (when y then [] else between e (stamp_in stamp)) else []) → (length stamp ≡ 4) × (is_back ≡ false)
      go true false ex ey l = (eqb-true (length stamp) 4 ex, ey)
      go true true ex ey l = absurd (omega arith)
      go false y ex ey l = absurd (omega arith)

  due_most : (n : ℕ) → n ≤ length (due e stamp) → n ≤ length (between e (stamp_in stamp))
  due_most zero h = omega arith
  due_most (suc n) h = let d = some_due (suc n) (omega arith) h in subst (λ (ts : List Nanos). suc n ≤ length ts) (due_all d.0 d.1) h

  pub most_due : (n : ℕ) → (0 < n → length stamp ≡ 4) → (0 < n → is_back ≡ false) → n ≤ length (between e (stamp_in stamp)) → n ≤ length (due e stamp)
  most_due zero f g h = omega arith
  most_due (suc n) f g h = subst (λ (ts : List Nanos). suc n ≤ length ts) (sym (due_all (f (omega arith)) (g (omega arith)))) h

-- ---- the number that ended it
record Ended (e : Earlier) (stamp : List ℕ) (n : ℕ) : Type 0 where
  is : (n ≡ 0) ⊎ ((n ≡ 32) ⊎ (n ≡ 33))
  by32 : n ≡ 32 → (length stamp ≡ 4) × (back e (stamp_in stamp) ≡ true)
  by33 : n ≡ 33 → (length stamp ≡ 4) × (back e (stamp_in stamp) ≡ false)

module _ (e : Earlier) (stamp : List ℕ) (n : ℕ) where
  abbrev fits : Bool
  fits = eqb n 0 || (eqb (length stamp) 4 && eqb n (when back e (stamp_in stamp) then 32 else 33))

  fits_ended : fits ≡ true → Ended e stamp n
  fits_ended = go (eqb n 0) (eqb (length stamp) 4) (back e (stamp_in stamp)) refl refl refl
    where
      go : (x y t : Bool) → eqb n 0 ≡ x → eqb (length stamp) 4 ≡ y → back e (stamp_in stamp) ≡ t → (x || (y && eqb n (when t then 32 else 33))) ≡ true → Ended e stamp n
      go true y t ex ey et q =
          let z = eqb-true n 0 ex in record { is = inl z; by32 = λ p. absurd (omega arith); by33 = λ p. absurd (omega arith) }
      go false false t ex ey et q = absurd (false≢true q)
      go false true true ex ey et q =
          let z = eqb-true n 32 q in record { is = inr (inl z); by32 = λ _. (eqb-true (length stamp) 4 ey, et); by33 = λ p. absurd (omega arith) }
      go false true false ex ey et q =
          let z = eqb-true n 33 q in record { is = inr (inr z); by32 = λ p. absurd (omega arith); by33 = λ _. (eqb-true (length stamp) 4 ey, et) }

  ended_fits : Ended e stamp n → fits ≡ true
  ended_fits h =
      ⊎_elim
      (λ z. rw (eq-eqb n 0 z))
      (λ w. ⊎_elim (λ p. by 32 true p (h.by32 p).0 (h.by32 p).1 refl) (λ p. by 33 false p (h.by33 p).0 (h.by33 p).1 refl) w)
      h.is
    where
      by : (m : ℕ) (t : Bool) → n ≡ m → length stamp ≡ 4 → back e (stamp_in stamp) ≡ t → (when t then 32 else 33) ≡ m → fits ≡ true
      by m t p l b q =
          or_last (eqb n 0) _
          (both _ _ (eq-eqb (length stamp) 4 l) (eq-eqb n _ (p ∙ sym q ∙ ap (λ (x : Bool). when x then 32 else 33) (sym b))))

-- ---- the clauses
empty : (l : List ℕ) → length l ≡ 0 → l ≡ []
empty [] e = refl
empty (x ∷ xs) e = absurd (omega arith)

holds : (carried : List ℕ) (r : Progress) → matches carried r ≡ true → Matching carried r
unfolding matches end_fits
holds [] r m =
    let a = leb (length r.stamp) 4 in
    let b = leb r.answered (length (due r.earlier r.stamp)) in
    let c = fits r.earlier r.stamp r.ended in
    let n = leb-true r.answered (length (due r.earlier r.stamp)) (both_left b c (both_right a (b && c) m)) in
    let f = fits_ended r.earlier r.stamp r.ended (both_right b c (both_right a (b && c) m)) in
    record {
      ended = f.is;
      stamp_bytes = leb-true (length r.stamp) 4 (both_left a (b && c) m);
      carried_begun = λ h. absurd (omega arith);
      carried_stamp = λ h. absurd (omega arith);
      carried_answered = λ h. absurd (omega arith);
      carried_ended = λ h. absurd (omega arith);
      carried_kind = λ h. absurd (omega arith);
      answered_stamp = λ h. (some_due r.earlier r.stamp r.answered h n).0;
      answered_most = due_most r.earlier r.stamp r.answered n;
      answered_forward = λ h. (some_due r.earlier r.stamp r.answered h n).1;
      ended32 = f.by32;
      ended33 = f.by33;
    }
holds (k ∷ rest) r m =
    let a = is_some r.earlier in
    let b = eqb (length r.stamp) 0 in
    let c = eqb r.answered 0 in
    let d = eqb r.ended 0 in
    let e = not (eqb k 1) in
    let m₁ = both_right a (b && (c && (d && e))) m in
    let m₂ = both_right b (c && (d && e)) m₁ in
    let m₃ = both_right c (d && e) m₂ in
    let l = eqb-true (length r.stamp) 0 (both_left b (c && (d && e)) m₁) in
    let n = eqb-true r.answered 0 (both_left c (d && e) m₂) in
    let z = eqb-true r.ended 0 (both_left d e m₃) in
    record {
      ended = inl z;
      stamp_bytes = omega arith;
      carried_begun = λ _. both_left a (b && (c && (d && e))) m;
      carried_stamp = λ _. empty r.stamp l;
      carried_answered = λ _. n;
      carried_ended = λ _. z;
      carried_kind = λ _ q. not_both (eq-eqb k 1 q) (not-true (eqb k 1) (both_right d e m₃));
      answered_stamp = λ h. absurd (omega arith);
      answered_most = omega arith;
      answered_forward = λ h. absurd (omega arith);
      ended32 = λ q. absurd (omega arith);
      ended33 = λ q. absurd (omega arith);
    }

enough : (carried : List ℕ) (r : Progress) → Matching carried r → matches carried r ≡ true
unfolding matches end_fits
enough [] r h =
    both _ _ (le-leb (length r.stamp) 4 h.stamp_bytes)
    (both _ _ (le-leb r.answered _ (most_due r.earlier r.stamp r.answered h.answered_stamp h.answered_forward h.answered_most))
    (ended_fits r.earlier r.stamp r.ended (record { is = h.ended; by32 = h.ended32; by33 = h.ended33 })))
enough (k ∷ rest) r h =
    let s : 0 < length (k ∷ rest) = omega arith in
    both _ _ (h.carried_begun s)
    (both _ _ (eq-eqb (length r.stamp) 0 (ap length (h.carried_stamp s)))
    (both _ _ (eq-eqb r.answered 0 (h.carried_answered s))
    (both _ _ (eq-eqb r.ended 0 (h.carried_ended s)) (ap not (ne_eqb k 1 (h.carried_kind s))))))

pub matches_exactly : MatchesExactly
matches_exactly = record { holds = holds; enough = enough }
