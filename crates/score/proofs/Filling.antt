-- A list that is filled from its start, one by one, up to 9,001.
use Prim.Native.Nat.{ℕ, suc, ◌+◌, ◌≤◌, ◌<◌}
use mathlib.Core.Path.{◌≡◌, refl, sym, ap, ◌∙◌}
use mathlib.Core.List.{List, [], ◌∷◌, ◌++◌, append-nil, append_assoc}
use native.Mathlib.Omega.{arith}
use lib.Dec.{ltb}
use lib.ListN.{length, set, take, length-append, length-set}
use lib.Seq.{take-suc-set, set_out, length-take-le}
use borrow.Author.Tests.{ltb-true, ltb-false, lt-ltb, le-ltb}
use Rattle.bits.proofs.Choices.{when_true, when_false}
use Rattle.bits.proofs.Tests.{split}
use Rattle.score.specs.Scores.{next_count}

-- `all` so far, of which at most 9,001 stand there
pub record Filled {A : Type 0} (count : ℕ) (list all : List A) : Type 0 where
  pub low : count ≤ 9001
  pub long : length list ≡ 9001
  pub rest : List A
  pub is : take count list ++ rest ≡ all
  pub over : count < 9001 → rest ≡ []

module _ {A : Type 0} (count : ℕ) (list all : List A) (h : Filled count list all) where
  pub room : count ≤ length list
  room = let a = h.low in let b = h.long in omega (arith, a, b)

  pub not_over : count < 9001 → take count list ≡ all
  not_over q = sym (append-nil (take count list)) ∙ ap (λ (r : List A). take count list ++ r) (sym (h.over q)) ∙ h.is

  pub lengths : length all ≡ count + length h.rest
  lengths = ap length (sym h.is) ∙ length-append (take count list) h.rest ∙ ap (λ (n : ℕ). n + length h.rest) (length-take-le count list room)

  -- with at most 9,000 everything is there
  pub whole : length all ≤ 9000 → take count list ≡ all
  whole q = let e = lengths in not_over (omega (arith, e, q))

  fits : (a : A) → count < 9001 → Filled (next_count count) (set list count a) (all ++ (a ∷ []))
  unfolding next_count
  fits a q =
      let n : next_count count ≡ count + 1 = when_true (ltb count 9001) _ _ (lt-ltb count 9001 q) in
      let there : count < length list = let e = h.long in omega (arith, e, q) in
      let up : count + 1 ≡ suc count = omega arith in
      record {
        low = omega (arith, n, q);
        long = length-set list count a ∙ h.long;
        rest = [];
        is = append-nil (take (next_count count) (set list count a)) ∙ ap (λ (k : ℕ). take k (set list count a)) (n ∙ up)
            ∙ take-suc-set list count a there ∙ ap (λ (r : List A). r ++ (a ∷ [])) (not_over q);
        over = λ _. refl;
      }

  passes : (a : A) → 9001 ≤ count → Filled (next_count count) (set list count a) (all ++ (a ∷ []))
  unfolding next_count
  passes a q =
      let n : next_count count ≡ count = when_false (ltb count 9001) _ _ (le-ltb count 9001 q) in
      let same : set list count a ≡ list = set_out list count a (let e = h.long in omega (arith, e, q)) in
      record {
        low = let e = h.low in omega (arith, n, e);
        long = ap length same ∙ h.long;
        rest = h.rest ++ (a ∷ []);
        is = ap (λ (r : List A). take (next_count count) r ++ (h.rest ++ (a ∷ []))) same
            ∙ ap (λ (k : ℕ). take k list ++ (h.rest ++ (a ∷ []))) n
            ∙ sym (append_assoc (take count list) h.rest (a ∷ []))
            ∙ ap (λ (r : List A). r ++ (a ∷ [])) h.is;
        over = λ r. absurd (omega (arith, n, q, r));
      }

  pub one_more : (a : A) → Filled (next_count count) (set list count a) (all ++ (a ∷ []))
  one_more a = split (ltb count 9001) (λ e. fits a (ltb-true count 9001 e)) (λ e. passes a (ltb-false count 9001 e))

pub at_first : {A : Type 0} (list : List A) → length list ≡ 9001 → Filled 0 list []
at_first list e = record { low = omega arith; long = e; rest = []; is = refl; over = λ _. refl }
