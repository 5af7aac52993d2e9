-- Bytes that are stored side by side.
use Prim.Native.Nat.{ℕ, suc, ◌+◌, ◌≤◌}
use mathlib.Core.Path.{◌≡◌, ap, sym, ◌∙◌}
use mathlib.Core.List.{List, [], ◌∷◌, ◌++◌, append-nil, append_assoc}
use native.Mathlib.Omega.{arith}
use native.Mathlib.Nat.{add-suc, suc-add, add-zero, zero-add}
use lib.ListN.{length, take, drop, set, length-drop}
use lib.Seq.{sets, sets-eq, drop-length, drop-drop}

module _ {A : Type 0} where
  pub sets_append : (xs ys l : List A) (i : ℕ) → sets l i (xs ++ ys) ≡ sets (sets l i xs) (i + length xs) ys
  sets_append [] ys l i = ap (λ (k : ℕ). sets l k ys) (sym (add-zero i))
  sets_append (x ∷ xs) ys l i =
      sets_append xs ys (set l i x) (suc i) ∙ ap (λ (k : ℕ). sets (sets (set l i x) (suc i) xs) k ys) (suc-add i (length xs) ∙ sym (add-suc i (length xs)))

  -- the next ones
  pub sets-next : (xs ys l : List A) (i j : ℕ) → j ≡ i + length xs → sets (sets l i xs) j ys ≡ sets l i (xs ++ ys)
  sets-next xs ys l i j e = ap (λ (k : ℕ). sets (sets l i xs) k ys) e ∙ sym (sets_append xs ys l i)

  -- over a whole list
  pub sets-whole : (vs l : List A) → length vs ≡ length l → sets l 0 vs ≡ vs
  sets-whole vs l e =
      sets-eq vs l 0 (omega (arith, e)) ∙ ap (λ (k : ℕ). vs ++ drop k l) (zero-add (length vs) ∙ e) ∙ ap (λ (r : List A). vs ++ r) (drop-length l) ∙ append-nil vs

  -- over a part of it
  pub sets-part : (vs l : List A) (at : ℕ) → at + length vs ≤ length l → take at l ++ sets (drop at l) 0 vs ≡ sets l at vs
  sets-part vs l at h =
      ap (λ (r : List A). take at l ++ r) (sets-eq vs (drop at l) 0 (omega (arith, h, length-drop at l)) ∙ ap (λ (k : ℕ). vs ++ drop k (drop at l)) (zero-add (length vs)) ∙ ap (λ (r : List A). vs ++ r) (drop-drop (length vs) at l))
      ∙ sym (append_assoc (take at l) vs (drop (at + length vs) l))
      ∙ sym (sets-eq vs l at h)

  -- what is left to store, one by one or piece by piece
  pub store_one : (l rest vs : List A) (j k : ℕ) (v : A) → rest ≡ v ∷ vs → k ≡ suc j → sets (set l j v) k vs ≡ sets l j rest
  store_one l rest vs j k v e f = ap (λ (n : ℕ). sets (set l j v) n vs) f ∙ ap (λ (r : List A). sets l j r) (sym e)

  pub store_many : (l rest xs vs : List A) (j k : ℕ) → rest ≡ xs ++ vs → k ≡ j + length xs → sets (sets l j xs) k vs ≡ sets l j rest
  store_many l rest xs vs j k e f = sets-next xs vs l j k f ∙ ap (λ (r : List A). sets l j r) (sym e)

  pub store_none : (l rest : List A) (j : ℕ) → rest ≡ [] → l ≡ sets l j rest
  store_none l rest j e = ap (λ (r : List A). sets l j r) (sym e)
