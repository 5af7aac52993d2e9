-- The least and the greatest are in the list, and bound it.
use Rattle.std.specs.Int.{int_min, int_max}
use mathlib.Core.Path.{◌≡◌, refl, sym, ap, ◌∙◌}
use mathlib.Core.Bool.{Bool, true, false, cond}
use mathlib.Core.Logic.{◌⊎◌, ⊎_elim}
use mathlib.Core.List.{List, [], ◌∷◌}
use Prim.Native.Nat.{ℕ, zero, suc, ◌<◌}
use native.Mathlib.Omega.{arith}
use lib.ListN.{length, get_or}
use lib.Dec.{ltb, leb}
use lib.IntN.{ℤ, pos, negsuc}
use lib.Signed.{lt_z, le_z}
use borrow.Author.Tests.{leb-true, leb-false, le-ltb, lt-ltb}
use Rattle.lateness.specs.Totals.{lower_of, higher_of, pick_of, least_of, greatest_of}
use Rattle.lateness.specs.Reports.{Among}
use Rattle.lateness.proofs.Order.{le_same, le_via, lower_low, higher_high}

-- ---- the picked one is that of the library

dual_nat : (a b : ℕ) (x y : ℤ) → cond (ltb b a) y x ≡ cond (leb a b) x y
dual_nat a b x y = by (leb a b) refl
  where
    by : (t : Bool) → leb a b ≡ t → cond (ltb b a) y x ≡ cond t x y
    by true e = ap (λ (t : Bool). cond t y x) (le-ltb b a (leb-true a b e))
    by false e = ap (λ (t : Bool). cond t y x) (lt-ltb b a (leb-false a b e))

dual : (d e x y : ℤ) → cond (lt_z e d) y x ≡ cond (le_z d e) x y
dual (pos a) (pos b) x y = dual_nat a b x y
dual (pos a) (negsuc b) x y = refl
dual (negsuc a) (pos b) x y = refl
dual (negsuc a) (negsuc b) x y = dual_nat b a x y

pub min_lower : (d e : ℤ) → int_min d e ≡ lower_of d e
unfolding lower_of
min_lower d e = dual d e d e

pub max_higher : (d e : ℤ) → int_max d e ≡ higher_of d e
unfolding higher_of
max_higher d e = dual d e e d

-- ---- the picked one is in the list

pub pick_among : (f : ℤ → ℤ → ℤ) → ((d e : ℤ) → (f d e ≡ d) ⊎ (f d e ≡ e)) → (d : ℤ) (l : List ℤ) → Among (pick_of f (d ∷ l)) (d ∷ l)
unfolding pick_of
pick_among f o d [] = record { place = 0; low = omega arith; is = refl }
pick_among f o d (e ∷ l) =
    let r = pick_among f o e l in
    ⊎_elim
    (λ (h : f d (pick_of f (e ∷ l)) ≡ d). record { place = 0; low = omega arith; is = sym h })
    (λ (h : f d (pick_of f (e ∷ l)) ≡ pick_of f (e ∷ l)). record { place = suc r.place; low = omega (arith, r.low); is = r.is ∙ sym h })
    (o d (pick_of f (e ∷ l)))

pub least_among_lem : (d : ℤ) (l : List ℤ) → Among (least_of (d ∷ l)) (d ∷ l)
unfolding least_of
least_among_lem d l = pick_among lower_of (λ x y. (lower_low x y).one) d l

pub greatest_among_lem : (d : ℤ) (l : List ℤ) → Among (greatest_of (d ∷ l)) (d ∷ l)
unfolding greatest_of
greatest_among_lem d l = pick_among higher_of (λ x y. (higher_high x y).one) d l

-- ---- and bounds it

module _ (R : ℤ → ℤ → Type 0) (f : ℤ → ℤ → ℤ) (same : (d : ℤ) → R d d) (via : (a b c : ℤ) → R a b → R b c → R a c) (left : (d e : ℤ) → R (f d e) d) (right : (d e : ℤ) → R (f d e) e) where
  pick_bounds : (l : List ℤ) (i : ℕ) → i < length l → R (pick_of f l) (get_or l i (pos 0))
  unfolding pick_of
  pick_bounds [] i h = absurd (omega arith)
  pick_bounds (d ∷ []) zero h = same d
  pick_bounds (d ∷ []) (suc i) h = absurd (omega arith)
  pick_bounds (d ∷ e ∷ l) zero h = left d (pick_of f (e ∷ l))
  pick_bounds (d ∷ e ∷ l) (suc i) h =
      via (f d (pick_of f (e ∷ l))) (pick_of f (e ∷ l)) (get_or (e ∷ l) i (pos 0)) (right d (pick_of f (e ∷ l))) (pick_bounds (e ∷ l) i (omega arith))

pub least_bounds : (l : List ℤ) (i : ℕ) → i < length l → le_z (least_of l) (get_or l i (pos 0)) ≡ true
unfolding least_of
least_bounds l i h = pick_bounds (λ a b. le_z a b ≡ true) lower_of le_same le_via (λ d e. (lower_low d e).left) (λ d e. (lower_low d e).right) l i h

pub greatest_bounds : (l : List ℤ) (i : ℕ) → i < length l → le_z (get_or l i (pos 0)) (greatest_of l) ≡ true
unfolding greatest_of
greatest_bounds l i h =
    pick_bounds (λ a b. le_z b a ≡ true) higher_of le_same (λ a b c x y. le_via c b a y x) (λ d e. (higher_high d e).left) (λ d e. (higher_high d e).right) l i h
