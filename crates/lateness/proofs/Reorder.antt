-- Another order of the list gives the same report.
use mathlib.Core.Path.{◌≡◌, refl, sym, ap, ◌∙◌}
use mathlib.Core.Bool.{Bool, true, false, cond, ◌&&◌}
use mathlib.Core.List.{List, [], ◌∷◌}
use Prim.Native.Nat.{ℕ, suc, ◌+◌}
use native.Mathlib.Omega.{arith}
use lib.Dec.{leb}
use lib.ListN.{length}
use lib.IntN.{ℤ, ◌+ℤ◌, +ℤ_assoc, +ℤ_comm}
use Rattle.bits.specs.Bits.{one}
use Rattle.lateness.specs.Lateness.{within}
use Rattle.lateness.specs.Totals.{is_early, is_on_time, is_late, how_many, sum_of, lower_of, higher_of, pick_of, least_of, greatest_of, all_within, totals_of, refused, longest_list, report}
use Rattle.lateness.specs.inner.Steps.{pick_with}
use Rattle.lateness.specs.Orders.{Reordered, none, keep, swap, again}
use Rattle.lateness.proofs.Order.{lower_turn, lower_past, higher_turn, higher_past}
use Rattle.lateness.proofs.Steps.{pick_with_lem}

pub same_length : {l m : List ℤ} → Reordered l m → length l ≡ length m
same_length none = refl
same_length (keep d r) = ap suc (same_length r)
same_length (swap d e l) = refl
same_length (again r s) = same_length r ∙ same_length s

pub same_many : (p : ℤ → Bool) {l m : List ℤ} → Reordered l m → how_many p l ≡ how_many p m
unfolding how_many
same_many p none = refl
same_many p (keep d r) = ap (λ (n : ℕ). one (p d) + n) (same_many p r)
same_many p (swap d e l) = omega arith
same_many p (again r s) = same_many p r ∙ same_many p s

pub same_sum : {l m : List ℤ} → Reordered l m → sum_of l ≡ sum_of m
unfolding sum_of
same_sum none = refl
same_sum (keep d r) = ap (λ (z : ℤ). d +ℤ z) (same_sum r)
same_sum (swap d e l) = sym (+ℤ_assoc d e (sum_of l)) ∙ ap (λ (z : ℤ). z +ℤ sum_of l) (+ℤ_comm d e) ∙ +ℤ_assoc e d (sum_of l)
same_sum (again r s) = same_sum r ∙ same_sum s

and_past : (a b c : Bool) → (a && (b && c)) ≡ (b && (a && c))
and_past true true c = refl
and_past true false c = refl
and_past false true c = refl
and_past false false c = refl

pub same_within : {l m : List ℤ} → Reordered l m → all_within l ≡ all_within m
unfolding all_within
same_within none = refl
same_within (keep d r) = ap (λ (b : Bool). within d && b) (same_within r)
same_within (swap d e l) = and_past (within d) (within e) (all_within l)
same_within (again r s) = same_within r ∙ same_within s

module _ (f : ℤ → ℤ → ℤ) (turn : (d e : ℤ) → f d e ≡ f e d) (past : (d e m : ℤ) → f d (f e m) ≡ f e (f d m)) where
  swapped : (d e : ℤ) (l : List ℤ) → pick_of f (d ∷ e ∷ l) ≡ pick_of f (e ∷ d ∷ l)
  unfolding pick_of
  swapped d e [] = turn d e
  swapped d e (g ∷ l) = past d e (pick_of f (g ∷ l))

  same_pick : {l m : List ℤ} → Reordered l m → pick_of f l ≡ pick_of f m
  same_pick none = refl
  same_pick (keep {l} {m} d r) =
      pick_with_lem f d l ∙ ap (λ (n : ℕ). pick_with f d n (pick_of f l)) (same_length r) ∙ ap (λ (z : ℤ). pick_with f d (length m) z) (same_pick r) ∙ sym (pick_with_lem f d m)
  same_pick (swap d e l) = swapped d e l
  same_pick (again r s) = same_pick r ∙ same_pick s

pub same_totals : {l m : List ℤ} → Reordered l m → totals_of l ≡ totals_of m
unfolding totals_of least_of greatest_of
same_totals r =
    λ i. record {
      number = 0;
      early = same_many is_early r i;
      on_time = same_many is_on_time r i;
      late = same_many is_late r i;
      least = same_pick lower_of lower_turn lower_past r i;
      greatest = same_pick higher_of higher_turn higher_past r i;
      sum = same_sum r i;
    }

-- the whole report, refusals too
pub same_report : {l m : List ℤ} → Reordered l m → report l ≡ report m
unfolding report
same_report r =
    λ i. cond (same_within r i) (cond (leb (same_length r i) longest_list) (same_totals r i) (refused 35)) (refused 34)
