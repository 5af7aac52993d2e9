-- The totals of a list: what is claimed of them.
use mathlib.Core.Path.{◌≡◌, refl, sym, ap, ◌∙◌, subst}
use mathlib.Core.Bool.{true, ◌&&◌}
use mathlib.Core.List.{List, [], ◌∷◌, ◌++◌}
use Prim.Native.Nat.{◌+◌, ◌*◌, ◌≤◌, ◌<◌}
use native.Mathlib.Omega.{arith}
use lib.ListN.{length, length-append}
use lib.IntN.{ℤ, nat_abs, ◌+ℤ◌}
use lib.Signed.{le_z}
use Rattle.bits.proofs.Tests.{both_left, both_right}
use Rattle.lateness.specs.declared.Report.{Report}
use Rattle.lateness.specs.Lateness.{greatest_difference, within}
use Rattle.lateness.specs.Totals.{is_early, is_on_time, is_late, least_of, greatest_of, all_within, totals_of, longest_list, report}
use Rattle.lateness.specs.Reports.{Among, Accepted, Count, Negative, Zero, Positive, Sum, Totals, AnyOrder, Joins}
use Rattle.lateness.proofs.Steps.{sum_most_lem}
use Rattle.lateness.proofs.Picks.{least_among_lem, least_bounds, greatest_among_lem, greatest_bounds}
use Rattle.lateness.proofs.Counts.{count_early, count_on_time, count_late, sum_is, counts_add, many_join, sum_join}
use Rattle.lateness.proofs.Refusals.{is_plain, fine_of}
use Rattle.lateness.proofs.Reorder.{same_report}
use Rattle.lateness.proofs.SameTimes.{order_of}

-- ---- totals

module _ {A : Type 0} (f : Report → A) (l : List ℤ) (a : Accepted l) where
  field_is : f (report l) ≡ f (totals_of l)
  field_is = ap f (fine_of l a).is

least_in : (l : List ℤ) → 0 < length l → Among (least_of l) l
least_in [] h = absurd (omega arith)
least_in (d ∷ l) h = least_among_lem d l

greatest_in : (l : List ℤ) → 0 < length l → Among (greatest_of l) l
greatest_in [] h = absurd (omega arith)
greatest_in (d ∷ l) h = greatest_among_lem d l

pub totals : Totals
unfolding totals_of
totals =
    record {
      early = λ l a. subst (Count Negative l) (sym (field_is (λ r. r.early) l a)) (count_early l);
      on_time = λ l a. subst (Count Zero l) (sym (field_is (λ r. r.on_time) l a)) (count_on_time l);
      late = λ l a. subst (Count Positive l) (sym (field_is (λ r. r.late) l a)) (count_late l);
      all = λ l a. field_is (λ r. r.early + r.on_time + r.late) l a ∙ counts_add l;
      sum = λ l a. subst (Sum l) (sym (field_is (λ r. r.sum) l a)) (sum_is l);
      sum_most = λ l a. subst (λ (z : ℤ). nat_abs z ≤ length l * greatest_difference) (sym (field_is (λ r. r.sum) l a)) (sum_most_lem l (fine_of l a).inside);
      least_among = λ l a h. subst (λ (z : ℤ). Among z l) (sym (field_is (λ r. r.least) l a)) (least_in l h);
      least_of_all = λ l a d m. ap (λ (z : ℤ). le_z z d) (field_is (λ r. r.least) l a) ∙ ap (λ (z : ℤ). le_z (least_of l) z) (sym m.is) ∙ least_bounds l m.place m.low;
      greatest_among = λ l a h. subst (λ (z : ℤ). Among z l) (sym (field_is (λ r. r.greatest) l a)) (greatest_in l h);
      greatest_of_all = λ l a d m. ap (λ (z : ℤ). le_z d z) (field_is (λ r. r.greatest) l a) ∙ ap (λ (z : ℤ). le_z z (greatest_of l)) (sym m.is) ∙ greatest_bounds l m.place m.low;
    }

-- ---- another order

pub any_order : AnyOrder
any_order = record { reordered = λ l m r. same_report r; same_times = λ l m h. same_report (order_of l m h) }

-- ---- joined lists

within-left : (l m : List ℤ) → all_within (l ++ m) ≡ true → all_within l ≡ true
unfolding all_within
within-left [] m e = refl
within-left (d ∷ l) m e = λ i. both_left (within d) (all_within (l ++ m)) e i && within-left l m (both_right (within d) (all_within (l ++ m)) e) i

within_right : (l m : List ℤ) → all_within (l ++ m) ≡ true → all_within m ≡ true
unfolding all_within
within_right [] m e = e
within_right (d ∷ l) m e = within_right l m (both_right (within d) (all_within (l ++ m)) e)

pub joins : Joins
unfolding totals_of
joins l m a =
    let f = fine_of (l ++ m) a in
    let n : length l + length m ≤ longest_list = omega (arith, length-append l m, f.short) in
    let p = is_plain l (within-left l m f.inside) (omega arith) in
    let q = is_plain m (within_right l m f.inside) (omega arith) in
    let w = f.is in
    record {
      first_number = ap (λ (r : Report). r.number) p;
      second_number = ap (λ (r : Report). r.number) q;
      early = ap (λ (r : Report). r.early) w ∙ many_join is_early l m ∙ sym (λ i. (p i).early + (q i).early);
      on_time = ap (λ (r : Report). r.on_time) w ∙ many_join is_on_time l m ∙ sym (λ i. (p i).on_time + (q i).on_time);
      late = ap (λ (r : Report). r.late) w ∙ many_join is_late l m ∙ sym (λ i. (p i).late + (q i).late);
      sum = ap (λ (r : Report). r.sum) w ∙ sum_join l m ∙ sym (λ i. (p i).sum +ℤ (q i).sum);
    }
