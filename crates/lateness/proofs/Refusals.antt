-- The refusals of a list: what is claimed of them.
use mathlib.Core.Path.{◌≡◌, refl, sym, ap, ◌∙◌}
use mathlib.Core.Bool.{Bool, true, false, ◌&&◌}
use mathlib.Core.List.{List, [], ◌∷◌}
use Prim.Native.Nat.{ℕ, zero, suc, ◌≤◌, ◌<◌}
use native.Mathlib.Omega.{arith}
use lib.Dec.{leb}
use lib.ListN.{length, get_or}
use lib.IntN.{ℤ, pos, nat_abs}
use borrow.Author.Tests.{le-leb, lt-leb, leb-false}
use Rattle.bits.proofs.Choices.{when_true, when_false}
use Rattle.bits.proofs.Numbers.{by_le}
use Rattle.bits.proofs.Tests.{split}
use Rattle.lateness.specs.declared.Report.{Report}
use Rattle.lateness.specs.Lateness.{greatest_difference, within}
use Rattle.lateness.specs.Totals.{how_many, sum_of, pick_of, least_of, greatest_of, all_within, totals_of, refused, longest_list, report}
use Rattle.lateness.specs.Reports.{HasOutside, Accepted, Refusals}
use Rattle.lateness.proofs.Steps.{within_head, within_tail}

-- ---- a difference that is outside

within_at : (l : List ℤ) → all_within l ≡ true → (i : ℕ) → i < length l → nat_abs (get_or l i (pos 0)) ≤ greatest_difference
within_at [] e i h = absurd (omega arith)
within_at (d ∷ l) e zero h = within_head d l e
within_at (d ∷ l) e (suc i) h = within_at l (within_tail d l e) i (omega arith)

none_outside : (l : List ℤ) → all_within l ≡ true → HasOutside l → ⊥
none_outside l e h =
    let a = h.among in
    let n = within_at l e a.place a.low in
    let q : nat_abs (get_or l a.place (pos 0)) ≡ nat_abs h.one = ap nat_abs a.is in
    omega (arith, n, q, h.outside)

one_outside : (l : List ℤ) → all_within l ≡ false → HasOutside l
unfolding all_within within
one_outside [] e = absurd (let z : ◌≡◌ {A = ℕ} 0 1 = cc in omega arith)
one_outside (d ∷ l) e = by (within d) refl (one_outside l)
  where
    by : (b : Bool) → within d ≡ b → (all_within l ≡ false → HasOutside l) → HasOutside (d ∷ l)
    by true q f =
        let r = f (sym (ap (λ (b : Bool). b && all_within l) q) ∙ e) in
        record { one = r.one; among = record { place = suc r.among.place; low = omega (arith, r.among.low); is = r.among.is }; outside = r.outside }
    by false q f = record { one = d; among = record { place = 0; low = omega arith; is = refl }; outside = leb-false (nat_abs d) greatest_difference q }

-- ---- the three ways

pub record Fine (l : List ℤ) : Type 0 where
  pub inside : all_within l ≡ true
  pub short : length l ≤ longest_list
  pub is : report l ≡ totals_of l

data Case (l : List ℤ) : Type 0 where
  outside : HasOutside l → report l ≡ refused 34 → Case l
  long : (HasOutside l → ⊥) → longest_list < length l → report l ≡ refused 35 → Case l
  fine : Fine l → Case l

module _ (l : List ℤ) where
  is_34 : all_within l ≡ false → report l ≡ refused 34
  unfolding report
  is_34 e = when_false (all_within l) _ _ e

  is_35 : all_within l ≡ true → longest_list < length l → report l ≡ refused 35
  unfolding report
  is_35 e h = when_true (all_within l) _ _ e ∙ when_false (leb (length l) longest_list) _ _ (lt-leb (length l) longest_list h)

  pub is_plain : all_within l ≡ true → length l ≤ longest_list → report l ≡ totals_of l
  unfolding report
  is_plain e h = when_true (all_within l) _ _ e ∙ when_true (leb (length l) longest_list) _ _ (le-leb (length l) longest_list h)

  case_of : Case l
  case_of =
      split (all_within l)
      (λ e. by_le (length l) longest_list (λ h. fine (record { inside = e; short = h; is = is_plain e h })) (λ h. long (none_outside l e) h (is_35 e h)))
      (λ e. outside (one_outside l e) (is_34 e))

  number_is : {r : Report} → report l ≡ r → (report l).number ≡ r.number
  number_is e = ap (λ (x : Report). x.number) e

  fine_number : Fine l → (report l).number ≡ 0
  unfolding totals_of
  fine_number f = number_is f.is

  pub fine_of : Accepted l → Fine l
  fine_of a = by case_of
    where
      by : Case l → Fine l
      by (outside h q) = absurd (omega (arith, number_is q, a))
      by (long n h q) = absurd (omega (arith, number_is q, a))
      by (fine f) = f

-- ---- refusals

module _ (l : List ℤ) where
  from_34 : (report l).number ≡ 34 → HasOutside l
  from_34 e = by (case_of l)
    where
      by : Case l → HasOutside l
      by (outside h q) = h
      by (long n h q) = absurd (omega (arith, number_is l q, e))
      by (fine f) = absurd (omega (arith, fine_number l f, e))

  to_34 : HasOutside l → (report l).number ≡ 34
  to_34 o = by (case_of l)
    where
      by : Case l → (report l).number ≡ 34
      by (outside h q) = number_is l q
      by (long n h q) = absurd (n o)
      by (fine f) = absurd (none_outside l f.inside o)

  from_35 : (report l).number ≡ 35 → (HasOutside l → ⊥) × (longest_list < length l)
  from_35 e = by (case_of l)
    where
      by : Case l → (HasOutside l → ⊥) × (longest_list < length l)
      by (outside h q) = absurd (omega (arith, number_is l q, e))
      by (long n h q) = (n, h)
      by (fine f) = absurd (omega (arith, fine_number l f, e))

  to_35 : (HasOutside l → ⊥) × (longest_list < length l) → (report l).number ≡ 35
  to_35 o = by (case_of l)
    where
      by : Case l → (report l).number ≡ 35
      by (outside h q) = absurd (o.0 h)
      by (long n h q) = number_is l q
      by (fine f) = absurd (omega (arith, o.1, f.short))

  to_0 : (HasOutside l → ⊥) × (length l ≤ longest_list) → Accepted l
  to_0 o = by (case_of l)
    where
      by : Case l → Accepted l
      by (outside h q) = absurd (o.0 h)
      by (long n h q) = absurd (omega (arith, o.1, h))
      by (fine f) = fine_number l f

  zeros : (Accepted l → ⊥) → report l ≡ refused (report l).number
  zeros n = by (case_of l)
    where
      by : Case l → report l ≡ refused (report l).number
      by (outside h q) = q ∙ ap refused (sym (number_is l q))
      by (long m h q) = q ∙ ap refused (sym (number_is l q))
      by (fine f) = absurd (n (fine_number l f))

no_totals : report [] ≡ refused 0
unfolding report all_within totals_of how_many sum_of least_of greatest_of pick_of
no_totals = refl

pub refusals : Refusals
refusals =
    record {
      outside = λ l. (from_34 l, to_34 l);
      too_many = λ l. (from_35 l, to_35 l);
      accepted = λ l. ((λ a. (none_outside l (fine_of l a).inside, (fine_of l a).short)), to_0 l);
      zeros = zeros;
      none = no_totals;
    }
