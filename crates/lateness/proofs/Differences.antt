-- The difference of a slot: what is claimed of it.
use Rattle.std.specs.Prelude.{Option, None, Some}
use mathlib.Core.Path.{◌≡◌, refl, sym, ap, ◌∙◌}
use mathlib.Core.Bool.{Bool, true, false, cond}
use mathlib.Core.Logic.{◌⊎◌, inl, inr, ⊎_elim, ◌↔◌}
use Prim.Native.Nat.{ℕ, suc, ◌+◌, ◌-◌, ◌≤◌, ◌<◌}
use native.Mathlib.Omega.{arith}
use lib.Dec.{leb}
use lib.ListN.{get_or}
use lib.IntN.{ℤ, pos, negsuc, nat_abs, neg_ℤ, ◌+ℤ◌, neg_ℤ-neg_ℤ, neg_ℤ-+ℤ, +ℤ_comm, -ℤ-+ℤ_cancel}
use lib.Signed.{lt_z}
use borrow.Author.Tests.{le-leb, lt-leb, ltb-true, lt-ltb}
use Rattle.bits.proofs.Choices.{when_true, when_false}
use Rattle.bits.proofs.Numbers.{by_le}
use Rattle.times.specs.declared.Nanos.{Nanos}
use Rattle.times.specs.Moments.{clock_end}
use Rattle.readiness.specs.declared.Moments.{Moments}
use Rattle.readiness.specs.MadeReady.{moments_of}
use Rattle.lateness.specs.declared.Lateness.{Lateness}
use Rattle.lateness.specs.declared.Lateness.TheVariants.{NoDifference, Of, Outside}
use Rattle.lateness.specs.Lateness.{bench_time, minus, greatest_difference, within, apart, lateness_of, lateness_value}
use Rattle.lateness.specs.Differences.{BenchTimes, FarApart, negated, Differences}
use Rattle.lateness.proofs.Ints.{late_is, early_is, size_neg}
use Rattle.lateness.proofs.Order.{no_way}

-- ---- the bench time

abbrev kept : Moments → ℕ → Option Nanos
kept m slot = get_or (moments_of m) slot None

pub past_count_lem : (slots : ℕ) (m : Moments) (slot : ℕ) → slots ≤ slot → bench_time slots m slot ≡ None
unfolding bench_time
past_count_lem slots m slot h = when_true (leb slots slot) None (cond (leb 32 slot) None (kept m slot)) (le-leb slots slot h)

pub past_32 : (slots : ℕ) (m : Moments) (slot : ℕ) → 32 ≤ slot → bench_time slots m slot ≡ None
unfolding bench_time
past_32 slots m slot h = ap (λ (x : Option Nanos). cond (leb slots slot) None x) (when_true (leb 32 slot) None (kept m slot) (le-leb 32 slot h)) ∙ by (leb slots slot)
  where
    by : (b : Bool) → ◌≡◌ {A = Option Nanos} (cond b None None) None
    by true = refl
    by false = refl

pub of_card : (slots : ℕ) (m : Moments) (slot : ℕ) → slot < slots → slot < 32 → bench_time slots m slot ≡ kept m slot
unfolding bench_time
of_card slots m slot h k = when_false (leb slots slot) None (cond (leb 32 slot) None (kept m slot)) (lt-leb slots slot h) ∙ when_false (leb 32 slot) None (kept m slot) (lt-leb 32 slot k)

never : (seen : Option Nanos) → lateness_of None seen ≡ NoDifference
unfolding lateness_of
never seen = refl

pub bench_times : BenchTimes
bench_times =
    record {
      kept = of_card;
      past_count = λ slots m slot seen h. ap (λ (x : Option Nanos). lateness_of x seen) (past_count_lem slots m slot h) ∙ never seen;
      past32 = λ slots m slot seen h. ap (λ (x : Option Nanos). lateness_of x seen) (past_32 slots m slot h) ∙ never seen;
    }

-- ---- the sign and the size of seen minus bench

early_neg : (s b : ℕ) → s < b → minus s b ≡ negsuc (b - suc s)
early_neg s b h = early_is s b h ∙ by (b - s) (b - suc s) (omega arith)
  where
    by : (n m : ℕ) → n ≡ suc m → neg_ℤ (pos n) ≡ negsuc m
    by n m e = ap (λ (x : ℕ). neg_ℤ (pos x)) e

size_is : (s b : ℕ) → nat_abs (minus s b) ≡ (s - b) + (b - s)
size_is s b = by_le b s (λ (h : b ≤ s). ap nat_abs (late_is s b h) ∙ (omega arith)) (λ (h : s < b). ap nat_abs (early_is s b h) ∙ size_neg (b - s) ∙ (omega arith))

turned : (s b : ℕ) → minus b s ≡ neg_ℤ (minus s b)
turned s b =
    sym (neg_ℤ-+ℤ (pos s) (neg_ℤ (pos b)) ∙ ap (λ (z : ℤ). neg_ℤ (pos s) +ℤ z) (neg_ℤ-neg_ℤ (pos b)) ∙ +ℤ_comm (neg_ℤ (pos s)) (pos b))

adds : (s b : ℕ) → pos b +ℤ minus s b ≡ pos s
adds s b = +ℤ_comm (pos b) (minus s b) ∙ -ℤ-+ℤ_cancel (pos s) (pos b)

-- ---- near and far

data Case (b s : Nanos) : Type 0 where
  near : (FarApart b s → ⊥) → lateness_of (Some b) (Some s) ≡ Of (minus s.0 b.0) → Case b s
  far : FarApart b s → lateness_of (Some b) (Some s) ≡ Outside → Case b s

module _ (b s : Nanos) where
  abbrev d : ℤ
  d = minus s.0 b.0

  inside : nat_abs d ≤ greatest_difference → lateness_of (Some b) (Some s) ≡ Of d
  unfolding lateness_of apart within
  inside h = when_true (within d) (Of d) Outside (le-leb (nat_abs d) greatest_difference h)

  refused : greatest_difference < nat_abs d → lateness_of (Some b) (Some s) ≡ Outside
  unfolding lateness_of apart within
  refused h = when_false (within d) (Of d) Outside (lt-leb (nat_abs d) greatest_difference h)

  abbrev size : nat_abs d ≡ (s.0 - b.0) + (b.0 - s.0)
  size = size_is s.0 b.0

  not_far : nat_abs d ≤ greatest_difference → FarApart b s → ⊥
  not_far h (inl k) = omega (arith, size)
  not_far h (inr k) = omega (arith, size)

  is_far_lem : greatest_difference < nat_abs d → FarApart b s
  is_far_lem h = by_le b.0 s.0 (λ (k : b.0 ≤ s.0). inl (omega (arith, size))) (λ (k : s.0 < b.0). inr (omega (arith, size)))

  case_of : Case b s
  case_of = by_le (nat_abs d) greatest_difference (λ h. near (not_far h) (inside h)) (λ h. far (is_far_lem h) (refused h))

-- ---- what a result says

abbrev which : Lateness → ℕ
which NoDifference = 0
which (Of d) = 1
which Outside = 2

module _ (b s : Nanos) where
  some : lateness_of (Some b) (Some s) ≡ NoDifference → ⊥
  some e = by (case_of b s)
    where
      by : Case b s → ⊥
      by (near n q) = let z : ◌≡◌ {A = ℕ} 1 0 = ap which (sym q ∙ e) in omega arith
      by (far n q) = let z : ◌≡◌ {A = ℕ} 2 0 = ap which (sym q ∙ e) in omega arith

  outside_far : lateness_of (Some b) (Some s) ≡ Outside → FarApart b s
  outside_far e = by (case_of b s)
    where
      by : Case b s → FarApart b s
      by (near n q) = let z : ◌≡◌ {A = ℕ} 1 2 = ap which (sym q ∙ e) in absurd (omega arith)
      by (far n q) = n

  far_outside : FarApart b s → lateness_of (Some b) (Some s) ≡ Outside
  far_outside f = by (case_of b s)
    where
      by : Case b s → lateness_of (Some b) (Some s) ≡ Outside
      by (near n q) = absurd (n f)
      by (far n q) = q

  given : (FarApart b s → ⊥) → lateness_of (Some b) (Some s) ≡ Of (minus s.0 b.0)
  given f = by (case_of b s)
    where
      by : Case b s → lateness_of (Some b) (Some s) ≡ Of (minus s.0 b.0)
      by (near n q) = q
      by (far n q) = absurd (f n)

  value_is : (v : ℤ) → lateness_of (Some b) (Some s) ≡ Of v → v ≡ minus s.0 b.0
  unfolding lateness_value
  value_is v e = by (case_of b s)
    where
      by : Case b s → v ≡ minus s.0 b.0
      by (near n q) = ap lateness_value (sym e ∙ q)
      by (far n q) = let z : ◌≡◌ {A = ℕ} 2 1 = ap which (sym q ∙ e) in absurd (omega arith)

-- ---- early, on time, late

early_so : (s b : ℕ) → lt_z (minus s b) (pos 0) ≡ true → s < b
early_so s b e = by_le b s (λ (h : b ≤ s). absurd (omega (arith, ltb-true (s - b) 0 (ap (λ (z : ℤ). lt_z z (pos 0)) (sym (late_is s b h)) ∙ e)))) (λ h. h)

so_early : (s b : ℕ) → s < b → lt_z (minus s b) (pos 0) ≡ true
so_early s b h = ap (λ (z : ℤ). lt_z z (pos 0)) (early_neg s b h)

late_so : (s b : ℕ) → lt_z (pos 0) (minus s b) ≡ true → b < s
late_so s b e =
    by_le b s
    (λ (h : b ≤ s). let k : 0 < s - b = ltb-true 0 (s - b) (ap (λ (z : ℤ). lt_z (pos 0) z) (sym (late_is s b h)) ∙ e) in omega arith)
    (λ (h : s < b). absurd (no_way (ap (λ (z : ℤ). lt_z (pos 0) z) (sym (early_neg s b h)) ∙ e)))

so_late : (s b : ℕ) → b < s → lt_z (pos 0) (minus s b) ≡ true
so_late s b h = ap (λ (z : ℤ). lt_z (pos 0) z) (late_is s b (omega arith)) ∙ lt-ltb 0 (s - b) (omega arith)

same_so : (s b : ℕ) → minus s b ≡ pos 0 → s ≡ b
same_so s b e = let z : nat_abs (minus s b) ≡ 0 = ap nat_abs e in omega (arith, size_is s b)

so_same : (s b : ℕ) → s ≡ b → minus s b ≡ pos 0
so_same s b h = late_is s b (omega arith) ∙ ap pos (omega arith)

-- ---- one of the two times is missing

abbrev is_never : Option Nanos → ℕ
is_never None = 1
is_never (Some t) = 0

none_so : (bench seen : Option Nanos) → (lateness_of bench seen ≡ NoDifference) ↔ ((bench ≡ None) ⊎ (seen ≡ None))
unfolding lateness_of
none_so None seen = ((λ e. inl refl), (λ h. refl))
none_so (Some b) None = ((λ e. inr refl), (λ h. refl))
none_so (Some b) (Some s) = (
  (λ (e : lateness_of (Some b) (Some s) ≡ NoDifference). absurd (some b s e)),
  (λ (h : (Some b ≡ None) ⊎ (Some s ≡ None)). ⊎_elim (λ (k : Some b ≡ None). absurd (no_one (ap is_never k))) (λ (k : Some s ≡ None). absurd (no_one (ap is_never k))) h),
)
  where
    no_one : ◌≡◌ {A = ℕ} 0 1 → ⊥
    no_one e = omega arith

-- ---- exchanged

exchange : (bench seen : Option Nanos) → lateness_of seen bench ≡ negated (lateness_of bench seen)
unfolding lateness_of
exchange None None = refl
exchange None (Some s) = refl
exchange (Some b) None = refl
exchange (Some b) (Some s) = by (case_of b s)
  where
    back : (FarApart b s → ⊥) → FarApart s b → ⊥
    back f (inl k) = f (inr k)
    back f (inr k) = f (inl k)

    over : FarApart b s → FarApart s b
    over (inl k) = inr k
    over (inr k) = inl k

    by : Case b s → lateness_of (Some s) (Some b) ≡ negated (lateness_of (Some b) (Some s))
    by (near n q) = given s b (back n) ∙ ap Of (turned s.0 b.0) ∙ sym (ap negated q)
    by (far f q) = far_outside s b (over f) ∙ sym (ap negated q)

-- ---- all of it

pub differences : Differences
differences =
    record {
      none = none_so;
      outside = λ b s. (outside_far b s, far_outside b s);
      given = given;
      exact = λ b s d e. ap (λ (z : ℤ). pos b.0 +ℤ z) (value_is b s d e) ∙ adds s.0 b.0;
      early =
          λ b s d e. (
            (λ h. early_so s.0 b.0 (ap (λ (z : ℤ). lt_z z (pos 0)) (sym (value_is b s d e)) ∙ h)),
            (λ h. ap (λ (z : ℤ). lt_z z (pos 0)) (value_is b s d e) ∙ so_early s.0 b.0 h),
          );
      on_time = λ b s d e. ((λ h. same_so s.0 b.0 (sym (value_is b s d e) ∙ h)), (λ h. value_is b s d e ∙ so_same s.0 b.0 h));
      late =
          λ b s d e. (
            (λ h. late_so s.0 b.0 (ap (λ (z : ℤ). lt_z (pos 0) z) (sym (value_is b s d e)) ∙ h)),
            (λ h. ap (λ (z : ℤ). lt_z (pos 0) z) (value_is b s d e) ∙ so_late s.0 b.0 h),
          );
      readings = λ b s h k. given b s (close b s h k);
      exchanged = exchange;
    }
  where
    close : (b s : Nanos) → b.0 ≤ clock_end → s.0 ≤ clock_end → FarApart b s → ⊥
    close b s h k (inl f) = omega arith
    close b s h k (inr f) = omega arith
