-- The advances that are due after a stamp, exactly: `advances_exactly`.
use Prim.Native.Nat.{ℕ, ◌*◌, ◌≤◌, ◌<◌}
use mathlib.Core.Path.{◌≡◌, refl, ap, sym, subst, ◌∙◌}
use mathlib.Core.Bool.{true, false}
use mathlib.Core.List.{List, [], ◌∷◌}
use native.Mathlib.Omega.{arith}
use lib.ListN.{length}
use lib.Dec.{leb, eqb}
use borrow.Author.Tests.{eq-eqb, ne_eqb, leb-false, le-leb, lt-leb}
use Rattle.std.specs.Prelude.{None, Some}
use Rattle.bits.specs.Orders.{Among, here, there}
use Rattle.bits.proofs.Numbers.{by_le, four_bytes}
use Rattle.times.specs.declared.Nanos.{Nanos}
use Rattle.ticks.specs.declared.Stamp.{Stamp}
use Rattle.ticks.specs.Ticks.{difference, went_back, in_nanos}
use Rattle.trace.proofs.Tests.{if_true, if_false, if_cases}
use Rattle.capture.specs.Advances.{stamp_in, longest_advance, rest, advances, advance, back, between, due}
use Rattle.capture.specs.Exactly.{total, LongestFirst, AreAdvances, IsAdvance, AdvancesExactly}
use Rattle.capture.proofs.Advancing.{bytes_advance, advance-whole, due_none}

-- ---- sizes
abbrev Size : Nanos → Type 0
Size t = (0 < t.0) × (t.0 ≤ 4294967295)

abbrev Sizes : List Nanos → Type 0
Sizes [] = Unit {0}
Sizes (t ∷ ts) = Size t × Sizes ts

each-size : (ts : List Nanos) → Sizes ts → (t : Nanos) → Among t ts → Size t
each-size [] h t x = elim x [ ]
each-size (u ∷ ts) h t here = h.0
each-size (u ∷ ts) h t (there m) = each-size ts h.1 t m

first_of : List Nanos → ℕ
first_of [] = 0
first_of (t ∷ ts) = t.0

nanos_eq : (t u : Nanos) → t.0 ≡ u.0 → t ≡ u
nanos_eq t u e = λ i. record { 0 = e i }

-- ---- the advances of so many ns
none_of : (t : Nanos) → t.0 ≡ 0 → advances t ≡ []
unfolding advances
none_of t z = if_true (eqb t.0 0) _ _ (eq-eqb t.0 0 z)

one_of : (t : Nanos) → Size t → advances t ≡ t ∷ []
unfolding advances
one_of t h = if_false (eqb t.0 0) _ _ (ne_eqb t.0 0 (λ q. omega (arith, h.0))) ∙ if_true (leb t.0 longest_advance.0) _ _ (le-leb t.0 longest_advance.0 h.1)

two_of : (t : Nanos) → 4294967295 < t.0 → advances t ≡ longest_advance ∷ rest t ∷ []
unfolding advances
two_of t h = if_false (eqb t.0 0) _ _ (ne_eqb t.0 0 (λ q. omega arith)) ∙ if_false (leb t.0 longest_advance.0) _ _ (lt-leb t.0 longest_advance.0 h)

-- by how many they are
by_size : {P : Type 0} (t : Nanos) → (t.0 ≡ 0 → P) → (Size t → P) → (4294967295 < t.0 → P) → P
by_size t f g h = by_le t.0 0 (λ z. f (omega arith)) (λ p. by_le t.0 4294967295 (λ l. g (p, l)) h)

are_advances : (t : Nanos) (ticks : ℕ) → t.0 ≡ 4 * ticks → t.0 ≤ 8589934590 → AreAdvances ticks (advances t)
unfolding first_of
are_advances t ticks e l =
    by_size t
    (λ z. subst (AreAdvances ticks) (sym (none_of t z)) (record {
      adds = omega arith;
      each = each-size [] tt;
      few = omega arith;
      longest = λ a b q. absurd (omega (arith, ap length q));
      if_no_ticks = λ _. refl;
      only_if_no_ticks = λ _. omega arith;
    }))
    (λ s. subst (AreAdvances ticks) (sym (one_of t s)) (record {
      adds = omega arith;
      each = each-size (t ∷ []) (s, tt);
      few = omega arith;
      longest = λ a b q. absurd (omega (arith, ap length q));
      if_no_ticks = λ z. absurd (omega (arith, s.0));
      only_if_no_ticks = λ q. absurd (omega (arith, ap length q));
    }))
    (λ h. subst (AreAdvances ticks) (sym (two_of t h)) (record {
      adds = omega arith;
      each = each-size (longest_advance ∷ rest t ∷ []) ((omega arith, omega arith), ((omega arith, omega arith), tt));
      few = omega arith;
      longest = λ a b q. sym (ap first_of q);
      if_no_ticks = λ z. absurd (omega arith);
      only_if_no_ticks = λ q. absurd (omega (arith, ap length q));
    }))

some_total : (t : Nanos) (ts : List Nanos) → LongestFirst (t ∷ ts) → 0 < total (t ∷ ts)
some_total t [] h = omega (arith, h.0)
some_total t (u ∷ ts) h = omega (arith, h.0)

only-advances : (t : Nanos) → t.0 ≤ 8589934590 → (ts : List Nanos) → LongestFirst ts → total ts ≡ t.0 → ts ≡ advances t
only-advances t l [] h e = sym (none_of t (sym e))
only-advances t l (a ∷ []) h e =
    let q : a ≡ t = nanos_eq a t (omega arith) in
    ap (λ (x : Nanos). x ∷ []) q ∙ sym (one_of t (subst Size q h))
only-advances t l (a ∷ b ∷ []) h e =
    let p : a ≡ longest_advance = nanos_eq a longest_advance h.0 in
    let q : b ≡ rest t = nanos_eq b (rest t) (omega (arith, h.0)) in
    (λ i. p i ∷ q i ∷ []) ∙ sym (two_of t (omega (arith, h.0, h.1.0)))
only-advances t l (a ∷ b ∷ c ∷ ts) h e = absurd (omega (arith, h.0, h.1.0, some_total c ts h.1.1))

-- ---- due after a stamp
module _ (earlier : Stamp) (stamp : List ℕ) where
  abbrev ticks : ℕ
  ticks = (difference earlier (stamp_in stamp)).0

  abbrev time : Nanos
  time = in_nanos (difference earlier (stamp_in stamp))

  four_a_tick : time.0 ≡ 4 * ticks
  unfolding in_nanos
  four_a_tick = refl

  fits_two : went_back (difference earlier (stamp_in stamp)) ≡ false → time.0 ≤ 8589934590
  unfolding went_back
  fits_two f = omega (arith, four_a_tick, leb-false 2147483648 ticks f)

  due_forward : length stamp ≡ 4 → went_back (difference earlier (stamp_in stamp)) ≡ false → due (Some earlier) stamp ≡ advances time
  unfolding due back between
  due_forward l f =
      if_true (eqb (length stamp) 4) _ _ (eq-eqb (length stamp) 4 l) ∙ if_false (went_back (difference earlier (stamp_in stamp))) _ _ f

  due-back : went_back (difference earlier (stamp_in stamp)) ≡ true → due (Some earlier) stamp ≡ []
  unfolding due back
  due-back b =
      if_cases (λ (ts : List Nanos). ts ≡ []) (eqb (length stamp) 4) _ _ (λ _. if_true (went_back (difference earlier (stamp_in stamp))) _ _ b) (λ _. refl)

first_none : (stamp : List ℕ) → due None stamp ≡ []
unfolding due back between
first_none stamp = if_cases (λ (ts : List Nanos). ts ≡ []) (eqb (length stamp) 4) _ _ (λ _. refl) (λ _. refl)

is_advance : (t : Nanos) → t.0 ≤ 4294967295 → IsAdvance t (advance t)
unfolding advance
is_advance t h =
    record {
      whole = advance-whole t;
      five = refl;
      bytes = bytes_advance t;
      kind = refl;
      nanos = four_bytes t.0 (omega arith);
    }

pub advances_exactly : AdvancesExactly
advances_exactly =
    record {
      are = λ e stamp l f. subst (AreAdvances (ticks e stamp)) (sym (due_forward e stamp l f)) (are_advances (time e stamp) (ticks e stamp) (four_a_tick e stamp) (fits_two e stamp f));
      only = λ e stamp l f ts h q. only-advances (time e stamp) (fits_two e stamp f) ts h (q ∙ sym (four_a_tick e stamp)) ∙ sym (due_forward e stamp l f);
      where_back = due-back;
      at_first = first_none;
      before_last = due_none;
      records = is_advance;
    }
