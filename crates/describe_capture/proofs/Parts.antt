-- The advances of a number of nanoseconds: none of 0, itself up to the longest, and else the longest and the rest.
use Prim.Native.Nat.{ℕ, ◌-◌, ◌≤◌, ◌<◌}
use mathlib.Core.Path.{◌≡◌, ap, sym, ◌∙◌}
use mathlib.Core.List.{List, [], ◌∷◌}
use native.Mathlib.Omega.{arith}
use lib.ListN.{length, get_or, get_or-eq_default}
use borrow.Author.Tests.{eq-eqb, ne_eqb, le-leb, lt-leb}
use Rattle.times.specs.declared.Nanos.{Nanos}
use Rattle.capture.specs.Advances.{advances}

abbrev ns : ℕ → Nanos
ns n = record { 0 = n }

-- ---- the list
none_of : (n : ℕ) → n ≡ 0 → advances (ns n) ≡ []
unfolding advances
none_of n e = simp (eq-eqb n 0 e)

one_of : (n : ℕ) → (n ≡ 0 → ⊥) → n ≤ 4294967295 → advances (ns n) ≡ ns n ∷ []
unfolding advances
one_of n h l = simp (ne_eqb n 0 h, le-leb n 4294967295 l)

two_of : (n : ℕ) → 4294967295 < n → advances (ns n) ≡ ns 4294967295 ∷ ns (n - 4294967295) ∷ []
unfolding advances
two_of n l = simp (ne_eqb n 0 (λ q. omega arith), lt-leb n 4294967295 l)

-- ---- what stands at an index of it, in nanoseconds
abbrev part_in : List Nanos → (k : ℕ) → ℕ
part_in xs k = (get_or xs k (ns 0)).0

at_index : {xs : List Nanos} {i k : ℕ} (n : ℕ) → advances (ns n) ≡ xs → k ≡ i → part_in xs i ≡ part_in (advances (ns n)) k
at_index {xs} {k = k} n e f = sym (ap (λ (ys : List Nanos). part_in ys k) e ∙ ap (part_in xs) f)

past : (n k : ℕ) (xs : List Nanos) → advances (ns n) ≡ xs → length xs ≤ k → 0 ≡ part_in (advances (ns n)) k
past n k xs e h = sym (ap (λ (ys : List Nanos). part_in ys k) e ∙ ap (λ (t : Nanos). t.0) (get_or-eq_default xs (ns 0) {n = k} h))

pub of_zero : (n k : ℕ) → n ≡ 0 → 0 ≡ part_in (advances (ns n)) k
of_zero n k e = past n k [] (none_of n e) (omega arith)

pub only_one : (n k : ℕ) → (n ≡ 0 → ⊥) → n ≤ 4294967295 → k ≡ 0 → n ≡ part_in (advances (ns n)) k
only_one n k h l e = at_index n (one_of n h l) e

pub after_one : (n k : ℕ) → (n ≡ 0 → ⊥) → n ≤ 4294967295 → (k ≡ 0 → ⊥) → 0 ≡ part_in (advances (ns n)) k
after_one n k h l e = past n k _ (one_of n h l) (omega arith)

pub longest : (n k : ℕ) → 4294967295 < n → k ≡ 0 → 4294967295 ≡ part_in (advances (ns n)) k
longest n k l e = at_index n (two_of n l) e

pub the_rest : (n k : ℕ) → 4294967295 < n → k ≡ 1 → n - 4294967295 ≡ part_in (advances (ns n)) k
the_rest n k l e = at_index n (two_of n l) e

pub after_two : (n k : ℕ) → 4294967295 < n → (k ≡ 0 → ⊥) → (k ≡ 1 → ⊥) → 0 ≡ part_in (advances (ns n)) k
after_two n k l e f = past n k _ (two_of n l) (omega arith)
