-- Counts: the loop over the answers, counting in two parts, and the sum of all counts.
use Rattle.std.proofs.Common.{◌≡◌, ℕ, zero, suc, ◌+◌, ◌-◌, ◌*◌, ◌/◌, ◌%◌, ◌^◌, ◌<◌, ◌≤◌, Bool, true, false, cond, eqb, ltb, List, [], ◌∷◌, ◌++◌, length, get_or, drop, set, replicate, sym, refl, ap, ◌∙◌, subst, ap₂, mod-eq_of_lt, arith, length-set, get_or-drop, drop-drop, ltb-true}
use Rattle.answer_counts.specs.Counts.{place_of, statuses_of, statuses_in, one_more, counted_in, count_on, all_on}

-- ---- places

by_tests : (s : ℕ) (a b d : Bool) → eqb s 0 ≡ a → ltb s 16 ≡ b → ltb s 26 ≡ d → cond a 0 (cond b 11 (cond d (s - 15) 11)) < 12
by_tests s true b d e f g = omega arith
by_tests s false true d e f g = omega arith
by_tests s false false true e f g = let h : s < 26 = ltb-true s 26 g in omega arith
by_tests s false false false e f g = omega arith

-- every status has one of the 12 places
pub place_in : (s : ℕ) → place_of s < 12
unfolding place_of
place_in s = by_tests s (eqb s 0) (ltb s 16) (ltb s 26) refl refl refl

-- ---- lengths

pub long_more : (p : ℕ) (l : List ℕ) → length (one_more p l) ≡ length l
unfolding one_more
long_more p [] = refl
long_more zero (n ∷ l) = refl
long_more (suc p) (n ∷ l) = ap suc (long_more p l)

pub long_counted : (ss : List ℕ) → length (counted_in ss) ≡ 12
unfolding counted_in
long_counted [] = refl
long_counted (s ∷ ss) = long_more (place_of s) (counted_in ss) ∙ long_counted ss

-- ---- the loop: the first answers are counted in `by`, and the others are left

pub shift : (p : ℕ) (l m : List ℕ) → p < length l → p < length m → all_on (set l p ((get_or l p 0 + 1) % 2 ^ 64)) m ≡ all_on l (one_more p m)
unfolding all_on one_more count_on
shift p [] m h k = absurd (omega arith)
shift p (n ∷ l) [] h k = absurd (omega arith)
shift zero (n ∷ l) (j ∷ m) h k = refl
shift (suc p) (n ∷ l) (j ∷ m) h k = ap (λ (t : List ℕ). count_on j n ∷ t) (shift p l m (omega arith) (omega arith))

pub record Inv (before answers by : List ℕ) (i : ℕ) : Type 0 where
  pub within : i ≤ length answers / 8
  pub long : length by ≡ 12
  pub so : all_on by (counted_in (statuses_of (length answers / 8 - i) (drop (8 * i) answers))) ≡ all_on before (counted_in (statuses_in answers))

pub starts : (before answers : List ℕ) → length before ≡ 12 → Inv before answers before 0
starts before answers h =
    let n : length answers / 8 - 0 ≡ length answers / 8 = omega arith in
    let z : 8 * 0 ≡ 0 = omega arith in
    record {
      within = omega arith;
      long = h;
      so = ap₂ (λ (x y : ℕ). all_on before (counted_in (statuses_of x (drop y answers)))) n z;
    }

pub turns : (before answers by : List ℕ) (i : ℕ) → Inv before answers by i → i < length answers / 8
    → (k : ℕ) → k ≡ place_of (get_or answers (8 * i) 0) → (v : ℕ) → v ≡ (get_or by k 0 + 1) % 2 ^ 64 → Inv before answers (set by k v) (i + 1)
unfolding counted_in statuses_of
turns before answers by i h j k e v f =
    let n : ℕ = length answers / 8 - (i + 1) in
    let m : List ℕ = drop (8 * i) answers in
    let left : length answers / 8 - i ≡ suc n = omega arith in
    let z : 8 * i + 0 ≡ 8 * i = omega arith in
    let first : get_or m 0 0 ≡ get_or answers (8 * i) 0 = get_or-drop (8 * i) answers 0 0 ∙ ap (λ (x : ℕ). get_or answers x 0) z in
    let place : place_of (get_or m 0 0) ≡ k = ap place_of first ∙ sym e in
    let on : 8 * i + 8 ≡ 8 * (i + 1) = omega arith in
    let rest : drop 8 m ≡ drop (8 * (i + 1)) answers = drop-drop 8 (8 * i) answers ∙ ap (λ (x : ℕ). drop x answers) on in
    let c : List ℕ = counted_in (statuses_of n (drop (8 * (i + 1)) answers)) in
    let in_12 : k < 12 = subst (λ (x : ℕ). x < 12) (sym e) (place_in (get_or answers (8 * i) 0)) in
    let move : all_on (set by k ((get_or by k 0 + 1) % 2 ^ 64)) c ≡ all_on by (one_more k c) =
    shift k by c (omega (arith, h.long)) (omega (arith, long_counted (statuses_of n (drop (8 * (i + 1)) answers)))) in
    let whole : one_more (place_of (get_or m 0 0)) (counted_in (statuses_of n (drop 8 m))) ≡ one_more k c =
    ap₂ (λ (p : ℕ) (t : List ℕ). one_more p (counted_in (statuses_of n t))) place rest in
    record {
      within = omega arith;
      long = length-set by k v ∙ h.long;
      so =
          ap (λ (x : ℕ). all_on (set by k x) c) f
          ∙ move
          ∙ ap (all_on by) (sym whole)
          ∙ ap (λ (x : ℕ). all_on by (counted_in (statuses_of x m))) (sym left)
          ∙ h.so;
    }

zeros : (n : ℕ) (l : List ℕ) → all_on l (replicate n 0) ≡ l
unfolding all_on count_on
zeros n [] = refl
zeros zero (x ∷ l) = refl
zeros (suc n) (x ∷ l) = ap (λ (t : List ℕ). x ∷ t) (zeros n l)

pub ends : (before answers by : List ℕ) (i : ℕ) → Inv before answers by i → length answers / 8 ≤ i → by ≡ all_on before (counted_in (statuses_in answers))
unfolding counted_in statuses_of
ends before answers by i h j =
    let none : length answers / 8 - i ≡ 0 = omega arith in
    sym (zeros 12 by) ∙ ap (λ (x : ℕ). all_on by (counted_in (statuses_of x (drop (8 * i) answers)))) (sym none) ∙ h.so

-- ---- in two parts

-- each number of one list and of the other
abbrev pub both : List ℕ → List ℕ → List ℕ
both [] m = m
both (n ∷ l) [] = n ∷ l
both (n ∷ l) (k ∷ m) = (k + n) ∷ both l m

more_both : (p : ℕ) (l m : List ℕ) → length l ≡ length m → both (one_more p l) m ≡ one_more p (both l m)
unfolding one_more
more_both p [] [] e = refl
more_both p [] (k ∷ m) e = absurd (omega (arith, e))
more_both p (n ∷ l) [] e = absurd (omega (arith, e))
more_both zero (n ∷ l) (k ∷ m) e = let f : k + suc n ≡ suc (k + n) = omega arith in ap (λ (x : ℕ). x ∷ both l m) f
more_both (suc p) (n ∷ l) (k ∷ m) e = ap (λ (t : List ℕ). (k + n) ∷ t) (more_both p l m (omega (arith, e)))

zero_both : (m : List ℕ) → (n : ℕ) → length m ≡ n → both (replicate n 0) m ≡ m
zero_both [] zero e = refl
zero_both [] (suc n) e = absurd (omega (arith, e))
zero_both (k ∷ m) zero e = absurd (omega (arith, e))
zero_both (k ∷ m) (suc n) e = let f : k + 0 ≡ k = omega arith in ap₂ (λ (x : ℕ) (t : List ℕ). x ∷ t) f (zero_both m n (omega (arith, e)))

-- the counts of a list in two parts are those of the parts, added
pub two_parts : (a b : List ℕ) → counted_in (a ++ b) ≡ both (counted_in a) (counted_in b)
unfolding counted_in
two_parts [] b = sym (zero_both (counted_in b) 12 (long_counted b))
two_parts (s ∷ a) b =
    ap (one_more (place_of s)) (two_parts a b)
    ∙ sym (more_both (place_of s) (counted_in a) (counted_in b) (long_counted a ∙ sym (long_counted b)))

on_on : (j k n : ℕ) → count_on k (count_on j n) ≡ count_on (k + j) n
unfolding count_on
on_on zero k n = let f : k ≡ k + 0 = omega arith in ap (λ (x : ℕ). count_on x n) f
on_on (suc j) k n = let f : suc (k + j) ≡ k + suc j = omega arith in on_on j k ((n + 1) % 2 ^ 64) ∙ ap (λ (x : ℕ). count_on x n) f

all_on_on : (l a b : List ℕ) → length a ≡ length b → all_on (all_on l a) b ≡ all_on l (both a b)
unfolding all_on
all_on_on [] a b e = refl
all_on_on (n ∷ l) [] [] e = refl
all_on_on (n ∷ l) [] (k ∷ b) e = absurd (omega (arith, e))
all_on_on (n ∷ l) (j ∷ a) [] e = absurd (omega (arith, e))
all_on_on (n ∷ l) (j ∷ a) (k ∷ b) e = ap₂ (λ (x : ℕ) (t : List ℕ). x ∷ t) (on_on j k n) (all_on_on l a b (omega (arith, e)))

-- counting one part and then the other is counting the whole
pub counted_on : (l a b : List ℕ) → all_on (all_on l (counted_in a)) (counted_in b) ≡ all_on l (counted_in (a ++ b))
counted_on l a b =
    all_on_on l (counted_in a) (counted_in b) (long_counted a ∙ sym (long_counted b)) ∙ ap (all_on l) (sym (two_parts a b))

-- ---- the sum of all counts

abbrev pub sum : List ℕ → ℕ
sum [] = 0
sum (n ∷ l) = sum l + n

sum_more : (p : ℕ) (l : List ℕ) → p < length l → sum (one_more p l) ≡ suc (sum l)
unfolding one_more
sum_more p [] h = absurd (omega arith)
sum_more zero (n ∷ l) h = omega arith
sum_more (suc p) (n ∷ l) h = let e : sum (one_more p l) ≡ suc (sum l) = sum_more p l (omega arith) in omega (arith, e)

-- every status is counted once
pub sum_counted : (ss : List ℕ) → sum (counted_in ss) ≡ length ss
unfolding counted_in
sum_counted [] = refl
sum_counted (s ∷ ss) =
    sum_more (place_of s) (counted_in ss) (subst (λ (x : ℕ). place_of s < x) (sym (long_counted ss)) (place_in s)) ∙ ap suc (sum_counted ss)

-- each answer has a status
pub how_many : (n : ℕ) (answers : List ℕ) → length (statuses_of n answers) ≡ n
unfolding statuses_of
how_many zero answers = refl
how_many (suc n) answers = ap suc (how_many n (drop 8 answers))

-- ---- modulo 2^64

on_below : (k n : ℕ) → n + k < 2 ^ 64 → count_on k n ≡ n + k
unfolding count_on
on_below zero n h = omega arith
on_below (suc k) n h =
    let e : (n + 1) % 2 ^ 64 ≡ n + 1 = mod-eq_of_lt (omega arith) in
    ap (count_on k) e ∙ on_below k (n + 1) (omega arith) ∙ omega arith
