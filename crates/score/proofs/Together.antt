-- A score is the totals of all differences, one after the other.
use Rattle.times.specs.declared.Nanos.{Nanos}
use Rattle.std.specs.Prelude.{Option, None, Some}
use Prim.Native.Nat.{ℕ, zero, suc, ◌<◌, min}
use native.Mathlib.Nat.{min-eq_left}
use mathlib.Core.Path.{◌≡◌, refl, sym, ap, subst, ◌∙◌}
use mathlib.Core.Bool.{Bool, true, false, ◌&&◌, ◌||◌, cond}
use mathlib.Core.List.{List, [], ◌∷◌, ◌++◌, append-nil, append_assoc}
use native.Mathlib.Omega.{arith}
use lib.Dec.{leb, ltb}
use lib.ListN.{length, take}
use lib.Seq.{length-take-le}
use lib.IntN.{ℤ}
use borrow.Author.Tests.{ltb-true, ltb-false, lt-leb}
use Rattle.bits.proofs.Choices.{when_true, when_false}
use Rattle.bits.proofs.Tests.{split}
use Rattle.lateness.specs.declared.Lateness.{Lateness}
use Rattle.lateness.specs.declared.Lateness.TheVariants.{NoDifference, Of, Outside}
use Rattle.lateness.specs.declared.Report.{Report}
use Rattle.lateness.specs.Lateness.{bench_time, lateness_of, apart, within, minus}
use Rattle.lateness.specs.Totals.{all_within, refused, report, longest_list}
use Rattle.score.specs.Scores.{Lists, difference_at, kept, with_difference, collected, total_of}
use Rattle.score.specs.Together.{Captured, given, is_outside, differences_of, outside_of, differences_in, outside_in, collected_in, at_start, Together}
use Rattle.score.proofs.Filling.{Filled, room, not_over, lengths, one_more, at_first}

-- ---- What the lists hold: the differences so far, and whether one was refused

pub record Holds (l : Lists) (out : Bool) (all : List ℤ) : Type 0 where
  pub filled : Filled l.count l.values all
  pub outside : l.outside ≡ out

or_false : (b : Bool) → b ≡ b || false
or_false true = refl
or_false false = refl

or_true : (b : Bool) → true ≡ b || true
or_true true = refl
or_true false = refl

or_assoc : (a b c : Bool) → (a || b) || c ≡ a || (b || c)
or_assoc true b c = refl
or_assoc false b c = refl

anew : (l : Lists) (out out' : Bool) (all all' : List ℤ) → out ≡ out' → all ≡ all' → Holds l out all → Holds l out' all'
anew l out out' all all' p q h = subst (λ (b : Bool). Holds l b all') p (subst (λ (r : List ℤ). Holds l out r) q h)

-- a slot's difference
with_one_lem : (l : Lists) (out : Bool) (all : List ℤ) (slot : ℕ) (x : Lateness) → Holds l out all → Holds (with_difference slot x l) (out || is_outside x) (all ++ given x)
unfolding with_difference is_outside given kept
with_one_lem l out all slot NoDifference h = anew l out (out || false) all (all ++ []) (or_false out) (sym (append-nil all)) h
with_one_lem l out all slot (Of d) h = anew (kept slot d l) out (out || false) (all ++ (d ∷ [])) (all ++ (d ∷ [])) (or_false out) refl (record { filled = one_more l.count l.values all h.filled d; outside = h.outside })
with_one_lem l out all slot Outside h = record { filled = subst (λ (r : List ℤ). Filled l.count l.values r) (sym (append-nil all)) h.filled; outside = or_true out }

-- a capture's
with_capture : (slots : ℕ) (c : Captured) (n : ℕ) (l : Lists) (out : Bool) (all : List ℤ) → Holds l out all
    → Holds (collected slots c.bench c.seen n l) (out || outside_of slots c n) (all ++ differences_of slots c n)
unfolding collected outside_of differences_of
with_capture slots c zero l out all h = anew l out (out || false) all (all ++ []) (or_false out) (sym (append-nil all)) h
with_capture slots c (suc k) l out all h =
    let x = difference_at slots c.bench c.seen k in
    anew _ _ _ _ _ (or_assoc out (outside_of slots c k) (is_outside x)) (append_assoc all (differences_of slots c k) (given x))
    (with_one_lem _ _ _ k x (with_capture slots c k l out all h))

-- those of all
with_all : (slots : ℕ) (cs : List Captured) (l : Lists) (out : Bool) (all : List ℤ) → Holds l out all
    → Holds (collected_in slots cs l) (out || outside_in slots cs) (all ++ differences_in slots cs)
unfolding collected_in outside_in differences_in
with_all slots [] l out all h = anew l out (out || false) all (all ++ []) (or_false out) (sym (append-nil all)) h
with_all slots (c ∷ cs) l out all h =
    anew _ _ _ _ _ (or_assoc out (outside_of slots c 32) (outside_in slots cs)) (append_assoc all (differences_of slots c 32) (differences_in slots cs))
    (with_all slots cs _ _ _ (with_capture slots c 32 l out all h))

-- ---- Every difference that counts is within ±10^15 ns

and_split : (a b c : Bool) → (a && b) && c ≡ a && (b && c)
and_split true b c = refl
and_split false b c = refl

within_append : (l m : List ℤ) → all_within (l ++ m) ≡ all_within l && all_within m
unfolding all_within
within_append [] m = refl
within_append (d ∷ l) m = ap (λ (b : Bool). within d && b) (within_append l m) ∙ sym (and_split (within d) (all_within l) (all_within m))

both : (a b : Bool) → a ≡ true → b ≡ true → a && b ≡ true
both a b p q = ap (λ (x : Bool). x && b) p ∙ q

apart_by : (d : ℤ) (t : Bool) → within d ≡ t → all_within (given (cond t (Of d) Outside)) ≡ true
unfolding all_within given
apart_by d true e = both (within d) true e refl
apart_by d false e = refl

apart-within : (s b : ℕ) → all_within (given (apart s b)) ≡ true
unfolding apart
apart-within s b = apart_by (minus s b) (within (minus s b)) refl

lateness_within : (b s : Option Nanos) → all_within (given (lateness_of b s)) ≡ true
unfolding lateness_of all_within given
lateness_within None s = refl
lateness_within (Some b) None = refl
lateness_within (Some b) (Some s) = apart-within s.0 b.0

of_within : (slots : ℕ) (c : Captured) (n : ℕ) → all_within (differences_of slots c n) ≡ true
unfolding differences_of all_within difference_at
of_within slots c zero = refl
of_within slots c (suc k) =
    within_append (differences_of slots c k) (given (difference_at slots c.bench c.seen k))
    ∙ both _ _ (of_within slots c k) (lateness_within (bench_time slots c.bench k) (bench_time slots c.seen k))

in_within : (slots : ℕ) (cs : List Captured) → all_within (differences_in slots cs) ≡ true
unfolding differences_in all_within
in_within slots [] = refl
in_within slots (c ∷ cs) = within_append (differences_of slots c 32) (differences_in slots cs) ∙ both _ _ (of_within slots c 32) (in_within slots cs)

-- ---- Totals

too_many : (l : List ℤ) → all_within l ≡ true → 9000 < length l → report l ≡ refused 35
unfolding report
too_many l e q = when_true (all_within l) _ _ e ∙ when_false (leb (length l) longest_list) _ _ (lt-leb (length l) longest_list q)

first_part : (a b : Bool) → a && b ≡ true → a ≡ true
first_part true b e = refl
first_part false b e = e

module _ (l : Lists) (out : Bool) (all : List ℤ) (h : Holds l out all) (inside : all_within all ≡ true) where
  there : List ℤ
  there = take l.count l.values

  same_report : report there ≡ report all
  unfolding there
  same_report =
      let f = h.filled in
      split (ltb l.count 9001) (λ e. ap report (not_over l.count l.values all f (ltb-true l.count 9001 e)))
      (λ e.
      let full : length there ≡ l.count = length-take-le l.count l.values (room l.count l.values all f) in
      let q = ltb-false l.count 9001 e in
      let joined = lengths l.count l.values all f in
      let w : all_within there ≡ true = first_part (all_within there) (all_within f.rest) (sym (within_append there f.rest) ∙ ap all_within f.is ∙ inside) in
      too_many there w (omega (arith, full, q)) ∙ sym (too_many all inside (omega (arith, q, joined))))

  same_total : total_of l.outside l.count l.values ≡ cond out (refused 34) (report all)
  unfolding total_of there
  same_total =
      let m : min l.count (length l.values) ≡ l.count = min-eq_left (room l.count l.values all h.filled) in
      ap (λ (k : ℕ). cond l.outside (refused 34) (report (take k l.values))) m
      ∙ ap (λ (r : Report). cond l.outside (refused 34) r) same_report
      ∙ ap (λ (b : Bool). cond b (refused 34) (report all)) h.outside

-- the values that were collected
pub values_filled : (slots : ℕ) (cs : List Captured) (values : List ℤ) (of : List ℕ) → length values ≡ 9001 → Holds (collected_in slots cs (at_start values of)) (outside_in slots cs) (differences_in slots cs)
values_filled slots cs values of e = with_all slots cs (at_start values of) false [] (record { filled = at_first values e; outside = refl })

pub together : Together
together slots cs values of e = same_total _ _ _ (values_filled slots cs values of e) (in_within slots cs)
