-- Worked examples, which antt computes.
use Rattle.times.specs.declared.Nanos.{Nanos}
use Rattle.bits.specs.Bits.{bit}
use Rattle.readiness.specs.MadeReady.{moments_from}
use Rattle.std.specs.Prelude.{Option, None, Some}
use mathlib.Core.Path.{◌≡◌, refl}
use mathlib.Core.List.{[], ◌∷◌, ◌++◌}
use Prim.Native.Nat.{ℕ}
use lib.ListN.{replicate}
use lib.IntN.{pos, negsuc}
use Rattle.readiness.specs.declared.Moments.{Moments}
use Rattle.lateness.specs.declared.Lateness.TheVariants.{NoDifference, Of, Outside}
use Rattle.lateness.specs.Lateness.{bench_time, within, apart, lateness_of, lateness_number, lateness_value}
use Rattle.lateness.specs.Totals.{how_many, sum_of, lower_of, higher_of, pick_of, least_of, greatest_of, all_within, totals_of, refused, report}

abbrev at : ℕ → Option Nanos
at t = Some (record { 0 = t })

-- ---- the difference of a slot

-- made Ready at 12 ns and seen at 5 ns: 7 ns early
early : lateness_of (at 12) (at 5) ≡ Of (negsuc 6)
unfolding lateness_of apart within
early = refl

late : lateness_of (at 5) (at 12) ≡ Of (pos 7)
unfolding lateness_of apart within
late = refl

on_time : lateness_of (at 12) (at 12) ≡ Of (pos 0)
unfolding lateness_of apart within
on_time = refl

-- seen at 0 is a time too
seen_at_0 : lateness_of (at 0) (at 0) ≡ Of (pos 0)
unfolding lateness_of apart within
seen_at_0 = refl

not_seen : lateness_of (at 12) None ≡ NoDifference
unfolding lateness_of
not_seen = refl

not_made_ready : lateness_of None (at 12) ≡ NoDifference
unfolding lateness_of
not_made_ready = refl

-- 10^15 ns are within, either way, and one more is not
edge_late : lateness_of (at 0) (at 1000000000000000) ≡ Of (pos 1000000000000000)
unfolding lateness_of apart within
edge_late = refl

edge_early : lateness_of (at 1000000000000000) (at 0) ≡ Of (negsuc 999999999999999)
unfolding lateness_of apart within
edge_early = refl

past_late : lateness_of (at 0) (at 1000000000000001) ≡ Outside
unfolding lateness_of apart within
past_late = refl

past_early : lateness_of (at 1000000000000001) (at 0) ≡ Outside
unfolding lateness_of apart within
past_early = refl

-- the greatest u64 of them all
farthest : lateness_of (at 0) (at 18446744073709551615) ≡ Outside
unfolding lateness_of apart within
farthest = refl

-- its number is 34, and its value 0
refused-number : lateness_number Outside ≡ 34
unfolding lateness_number
refused-number = refl

refused_value : lateness_value Outside ≡ pos 0
unfolding lateness_value
refused_value = refl

-- ---- the bench time: slots 0 and 2 were made Ready, at 40 ns and at 80 ns

abbrev kept : Moments
kept = record { made = 5; at_ns = 40 ∷ 0 ∷ 80 ∷ replicate 29 0 }

of_slot_2 : bench_time 3 kept 2 ≡ at 80
unfolding bench_time moments_from bit
of_slot_2 = refl

never-ready : bench_time 3 kept 1 ≡ None
unfolding bench_time moments_from bit
never-ready = refl

-- on a card of two slots there is no slot 2
past_count_lem : bench_time 2 kept 2 ≡ None
unfolding bench_time
past_count_lem = refl

-- ---- totals

-- with none, all totals are 0
empty : report [] ≡ refused 0
unfolding report all_within totals_of how_many sum_of least_of greatest_of pick_of
empty = refl

three : report (negsuc 2 ∷ pos 0 ∷ pos 10 ∷ []) ≡ record { number = 0; early = 1; on_time = 1; late = 1; least = negsuc 2; greatest = pos 10; sum = pos 7 }
unfolding report all_within within totals_of how_many sum_of least_of greatest_of pick_of lower_of higher_of
three = refl

-- all early: the greatest is below 0
all_early : report (negsuc 0 ∷ negsuc 4 ∷ []) ≡ record { number = 0; early = 2; on_time = 0; late = 0; least = negsuc 4; greatest = negsuc 0; sum = negsuc 5 }
unfolding report all_within within totals_of how_many sum_of least_of greatest_of pick_of lower_of higher_of
all_early = refl

-- 9,000 of the greatest and of the least: the sums are exact
most : (report (replicate 9000 (pos 1000000000000000))).sum ≡ pos 9000000000000000000
unfolding report all_within within totals_of sum_of
most = refl

least : (report (replicate 9000 (negsuc 999999999999999))).sum ≡ negsuc 8999999999999999999
unfolding report all_within within totals_of sum_of
least = refl

-- one difference more
too_many : report (replicate 9001 (pos 0)) ≡ refused 35
unfolding report all_within within
too_many = refl

one_outside : report (pos 1 ∷ pos 1000000000000001 ∷ []) ≡ refused 34
unfolding report all_within within
one_outside = refl

one_outside_early : report (negsuc 1000000000000000 ∷ []) ≡ refused 34
unfolding report all_within within
one_outside_early = refl

-- 34 comes first, wherever the one that is outside stands
too_many_outside : report (replicate 9000 (pos 0) ++ (pos 1000000000000001 ∷ [])) ≡ refused 34
unfolding report all_within within
too_many_outside = refl
