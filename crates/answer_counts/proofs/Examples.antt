-- Counts of answers, as antt computes them.
use Rattle.std.proofs.Common.{◌≡◌, ℕ, ◌<◌, true, false, ◌&&◌, eqb, ltb, [], ◌∷◌, replicate, refl, eqb-true}
use Rattle.bits.specs.Bits.{one}
use Rattle.bits.proofs.Tests.{all_at, is_true}
use Rattle.answer_counts.specs.Counts.{place_of, statuses_of, statuses_in, one_more, counted_in, any_refused}

-- each status has a place of its own, and all that aren't known have one
each-place : counted_in (0 ∷ 16 ∷ 17 ∷ 18 ∷ 19 ∷ 20 ∷ 21 ∷ 22 ∷ 23 ∷ 24 ∷ 25 ∷ 26 ∷ []) ≡ replicate 12 1
unfolding counted_in one_more place_of
each-place = refl

-- the first of each 8 bytes; those after the last whole answer don't count
two_answers : statuses_in (16 ∷ 1 ∷ 2 ∷ 3 ∷ 4 ∷ 5 ∷ 6 ∷ 7 ∷ 24 ∷ 0 ∷ 0 ∷ 0 ∷ 0 ∷ 0 ∷ 0 ∷ 0 ∷ 18 ∷ 0 ∷ 0 ∷ []) ≡ 16 ∷ 24 ∷ []
unfolding statuses_of
two_answers = refl

-- 19 to 25 are refused, and no other status
one_refused : (s : ℕ) → s < 256 → one (any_refused (record { by = counted_in (s ∷ []) })) ≡ one (ltb 18 s && ltb s 26)
unfolding any_refused counted_in one_more place_of
one_refused s h =
    eqb-true (one (any_refused (record { by = counted_in (s ∷ []) }))) (one (ltb 18 s && ltb s 26))
    (is_true _ (all_at 256 (λ k. eqb (one (any_refused (record { by = counted_in (k ∷ []) }))) (one (ltb 18 k && ltb k 26))) tt s h))

-- one among others
among_others : any_refused (record { by = counted_in (0 ∷ 21 ∷ 18 ∷ []) }) ≡ true
unfolding any_refused counted_in one_more place_of
among_others = refl

none_refused : any_refused (record { by = counted_in (0 ∷ 16 ∷ 17 ∷ 18 ∷ 26 ∷ []) }) ≡ false
unfolding any_refused counted_in one_more place_of
none_refused = refl
