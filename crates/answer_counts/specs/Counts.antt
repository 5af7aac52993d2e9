-- How many answers had each status (01, "Statuses in an answer").
use Rattle.std.specs.Prelude.{ℕ, zero, suc, ◌+◌, ◌-◌, ◌/◌, ◌%◌, ◌^◌, Bool, cond, ◌||◌, List, [], ◌∷◌, length, drop, replicate, ◌==◌, nat_lt, slice_index}
use Rattle.answer_counts.specs.declared.Counts.{Counts as Tally}

-- where a status is counted: 0 first, then 16 to 25, and last all others
unfoldable pub place_of : (status : ℕ) → ℕ
place_of status = cond (status == 0) 0 (cond (nat_lt status 16) 11 (cond (nat_lt status 26) (status - 15) 11))

-- the statuses of so many answers: the first of each 8 bytes
unfoldable pub statuses_of : (count : ℕ) → List ℕ → List ℕ
statuses_of zero answers = []
statuses_of (suc n) answers = slice_index answers 0 ∷ statuses_of n (drop 8 answers)

-- those of the whole answers
abbrev pub statuses_in : List ℕ → List ℕ
statuses_in answers = statuses_of (length answers / 8) answers

-- one more at a place
unfoldable pub one_more : (place : ℕ) → List ℕ → List ℕ
one_more place [] = []
one_more zero (n ∷ counts) = suc n ∷ counts
one_more (suc place) (n ∷ counts) = n ∷ one_more place counts

-- how many of these statuses there are at each place
unfoldable pub counted_in : (statuses : List ℕ) → List ℕ
counted_in [] = replicate 12 0
counted_in (s ∷ statuses) = one_more (place_of s) (counted_in statuses)

-- a count that goes on by so many, one by one, modulo 2^64
unfoldable pub count_on : (by : ℕ) → ℕ → ℕ
count_on zero n = n
count_on (suc by) n = count_on by ((n + 1) % 2 ^ 64)

-- each count goes on by its number
unfoldable pub all_on : (counts : List ℕ) → (by : List ℕ) → List ℕ
all_on [] by = []
all_on (n ∷ counts) [] = n ∷ counts
all_on (n ∷ counts) (k ∷ by) = count_on k n ∷ all_on counts by

-- whether any status was 19 to 25
unfoldable pub any_refused : Tally → Bool
any_refused c =
    nat_lt 0 (slice_index c.by 4)
    || nat_lt 0 (slice_index c.by 5)
    || nat_lt 0 (slice_index c.by 6)
    || nat_lt 0 (slice_index c.by 7)
    || nat_lt 0 (slice_index c.by 8)
    || nat_lt 0 (slice_index c.by 9)
    || nat_lt 0 (slice_index c.by 10)
