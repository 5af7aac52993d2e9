-- The totals of a list of differences (02, Q-7).
use Rattle.std.specs.Prelude.{ℕ, ◌+◌, Bool, true, ◌&&◌, cond, List, [], ◌∷◌, leb, eqb, length, ℤ, pos, nat_abs, ◌+ℤ◌}
use Rattle.std.specs.Int.Signed.{lt_z, le_z}
use Rattle.bits.specs.Bits.{one}
use Rattle.lateness.specs.declared.Report.{Report}
use Rattle.lateness.specs.Lateness.{within}

-- ---- "how many early, on time and late"

abbrev pub is_early : ℤ → Bool
is_early d = lt_z d (pos 0)

abbrev pub is_on_time : ℤ → Bool
is_on_time d = eqb (nat_abs d) 0

abbrev pub is_late : ℤ → Bool
is_late d = lt_z (pos 0) d

unfoldable pub how_many : (ℤ → Bool) → List ℤ → ℕ
how_many p [] = 0
how_many p (d ∷ l) = one (p d) + how_many p l

-- ---- "the least and greatest difference"

unfoldable pub lower_of : ℤ → ℤ → ℤ
lower_of d e = cond (le_z d e) d e

unfoldable pub higher_of : ℤ → ℤ → ℤ
higher_of d e = cond (le_z d e) e d

-- of two differences f picks one; of a list likewise, and 0 with none
unfoldable pub pick_of : (ℤ → ℤ → ℤ) → List ℤ → ℤ
pick_of f [] = pos 0
pick_of f (d ∷ []) = d
pick_of f (d ∷ e ∷ l) = f d (pick_of f (e ∷ l))

unfoldable pub least_of : List ℤ → ℤ
least_of l = pick_of lower_of l

unfoldable pub greatest_of : List ℤ → ℤ
greatest_of l = pick_of higher_of l

-- ---- "the exact sum"

unfoldable pub sum_of : List ℤ → ℤ
sum_of [] = pos 0
sum_of (d ∷ l) = d +ℤ sum_of l

-- ---- reports

unfoldable pub totals_of : List ℤ → Report
totals_of l =
    record {
      number = 0;
      early = how_many is_early l;
      on_time = how_many is_on_time l;
      late = how_many is_late l;
      least = least_of l;
      greatest = greatest_of l;
      sum = sum_of l;
    }

-- a number, and "the totals are then 0"
abbrev pub refused : ℕ → Report
refused n = record { number = n; early = 0; on_time = 0; late = 0; least = pos 0; greatest = pos 0; sum = pos 0 }

unfoldable pub all_within : List ℤ → Bool
all_within [] = true
all_within (d ∷ l) = within d && all_within l

abbrev pub longest_list : ℕ
longest_list = 9000

-- 34 if a difference is outside, "else a list of more than 9,000 with 35"
unfoldable pub report : List ℤ → Report
report l = cond (all_within l) (cond (leb (length l) longest_list) (totals_of l) (refused 35)) (refused 34)
