-- The totals of a list from those of the list behind its first difference.
use Rattle.std.specs.Prelude.{ℕ, ◌+◌, ◌<◌, ◌≤◌, cond, eqb, ℤ, nat_abs, ◌+ℤ◌}
use Rattle.bits.specs.Bits.{one}
use Rattle.lateness.specs.declared.Report.{Report}
use Rattle.lateness.specs.Totals.{is_early, is_on_time, is_late, lower_of, higher_of, longest_list}

-- what f picks of d and `rest` others, of which it picked e
abbrev pub pick_with : (ℤ → ℤ → ℤ) → ℤ → (rest : ℕ) → ℤ → ℤ
pick_with f d rest e = cond (eqb rest 0) d (f d e)

abbrev pub with_one : ℤ → (rest : ℕ) → Report → Report
with_one d rest t =
    record {
      number = 0;
      early = one (is_early d) + t.early;
      on_time = one (is_on_time d) + t.on_time;
      late = one (is_late d) + t.late;
      least = pick_with lower_of d rest t.least;
      greatest = pick_with higher_of d rest t.greatest;
      sum = d +ℤ t.sum;
    }

-- totals that have room for one difference more
pub record Room (d : ℤ) (t : Report) : Type 0 where
  pub early : t.early < longest_list
  pub on_time : t.on_time < longest_list
  pub late : t.late < longest_list
  pub sum : nat_abs d + nat_abs t.sum ≤ 9000000000000000000
