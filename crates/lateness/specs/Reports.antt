-- What is claimed of the totals of a list of differences (02, Q-7).
use Rattle.std.specs.Prelude.{ℕ, suc, ◌+◌, ◌*◌, ◌≤◌, ◌<◌, ◌≡◌, true, ◌↔◌, List, [], ◌∷◌, ◌++◌, length, get_or, ℤ, pos, negsuc, nat_abs, ◌+ℤ◌}
use Rattle.std.specs.Int.Signed.{le_z}
use Rattle.lateness.specs.declared.Report.{Report}
use Rattle.lateness.specs.Totals.{refused, report}
use Rattle.lateness.specs.Orders.{Reordered, SameTimes}

-- a difference stands in a list, at a place
pub record Among (d : ℤ) (l : List ℤ) : Type 0 where
  pub place : ℕ
  pub low : place < length l
  pub is : get_or l place (pos 0) ≡ d

-- one of the differences is outside ±10^15 ns
pub record HasOutside (l : List ℤ) : Type 0 where
  pub one : ℤ
  pub among : Among one l
  pub outside : 1000000000000000 < nat_abs one

-- a list isn't refused
abbrev pub Accepted : List ℤ → Type 0
Accepted l = (report l).number ≡ 0

-- THE STATEMENT of the refusals
pub record Refusals : Type 0 where
  -- 34 exactly if one is outside; 35 exactly if none is and there are more than 9,000; else 0
  pub outside : (l : List ℤ) → ((report l).number ≡ 34) ↔ HasOutside l
  pub too_many : (l : List ℤ) → ((report l).number ≡ 35) ↔ ((HasOutside l → ⊥) × (9000 < length l))
  pub accepted : (l : List ℤ) → Accepted l ↔ ((HasOutside l → ⊥) × (length l ≤ 9000))
  -- with 34 and 35 all totals are 0, and with no difference too
  pub zeros : (l : List ℤ) → (Accepted l → ⊥) → report l ≡ refused (report l).number
  pub none : report [] ≡ refused 0

-- n of the differences are such
pub data Count (Such : ℤ → Type 0) : List ℤ → ℕ → Type 0 where
  none : Count Such [] 0
  such : {d : ℤ} {l : List ℤ} {n : ℕ} → Such d → Count Such l n → Count Such (d ∷ l) (1 + n)
  other : {d : ℤ} {l : List ℤ} {n : ℕ} → (Such d → ⊥) → Count Such l n → Count Such (d ∷ l) n

-- -1, -2, ..; 0; 1, 2, ..
abbrev pub Negative : ℤ → Type 0
Negative d = (n : ℕ) × (d ≡ negsuc n)

abbrev pub Zero : ℤ → Type 0
Zero d = d ≡ pos 0

abbrev pub Positive : ℤ → Type 0
Positive d = (n : ℕ) × (d ≡ pos (suc n))

-- adding up in ℤ
pub data Sum : List ℤ → ℤ → Type 0 where
  none : Sum [] (pos 0)
  more : {l : List ℤ} {s : ℤ} → (d : ℤ) → Sum l s → Sum (d ∷ l) (d +ℤ s)

-- THE STATEMENT of the totals, of every list that isn't refused
pub record Totals : Type 0 where
  -- early are the negative ones, on time those that are 0, late the positive ones; together they are all
  pub early : (l : List ℤ) → Accepted l → Count Negative l (report l).early
  pub on_time : (l : List ℤ) → Accepted l → Count Zero l (report l).on_time
  pub late : (l : List ℤ) → Accepted l → Count Positive l (report l).late
  pub all : (l : List ℤ) → Accepted l → (report l).early + (report l).on_time + (report l).late ≡ length l
  -- the sum is that of ℤ, never wrapped, and at most 10^15 for each difference
  pub sum : (l : List ℤ) → Accepted l → Sum l (report l).sum
  pub sum_most : (l : List ℤ) → Accepted l → nat_abs (report l).sum ≤ length l * 1000000000000000
  -- least and greatest are among the differences, where there is one, and none is below or above
  pub least_among : (l : List ℤ) → Accepted l → 0 < length l → Among (report l).least l
  pub least_of_all : (l : List ℤ) → Accepted l → (d : ℤ) → Among d l → le_z (report l).least d ≡ true
  pub greatest_among : (l : List ℤ) → Accepted l → 0 < length l → Among (report l).greatest l
  pub greatest_of_all : (l : List ℤ) → Accepted l → (d : ℤ) → Among d l → le_z d (report l).greatest ≡ true

-- THE STATEMENT "another order of the list gives the same", the number too
pub record AnyOrder : Type 0 where
  pub reordered : (l m : List ℤ) → Reordered l m → report l ≡ report m
  pub same_times : (l m : List ℤ) → SameTimes l m → report l ≡ report m

-- the report of two lists, one after the other
pub record Joined (whole first second : Report) : Type 0 where
  pub first_number : first.number ≡ 0
  pub second_number : second.number ≡ 0
  pub early : whole.early ≡ first.early + second.early
  pub on_time : whole.on_time ≡ first.on_time + second.on_time
  pub late : whole.late ≡ first.late + second.late
  pub sum : whole.sum ≡ first.sum +ℤ second.sum

-- THE STATEMENT of lists that are joined: counts and sums add
abbrev pub Joins : Type 0
Joins = (l m : List ℤ) → Accepted (l ++ m) → Joined (report (l ++ m)) (report l) (report m)
