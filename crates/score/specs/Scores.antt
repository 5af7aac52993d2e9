-- The score over several captures (02, Q-7): which differences count, in which order, and the totals over them.
use Rattle.std.specs.Prelude.{ℕ, zero, suc, ◌+◌, min, Bool, true, false, cond, List, eqb, ltb, length, get_or, set, take, replicate, ℤ, pos}
use Rattle.readiness.specs.declared.Moments.{Moments}
use Rattle.lateness.specs.declared.Lateness.{Lateness}
use Rattle.lateness.specs.declared.Lateness.TheVariants.{NoDifference, Of, Outside}
use Rattle.lateness.specs.declared.Report.{Report}
use Rattle.lateness.specs.Lateness.{bench_time, lateness_of}
use Rattle.lateness.specs.Totals.{refused, report}
use Rattle.score.specs.declared.Collected.{Collected}

-- ---- What a capture adds
-- the difference of a slot, by the bench times and the seen times
unfoldable pub difference_at : (slots : ℕ) (bench seen : Moments) (slot : ℕ) → Lateness
difference_at slots bench seen slot = lateness_of (bench_time slots bench slot) (bench_time slots seen slot)

-- one more, up to 9,001, which stands for all that are more than 9,000
unfoldable pub next_count : ℕ → ℕ
next_count n = cond (ltb n 9001) (n + 1) n

-- the differences that were collected, from the start of `values`, and the slot of each; and whether one was refused
pub record Lists : Type 0 where
  pub count : ℕ
  pub outside : Bool
  pub values : List ℤ
  pub slots : List ℕ

abbrev pub lists : Collected → List ℤ → List ℕ → Lists
lists c values slots = record { count = c.count; outside = c.outside; values = values; slots = slots }

-- a difference of a slot, after those that were collected
unfoldable pub kept : (slot : ℕ) → ℤ → Lists → Lists
kept slot d l = record { count = next_count l.count; outside = l.outside; values = set l.values l.count d; slots = set l.slots l.count slot }

-- "without both there is no difference": it adds nothing; one that is refused is no difference either, and is noted
unfoldable pub with_difference : (slot : ℕ) → Lateness → Lists → Lists
with_difference slot NoDifference l = l
with_difference slot (Of d) l = kept slot d l
with_difference slot Outside l = record { count = l.count; outside = true; values = l.values; slots = l.slots }

-- THE DIFFERENCES OF A CAPTURE, those of its first n slots, slot by slot
unfoldable pub collected : (slots : ℕ) (bench seen : Moments) (n : ℕ) → Lists → Lists
collected slots bench seen zero l = l
collected slots bench seen (suc k) l = with_difference k (difference_at slots bench seen k) (collected slots bench seen k l)

-- ---- One slot
-- whether the difference at a place is of a slot
unfoldable pub is_of : (slots : List ℕ) (at slot : ℕ) → Bool
is_of slots at slot = cond (ltb at (length slots)) (eqb (get_or slots at 0) slot) false

-- differences that were chosen, from the start of a list
pub record Picked : Type 0 where
  pub count : ℕ
  pub list : List ℤ

unfoldable pub pick : (applies : Bool) → ℤ → Picked → Picked
pick true d p = record { count = next_count p.count; list = set p.list p.count d }
pick false d p = p

-- THE DIFFERENCES OF A SLOT among the first n, in their order
unfoldable pub chosen : (values : List ℤ) (slots : List ℕ) (slot n : ℕ) → Picked → Picked
chosen values slots slot zero p = p
chosen values slots slot (suc k) p = pick (is_of slots k slot) (get_or values k (pos 0)) (chosen values slots slot k p)

-- ---- Totals
-- THE TOTALS of what was collected: 34 if a difference was refused, else those of the list, or 35 if it is too long
unfoldable pub total_of : (outside : Bool) (count : ℕ) (values : List ℤ) → Report
total_of outside count values = cond outside (refused 34) (report (take (min count (length values)) values))

-- those of one capture, whose slots are at most 32
unfoldable pub capture_total : (slots : ℕ) (bench seen : Moments) → Report
capture_total slots bench seen =
    let l = collected slots bench seen 32 (record { count = 0; outside = false; values = replicate 32 (pos 0); slots = replicate 32 0 }) in
    total_of l.outside l.count l.values
