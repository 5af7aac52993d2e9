-- What is claimed of a score: over any captures it is the totals of all their differences, one after the other, and of each slot's (02, Q-7).
use Rattle.std.specs.Prelude.{ℕ, zero, suc, ◌≤◌, ◌<◌, ◌≡◌, Bool, true, false, ◌||◌, cond, List, [], ◌∷◌, ◌++◌, length, take, ℤ}
use Rattle.readiness.specs.declared.Moments.{Moments}
use Rattle.lateness.specs.declared.Lateness.{Lateness}
use Rattle.lateness.specs.declared.Lateness.TheVariants.{NoDifference, Of, Outside}
use Rattle.lateness.specs.Totals.{refused, report}
use Rattle.score.specs.Scores.{Lists, Picked, difference_at, collected, chosen, total_of}

-- a capture: the bench times that its replay keeps, and the seen times
pub record Captured : Type 0 where
  pub bench : Moments
  pub seen : Moments

-- ---- Its differences
-- the difference that a slot has, if there is one
unfoldable pub given : Lateness → List ℤ
given NoDifference = []
given (Of d) = d ∷ []
given Outside = []

unfoldable pub is_outside : Lateness → Bool
is_outside NoDifference = false
is_outside (Of d) = false
is_outside Outside = true

-- those of the first n slots, in the order of the slots
unfoldable pub differences_of : (slots : ℕ) → Captured → (n : ℕ) → List ℤ
differences_of slots c zero = []
differences_of slots c (suc k) = differences_of slots c k ++ given (difference_at slots c.bench c.seen k)

-- whether one of the first n slots is refused
unfoldable pub outside_of : (slots : ℕ) → Captured → (n : ℕ) → Bool
outside_of slots c zero = false
outside_of slots c (suc k) = outside_of slots c k || is_outside (difference_at slots c.bench c.seen k)

-- ---- Those of all captures
unfoldable pub differences_in : (slots : ℕ) → List Captured → List ℤ
differences_in slots [] = []
differences_in slots (c ∷ cs) = differences_of slots c 32 ++ differences_in slots cs

unfoldable pub outside_in : (slots : ℕ) → List Captured → Bool
outside_in slots [] = false
outside_in slots (c ∷ cs) = outside_of slots c 32 || outside_in slots cs

-- collected capture by capture
unfoldable pub collected_in : (slots : ℕ) → List Captured → Lists → Lists
collected_in slots [] l = l
collected_in slots (c ∷ cs) l = collected_in slots cs (collected slots c.bench c.seen 32 l)

-- the start, on lists that are lent
abbrev pub at_start : List ℤ → List ℕ → Lists
at_start values of = record { count = 0; outside = false; values = values; slots = of }

-- THE STATEMENT: 34 if a difference of any capture is refused, else the report of all of them, with 35 if they are more than 9,000
abbrev pub Together : Type 0
Together = (slots : ℕ) (cs : List Captured) (values : List ℤ) (of : List ℕ) → length values ≡ 9001
    → total_of (collected_in slots cs (at_start values of)).outside (collected_in slots cs (at_start values of)).count (collected_in slots cs (at_start values of)).values
    ≡ cond (outside_in slots cs) (refused 34) (report (differences_in slots cs))

-- ---- One slot
-- the differences of a slot, capture by capture
unfoldable pub differences_at : (slots slot : ℕ) → List Captured → List ℤ
differences_at slots slot [] = []
differences_at slots slot (c ∷ cs) = given (difference_at slots c.bench c.seen slot) ++ differences_at slots slot cs

-- those that are chosen among what was collected
abbrev pub chosen_in : (slot : ℕ) → Lists → List ℤ → Picked
chosen_in slot l list = chosen (take l.count l.values) (take l.count l.slots) slot (length (take l.count l.values)) (record { count = 0; list = list })

abbrev pub taken : Picked → List ℤ
taken p = take p.count p.list

-- THE STATEMENT: unless there are more than 9,000 differences, those chosen for a slot are the slot's, all of them and no others
abbrev pub BySlot : Type 0
BySlot = (slots slot : ℕ) → slot < 32 → (cs : List Captured) (values : List ℤ) (of : List ℕ) (list : List ℤ) → length values ≡ 9001 → length of ≡ 9001 → length list ≡ 9001
    → length (differences_in slots cs) ≤ 9000 → taken (chosen_in slot (collected_in slots cs (at_start values of)) list) ≡ differences_at slots slot cs
