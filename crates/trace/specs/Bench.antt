-- The plain bench: one trace, cut into records from the front. Each whole record runs and gives its 8 bytes; an incomplete
-- last one is carried and does nothing else.
use Rattle.std.specs.Prelude.{ℕ, zero, suc, ◌≡◌, Bool, List, [], ◌∷◌, ◌++◌, length, take, drop}
use Rattle.trace.specs.Format.{when◌then◌else◌, body, whole}

-- ---- The device
-- what one record does: the device after it, and its answer's bytes
pub record Ran (S : Type 0) : Type 0 where
  pub state : S
  pub answer : List ℕ

-- S is the device's state. `run s r` runs the record with the bytes r, its kind first; every answer has 8 bytes
pub record Device (S : Type 0) : Type 0 where
  pub run : S → List ℕ → Ran S
  pub eight : (s : S) (r : List ℕ) → length (run s r).answer ≡ 8

-- the state of a bench: its device's, the bytes carried, and whether the trace is broken
pub record Bench (S : Type 0) : Type 0 where
  pub state : S
  pub carried : List ℕ
  pub broken : Bool

-- ---- A trace cut into records
-- its whole records from the front, and the bytes after them, which begin no whole record
pub record Cut : Type 0 where
  pub wholes : List (List ℕ)
  pub left : List ℕ

-- one more whole record in front
abbrev pub front : List ℕ → Cut → Cut
front r c = record { wholes = r ∷ c.wholes; left = c.left }

abbrev pub uncut : List ℕ → Cut
uncut bs = record { wholes = []; left = bs }

-- at most n records are cut off
unfoldable pub cut_in : ℕ → List ℕ → Cut
cut_in zero bs = uncut bs
cut_in (suc n) [] = uncut []
cut_in (suc n) (kind ∷ rest) =
    when whole kind rest then front (kind ∷ take (body kind) rest) (cut_in n (drop (body kind) rest)) else uncut (kind ∷ rest)

-- no trace has more records than bytes
unfoldable pub cut : List ℕ → Cut
cut bs = cut_in (length bs) bs

-- ---- The plain bench
-- what it comes to: the device after the trace, the bytes carried, and all answers, joined
pub record Benched (S : Type 0) : Type 0 where
  pub state : S
  pub carried : List ℕ
  pub answers : List ℕ

module _ {S : Type 0} (D : Device S) where
  -- records run one after the other, their answers joined
  unfoldable pub runs : S → List (List ℕ) → Ran S
  runs s [] = record { state = s; answer = [] }
  runs s (r ∷ rs) =
      let x = D.run s r in
      let y = runs x.state rs in
      record { state = y.state; answer = x.answer ++ y.answer }

  -- THE PLAIN BENCH, started in s, on the trace bs
  unfoldable pub plain : S → List ℕ → Benched S
  plain s bs =
      let c = cut bs in
      let x = runs s c.wholes in
      record { state = x.state; carried = c.left; answers = x.answer }
