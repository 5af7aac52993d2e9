-- A list of calls, each of which gets what the last one left.
use Rattle.std.specs.Prelude.{ℕ, Bool, false, ◌||◌, List, [], ◌∷◌, ◌++◌, length, take, drop, eqb}
use Rattle.trace.specs.Format.{Bytes}
use Rattle.trace.specs.Bench.{Device, Bench, plain}
use Rattle.trace.specs.Outcome.{Outcome, nothing, outcome_of}
use Rattle.trace.specs.Lent.{Lent, Left, outcome_in, feeds}

-- a call's input, and the slice for answers as it is lent
pub record Call : Type 0 where
  pub input : List ℕ
  pub answers : List ℕ

abbrev pub slices_of : List Call → List (List ℕ)
slices_of [] = []
slices_of (c ∷ cs) = c.answers ∷ slices_of cs

-- every input is bytes
abbrev pub BytesIn : List Call → Type 0
BytesIn [] = Unit {0}
BytesIn (c ∷ cs) = Bytes c.input × BytesIn cs

-- what a list of calls comes to: the bytes that they consumed, joined; the answers that they wrote, joined; each call's
-- number and counts; each call's answers slice afterwards; and all that the last one left
pub record Came (H : Type 0) : Type 0 where
  pub bytes : List ℕ
  pub answers : List ℕ
  pub outcomes : List Outcome
  pub slices : List (List ℕ)
  pub held : H

abbrev pub no_call : {H : Type 0} → H → Came H
no_call h = record { bytes = []; answers = []; outcomes = []; slices = []; held = h }

-- a call that left x, before others
abbrev pub before : {H : Type 0} → Call → Left H → Came H → Came H
before c x z =
    record {
      bytes = take x.consumed c.input ++ z.bytes;
      answers = take x.written x.answers ++ z.answers;
      outcomes = outcome_in x ∷ z.outcomes;
      slices = x.answers ∷ z.slices;
      held = z.held;
    }

module _ {S H : Type 0} (L : Lent S H) where
  -- THE CALLS
  unfoldable pub calls : H → List Call → Came H
  calls h [] = no_call h
  calls h (c ∷ cs) = let x = feeds L h c.input c.answers in before c x (calls x.held cs)

-- ---- What is said of calls
-- some call gave n
abbrev pub gave : ℕ → List Outcome → Bool
gave n [] = false
gave n (o ∷ os) = eqb o.number n || gave n os

-- the bytes of each slice beyond those that its call wrote
abbrev pub beyond : List Outcome → List (List ℕ) → List (List ℕ)
beyond [] ss = []
beyond (o ∷ os) [] = []
beyond (o ∷ os) (s ∷ ss) = drop o.written s ∷ beyond os ss

-- joined answers laid into the slices: as many as each call wrote at the front of its own, and beyond them the slice as it was
abbrev pub placed : List ℕ → List Outcome → List (List ℕ) → List (List ℕ)
placed answers [] ss = []
placed answers (o ∷ os) [] = []
placed answers (o ∷ os) (s ∷ ss) = (take o.written answers ++ drop o.written s) ∷ placed (drop o.written answers) os ss

-- each call's number is n, with nothing consumed and nothing written
abbrev pub all_give : ℕ → List Call → List Outcome
all_give n [] = []
all_give n (c ∷ cs) = nothing n ∷ all_give n cs

-- every call gives n, and nothing changes
abbrev pub all_refused : {H : Type 0} → ℕ → H → List Call → Came H
all_refused n h cs = record { bytes = []; answers = []; outcomes = all_give n cs; slices = slices_of cs; held = h }

module _ {S : Type 0} (D : Device S) where
  -- Each call's outcome, from the refusal at the start (it is every call's: the set-up is one, and soundness stays), its input, its room, and the plain bench before it: started in s, and run on
  -- `done`, the bytes consumed so far; broken from the first call on that gave 31
  unfoldable pub expected_from : (refusal : ℕ) → S → (broken : Bool) → (done : List ℕ) → List Call → List Outcome
  expected_from refusal s broken done [] = []
  expected_from refusal s broken done (c ∷ cs) =
      let o = outcome_of refusal (plain D s done).carried broken c.input (length c.answers) in
      o ∷ expected_from refusal s (broken || eqb o.number 31) (done ++ take o.consumed c.input) cs

  abbrev pub expected : (refusal : ℕ) → Bench S → List Call → List Outcome
  expected refusal p cs = expected_from refusal p.state p.broken p.carried cs

  -- the state of the plain bench, started in s, after a trace, broken or not
  abbrev pub bench_after : S → (trace : List ℕ) → (broken : Bool) → Bench S
  bench_after s trace broken = record { state = (plain D s trace).state; carried = (plain D s trace).carried; broken = broken }
