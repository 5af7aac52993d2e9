-- How the code moves the state of a replay.
use Rattle.std.specs.Prelude.{ℕ, ◌≡◌, List, [], ◌∷◌, ◌++◌, eqb, Option, Some, None}
use Rattle.times.specs.declared.Nanos.{Nanos}
use Rattle.trace.specs.Format.{when◌then◌else◌}
use Rattle.capture.specs.declared.Replay.{Replay}
use Rattle.capture.specs.Advances.{stamp_in, back}
use Rattle.capture.specs.Replay.{Progress}
use Rattle.capture.specs.Lent.{progress_in, replay_of}
use Rattle.replay_state.specs.declared.Due.{Due}
use Rattle.replay_state.specs.declared.Due.TheVariants.{Nothing, One, Two}

-- a state as a call leaves it: 0 where it says nothing
abbrev pub Tidy : Replay → Type 0
Tidy r = r ≡ replay_of (progress_in r)

-- more bytes of the stamp
abbrev pub more_bytes : List ℕ → Progress → Progress
more_bytes bs r = record { earlier = r.earlier; stamp = r.stamp ++ bs; answered = r.answered; ended = r.ended }

-- at most two advances, as the code holds them
abbrev pub due_of : List Nanos → Due
due_of [] = Nothing
due_of (t ∷ []) = One t
due_of (t ∷ u ∷ more) = Two t u

-- and which they are
abbrev pub advances_in : Due → List Nanos
advances_in Nothing = []
advances_in (One t) = t ∷ []
advances_in (Two t u) = t ∷ u ∷ []

-- what is checked at the kind byte before the advances: 32, then 33
abbrev pub checked_at : Progress → (kind : ℕ) → Option ℕ
checked_at r kind = when back r.earlier (stamp_in r.stamp) then Some 32 else (when eqb kind 1 then Some 33 else None)
