-- What stands next in a call, between records.
use Rattle.std.specs.Prelude.{ℕ, ◌+◌, ◌-◌, Option, Some, None, Result, Ok, Err, List, [], ◌∷◌, length, take, drop, eqb, ltb}
use Rattle.times.specs.declared.Nanos.{Nanos}
use Rattle.trace.specs.Format.{when◌then◌else◌, next}
use Rattle.trace.specs.inner.Gathered.{whole_size}
use Rattle.capture.specs.Advances.{due, advance}
use Rattle.capture.specs.Replay.{Progress, begins, ended_with, more_answered}
use Rattle.capture.specs.Lent.{replay_of}
use Rattle.replay_state.specs.inner.Moves.{more_bytes, checked_at}
use Rattle.replay.specs.declared.Run.{Run}
use Rattle.replay.specs.declared.Run.TheVariants.{Advance, Record}
use Rattle.replay.specs.declared.Step.{Step}
use Rattle.replay.specs.declared.End.{End}

-- the call ends
abbrev pub end_with : (number : ℕ) → Progress → (at : ℕ) → End
end_with n q at = record { number = n; replay = replay_of q; at = at }

abbrev pub halts : (number : ℕ) → Progress → (at : ℕ) → Result Step End
halts n q at = Err (end_with n q at)

-- an advance runs
abbrev pub runs_advance : Nanos → Progress → (at : ℕ) → Step
runs_advance t q at = record { run = Advance t; replay = replay_of q; at = at }

-- a record of so many bytes runs, which end at `at`
abbrev pub runs_record : (size : ℕ) → Progress → (at : ℕ) → Step
runs_record size q at = record { run = Record size; replay = replay_of q; at = at }

-- the bytes of what runs
abbrev pub run_bytes : Run → (at : ℕ) → (input : List ℕ) → List ℕ
run_bytes (Advance t) at input = advance t
run_bytes (Record size) at input = take size (drop (at - size) input)

abbrev pub step_bytes : Step → (input : List ℕ) → List ℕ
step_bytes step input = run_bytes step.run step.at input

-- the record in front of what is left, if it is whole and there is room for its answer
abbrev pub step_of_size : (size : ℕ) → Progress → (at : ℕ) → Result Step End
step_of_size size q at = when eqb size 0 then halts 0 q at else Ok (runs_record size (begins q) (at + size))

unfoldable pub step_at_record : Progress → (space at : ℕ) → (rest : List ℕ) → Result Step End
step_at_record q space at rest = step_of_size (whole_size space (next rest)) q at

-- the first of the advances that are not answered, if there is room for its answer; with none the record
unfoldable pub step_at_advances : List Nanos → Progress → (space at : ℕ) → (rest : List ℕ) → Result Step End
step_at_advances [] q space at rest = step_at_record q space at rest
step_at_advances (t ∷ more) q space at rest = when ltb space 8 then halts 30 q at else Ok (runs_advance t (more_answered 1 q) at)

-- at the kind byte: 32 or 33, as it is checked; else the advances, the record
abbrev pub step_checked : Option ℕ → Progress → (space at : ℕ) → (rest : List ℕ) → Result Step End
step_checked (Some n) q space at rest = halts n (ended_with n q) at
step_checked None q space at rest = step_at_advances (drop q.answered (due q.earlier q.stamp)) q space at rest

unfoldable pub step_after_stamp : Progress → (space at : ℕ) → (rest : List ℕ) → Result Step End
step_after_stamp q space at [] = halts 0 q at
step_after_stamp q space at (kind ∷ more) = step_checked (checked_at q kind) q space at (kind ∷ more)

-- WHAT STANDS NEXT at byte `at` of the input: the bytes that the stamp lacks are taken first
unfoldable pub step_of : Progress → (space at : ℕ) → (input : List ℕ) → Result Step End
step_of q space at input =
    let bytes = take (4 - length q.stamp) (drop at input) in
    step_after_stamp (more_bytes bytes q) space (at + length bytes) (drop (at + length bytes) input)
