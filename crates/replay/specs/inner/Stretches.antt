-- A stretch of a capture, written out as the trace that it stands for.
use Rattle.std.specs.Prelude.{ℕ, ◌+◌, ◌-◌, ◌*◌, ◌≤◌, ◌<◌, ◌≡◌, Bool, false, ◌&&◌, List, [], ◌∷◌, length, get_or, take, drop, eqb, Option, Some, None, Result, Ok, Err}
use Rattle.times.specs.declared.Nanos.{Nanos}
use Rattle.ticks.specs.declared.Stamp.{Stamp}
use Rattle.trace.specs.Format.{when◌then◌else◌, Bytes, size_of}
use Rattle.trace.specs.Bench.{Bench, runs}
use Rattle.trace.specs.Exactly.{joined_up, AllWhole}
use Rattle.readiness.specs.declared.Setup.{Setup}
use Rattle.capture.specs.declared.Replay.{Replay}
use Rattle.capture.specs.Advances.{stamp_in, back, due}
use Rattle.capture.specs.Replay.{Progress, later, replay_open}
use Rattle.capture.specs.Lent.{earlier_of, progress_in}
use Rattle.replay_state.specs.inner.Moves.{due_of}
use Rattle.replay.specs.declared.Run.{Run}
use Rattle.replay.specs.declared.Run.TheVariants.{Advance, Record}
use Rattle.replay.specs.declared.Step.{Step}
use Rattle.replay.specs.declared.End.{End}
use Rattle.replay.specs.declared.Stretch.{Stretch}
use Rattle.replay.specs.declared.Entry.{Entry}
use Rattle.replay.specs.inner.Noted.{Noted, noting_device}
use Rattle.replay.specs.inner.Steps.{step_of}
use Rattle.replay.specs.inner.Calls.{Between}

-- ---- One entry
-- how many bytes a record of an entry has; 0 where an entry has none of this kind
abbrev pub size_in_entry : (kind : ℕ) → ℕ
size_in_entry kind = when eqb kind 1 then 0 else size_of kind

-- an entry at byte `at`, after the stamp `before`: all of it is there, the recorder did not go back, and there is room for its bytes and its answers
pub record StandsNext (before : Stamp) (input : List ℕ) (at space room : ℕ) (e : Entry) : Type 0 where
  pub there : at + 21 ≤ length input
  pub stamp : e.stamp ≡ stamp_in (take 4 (drop at input))
  pub forward : back (Some before) (stamp_in (take 4 (drop at input))) ≡ false
  pub size : e.size ≡ size_in_entry (get_or input (at + 4) 0)
  pub some : 0 < e.size
  pub due : e.due ≡ due_of (due (Some before) (take 4 (drop at input)))
  pub answers : 24 ≤ space
  pub bytes : 27 ≤ room

-- ---- Records, written out
-- a bench with nothing carried
abbrev pub open_in : Noted → Bench Noted
open_in s = record { state = s; carried = []; broken = false }

-- WHOLE RECORDS that lead a replay from q at byte `at` of the input to q' at byte at': their bytes, and how many bytes of answers they have. Replay, in any
-- state of any card, gives their answers, and goes on from there
pub record WrittenOut (q : Progress) (space at : ℕ) (input : List ℕ) (q' : Progress) (at' answers : ℕ) (bytes : List ℕ) : Type 0 where
  pub records : List (List ℕ)
  pub wholes : AllWhole records
  pub joined : bytes ≡ joined_up records
  pub are_bytes : Bytes bytes
  pub eight : answers ≡ 8 * length records
  pub room : answers ≤ space
  pub from : at ≤ at'
  pub to : at' ≤ length input
  pub goes : (setup : Setup) (defaults : List ℕ) (s : Noted)
      → (let D = noting_device setup defaults in
      let x = runs D s records in
      replay_open D (open_in s) q space (drop at input)
      ≡ later (at' - at) x.answer (replay_open D (open_in x.state) q' (space - answers) (drop at' input)))

-- ---- What stands next in a call
-- the stamp of the entry before, if the replay stands between two entries
abbrev pub stamp_before : Replay → Option Stamp
stamp_before r = when eqb r.stamp_len 0 && eqb r.ended 0 then earlier_of r else None

-- a record of a step is no longer than the longest, and ends no sooner than it begins
abbrev pub RunFits : Run → (at : ℕ) → Type 0
RunFits (Advance t) at = Unit {0}
RunFits (Record size) at = (size ≤ 17) × (size ≤ at)

abbrev pub StepFits : Step → Type 0
StepFits step = RunFits step.run step.at

-- RECORDS THAT RUN, the bytes of which stand at the front of `trace`
pub record Stretched (r : Replay) (space at : ℕ) (input : List ℕ) (s : Stretch) (trace : List ℕ) : Type 0 where
  pub few : s.len ≤ length trace
  pub some : 0 < s.answers
  pub between : Between s.replay
  pub written : WrittenOut (progress_in r) space at input (progress_in s.replay) s.at s.answers (take s.len trace)

-- or the end of the call
abbrev pub Follows : Replay → (space at : ℕ) → (input : List ℕ) → Result Stretch End → (trace : List ℕ) → Type 0
Follows r space at input (Ok s) trace = Stretched r space at input s trace
Follows r space at input (Err end) trace = step_of (progress_in r) space at input ≡ Err end
