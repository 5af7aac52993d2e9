-- A call by its parts.
use Rattle.std.specs.Prelude.{ℕ, ◌+◌, ◌≤◌, false, List, length, drop, eqb}
use Rattle.trace.specs.Format.{when◌then◌else◌}
use Rattle.trace.specs.Lent.{Left}
use Rattle.readiness.specs.declared.Setup.{Setup}
use Rattle.readiness.specs.declared.Dev.{Dev}
use Rattle.records.specs.declared.Port.{Port}
use Rattle.capture.specs.declared.Replay.{Replay}
use Rattle.capture.specs.Advances.{due}
use Rattle.capture.specs.Replay.{Progress, begins, replay_open}
use Rattle.capture.specs.Lent.{progress_in, replay_of, leaves}
use Rattle.demand3.specs.Held.{opened}
use Rattle.feed.specs.inner.Calls.{carries_on}
use Rattle.replay_state.specs.inner.Moves.{Tidy}
use Rattle.replay_rules.specs.KeepingMoments.{HeldNoting, noting_bench}
use Rattle.replay.specs.inner.Noted.{Noted, noting_device}
use Rattle.replay.specs.declared.End.{End}
use Rattle.replay.specs.declared.ReplayedPort.{ReplayedPort}

-- the state of a replay between records, as a call leaves it: at most 4 stamp bytes, and no more advances answered than are due
pub record Between (r : Replay) : Type 0 where
  pub tidy : Tidy r
  pub few : r.stamp_len ≤ 4
  pub answered : r.answered ≤ length (due (progress_in r).earlier (progress_in r).stamp)

-- what a call comes to that no number stops, in the state s, with c carried
abbrev pub comes_to : Setup → (defaults : List ℕ) → Noted → (c : List ℕ) → Progress → (input answers : List ℕ) → Left HeldNoting
comes_to setup defaults s c q input answers =
    leaves (noting_bench setup defaults) (replay_open (noting_device setup defaults) (record { state = s; carried = c; broken = false }) q (length answers) input) answers

-- where the kind byte is consumed, its stamp is the earlier one
abbrev pub took_kind_of : Replay → (consumed : ℕ) → Replay
took_kind_of r consumed = when eqb consumed 0 then r else replay_of (begins (progress_in r))

-- what is left of the input begins a record, or none
abbrev pub ends_left : Dev → End → (input : List ℕ) → (w : ℕ) → ReplayedPort
ends_left dev end input w =
    let x = carries_on (opened dev) (drop end.at input) in
    record { number = x.number; consumed = end.at + x.consumed; written = w; port = x.port; replay = took_kind_of end.replay x.consumed }

-- THE END OF A CALL, which runs no record more, with w bytes written
abbrev pub ends_at : Dev → End → (input : List ℕ) → (w : ℕ) → ReplayedPort
ends_at dev end input w =
    when eqb end.number 0
    then ends_left dev end input w
    else record { number = end.number; consumed = end.at; written = w; port = opened dev; replay = end.replay }

-- what a call gives with bytes carried, that completes no record
abbrev pub carried_on : Port → Replay → (input : List ℕ) → ReplayedPort
carried_on port r input =
    let x = carries_on port input in record { number = x.number; consumed = x.consumed; written = 0; port = x.port; replay = r }
