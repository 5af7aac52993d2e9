-- Replay at the bench, and lists of calls of it (02, Q-5).
use Rattle.std.specs.Prelude.{ℕ, List}
use Rattle.trace.specs.Lent.{Left}
use Rattle.trace.specs.Calls.{Call, Came}
use Rattle.readiness.specs.declared.Setup.{Setup}
use Rattle.capture.specs.declared.Replay.{Replay}
use Rattle.capture.specs.Lent.{Held as HeldOver, replays as replays_on}
use Rattle.capture.specs.Replay.{fresh}
use Rattle.capture.specs.Lent.{replay_of}
use Rattle.capture.specs.Calls.{replay_calls as replay_calls_on}
use Rattle.demand3.specs.Held.{Held}
use Rattle.demand3.specs.Feeding.{bench}

-- what goes from call to call: port state, slot statuses, live registers and queue cells, and the state of the replay
abbrev pub HeldWith : Type 0
HeldWith = HeldOver Held

abbrev pub held_with : Held → Replay → HeldWith
held_with h m = record { port = h; replay = m }

-- the state of a replay that has taken nothing
abbrev pub fresh_replay : Replay
fresh_replay = replay_of fresh

-- REPLAY: a call on what is held, an input and a slice for answers
abbrev pub replays : Setup → (defaults : List ℕ) → HeldWith → (input answers : List ℕ) → Left HeldWith
replays setup defaults h input answers = replays_on (bench setup defaults) h input answers

-- A LIST OF REPLAY CALLS, each of which gets what the last one left
abbrev pub replay_calls : Setup → (defaults : List ℕ) → HeldWith → List Call → Came HeldWith
replay_calls setup defaults h cs = replay_calls_on (bench setup defaults) h cs
