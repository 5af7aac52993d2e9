-- A capture replayed in one call, after set-up (02, Q-5).
use Rattle.std.specs.Prelude.{ℕ, List}
use Rattle.trace.specs.Lent.{Left, unchanged, unless}
use Rattle.readiness.specs.declared.Setup.{Setup}
use Rattle.demand3.specs.Held.{Held}
use Rattle.demand3.specs.SettingUp.{sets_up}
use Rattle.replay_rules.specs.Replaying.{HeldWith, held_with, fresh_replay, replays}

-- what a call of replay leaves, without the state of the replay
abbrev pub at_port : Left HeldWith → Left Held
at_port x = record { number = x.number; consumed = x.consumed; written = x.written; held = x.held.port; answers = x.answers }

-- SET-UP AND CAPTURE, by a replay that has taken nothing: a set-up that is refused gets none of it
unfoldable pub replays_on : Setup → (defaults : List ℕ) → Held → (capture answers : List ℕ) → Left Held
replays_on setup defaults h capture answers =
    let x = sets_up setup defaults h in
    unless x.number (unchanged x.held answers) (at_port (replays setup defaults (held_with x.held fresh_replay) capture answers))
