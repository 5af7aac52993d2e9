-- A call of replay on what the caller lends and hands in: refusals, and every lent byte afterwards.
use Rattle.std.specs.Prelude.{ℕ, ◌≡◌, Bool, true, ◌&&◌, List, ◌++◌, length, take, drop, leb, None, Some, is_some}
use Rattle.ticks.specs.declared.Stamp.{Stamp}
use Rattle.trace.specs.Format.{when◌then◌else◌, pad}
use Rattle.trace.specs.Outcome.{first}
use Rattle.trace.specs.Bench.{Bench}
use Rattle.trace.specs.Lent.{Lent, Left, unchanged, unless, refusal, Start}
use Rattle.capture.specs.declared.Replay.{Replay}
use Rattle.capture.specs.Advances.{Earlier}
use Rattle.capture.specs.Capture.{Place}
use Rattle.capture.specs.Replay.{Progress, Replayed, fresh, matches, replay_open}

-- ---- The state of a replay as the code keeps it
-- the stamp of the record before: the earlier stamp counts only if some record was begun
abbrev pub earlier_of : Replay → Earlier
earlier_of m = when m.begun then Some m.earlier else None

-- what it stands for
abbrev pub progress_in : Replay → Progress
progress_in m =
    record {
      earlier = earlier_of m;
      stamp = take m.stamp_len m.stamp;
      answered = m.answered;
      ended = m.ended;
    }

-- no more stamp bytes than there are places
abbrev pub stamp_fits : Replay → Bool
stamp_fits m = leb m.stamp_len 4

abbrev pub stamp_or0 : Earlier → Stamp
stamp_or0 None = record { 0 = 0 }
stamp_or0 (Some e) = e

-- what a call leaves: stamp bytes past the count are 0, and so is the earlier stamp if there is none
abbrev pub replay_of : Progress → Replay
replay_of r =
    record {
      begun = is_some r.earlier;
      earlier = stamp_or0 r.earlier;
      stamp_len = length r.stamp;
      stamp = pad 4 r.stamp;
      answered = r.answered;
      ended = r.ended;
    }

-- ---- A call
-- what goes from call to call: the bench's memory, and the replay's
pub record Held (H : Type 0) : Type 0 where
  pub port : H
  pub replay : Replay

module _ {S H : Type 0} (L : Lent S H) where
  abbrev pub bench_in : Held H → Bench S
  bench_in h = L.view h.port

  abbrev pub place_in : Held H → Place
  place_in h = record { earlier = (progress_in h.replay).earlier; stamp = (progress_in h.replay).stamp; carried = (bench_in h).carried }

  -- the state of the replay matches the port
  abbrev pub matching : Held H → Bool
  matching h = stamp_fits h.replay && matches (bench_in h).carried (progress_in h.replay)

  -- 0, or the first of 1 to 5 that applies; 5 also where the state of the replay doesn't match
  unfoldable pub refusal_with : Held H → ℕ
  refusal_with h = first (refusal L h.port) (when matching h then 0 else 5)

  -- 0, or the number given before a byte is looked at: an ended replay's right after 5, then a broken port's 31
  unfoldable pub stops_first : Held H → ℕ
  stops_first h = first (refusal_with h) (first h.replay.ended (when (bench_in h).broken then 31 else 0))

  abbrev pub leaves : Replayed S → List ℕ → Left (Held H)
  leaves f answers =
      record {
        number = f.number;
        consumed = f.consumed;
        written = length f.answers;
        held = record { port = L.keep f.bench; replay = replay_of f.progress };
        answers = f.answers ++ drop (length f.answers) answers;
      }

  -- REPLAY, on what is held from the call before, an input and a slice for answers
  unfoldable pub replays : Held H → (input answers : List ℕ) → Left (Held H)
  replays h input answers =
      unless (stops_first h) (unchanged h answers)
      (leaves (replay_open L.device (bench_in h) (progress_in h.replay) (length answers) input) answers)

  -- WHERE A REPLAY STARTS: a sound, unbroken port with nothing carried, and a fresh replay
  pub record Fresh (h : Held H) : Type 0 where
    pub port : Start L h.port
    pub fits : stamp_fits h.replay ≡ true
    pub replay : progress_in h.replay ≡ fresh
