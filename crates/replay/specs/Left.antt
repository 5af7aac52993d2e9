-- What the code of replay gives.
use Rattle.times.specs.declared.Nanos.{Nanos}
use Rattle.std.specs.Prelude.{ℕ, List, Option}
use Rattle.trace.specs.Lent.{Left}
use Rattle.readiness.specs.MadeReady.{moments_of}
use Rattle.readiness.specs.inner.Phases.{moments_in, moments_with}
use Rattle.demand3.specs.Held.{held, lent_of}
use Rattle.set_up.specs.Lent.{held_in}
use Rattle.replay_rules.specs.Replaying.{HeldWith, held_with}
use Rattle.replay_rules.specs.KeepingMoments.{HeldNoting, held_noting}
use Rattle.replay.specs.declared.Replayed.{Replayed}
use Rattle.replay.specs.declared.ReplayedPort.{ReplayedPort}
use Rattle.replay.specs.declared.ReplayedInPlace.{ReplayedInPlace}

-- what a call leaves, with the moments
abbrev with_moments : Left HeldWith → List (Option Nanos) → Left HeldNoting
with_moments x l = record { number = x.number; consumed = x.consumed; written = x.written; held = held_noting x.held.port l x.held.replay; answers = x.answers }

-- what the code gives, with the n statuses that are lent
abbrev pub left : ℕ → Replayed → (live cells answers : List ℕ) → Left HeldWith
left n r live cells answers =
    record {
      number = r.number;
      consumed = r.consumed;
      written = r.written;
      held = held_with (held r.port (lent_of n r.statuses) live cells) r.replay;
      answers = answers;
    }

-- what the code gives where the statuses are numbers
abbrev pub left_in_place : ReplayedInPlace → (phases live cells answers : List ℕ) → Left HeldWith
left_in_place r phases live cells answers =
    record {
      number = r.number;
      consumed = r.consumed;
      written = r.written;
      held = held_with (held_in r.port phases live cells) r.replay;
      answers = answers;
    }

-- the same with the moments
abbrev pub left_kept : ℕ → Replayed → (live cells answers : List ℕ) → Left HeldNoting
left_kept n r live cells answers = with_moments (left n r live cells answers) (moments_of r.moments)

abbrev pub left_kept_in_place : ReplayedInPlace → (phases live cells answers : List ℕ) → Left HeldNoting
left_kept_in_place r phases live cells answers = with_moments (left_in_place r phases live cells answers) (moments_of r.moments)

-- what the entries of a call give, with the moments of before the call and those of the numbers
abbrev pub left_noting : List (Option Nanos) → ReplayedPort → (phases live cells answers : List ℕ) → Left HeldNoting
left_noting kept r phases live cells answers =
    record {
      number = r.number;
      consumed = r.consumed;
      written = r.written;
      held = held_noting (held_in r.port phases live cells) (moments_with kept (moments_in phases)) r.replay;
      answers = answers;
    }
