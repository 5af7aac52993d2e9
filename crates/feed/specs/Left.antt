-- What the code of feed gives.
use Rattle.std.specs.Prelude.{ℕ, List}
use Rattle.trace.specs.Lent.{Left}
use Rattle.demand3.specs.Held.{Held, held, lent_of}
use Rattle.set_up.specs.Lent.{held_in}
use Rattle.feed.specs.declared.Fed.{Fed}
use Rattle.feed.specs.declared.FedPort.{FedPort}

-- what the code gives, with the n statuses that are lent
abbrev pub left : ℕ → Fed → (live cells answers : List ℕ) → Left Held
left n r live cells answers =
    record {
      number = r.number;
      consumed = r.consumed;
      written = r.written;
      held = held r.port (lent_of n r.statuses) live cells;
      answers = answers;
    }

-- what the code gives where the statuses are numbers
abbrev pub left_in_place : FedPort → (phases live cells answers : List ℕ) → Left Held
left_in_place r phases live cells answers =
    record {
      number = r.number;
      consumed = r.consumed;
      written = r.written;
      held = held_in r.port phases live cells;
      answers = answers;
    }
