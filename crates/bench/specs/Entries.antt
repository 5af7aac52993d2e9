-- What the public entries give, and all that is lent as they leave it.
use Rattle.std.specs.Prelude.{ℕ, List}
use Rattle.trace.specs.Lent.{Left}
use Rattle.readiness.specs.declared.Status.{Status}
use Rattle.records.specs.declared.Port.{Port}
use Rattle.demand3.specs.Held.{Held, held}
use Rattle.demand3.specs.SettingUp.{Prepared}
use Rattle.feed.specs.declared.Fed.{Fed}
use Rattle.bench.specs.declared.Outcome.{Outcome}

-- set-up: its number; port, statuses, live registers and queue cells at exit
abbrev pub left_by_set_up : (number : ℕ) → Port → List Status → (live cells : List ℕ) → Prepared
left_by_set_up number port statuses live cells = record { number = number; held = held port statuses live cells }

-- feed: its number and counts; port, statuses, live registers, queue cells and answers at exit
abbrev pub left_by_feed : Outcome → Port → List Status → (live cells answers : List ℕ) → Left Held
left_by_feed r port statuses live cells answers =
    record { number = r.number; consumed = r.consumed; written = r.written; held = held port statuses live cells; answers = answers }

-- number and counts of what the code of feed gives
abbrev pub outcome_is : Fed → Outcome
outcome_is r = record { number = r.number; consumed = r.consumed; written = r.written }
