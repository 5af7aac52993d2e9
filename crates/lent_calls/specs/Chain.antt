-- Calls that were made one after the other on the same lent memory, each known by its contract.
use Rattle.std.specs.Prelude.{ℕ, ◌≡◌, List, [], ◌∷◌}
use Rattle.trace.specs.Lent.{Left}
use Rattle.trace.specs.Calls.{Call, Came, no_call, before}
use Rattle.readiness.specs.declared.Status.{Status}
use Rattle.readiness.specs.declared.Setup.{Setup}
use Rattle.records.specs.declared.Port.{Port}
use Rattle.demand3.specs.Held.{Held}
use Rattle.demand3.specs.SettingUp.{sets_up}
use Rattle.demand3.specs.Feeding.{feeds}
use Rattle.bench.specs.declared.Outcome.{Outcome}
use Rattle.bench.specs.Entries.{left_by_set_up, left_by_feed}

-- A call of feed that was made: its input, and the slice for answers as it was lent; what it gave, and all that is lent as it is at exit
pub record LentCall : Type 0 where
  pub input : List ℕ
  pub answers : List ℕ
  pub outcome : Outcome
  pub port : Port
  pub statuses : List Status
  pub live : List ℕ
  pub cells : List ℕ
  pub answers_left : List ℕ

abbrev pub left_by : LentCall → Left Held
left_by c = left_by_feed c.outcome c.port c.statuses c.live c.cells c.answers_left

abbrev pub lent_to : LentCall → Call
lent_to c = record { input = c.input; answers = c.answers }

abbrev pub all_lent_to : List LentCall → List Call
all_lent_to [] = []
all_lent_to (c ∷ cs) = lent_to c ∷ all_lent_to cs

-- what the calls come to, on memory that was h before them
abbrev pub came_to : Held → List LentCall → Came Held
came_to h [] = no_call h
came_to h (c ∷ cs) = before (lent_to c) (left_by c) (came_to (left_by c).held cs)

module _ (setup : Setup) (defaults : List ℕ) where
  -- the calls were made one after the other on the same memory: of each, feed's contract holds at what the last one left
  abbrev pub Chained : Held → List LentCall → Type 0
  Chained h [] = Unit {0}
  Chained h (c ∷ cs) = (left_by c ≡ feeds setup defaults h c.input c.answers) × Chained (left_by c).held cs

  -- set-up was called on h: its contract holds
  abbrev pub WasSetUp : Held → (number : ℕ) → Port → List Status → (live cells : List ℕ) → Type 0
  WasSetUp h number port statuses live cells = left_by_set_up number port statuses live cells ≡ sets_up setup defaults h
