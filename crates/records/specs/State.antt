-- The device's state (01, "One trace"), and the parts of it that a record sees.
use Rattle.std.specs.Prelude.{ℕ, List, get_or, set}
pub use Rattle.config_space.specs.Functions.{word_place}
use Rattle.frs_queue.specs.declared.Tally.{Tally}
use Rattle.frs_queue.specs.Queue.{messages_of}
use Rattle.registers.specs.declared.Kind.{Kind}
use Rattle.registers.specs.declared.Kind.TheVariants.{Endpoint}
use Rattle.readiness.specs.declared.Slot.{Slot}
use Rattle.readiness.specs.declared.Phase.{Phase}
use Rattle.readiness.specs.declared.Status.{Status}
use Rattle.readiness.specs.declared.Setup.{Setup}
use Rattle.readiness.specs.declared.Dev.{Dev}
use Rattle.readiness.specs.Status.{ready, entry_of}
use Rattle.readiness.specs.Root.{Root}
use Rattle.readiness.specs.Settle.{Scene}

-- the clock, the link and the port's part; the slot statuses; the live registers, 64 words to a slot; the queue cells
pub record State : Type 0 where
  pub port : Dev
  pub statuses : List Status
  pub live : List ℕ
  pub cells : List ℕ

abbrev pub state : Dev → List Status → (live cells : List ℕ) → State
state port statuses live cells = record { port = port; statuses = statuses; live = live; cells = cells }

-- a slot's status; what lies past the last slot counts as Ready
abbrev pub status_at : List Status → ℕ → Status
status_at l slot = get_or l slot ready

-- a slot's phase
abbrev pub phase_at : State → (slot : ℕ) → Phase
phase_at s slot = (status_at s.statuses slot).phase

-- the messages in the queue, as cell values, oldest first
abbrev pub list_of : State → List ℕ
list_of s = messages_of s.cells s.port.queue

-- what a slot holds, which selects the attributes of its words: by its entry in the set-up
unfoldable pub kind_of_entry : Slot → Kind
kind_of_entry entry = Endpoint

abbrev pub slot_kind : Setup → (slot : ℕ) → Kind
slot_kind setup slot = kind_of_entry (entry_of setup slot)

-- the root port of a state, with what the record has brought so far
abbrev pub root_of : State → Tally → Root
root_of s tally = record { dev = s.port; cells = s.cells; tally = tally }

abbrev pub scene_of : State → Tally → Scene
scene_of s tally = record { statuses = s.statuses; root = root_of s tally }

-- a scene with the live registers beside it
abbrev pub with_live : Scene → (live : List ℕ) → State
with_live x live = state x.root.dev x.statuses live x.root.cells

-- one slot's part of the state, and the state with that part put back
pub record Seat : Type 0 where
  pub dev : Dev
  pub status : Status
  pub live : List ℕ
  pub cells : List ℕ

abbrev pub seat : Dev → Status → (live cells : List ℕ) → Seat
seat dev status live cells = record { dev = dev; status = status; live = live; cells = cells }

abbrev pub seat_of : State → (slot : ℕ) → Seat
seat_of s slot = seat s.port (status_at s.statuses slot) s.live s.cells

abbrev pub put_back : State → (slot : ℕ) → Seat → State
put_back s slot z = state z.dev (set s.statuses slot z.status) z.live z.cells
