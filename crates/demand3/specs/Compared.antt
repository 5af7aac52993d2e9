-- What demand 3 compares.
use Rattle.std.specs.Prelude.{ℕ, ◌+◌, ◌/◌, ◌%◌, ◌<◌, ◌≡◌, ◌||◌, List, [], ◌∷◌, get_or}
use Rattle.bits.specs.Bits.{bit}
use Rattle.trace.specs.Format.{Bytes}
use Rattle.trace.specs.Bench.{Bench, Benched}
use Rattle.readiness.specs.declared.Setup.{Setup}
use Rattle.records.specs.State.{State}
use Rattle.demand3.specs.Held.{Held, carried_of}

-- The numbers are those that the code's types hold: B has 8 bits, the port's ID 16, and the carried array is of bytes
pub record Typed (setup : Setup) (h : Held) : Type 0 where
  pub bus : setup.bus < 256
  pub port_id : setup.port_id < 65536
  pub carried : Bytes h.port.carried

-- the lent memory h shows the bench p, part by part; `dev` is the port state without carried bytes and broken, as the bench's state has it
pub record Shows (h : Held) (p : Bench State) : Type 0 where
  pub registers : h.live ≡ p.state.live
  pub statuses : h.statuses ≡ p.state.statuses
  -- the queue: cells, start, depth
  pub cells : h.cells ≡ p.state.cells
  pub start : h.port.dev.queue.start ≡ p.state.port.queue.start
  pub depth : h.port.dev.queue.depth ≡ p.state.port.queue.depth
  -- the port bits
  pub received : h.port.dev.queue.received ≡ p.state.port.queue.received
  pub overflow : h.port.dev.queue.overflow ≡ p.state.port.queue.overflow
  pub drs_received : h.port.dev.drs_received ≡ p.state.port.drs_received
  pub visibility : h.port.dev.control.visibility ≡ p.state.port.control.visibility
  pub frs_interrupt : h.port.dev.control.frs_interrupt ≡ p.state.port.control.frs_interrupt
  pub signalling : h.port.dev.control.signalling ≡ p.state.port.control.signalling
  pub link : h.port.dev.link ≡ p.state.port.link
  pub owed : h.port.dev.owed ≡ p.state.port.owed
  pub clock : h.port.dev.clock ≡ p.state.port.clock
  pub carried : carried_of h.port ≡ p.carried
  pub broken : h.port.broken ≡ p.broken

-- a record 01, by n nanoseconds
abbrev pub advance_by : ℕ → List ℕ
advance_by n = 1 ∷ n % 256 ∷ n / 256 % 256 ∷ n / 65536 % 256 ∷ n / 16777216 % 256 ∷ []

-- Two records 01 against one: the same state; of the answers, queued and dropped (bytes 2 and 3) add up, and interrupts (byte 1) are the
-- or; all three are done (byte 0). Their data is 0 (records/EachKind, `no_data`)
pub record AddUp (two one : Benched State) : Type 0 where
  pub state : two.state ≡ one.state
  pub carried : two.carried ≡ one.carried
  pub queued : get_or two.answers 2 0 + get_or two.answers 10 0 ≡ get_or one.answers 2 0
  pub dropped : get_or two.answers 3 0 + get_or two.answers 11 0 ≡ get_or one.answers 3 0
  pub interrupts : (k : ℕ) → (bit (get_or two.answers 1 0) k || bit (get_or two.answers 9 0) k) ≡ bit (get_or one.answers 1 0) k
  pub first : get_or two.answers 0 0 ≡ 0
  pub second : get_or two.answers 8 0 ≡ 0
  pub whole : get_or one.answers 0 0 ≡ 0
