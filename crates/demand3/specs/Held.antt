-- What is lent and goes from call to call.
use Rattle.std.specs.Prelude.{ℕ, ◌-◌, false, List, ◌++◌, length, take, replicate}
use Rattle.trace.specs.Format.{pad}
use Rattle.trace.specs.Bench.{Bench}
use Rattle.readiness.specs.declared.Status.{Status}
use Rattle.readiness.specs.declared.Dev.{Dev}
use Rattle.readiness.specs.Status.{ready}
use Rattle.records.specs.State.{State, state}
use Rattle.records.specs.declared.Port.{Port}

-- the port state, the slot statuses, the live registers and the queue cells
pub record Held : Type 0 where
  pub port : Port
  pub statuses : List Status
  pub live : List ℕ
  pub cells : List ℕ

abbrev pub held : Port → List Status → (live cells : List ℕ) → Held
held port statuses live cells = record { port = port; statuses = statuses; live = live; cells = cells }

-- the n statuses that an array stands for; past its end they count as Ready
abbrev pub lent_of : ℕ → List Status → List Status
lent_of n array = take n array ++ replicate (n - length (take n array)) ready

-- the device's state in what is lent
abbrev pub state_of : Held → State
state_of h = state h.port.dev h.statuses h.live h.cells

-- the bytes carried
abbrev pub carried_of : Port → List ℕ
carried_of p = take p.carried_len p.carried

-- a port with nothing carried, unbroken
abbrev pub opened : Dev → Port
opened d = record { dev = d; carried = replicate 16 0; carried_len = 0; broken = false }

-- the bench that the lent memory stands for
abbrev pub bench_of : Held → Bench State
bench_of h = record { state = state_of h; carried = carried_of h.port; broken = h.port.broken }

-- the lent memory that stands for a bench: past the carried bytes there are zeros
abbrev pub held_of : Bench State → Held
held_of p =
    held (record { dev = p.state.port; carried = pad 16 p.carried; carried_len = length p.carried; broken = p.broken })
    p.state.statuses
    p.state.live
    p.state.cells
