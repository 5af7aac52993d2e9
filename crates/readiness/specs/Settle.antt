-- What happens as slots become Ready, and as the clock advances (01, "Readiness").
use Rattle.std.specs.Prelude.{ℕ, Bool, true, not, ◌&&◌, cond, List, [], ◌∷◌, ◌++◌, eqb, set}
use Rattle.times.specs.declared.Nanos.{Nanos}
use Rattle.times.specs.Moments.{sum_of}
use Rattle.frs_queue.specs.declared.Frs.{Frs}
use Rattle.readiness.specs.declared.Status.{Status}
use Rattle.readiness.specs.declared.Setup.{Setup}
use Rattle.readiness.specs.declared.RootPort.{RootPort}
use Rattle.readiness.specs.Fields.{with_clock}
use Rattle.readiness.specs.Status.{ready, all_ready}
use Rattle.readiness.specs.Root.{Root, root, frs_arrive, drs_arrives, nothing_owed, frs_of_drs}
use Rattle.readiness.specs.Events.{Event, due, frs_of}

-- the slot statuses and the root port
pub record Scene : Type 0 where
  pub statuses : List Status
  pub root : Root

abbrev pub scene : List Status → (cells : List ℕ) → RootPort → Scene
scene statuses cells port = record { statuses = statuses; root = root cells port }

-- a slot becomes Ready, and its FRS, if any, arrives
unfoldable pub happens : Setup → Event → Scene → Scene
happens setup e x = record { statuses = set x.statuses e.slot ready; root = frs_arrive (frs_of setup e) x.root }

-- a DRS is owed and all slots that count are Ready
abbrev pub drs_due : Setup → Scene → Bool
drs_due setup x = x.root.dev.owed && all_ready setup x.statuses

-- then DRS Received is set and nothing is owed
unfoldable pub tells : Setup → Scene → Scene
tells setup x =
    cond (drs_due setup x) (record { statuses = x.statuses; root = nothing_owed (drs_arrives setup.port_id x.root) }) x

-- the next event, if there is one, is at a later moment
abbrev pub last_of_moment : Event → List Event → Bool
last_of_moment e [] = true
last_of_moment e (f ∷ es) = not (eqb e.time.0 f.time.0)

-- at the end of each moment, after its FRS, the DRS
unfoldable pub moment_ends : Setup → Event → List Event → Scene → Scene
moment_ends setup e es x = cond (last_of_moment e es) (tells setup x) x

-- slots become Ready one after the other
unfoldable pub happen_all : Setup → List Event → Scene → Scene
happen_all setup [] x = x
happen_all setup (e ∷ es) x = happen_all setup es (moment_ends setup e es (happens setup e x))

-- slots whose ready time is at or before the clock become Ready in order, and at the end of each moment DRS Received is set if that is due. In no sound state
-- it is due before anything happens; else it comes first
unfoldable pub settles : Setup → Scene → Scene
settles setup x = happen_all setup (due x.root.dev.clock x.statuses) (tells setup x)

-- the clock moves
abbrev pub at_clock : Nanos → Scene → Scene
at_clock t x = record { statuses = x.statuses; root = record { dev = with_clock x.root.dev t; cells = x.root.cells; tally = x.root.tally } }

-- the clock advances by so many nanoseconds, and what becomes Ready on the way happens at its moment
unfoldable pub advances : Setup → Nanos → Scene → Scene
advances setup by x = settles setup (at_clock (sum_of x.root.dev.clock by) x)

-- the FRS that telling sends
unfoldable pub frs_told : Setup → Scene → List Frs
frs_told setup x = cond (drs_due setup x) (frs_of_drs setup.port_id x.root.dev) []

-- and that is sent at the end of a moment
unfoldable pub frs_ending : Setup → Event → List Event → Scene → List Frs
frs_ending setup e es x = cond (last_of_moment e es) (frs_told setup x) []

-- every FRS that settling sends, in order
unfoldable pub frames_of : Setup → List Event → Scene → List Frs
frames_of setup [] x = []
frames_of setup (e ∷ es) x =
    let y = happens setup e x in
    (frs_of setup e ++ frs_ending setup e es y) ++ frames_of setup es (moment_ends setup e es y)

unfoldable pub frs_sent : Setup → Scene → List Frs
frs_sent setup x = frs_told setup x ++ frames_of setup (due x.root.dev.clock x.statuses) (tells setup x)
