-- Messages at the root port (01, "Readiness" and "Queue").
use Rattle.std.specs.Prelude.{ℕ, Bool, true, false, not, ◌&&◌, ◌||◌, cond, List, [], ◌∷◌, eqb}
use Rattle.frs_queue.specs.declared.Frs.{Frs}
use Rattle.frs_queue.specs.declared.Tally.{Tally}
use Rattle.frs_queue.specs.Queue.{Ring, arrive_all}
use Rattle.readiness.specs.declared.Dev.{Dev}
use Rattle.readiness.specs.declared.RootPort.{RootPort}
use Rattle.readiness.specs.Fields.{with_owed, with_drs_received, with_queue}

-- the device, the queue cells, and what the record has brought so far
pub record Root : Type 0 where
  pub dev : Dev
  pub cells : List ℕ
  pub tally : Tally

abbrev pub root : List ℕ → RootPort → Root
root cells p = record { dev = p.dev; cells = cells; tally = p.tally }

-- the queue of the port
abbrev pub ring_of : Root → Ring
ring_of x = record { cells = x.cells; queue = x.dev.queue; tally = x.tally }

-- the port with another queue
abbrev pub with_ring : Ring → Root → Root
with_ring r x = record { dev = with_queue x.dev r.queue; cells = r.cells; tally = r.tally }

-- FRS messages arrive, one after the other
unfoldable pub frs_arrive : List Frs → Root → Root
frs_arrive messages x = with_ring (arrive_all x.dev.control.frs_interrupt messages (ring_of x)) x

-- with signalling 2, an FRS with the port's ID and reason 1, if DRS Received goes from 0 to 1
unfoldable pub frs_of_drs : (port_id : ℕ) → Dev → List Frs
frs_of_drs port_id d = cond (not d.drs_received && eqb d.control.signalling 2) (record { id = port_id; reason = 1 } ∷ []) []

-- with signalling 1, the DRS interrupt, if DRS Received goes from 0 to 1
abbrev pub drs_interrupt : Dev → Bool
drs_interrupt d = not d.drs_received && eqb d.control.signalling 1

-- DRS Received is set
unfoldable pub drs_set : Root → Root
drs_set x =
    let d = x.dev in
    let t = x.tally in
    record {
      dev = with_drs_received d true;
      cells = x.cells;
      tally = record { received = t.received; overflow = t.overflow; drs = t.drs || drs_interrupt d; queued = t.queued; dropped = t.dropped };
    }

-- a DRS is received: DRS Received is set, and the DRS is signalled if the bit went from 0 to 1
unfoldable pub drs_arrives : (port_id : ℕ) → Root → Root
drs_arrives port_id x = frs_arrive (frs_of_drs port_id x.dev) (drs_set x)

-- nothing is owed
abbrev pub nothing_owed : Root → Root
nothing_owed x = record { dev = with_owed x.dev false; cells = x.cells; tally = x.tally }
