-- The queue of FRS messages at the root port (01, "Queue").
use Rattle.std.specs.Prelude.{ℕ, ◌+◌, ◌-◌, ◌*◌, ◌/◌, ◌%◌, Bool, true, false, not, ◌&&◌, ◌||◌, cond, List, [], ◌∷◌, eqb, leb, ltb, length, get_or, set}
use Rattle.bits.specs.Lists.{listed}
use Rattle.frs_queue.specs.declared.Frs.{Frs}
use Rattle.frs_queue.specs.declared.Queue.{Queue}
use Rattle.frs_queue.specs.declared.Tally.{Tally}
use Rattle.frs_queue.specs.declared.Arrival.{Arrival}

-- the lent cells, the queue in them, and what the record has brought so far
pub record Ring : Type 0 where
  pub cells : List ℕ
  pub queue : Queue
  pub tally : Tally

abbrev pub ring : List ℕ → Arrival → Ring
ring cells a = record { cells = cells; queue = a.queue; tally = a.tally }

-- nothing has come yet
abbrev pub no_tally : Tally
no_tally = record { received = false; overflow = false; drs = false; queued = 0; dropped = 0 }

-- a count with more, which stops at 255, the most that an answer's byte shows
unfoldable pub counted : ℕ → ℕ → ℕ
counted count more = cond (leb (count + more) 255) (count + more) 255

-- what a record has brought, with what comes after it in the same record: either's interrupts, and the sums of the counts
abbrev pub plus_tally : (earlier later : Tally) → Tally
plus_tally e t =
    record {
      received = e.received || t.received;
      overflow = e.overflow || t.overflow;
      drs = e.drs || t.drs;
      queued = counted e.queued t.queued;
      dropped = counted e.dropped t.dropped;
    }

-- an interrupt is raised when a bit, given as it was before, goes from 0 to 1 with the interrupt enabled; `already`: it was raised earlier in this record
abbrev pub rises : (already enabled bit : Bool) → Bool
rises already enabled bit = already || (enabled && not bit)

-- cells are a ring: the cell of the message that stands k places behind the oldest
unfoldable pub place_of : (cells start k : ℕ) → ℕ
place_of cells start k = (start + k) % cells

-- cell value reason · 65,536 + ID
abbrev pub cell_of : Frs → ℕ
cell_of frs = frs.reason * 65536 + frs.id

-- the reason that stands in a cell
abbrev pub reason_in : (cell : ℕ) → ℕ
reason_in cell = cell / 65536

-- the tally with one more queued: Received is set, and was as given
abbrev pub tally_queued : (enabled received : Bool) → Tally → Tally
tally_queued enabled received t =
    record { received = rises t.received enabled received; overflow = t.overflow; drs = t.drs; queued = counted t.queued 1; dropped = t.dropped }

-- the tally with one more dropped: Overflow is set, and was as given
abbrev pub tally_dropped : (enabled overflow : Bool) → Tally → Tally
tally_dropped enabled overflow t =
    record { received = t.received; overflow = rises t.overflow enabled overflow; drs = t.drs; queued = t.queued; dropped = counted t.dropped 1 }

-- it is put at the end and Received is set
unfoldable pub queues : Bool → Frs → Ring → Ring
queues enabled frs r =
    let q = r.queue in
    record {
      cells = set r.cells (place_of (length r.cells) q.start q.depth) (cell_of frs);
      queue = record { start = q.start; depth = q.depth + 1; received = true; overflow = q.overflow };
      tally = tally_queued enabled q.received r.tally;
    }

-- else it is dropped and Overflow is set
unfoldable pub drops : Bool → Ring → Ring
drops enabled r =
    let q = r.queue in
    record {
      cells = r.cells;
      queue = record { start = q.start; depth = q.depth; received = q.received; overflow = true };
      tally = tally_dropped enabled q.overflow r.tally;
    }

-- an FRS that arrives, with the FRS interrupt enabled or not: queued if depth is below the greatest, else dropped
unfoldable pub arrives : Bool → Frs → Ring → Ring
arrives enabled frs r = cond (ltb r.queue.depth (length r.cells)) (queues enabled frs r) (drops enabled r)

-- several FRS arrive, one after the other
unfoldable pub arrive_all : Bool → List Frs → Ring → Ring
arrive_all enabled [] r = r
arrive_all enabled (frs ∷ more) r = arrive_all enabled more (arrives enabled frs r)

-- nothing is queued, or there are no cells
abbrev pub is_empty : ℕ → Queue → Bool
is_empty cells q = eqb q.depth 0 || eqb cells 0

-- start moved one on: one message fewer, and both status bits as they were
abbrev pub moved_on : ℕ → Queue → Queue
moved_on cells q = record { start = place_of cells q.start 1; depth = q.depth - 1; received = q.received; overflow = q.overflow }

-- removing takes the oldest by moving start one on; on an empty queue it does nothing
unfoldable pub removed : ℕ → Queue → Queue
removed cells q = cond (is_empty cells q) q (moved_on cells q)

-- emptied: depth 0, start at cell 0
abbrev pub emptied : Queue → Queue
emptied q = record { start = 0; depth = 0; received = q.received; overflow = q.overflow }

-- the register shows depth · 2^20 plus the oldest cell, or 0 if empty; as a word, modulo 2^32
unfoldable pub register_of : List ℕ → Queue → ℕ
register_of cells q =
    cond (is_empty (length cells) q) 0 ((q.depth * 1048576 + get_or cells (place_of (length cells) q.start 0) 0) % 4294967296)

-- what the queue holds: the cell values of its messages, oldest first
unfoldable pub messages_of : List ℕ → Queue → List ℕ
messages_of cells q = listed q.depth λ k. get_or cells (place_of (length cells) q.start k) 0
