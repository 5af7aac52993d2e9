-- The state of the bench in words.
use Rattle.std.specs.Prelude.{ℕ, ◌%◌, Bool, cond, List, ◌++◌, ltb, length, get_or}
use Rattle.times.specs.declared.Nanos.{Nanos}
use Rattle.frs_queue.specs.Queue.{place_of, reason_in}
use Rattle.readiness.specs.declared.Cause.{Cause}
use Rattle.readiness.specs.declared.Cause.TheVariants.{LinkUp, Flr, D3hot}
use Rattle.readiness.specs.declared.Phase.{Phase}
use Rattle.readiness.specs.declared.Phase.TheVariants.{Down, Pending, Ready}
use Rattle.readiness.specs.declared.Control.{Control}
use Rattle.readiness.specs.declared.Dev.{Dev}
use Rattle.bits.specs.Text.{chars}
use Rattle.text_line.specs.Text.{named, text_if}
use Rattle.describe_records.specs.Records.{switch_text, signalling_text, frs_text}

-- a moment, after its name
unfoldable pub moment_text : List ℕ → Nanos → List ℕ
moment_text name t = named name t.0 ++ chars " ns"

-- the clock and the link, and whether a DRS is owed
unfoldable pub link_text : Dev → List ℕ
link_text dev =
    moment_text (chars "clock ") dev.clock
    ++ chars ", link "
    ++ cond dev.link (chars "up") (chars "down")
    ++ text_if dev.owed (chars ", a DRS is owed")

-- a bit by its name
unfoldable pub bit_text : List ℕ → Bool → List ℕ
bit_text name on = name ++ cond on (chars "1") (chars "0")

-- the status bits of the port
unfoldable pub port_bits_text : Dev → List ℕ
port_bits_text dev =
    bit_text (chars "Received ") dev.queue.received
    ++ bit_text (chars ", Overflow ") dev.queue.overflow
    ++ bit_text (chars ", DRS Received ") dev.drs_received

-- its control bits
unfoldable pub port_control_text : Control → List ℕ
port_control_text c =
    switch_text (chars "CRS visibility ") c.visibility
    ++ switch_text (chars ", FRS interrupt ") c.frs_interrupt
    ++ signalling_text c.signalling

-- the depth of the queue, and the greatest
unfoldable pub queue_text : (depth most : ℕ) → List ℕ
queue_text depth most = named (chars "queue depth ") depth ++ named (chars " of ") most

-- the message in a queue cell (01, "Queue"): reason · 65,536 + ID
unfoldable pub cell_text : ℕ → List ℕ
cell_text cell = frs_text (cell % 65536) (reason_in cell % 16)

-- the cell of the i-th oldest message; a ring has no more messages than cells
unfoldable pub queued_cell : List ℕ → (start i : ℕ) → ℕ
queued_cell cells start i = cond (ltb i (length cells)) (get_or cells (place_of (length cells) start i) 0) 0

unfoldable pub queued_text : List ℕ → (start i : ℕ) → List ℕ
queued_text cells start i = cell_text (queued_cell cells start i)

-- what a Pending slot is starting after
unfoldable pub cause_text : Cause → List ℕ
cause_text LinkUp = chars " (link up)"
cause_text (Flr end) = moment_text (chars " (FLR, in progress until ") end ++ chars ")"
cause_text D3hot = chars " (D3hot to D0)"

unfoldable pub pending_text : Cause → Nanos → List ℕ
pending_text cause ready = moment_text (chars ": Pending until ") ready ++ cause_text cause

unfoldable pub phase_text : Phase → List ℕ
phase_text Down = chars ": Down"
phase_text (Pending cause ready) = pending_text cause ready
phase_text Ready = chars ": Ready"

-- a slot's state
unfoldable pub slot_text : ℕ → Phase → List ℕ
slot_text slot phase = named (chars "slot ") slot ++ phase_text phase
