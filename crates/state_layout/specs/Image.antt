-- A state image (case stream, version 2): the device, and how port and statuses are written. Numbers are low byte first.
use Rattle.std.specs.Prelude.{ℕ, zero, suc, List, [], ◌∷◌, ◌++◌}
use Rattle.bits.specs.Bits.{one}
use Rattle.readiness.specs.declared.Cause.{Cause}
use Rattle.readiness.specs.declared.Cause.TheVariants.{LinkUp, Flr, D3hot}
use Rattle.readiness.specs.declared.Phase.{Phase}
use Rattle.readiness.specs.declared.Phase.TheVariants.{Down, Pending, Ready}
use Rattle.readiness.specs.declared.Status.{Status}
use Rattle.frs_queue.specs.declared.Queue.{Queue}
use Rattle.readiness.specs.declared.Control.{Control}
use Rattle.readiness.specs.declared.Dev.{Dev}
use Rattle.records.specs.declared.Port.{Port}
use Rattle.bits.specs.Bytes.{byte_at}
use Rattle.state_layout.specs.Numbers.{low_first, number_at, time_at, yes}

-- the moment of the last reset, a slot's set of children and the end of its change: nothing keeps one yet
abbrev pub not_kept : ℕ
not_kept = 0

-- link, owed, Received, Overflow, DRS Received, visibility, FRS interrupt, signalling
unfoldable pub single_bytes : Dev → List ℕ
single_bytes d =
    one d.link
    ∷ one d.owed
    ∷ one d.queue.received
    ∷ one d.queue.overflow
    ∷ one d.drs_received
    ∷ one d.control.visibility
    ∷ one d.control.frs_interrupt
    ∷ d.control.signalling
    ∷ []

abbrev pub control_in : List ℕ → Control
control_in l = record { visibility = yes 21 l; frs_interrupt = yes 22 l; signalling = byte_at l 23 }

abbrev pub queue_in : List ℕ → Queue
queue_in l = record { start = number_at 2 24 l; depth = number_at 2 26 l; received = yes 18 l; overflow = yes 19 l }

-- how a value is written, and how it is read
pub record Layout (A : Type 0) : Type 0 where
  pub written : A → List ℕ
  pub read : List ℕ → A

-- THE DEVICE: clock; moment of the last reset; the single bytes; queue start; depth
abbrev pub device_layout : Layout Dev
device_layout =
    record {
      written = λ d. low_first 8 d.clock.0 ++ low_first 8 not_kept ++ single_bytes d ++ low_first 2 d.queue.start ++ low_first 2 d.queue.depth;
      read = λ l. record { clock = time_at 0 l; link = yes 16 l; owed = yes 17 l; drs_received = yes 20 l; control = control_in l; queue = queue_in l };
    }

unfoldable pub dev_bytes : Dev → List ℕ
dev_bytes d = device_layout.written d

abbrev pub dev_in : List ℕ → Dev
dev_in l = device_layout.read l

-- a carried byte past the count is written as 0
unfoldable pub up_to : (count : ℕ) → List ℕ → List ℕ
up_to count [] = []
up_to zero (b ∷ l) = 0 ∷ up_to zero l
up_to (suc count) (b ∷ l) = b ∷ up_to count l

-- the port: the device; carried count; carried bytes; broken
unfoldable pub port_bytes : Port → List ℕ
port_bytes p =
    dev_bytes p.dev
    ++ low_first 1 p.carried_len
    ++ up_to p.carried_len p.carried
    ++ one p.broken
    ∷ []

-- 1 link up, 2 FLR, 3 D3hot
abbrev pub cause_number : Cause → ℕ
cause_number LinkUp = 1
cause_number (Flr end) = 2
cause_number D3hot = 3

-- the end of the FLR, where that is the cause
abbrev pub end_number : Cause → ℕ
end_number LinkUp = 0
end_number (Flr end) = end.0
end_number D3hot = 0

-- what is written of a phase: 0 Down, 1 Pending, 2 Ready; the cause of a Pending slot (0 none), its ready time, the end of its FLR
pub record Written : Type 0 where
  pub phase : ℕ
  pub cause : ℕ
  pub ready_time : ℕ
  pub flr_end : ℕ

abbrev pub phase_written : Phase → Written
phase_written Down = record { phase = 0; cause = 0; ready_time = 0; flr_end = 0 }
phase_written (Pending cause t) = record { phase = 1; cause = cause_number cause; ready_time = t.0; flr_end = end_number cause }
phase_written Ready = record { phase = 2; cause = 0; ready_time = 0; flr_end = 0 }

abbrev pub phase_byte : Phase → ℕ
phase_byte p = (phase_written p).phase

abbrev pub cause_byte : Phase → ℕ
cause_byte p = (phase_written p).cause

abbrev pub ready_time : Phase → ℕ
ready_time p = (phase_written p).ready_time

abbrev pub flr_end : Phase → ℕ
flr_end p = (phase_written p).flr_end

-- a status: phase; cause; ready time; FLR end; its set of children; the end of the set's change
unfoldable pub status_bytes : Status → List ℕ
status_bytes s =
    phase_byte s.phase
    ∷ cause_byte s.phase
    ∷ low_first 8 (ready_time s.phase)
    ++ low_first 8 (flr_end s.phase)
    ++ not_kept
    ∷ low_first 8 not_kept

unfoldable pub statuses_bytes : List Status → List ℕ
statuses_bytes [] = []
statuses_bytes (s ∷ l) = status_bytes s ++ statuses_bytes l

-- THE STATE: the port, then each lent status
unfoldable pub state_bytes : Port → List Status → List ℕ
state_bytes port statuses = port_bytes port ++ statuses_bytes statuses
