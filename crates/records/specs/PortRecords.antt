-- Records that touch the root port alone: message, queue register, remove oldest, status bits, control (01, "Trace records").
use Rattle.std.specs.Prelude.{ℕ, ◌+◌, ◌*◌, ◌/◌, ◌%◌, not, ◌&&◌, ◌||◌, cond, List, [], ◌∷◌, eqb, ltb, length, Option, Some, None}
use Rattle.bits.specs.Bits.{bit, one}
use Rattle.messages.specs.declared.Message.{Message}
use Rattle.messages.specs.declared.Message.TheVariants.{Drs, Frs}
use Rattle.frs_queue.specs.declared.Queue.{Queue}
use Rattle.frs_queue.specs.Queue.{no_tally, removed, register_of}
use Rattle.readiness.specs.declared.Control.{Control}
use Rattle.readiness.specs.declared.Dev.{Dev}
use Rattle.readiness.specs.Fields.{with_drs_received, with_control, with_queue}
use Rattle.readiness.specs.Root.{Root, frs_arrive, drs_arrives}
use Rattle.records.specs.declared.Completion.TheVariants as completion
use Rattle.records.specs.Answer.{Effect, refused, does}

-- the root port: the device's part and the queue cells
pub record Front : Type 0 where
  pub dev : Dev
  pub cells : List ℕ

abbrev pub front : Dev → List ℕ → Front
front dev cells = record { dev = dev; cells = cells }

abbrev pub front_root : Front → Root
front_root p = record { dev = p.dev; cells = p.cells; tally = no_tally }

abbrev pub received : Root → Effect Front
received x = does (front x.dev x.cells) x.tally 0

-- a message: an FRS arrives, a DRS sets DRS Received as above, "owed" stays; else no readiness message
unfoldable pub message_done : (port_id : ℕ) → Option Message → Front → Effect Front
message_done port_id None p = refused completion.NoReadinessMessage 0
message_done port_id (Some (Drs id)) p = received (drs_arrives port_id (front_root p))
message_done port_id (Some (Frs id reason)) p = received (frs_arrive (record { id = id; reason = reason } ∷ []) (front_root p))

-- order: 23 with the link down, then 19
unfoldable pub message_effect : (port_id : ℕ) → Option Message → Front → Effect Front
message_effect port_id m p = cond p.dev.link (message_done port_id m p) (refused completion.WrongState 0)

-- read queue register
abbrev pub read_queue_effect : Front → Effect Front
read_queue_effect p = does p no_tally (register_of p.cells p.dev.queue)

-- remove oldest
abbrev pub remove_effect : Front → Effect Front
remove_effect p = does (front (with_queue p.dev (removed (length p.cells) p.dev.queue)) p.cells) no_tally 0

-- clear status bits where 1: 0 Received, 1 Overflow, 2 DRS Received; others ignored
abbrev pub cleared_queue : ℕ → Queue → Queue
cleared_queue mask q = record { start = q.start; depth = q.depth; received = q.received && not (bit mask 0); overflow = q.overflow && not (bit mask 1) }

unfoldable pub cleared_dev : ℕ → Dev → Dev
cleared_dev mask d = with_queue (with_drs_received d (d.drs_received && not (bit mask 2))) (cleared_queue mask d.queue)

abbrev pub clear_effect : ℕ → Front → Effect Front
clear_effect mask p = does (front (cleared_dev mask p.dev) p.cells) no_tally 0

-- the control byte: bit 0 CRS visibility, bit 1 FRS interrupt, bits 3:2 signalling
unfoldable pub control_of : ℕ → Control
control_of b = record { visibility = bit b 0; frs_interrupt = bit b 1; signalling = b / 4 % 4 }

-- a control byte above 15, or signalling 3, is refused
unfoldable pub control_effect : ℕ → Front → Effect Front
control_effect b p =
    cond (ltb 15 b || eqb (b / 4 % 4) 3) (refused completion.BadValue 0) (does (front (with_control p.dev (control_of b)) p.cells) no_tally 0)

-- the three status bits, numbered as they are cleared
unfoldable pub status_bits : Dev → ℕ
status_bits d = one d.queue.received + 2 * one d.queue.overflow + 4 * one d.drs_received

abbrev pub read_bits_effect : Front → Effect Front
read_bits_effect p = does p no_tally (status_bits p.dev)
