-- Blank values: every number 0, every bit off, every slot Down.
use Rattle.std.specs.Prelude.{false, replicate}
use Rattle.frs_queue.specs.declared.Queue.{Queue}
use Rattle.readiness.specs.declared.Slot.{Slot}
use Rattle.readiness.specs.declared.Setup.{Setup}
use Rattle.readiness.specs.declared.Control.{Control}
use Rattle.readiness.specs.declared.Dev.{Dev}

abbrev pub blank_control : Control
blank_control = record { visibility = false; frs_interrupt = false; signalling = 0 }

abbrev pub blank_queue : Queue
blank_queue = record { start = 0; depth = 0; received = false; overflow = false }

-- clock 0, link down, nothing owed, all port bits 0, the queue empty at cell 0
abbrev pub blank_dev : Dev
blank_dev = record { clock = record { 0 = 0 }; link = false; owed = false; drs_received = false; control = blank_control; queue = blank_queue }

-- four times of 0, and no FRS
abbrev pub blank_slot : Slot
blank_slot = record { reset = record { 0 = 0 }; dl_up = record { 0 = 0 }; flr = record { 0 = 0 }; d3hot = record { 0 = 0 }; sends_frs = false }

abbrev pub blank_setup : Setup
blank_setup = record { slots = 0; entries = replicate 32 blank_slot; bus = 0; port_id = 0 }
