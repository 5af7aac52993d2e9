-- The device with one field anew. No other rule lists the device's fields.
use Rattle.std.specs.Prelude.{Bool}
use Rattle.times.specs.declared.Nanos.{Nanos}
use Rattle.frs_queue.specs.declared.Queue.{Queue}
use Rattle.readiness.specs.declared.Control.{Control}
use Rattle.readiness.specs.declared.Dev.{Dev}

-- a field, and what it is to be
pub data Field : Type 0 where
  Clock : Nanos → Field
  Link : Bool → Field
  Owed : Bool → Field
  DrsReceived : Bool → Field
  ControlBits : Control → Field
  FrsQueue : Queue → Field

abbrev pub anew : Field → Dev → Dev
anew (Clock t) d = record { clock = t; link = d.link; owed = d.owed; drs_received = d.drs_received; control = d.control; queue = d.queue }
anew (Link b) d = record { clock = d.clock; link = b; owed = d.owed; drs_received = d.drs_received; control = d.control; queue = d.queue }
anew (Owed b) d = record { clock = d.clock; link = d.link; owed = b; drs_received = d.drs_received; control = d.control; queue = d.queue }
anew (DrsReceived b) d = record { clock = d.clock; link = d.link; owed = d.owed; drs_received = b; control = d.control; queue = d.queue }
anew (ControlBits c) d = record { clock = d.clock; link = d.link; owed = d.owed; drs_received = d.drs_received; control = c; queue = d.queue }
anew (FrsQueue q) d = record { clock = d.clock; link = d.link; owed = d.owed; drs_received = d.drs_received; control = d.control; queue = q }

abbrev pub with_clock : Dev → Nanos → Dev
with_clock d t = anew (Clock t) d

abbrev pub with_link : Dev → Bool → Dev
with_link d b = anew (Link b) d

abbrev pub with_owed : Dev → Bool → Dev
with_owed d b = anew (Owed b) d

abbrev pub with_drs_received : Dev → Bool → Dev
with_drs_received d b = anew (DrsReceived b) d

abbrev pub with_control : Dev → Control → Dev
with_control d c = anew (ControlBits c) d

abbrev pub with_queue : Dev → Queue → Dev
with_queue d q = anew (FrsQueue q) d
