-- EVERY RECORD KEEPS A SOUND STATE SOUND, proved as specs/StaysSound.antt states it.
use Prim.Native.Nat.{◌-◌}
use lib.ListN.{length}
use Rattle.trace.specs.Format.{pad, longest}
use Rattle.bits.proofs.Bytes.{bytes_padded}
use Rattle.records.specs.Device.{in_bytes}
use Rattle.records.specs.StaysSound.{EveryStaysSound}
use Rattle.records.proofs.Kept.{keeps_itself}
use Rattle.records.proofs.Keeping.{bytes_keep}

pub stays-sound : EveryStaysSound
unfolding in_bytes
stays-sound setup defaults s good sound fits bytes b =
    bytes_keep setup defaults s s good (keeps_itself setup defaults s sound fits) (pad longest bytes) (bytes_padded bytes (longest - length bytes) b)
