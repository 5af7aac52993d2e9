-- The device on bytes, for the plain bench (01, "Trace records").
use Rattle.std.specs.Prelude.{ℕ, ◌≡◌, refl, List, length}
use Rattle.trace.specs.Format.{pad, longest}
use Rattle.trace.specs.Bench.{Device, Ran as RanBytes}
use Rattle.readiness.specs.declared.Setup.{Setup}
use Rattle.records.specs.Decode.{decode}
use Rattle.records.specs.Answer.{Ran, answer_bytes}
use Rattle.records.specs.State.{State}
use Rattle.records.specs.Run.{run}

-- the state after a record and its answer's 8 bytes
unfoldable pub in_bytes : Ran State → RanBytes State
in_bytes x = record { state = x.after; answer = answer_bytes x.reply }

pub eight_bytes : (x : Ran State) → length (in_bytes x).answer ≡ 8
unfolding in_bytes answer_bytes
eight_bytes x = refl

-- THE DEVICE, at a set-up and its defaults: a record's bytes are decoded, and the record runs. Zeros behind the bytes aren't looked at: decoding reads as many as the longest record has
abbrev pub device : Setup → (defaults : List ℕ) → Device State
device setup defaults =
    record {
      run = λ s r. in_bytes (run setup defaults s (decode (pad longest r)));
      eight = λ s r. eight_bytes (run setup defaults s (decode (pad longest r)));
    }
