-- MARKED CASES 3 and 10 (01), on the device's bytes: the plain bench's answers from the state that their set-up leaves.
use Prim.Native.Nat.{ℕ}
use mathlib.Core.Path.{◌≡◌, refl}
use mathlib.Core.Bool.{true, false}
use mathlib.Core.List.{List, [], ◌∷◌, ◌++◌}
use lib.ListN.{replicate, set, drop}
use Rattle.readiness.specs.declared.Slot.{Slot}
use Rattle.readiness.specs.declared.Setup.{Setup}
use Rattle.readiness.specs.Status.{down}
use Rattle.readiness.specs.Blank.{blank_control, blank_slot}
use Rattle.readiness.specs.Settle.{advances}
use Rattle.trace.specs.Format.{size_of, known, body, whole}
use Rattle.trace.specs.Bench.{cut_in, cut, runs, plain}
use Rattle.records.specs.State.{State, state}
use Rattle.records.specs.Device.{in_bytes, device}
use Rattle.records.proofs.Examples.{computed}

-- one slot, B = 1, port ID 0008h, DL Up Time 00Ah, FLR Time 005h, sends FRS; default word 0 is 56781234h, FLR capable; a queue of 1
abbrev card : Setup
card =
    let slot : Slot = record { reset = record { 0 = 0 }; dl_up = record { 0 = 0x00A }; flr = record { 0 = 0x005 }; d3hot = record { 0 = 0 }; sends_frs = true } in
    record { slots = 1; entries = slot ∷ replicate 31 blank_slot; bus = 1; port_id = 8 }

abbrev defaults : List ℕ
defaults = set (set (replicate 64 0) 0 0x56781234) 0x1D 0x10000000

abbrev start : State
start =
    state
    (record {
      clock = record { 0 = 0 };
      link = false;
      owed = false;
      drs_received = false;
      control = blank_control;
      queue = record { start = 0; depth = 0; received = false; overflow = false };
    })
    (down ∷ []) defaults (0 ∷ [])

abbrev answers : List ℕ → List ℕ
answers trace = (plain (device card defaults) start trace).answers

-- 10. 01's trace
pub case_10 : answers
    (0x0B ∷ 0x03 ∷ 0x05
    ∷ 0x02 ∷ 0x00 ∷ 0x00 ∷ 0x0F
    ∷ 0x01 ∷ 0x0A ∷ 0x00 ∷ 0x00 ∷ 0x00
    ∷ 0x02 ∷ 0x00 ∷ 0x00 ∷ 0x0F
    ∷ 0x03 ∷ 0x00 ∷ 0x1E ∷ 0x02 ∷ 0x00 ∷ 0x80 ∷ 0x00 ∷ 0x00
    ∷ 0x02 ∷ 0x00 ∷ 0x00 ∷ 0x0F
    ∷ 0x01 ∷ 0x05 ∷ 0x00 ∷ 0x00 ∷ 0x00
    ∷ 0x08
    ∷ [])
    ≡ replicate 16 0
    ++ 0x10 ∷ 0x00 ∷ 0x00 ∷ 0x00 ∷ 0x01 ∷ 0x00 ∷ 0xFF ∷ 0xFF
    ∷ replicate 8 0
    ++ 0x00 ∷ 0x00 ∷ 0x00 ∷ 0x00 ∷ 0x34 ∷ 0x12 ∷ 0x78 ∷ 0x56
    ∷ replicate 8 0
    ++ 0x12 ∷ 0x00 ∷ 0x00 ∷ 0x00 ∷ 0xFF ∷ 0xFF ∷ 0xFF ∷ 0xFF
    ∷ 0x00 ∷ 0x01 ∷ 0x01 ∷ 0x00 ∷ 0x00 ∷ 0x00 ∷ 0x00 ∷ 0x00
    ∷ 0x00 ∷ 0x00 ∷ 0x00 ∷ 0x00 ∷ 0x00 ∷ 0x01 ∷ 0x13 ∷ 0x00
    ∷ []
unfolding computed advances size_of known body whole cut_in cut runs plain in_bytes
case_10 = refl

-- 3. FLR keeps Max_Payload_Size written in the same write: link up, 10 ns, 8020h to 78h, 5 ns, and a read of 78h
pub case_3 : drop 32
    (answers
    (0x05 ∷ 0x01 ∷ 10 ∷ 0 ∷ 0 ∷ 0
    ∷ 0x03 ∷ 0 ∷ 0x1E ∷ 0x03 ∷ 0x20 ∷ 0x80 ∷ 0 ∷ 0
    ∷ 0x01 ∷ 5 ∷ 0 ∷ 0 ∷ 0
    ∷ 0x02 ∷ 0 ∷ 0x1E ∷ 0xF
    ∷ []))
    ≡ 0 ∷ 0 ∷ 0 ∷ 0 ∷ 0x20 ∷ 0 ∷ 0 ∷ 0 ∷ []
unfolding computed advances size_of known body whole cut_in cut runs plain in_bytes
case_3 = refl
