-- A whole state image, byte by byte, and one that is read.
use Prim.Native.Nat.{ℕ}
use mathlib.Core.Path.{◌≡◌, refl}
use mathlib.Core.Bool.{true, false}
use mathlib.Core.List.{List, [], ◌∷◌, ◌++◌}
use lib.ListN.{replicate, drop, set}
use Rattle.bits.specs.Lists.{listed}
use Rattle.readiness.specs.declared.Cause.TheVariants.{Flr, D3hot}
use Rattle.readiness.specs.declared.Status.{Status}
use Rattle.readiness.specs.Status.{down, pending, ready}
use Rattle.records.specs.declared.Port.{Port}
use Rattle.state_layout.specs.Numbers.{low_first, number_of, number_at, word_bytes}
use Rattle.state_layout.specs.Image.{single_bytes, dev_bytes, up_to, port_bytes, status_bytes, statuses_bytes, state_bytes}
use Rattle.state_layout.specs.Reading.{good_port, good_status, good_statuses, is_good, bytes_from, port_in, status_in, statuses_in_bytes}

-- the clock at 10,000,000 ns, the link up; one FRS at cell 259, Received; visibility on, signalling AAh; three bytes of a
-- record carried and one left behind them; broken
abbrev port : Port
port =
    record {
      dev =
          record {
            clock = record { 0 = 10000000 };
            link = true;
            owed = false;
            drs_received = false;
            control = record { visibility = true; frs_interrupt = false; signalling = 0xAA };
            queue = record { start = 259; depth = 1; received = true; overflow = false };
          };
      carried = 2 ∷ 0 ∷ 17 ∷ 0xFF ∷ replicate 12 0;
      carried_len = 3;
      broken = true;
    }

-- an FLR in progress, a slot that starts after D3hot, and one that is Ready
abbrev statuses : List Status
statuses = pending (Flr (record { 0 = 110000000 })) (record { 0 = 260000000 }) ∷ pending D3hot (record { 0 = 10010000 }) ∷ ready ∷ []

abbrev image : List ℕ
image =
    (0x80 ∷ 0x96 ∷ 0x98 ∷ 0 ∷ 0 ∷ 0 ∷ 0 ∷ 0 ∷ [])
    ++ replicate 8 0
    ++ (1 ∷ 0 ∷ 1 ∷ 0 ∷ 0 ∷ 1 ∷ 0 ∷ 0xAA ∷ [])
    ++ (3 ∷ 1 ∷ [])
    ++ (1 ∷ 0 ∷ [])
    ++ 3
    ∷ (2 ∷ 0 ∷ 17 ∷ replicate 13 0)
    ++ 1
    ∷ (1 ∷ 2 ∷ 0x00 ∷ 0x49 ∷ 0x7F ∷ 0x0F ∷ 0 ∷ 0 ∷ 0 ∷ 0 ∷ 0x80 ∷ 0x77 ∷ 0x8E ∷ 0x06 ∷ 0 ∷ 0 ∷ 0 ∷ 0 ∷ replicate 9 0)
    ++ (1 ∷ 3 ∷ 0x90 ∷ 0xBD ∷ 0x98 ∷ 0 ∷ 0 ∷ 0 ∷ 0 ∷ 0 ∷ replicate 17 0)
    ++ 2
    ∷ replicate 26 0

written : state_bytes port statuses ≡ image
unfolding state_bytes port_bytes dev_bytes single_bytes up_to statuses_bytes status_bytes low_first
written = refl

read : port_in image ≡ record { dev = port.dev; carried = 2 ∷ 0 ∷ 17 ∷ replicate 13 0; carried_len = 3; broken = true }
unfolding port_in bytes_from listed number_at number_of
read = refl

read_statuses : statuses_in_bytes 4 (drop 46 image) ≡ statuses ++ down ∷ []
unfolding statuses_in_bytes status_in number_at number_of
read_statuses = refl

-- ---- Bad images
good : is_good image ≡ true
unfolding is_good good_port good_statuses good_status number_at number_of
good = refl

-- a moment of the last reset, in any of its bytes
last_reset : is_good (set image 15 1) ≡ false
unfolding is_good good_port good_statuses good_status number_at number_of
last_reset = refl

-- a yes/no byte above 1; signalling takes any
link_2 : is_good (set image 16 2) ≡ false
unfolding is_good good_port good_statuses good_status number_at number_of
link_2 = refl

broken_2 : is_good (set image 45 2) ≡ false
unfolding is_good good_port good_statuses good_status number_at number_of
broken_2 = refl

-- the first status: phase 3, cause 4, Pending with cause 0, a set of children
phase_3 : is_good (set image 46 3) ≡ false
unfolding is_good good_port good_statuses good_status number_at number_of
phase_3 = refl

cause_4 : is_good (set image 47 4) ≡ false
unfolding is_good good_port good_statuses good_status number_at number_of
cause_4 = refl

no_cause : is_good (set image 47 0) ≡ false
unfolding is_good good_port good_statuses good_status number_at number_of
no_cause = refl

children : is_good (set image 64 1) ≡ false
unfolding is_good good_port good_statuses good_status number_at number_of
children = refl

-- the last status, Ready: a cause, a ready time, an FLR end and an end of a change are ignored
ignored : is_good (set (set (set (set image 101 3) 102 1) 110 1) 119 1) ≡ true
unfolding is_good good_port good_statuses good_status number_at number_of
ignored = refl

ignored_status : status_in (drop 100 (set (set (set (set image 101 3) 102 1) 110 1) 119 1)) ≡ ready
unfolding status_in number_at number_of
ignored_status = refl

-- ---- Words
words : word_bytes (0x30100 ∷ 0xFFFFFFFF ∷ []) ≡ 0 ∷ 1 ∷ 3 ∷ 0 ∷ 0xFF ∷ 0xFF ∷ 0xFF ∷ 0xFF ∷ []
unfolding word_bytes low_first
words = refl
