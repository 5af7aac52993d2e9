-- Worked examples of 01, "Queue" and its marked cases, which antt computes.
use mathlib.Core.Path.{◌≡◌, refl}
use mathlib.Core.Bool.{Bool, true, false}
use mathlib.Core.List.{List, [], ◌∷◌}
use Prim.Native.Nat.{ℕ}
use Rattle.bits.specs.Lists.{listed}
use Rattle.frs_queue.specs.declared.Frs.{Frs}
use Rattle.frs_queue.specs.declared.Queue.{Queue}
use Rattle.frs_queue.specs.Queue.{Ring, no_tally, counted, place_of, cell_of, queues, drops, arrives, arrive_all, removed, emptied, register_of, messages_of}

-- function 0 on bus 1 after an FLR, and function 1 after D3hot
abbrev flr : Frs
flr = record { id = 0x0100; reason = 3 }

abbrev d3hot : Frs
d3hot = record { id = 0x0101; reason = 2 }

abbrev at : (start depth : ℕ) (received overflow : Bool) → Queue
at start depth received overflow = record { start = start; depth = depth; received = received; overflow = overflow }

abbrev from : List ℕ → Queue → Ring
from cells q = record { cells = cells; queue = q; tally = no_tally }

-- cell value reason · 65,536 + ID
cell_value : cell_of flr ≡ 0x30100
cell_value = refl

-- marked case 6: queue of 1, two FRS: the first stays, the second is dropped; both bits go from 0 to 1 with the interrupt enabled
two_in_one : arrive_all true (flr ∷ d3hot ∷ []) (from (0 ∷ []) (at 0 0 false false))
    ≡ record { cells = 0x30100 ∷ []; queue = at 0 1 true true; tally = record { received = true; overflow = true; drs = false; queued = 1; dropped = 1 } }
unfolding arrive_all arrives queues drops counted place_of
two_in_one = refl

-- the same with the interrupt not enabled: the same bits and counts, no interrupt
two_unsignalled : arrive_all false (flr ∷ d3hot ∷ []) (from (0 ∷ []) (at 0 0 false false))
    ≡ record { cells = 0x30100 ∷ []; queue = at 0 1 true true; tally = record { received = false; overflow = false; drs = false; queued = 1; dropped = 1 } }
unfolding arrive_all arrives queues drops counted place_of
two_unsignalled = refl

-- marked case 7: Received stays after removal; on an empty queue removing does nothing
removal : removed 1 (at 0 1 true false) ≡ at 0 0 true false
unfolding removed place_of
removal = refl

removal_of_none : removed 4 (at 3 0 true true) ≡ at 3 0 true true
unfolding removed
removal_of_none = refl

-- marked case 10: the register after one FRS with ID 0100h and reason 3; the answer's bytes are 00 01 13 00
register_one : register_of (0x30100 ∷ []) (at 0 1 true false) ≡ 0x00130100
unfolding register_of place_of
register_one = refl

register_none : register_of (0x30100 ∷ []) (at 0 0 true false) ≡ 0
unfolding register_of
register_none = refl

-- with two messages the register shows the older
register_two : register_of (0x30100 ∷ 0x20101 ∷ []) (at 0 2 true false) ≡ 0x00230100
unfolding register_of place_of
register_two = refl

-- a drop sets Overflow alone: Received, cleared by software, stays 0
drop_alone : arrives true d3hot (from (0x30100 ∷ []) (at 0 1 false false))
    ≡ record { cells = 0x30100 ∷ []; queue = at 0 1 false true; tally = record { received = false; overflow = true; drs = false; queued = 0; dropped = 1 } }
unfolding arrives drops counted
drop_alone = refl

-- a bit that is 1 already raises no interrupt
already_received : arrives true d3hot (from (0x30100 ∷ 0 ∷ []) (at 0 1 true false))
    ≡ record { cells = 0x30100 ∷ 0x20101 ∷ []; queue = at 0 2 true false; tally = record { received = false; overflow = false; drs = false; queued = 1; dropped = 0 } }
unfolding arrives queues counted place_of
already_received = refl

-- cells are a ring: behind the last cell comes the first
round : (arrives true d3hot (from (7 ∷ 8 ∷ 0x30100 ∷ []) (at 2 1 true false))).cells ≡ 0x20101 ∷ 8 ∷ 0x30100 ∷ []
unfolding arrives queues place_of
round = refl

round_messages : messages_of (0x20101 ∷ 8 ∷ 0x30100 ∷ []) (at 2 2 true false) ≡ 0x30100 ∷ 0x20101 ∷ []
unfolding messages_of listed place_of
round_messages = refl

round_removal : removed 3 (at 2 2 true false) ≡ at 0 1 true false
unfolding removed place_of
round_removal = refl

-- emptied: depth 0, start at cell 0, both bits as they were
emptying : emptied (at 2 2 true false) ≡ at 0 0 true false
emptying = refl
