-- Worked examples of 01, "Readiness", which antt computes.
use mathlib.Core.Path.{◌≡◌, refl}
use mathlib.Core.Bool.{Bool, true, false}
use mathlib.Core.List.{List, [], ◌∷◌}
use Prim.Native.Nat.{ℕ}
use Rattle.bits.specs.Lists.{listed}
use Rattle.times.specs.declared.Nanos.{Nanos}
use Rattle.times.specs.Codes.{nanos_of, power_of}
use Rattle.times.specs.Moments.{sum_of, least_of}
use Rattle.frs_queue.specs.Queue.{no_tally, counted, place_of, queues, drops, arrives, arrive_all, messages_of}
use Rattle.readiness.specs.declared.Cause.TheVariants.{LinkUp, Flr, D3hot}
use Rattle.readiness.specs.declared.Status.{Status}
use Rattle.readiness.specs.declared.Slot.{Slot}
use Rattle.readiness.specs.declared.Setup.{Setup}
use Rattle.readiness.specs.declared.Dev.{Dev}
use Rattle.readiness.specs.Status.{down, pending, ready, all_ready_from, each_from, ready_after_link_up, started_by_link_up, stopped_by_reset, started_by_flr, started_by_d3hot, flr_in_progress, after_reset, after_link_down, after_cold_reset}
use Rattle.readiness.specs.Blank.{blank_control}
use Rattle.readiness.specs.Root.{frs_arrive, frs_of_drs, drs_set, drs_arrives}
use Rattle.readiness.specs.Events.{Event, insert, insert_all, due_from, frs_of, frs_of_slot}
use Rattle.readiness.specs.Settle.{Scene, happens, happen_all, last_of_moment, moment_ends, tells, settles, advances}

-- codes 000h, 00Ah, 005h, 000h: DL Up Time 10 ns, FLR Time 5 ns, D3hot time 0 ns
abbrev pub entry : Bool → Slot
entry sends = record { reset = record { 0 = 0x000 }; dl_up = record { 0 = 0x00A }; flr = record { 0 = 0x005 }; d3hot = record { 0 = 0x000 }; sends_frs = sends }

-- three slots, of which the last sends no FRS; B = 1, port ID 0008h
abbrev pub card : Setup
card = record { slots = 3; entries = entry true ∷ entry true ∷ entry false ∷ []; bus = 1; port_id = 0x0008 }

abbrev pub at : ℕ → Nanos
at n = record { 0 = n }

-- the port at clock 0, with the link up, the FRS interrupt enabled and a queue of four
abbrev pub dev : (owed drs : Bool) (signalling : ℕ) → Dev
dev owed drs signalling =
    record {
      clock = at 0;
      link = true;
      owed = owed;
      drs_received = drs;
      control = record { visibility = false; frs_interrupt = true; signalling = signalling };
      queue = record { start = 0; depth = 0; received = false; overflow = false };
    }

abbrev pub start : Dev → List Status → Scene
start d l = record { statuses = l; root = record { dev = d; cells = 0 ∷ 0 ∷ 0 ∷ 0 ∷ []; tally = no_tally } }

-- an advance of that card
unfoldable pub advanced : ℕ → Scene → Scene
unfolding advances settles tells happen_all moment_ends happens frs_arrive drs_arrives drs_set frs_of_drs frs_of frs_of_slot due_from insert_all insert all_ready_from arrive_all arrives queues drops counted place_of sum_of
advanced n x = advances card (at n) x

-- for three events at these times, whether their moment ends with each
abbrev pub ends : (a b c : ℕ) → List Bool
ends a b c =
    let e : ℕ → Event = λ t. record { slot = 0; cause = LinkUp; time = at t } in
    last_of_moment (e a) (e b ∷ e c ∷ []) ∷ last_of_moment (e b) (e c ∷ []) ∷ last_of_moment (e c) [] ∷ []

-- the messages in the queue, oldest first
unfoldable pub held : Scene → List ℕ
unfolding messages_of listed place_of
held x = messages_of x.root.cells x.root.dev.queue

-- Slot 1 becomes Ready before slot 0: the FRS come by ready time and not by slot number, also within one long advance.
pub by_ready_time : held (advanced 20 (start (dev false true 0) (pending (Flr (at 5)) (at 20) ∷ pending D3hot (at 10) ∷ ready ∷ []))) ≡ 0x20101 ∷ 0x30100 ∷ []
unfolding advanced held
by_ready_time = refl

-- With the same ready time, by slot number.
pub ties_by_slot : held (advanced 20 (start (dev false true 0) (pending (Flr (at 5)) (at 10) ∷ pending D3hot (at 10) ∷ ready ∷ []))) ≡ 0x30100 ∷ 0x20101 ∷ []
unfolding advanced held
ties_by_slot = refl

-- At its ready time a slot is Ready, a nanosecond before it is not.
pub not_yet : (advanced 9 (start (dev false true 0) (pending D3hot (at 10) ∷ ready ∷ ready ∷ []))).statuses ≡ pending D3hot (at 10) ∷ ready ∷ ready ∷ []
unfolding advanced
not_yet = refl

pub just_now : (advanced 10 (start (dev false true 0) (pending D3hot (at 10) ∷ ready ∷ ready ∷ []))).statuses ≡ ready ∷ ready ∷ ready ∷ []
unfolding advanced
just_now = refl

-- A DRS is owed, and the last slot becomes Ready at 10, after an FLR. With signalling 2 the port's own FRS, ID 0008h and reason 1, comes after that moment's FRS.
abbrev pub mixed : List Status
mixed = ready ∷ pending (Flr (at 10)) (at 10) ∷ pending LinkUp (at 8) ∷ []

pub drs_after_frs : held (advanced 10 (start (dev true false 2) mixed)) ≡ 0x30101 ∷ 0x10008 ∷ []
unfolding advanced held
drs_after_frs = refl

-- Then DRS Received is set and nothing is owed; both FRS are queued, the interrupt is that of Received alone.
pub drs_by_frs : (advanced 10 (start (dev true false 2) mixed)).root
    ≡ record {
      dev =
          record {
            clock = at 10;
            link = true;
            owed = false;
            drs_received = true;
            control = record { visibility = false; frs_interrupt = true; signalling = 2 };
            queue = record { start = 0; depth = 2; received = true; overflow = false };
          };
      cells = 0x30101 ∷ 0x10008 ∷ 0 ∷ 0 ∷ [];
      tally = record { received = true; overflow = false; drs = false; queued = 2; dropped = 0 };
    }
unfolding advanced
drs_by_frs = refl

-- With signalling 1 the DRS interrupt is raised, and no FRS of the port's own comes.
pub drs_interrupt : (advanced 10 (start (dev true false 1) mixed)).root.tally ≡ record { received = true; overflow = false; drs = true; queued = 1; dropped = 0 }
unfolding advanced
drs_interrupt = refl

-- With signalling 0 the bit alone is set.
pub drs_unsignalled : (advanced 10 (start (dev true false 0) mixed)).root.tally ≡ record { received = true; overflow = false; drs = false; queued = 1; dropped = 0 }
unfolding advanced
drs_unsignalled = refl

pub drs-received : (advanced 10 (start (dev true false 0) mixed)).root.dev.drs_received ≡ true
unfolding advanced
drs-received = refl

-- Where DRS Received was 1 already, nothing is signalled, and nothing is owed any more.
pub drs-again : (advanced 10 (start (dev true true 1) mixed)).root.tally ≡ record { received = true; overflow = false; drs = false; queued = 1; dropped = 0 }
unfolding advanced
drs-again = refl

pub drs_again_frs : held (advanced 10 (start (dev true true 2) mixed)) ≡ 0x30101 ∷ []
unfolding advanced held
drs_again_frs = refl

pub drs_again_owed : (advanced 10 (start (dev true true 1) mixed)).root.dev.owed ≡ false
unfolding advanced
drs_again_owed = refl

-- While one slot is Pending or Down, the DRS stays owed.
pub drs-waits : (advanced 9 (start (dev true false 1) mixed)).root.dev ≡ record { clock = at 9; link = true; owed = true; drs_received = false; control = (dev true false 1).control; queue = (dev true false 1).queue }
unfolding advanced
drs-waits = refl

-- ---- moment by moment

-- Two slots become Ready at one moment, and the DRS is told after the FRS of both.
pub drs_after_both : held (advanced 10 (start (dev true false 2) (pending (Flr (at 5)) (at 10) ∷ pending D3hot (at 10) ∷ pending LinkUp (at 8) ∷ []))) ≡ 0x30100 ∷ 0x20101 ∷ 0x10008 ∷ []
unfolding advanced held
drs_after_both = refl

-- At the moments before the last one no DRS is told: its FRS comes after those of all three.
pub drs_at_the_last : held (advanced 20 (start (dev true false 2) (pending (Flr (at 5)) (at 7) ∷ pending D3hot (at 12) ∷ pending LinkUp (at 15) ∷ []))) ≡ 0x30100 ∷ 0x20101 ∷ 0x10008 ∷ []
unfolding advanced held
drs_at_the_last = refl

-- A moment ends with the last of its events.
pub moments_end : ends 7 7 12 ≡ false ∷ true ∷ true ∷ []
moments_end = refl

-- A DRS that is due at the start is told first: at once, with nothing else to happen;
pub drs_at_start : held (advanced 0 (start (dev true false 2) (ready ∷ ready ∷ ready ∷ []))) ≡ 0x10008 ∷ []
unfolding advanced held
drs_at_start = refl

pub not_owed_then : (advanced 0 (start (dev true false 2) (ready ∷ ready ∷ ready ∷ []))).root.dev.owed ≡ false
unfolding advanced
not_owed_then = refl

-- and one that becomes due at a moment is told once.
pub told_once : (advanced 20 (start (dev true false 1) mixed)).root.tally ≡ (advanced 10 (start (dev true false 1) mixed)).root.tally
unfolding advanced
told_once = refl

-- Link up sends no slot's FRS, nor does a slot that sends none.
pub link_up_silent : held (advanced 10 (start (dev true false 0) (pending LinkUp (at 10) ∷ pending LinkUp (at 10) ∷ pending (Flr (at 5)) (at 5) ∷ []))) ≡ []
unfolding advanced held
link_up_silent = refl

-- A full queue drops what comes last: four fit.
abbrev pub full : Dev
full =
    record {
      clock = at 0;
      link = true;
      owed = true;
      drs_received = false;
      control = record { visibility = false; frs_interrupt = true; signalling = 2 };
      queue = record { start = 3; depth = 3; received = true; overflow = false };
    }

pub drops_the_last : (advanced 10 (start full mixed)).root.tally ≡ record { received = false; overflow = true; drs = false; queued = 1; dropped = 1 }
unfolding advanced
drops_the_last = refl

-- ---- what starts a slot anew

unfoldable pub link_up : Dev → List Status → List Status
unfolding each_from ready_after_link_up sum_of nanos_of power_of
link_up d l = started_by_link_up card d l

-- link up at clock 0: every slot Pending until 0 + 10; a slot past the card's stays
pub link_up_lem : link_up (dev false false 0) (down ∷ down ∷ down ∷ ready ∷ []) ≡ pending LinkUp (at 10) ∷ pending LinkUp (at 10) ∷ pending LinkUp (at 10) ∷ ready ∷ []
unfolding link_up
link_up_lem = refl

-- link down or cold reset: every slot Down; a slot past the card's stays
pub all_down : stopped_by_reset card (dev true true 2) (ready ∷ pending D3hot (at 7) ∷ ready ∷ ready ∷ []) ≡ down ∷ down ∷ down ∷ ready ∷ []
unfolding each_from
all_down = refl

-- FLR at clock 10 with an FLR Time of 5 ns: in progress and Pending until 15
pub flr : started_by_flr (at 10) (entry true) ≡ pending (Flr (at 15)) (at 15)
unfolding started_by_flr sum_of least_of nanos_of power_of
flr = refl

-- with an FLR Time of 1,006,632,960 ns (A1Eh): in progress until 10 + 100,000,000
abbrev pub slow : Slot
slow = record { reset = record { 0 = 0 }; dl_up = record { 0 = 0 }; flr = record { 0 = 0xA1E }; d3hot = record { 0 = 0x220 }; sends_frs = true }

pub flr_long : started_by_flr (at 10) slow ≡ pending (Flr (at 100000010)) (at 1006632970)
unfolding started_by_flr sum_of least_of nanos_of power_of
flr_long = refl

-- in progress while the clock is before the end
pub in_progress : flr_in_progress (at 100000009) (pending (Flr (at 100000010)) (at 1006632970)) ≡ true
in_progress = refl

pub no_longer : flr_in_progress (at 100000010) (pending (Flr (at 100000010)) (at 1006632970)) ≡ false
no_longer = refl

-- D3hot to D0 at clock 10 with a time of 1,024 ns (220h)
pub d3hot : started_by_d3hot (at 10) slow ≡ pending D3hot (at 1034)
unfolding started_by_d3hot sum_of nanos_of power_of
d3hot = refl

-- link down clears DRS Received of the port's bits, cold reset all; the queue is emptied, the clock stays
abbrev pub busy : Dev
busy =
    record {
      clock = at 77;
      link = true;
      owed = true;
      drs_received = true;
      control = record { visibility = true; frs_interrupt = true; signalling = 2 };
      queue = record { start = 3; depth = 2; received = true; overflow = true };
    }

pub link_down_lem : after_link_down busy
    ≡ record {
      clock = at 77;
      link = false;
      owed = false;
      drs_received = false;
      control = record { visibility = true; frs_interrupt = true; signalling = 2 };
      queue = record { start = 0; depth = 0; received = true; overflow = true };
    }
unfolding after_link_down after_reset
link_down_lem = refl

pub cold_reset_lem : after_cold_reset busy
    ≡ record { clock = at 77; link = false; owed = false; drs_received = false; control = blank_control; queue = record { start = 0; depth = 0; received = false; overflow = false } }
unfolding after_cold_reset after_reset
cold_reset_lem = refl
