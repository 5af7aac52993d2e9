-- A slot's status and what starts it anew (01, "Readiness").
use Rattle.std.specs.Prelude.{ℕ, suc, Bool, true, false, not, ◌&&◌, ◌||◌, cond, List, [], ◌∷◌, ltb, get_or}
use Rattle.times.specs.declared.Nanos.{Nanos}
use Rattle.times.specs.Codes.{nanos_of}
use Rattle.times.specs.Moments.{sum_of, least_of}
use Rattle.frs_queue.specs.declared.Queue.{Queue}
use Rattle.frs_queue.specs.Queue.{emptied}
use Rattle.readiness.specs.declared.Cause.{Cause}
use Rattle.readiness.specs.declared.Cause.TheVariants.{LinkUp, Flr, D3hot}
use Rattle.readiness.specs.declared.Phase.{Phase}
use Rattle.readiness.specs.declared.Phase.TheVariants.{Down, Pending, Ready}
use Rattle.readiness.specs.declared.Status.{Status}
use Rattle.readiness.specs.declared.Slot.{Slot}
use Rattle.readiness.specs.declared.Setup.{Setup}
use Rattle.readiness.specs.declared.Dev.{Dev}
use Rattle.readiness.specs.Fields.{with_link, with_owed, with_drs_received, with_control, with_queue}
use Rattle.readiness.specs.Blank.{blank_control, blank_slot}

-- a slot is Down, Pending or Ready
abbrev pub down : Status
down = record { phase = Down }

abbrev pub pending : Cause → Nanos → Status
pending cause ready = record { phase = Pending cause ready }

abbrev pub ready : Status
ready = record { phase = Ready }

abbrev pub ready_phase : Phase → Bool
ready_phase Down = false
ready_phase (Pending cause t) = false
ready_phase Ready = true

abbrev pub is_ready : Status → Bool
is_ready s = ready_phase s.phase

-- every slot counts for DRS; which do is asked here alone, for requests to come
abbrev pub counts_for_drs : Setup → (slot : ℕ) → Bool
counts_for_drs setup slot = true

-- all slots that count are Ready
unfoldable pub all_ready_from : Setup → (slot : ℕ) → List Status → Bool
all_ready_from setup slot [] = true
all_ready_from setup slot (s ∷ l) = (not (counts_for_drs setup slot) || is_ready s) && all_ready_from setup (suc slot) l

abbrev pub all_ready : Setup → List Status → Bool
all_ready setup l = all_ready_from setup 0 l

-- a slot's entry in the set-up; a slot that isn't there would have a blank one
abbrev pub entry_of : Setup → ℕ → Slot
entry_of setup slot = get_or setup.entries slot blank_slot

-- the status of each of the card's slots anew; what lies past the card's slots stays
unfoldable pub each_from : (slot slots : ℕ) → (ℕ → Status) → List Status → List Status
each_from slot slots f [] = []
each_from slot slots f (s ∷ l) = cond (ltb slot slots) (f slot) s ∷ each_from (suc slot) slots f l

abbrev pub each_slot : Setup → (ℕ → Status) → List Status → List Status
each_slot setup f l = each_from 0 setup.slots f l

-- link up at clock c: every slot Pending until c + DL Up Time
unfoldable pub ready_after_link_up : Setup → Dev → ℕ → Nanos
ready_after_link_up setup dev slot = sum_of dev.clock (nanos_of (entry_of setup slot).dl_up)

abbrev pub started_by_link_up : Setup → Dev → List Status → List Status
started_by_link_up setup dev l = each_slot setup (λ slot. pending LinkUp (ready_after_link_up setup dev slot)) l

-- the link is up and a DRS is owed
abbrev pub after_link_up : Dev → Dev
after_link_up d = with_owed (with_link d true) true

-- link down or cold reset: every slot Down
abbrev pub status_after_reset : Setup → Dev → (slot : ℕ) → Status
status_after_reset setup dev slot = down

abbrev pub stopped_by_reset : Setup → Dev → List Status → List Status
stopped_by_reset setup dev l = each_slot setup (status_after_reset setup dev) l

-- link down or cold reset: link down, nothing owed, queue emptied
unfoldable pub after_reset : Dev → Dev
after_reset d = with_queue (with_owed (with_link d false) false) (emptied d.queue)

-- link down clears DRS Received of the port's bits
unfoldable pub after_link_down : Dev → Dev
after_link_down d = with_drs_received (after_reset d) false

-- Received and Overflow cleared
abbrev pub no_bits : Queue → Queue
no_bits q = record { start = q.start; depth = q.depth; received = false; overflow = false }

-- cold reset clears all of the port's bits
unfoldable pub after_cold_reset : Dev → Dev
after_cold_reset d =
    let r = after_reset d in
    with_queue (with_control (with_drs_received r false) blank_control) (no_bits r.queue)

-- the longest that an FLR is in progress
abbrev pub flr_most : Nanos
flr_most = record { 0 = 100000000 }

-- FLR at clock c with T the FLR Time: in progress until c + min(T, 100,000,000), Pending until c + T
unfoldable pub started_by_flr : Nanos → Slot → Status
started_by_flr clock entry =
    let t = nanos_of entry.flr in
    pending (Flr (sum_of clock (least_of t flr_most))) (sum_of clock t)

-- an FLR is in progress while the clock is before its end
abbrev pub progress_phase : Nanos → Phase → Bool
progress_phase clock Down = false
progress_phase clock Ready = false
progress_phase clock (Pending LinkUp t) = false
progress_phase clock (Pending D3hot t) = false
progress_phase clock (Pending (Flr end) t) = ltb clock.0 end.0

abbrev pub flr_in_progress : Nanos → Status → Bool
flr_in_progress clock s = progress_phase clock s.phase

-- PowerState from 3 to 0 at clock c: Pending until c + D3hot time
unfoldable pub started_by_d3hot : Nanos → Slot → Status
started_by_d3hot clock entry = pending D3hot (sum_of clock (nanos_of entry.d3hot))
