-- Soundness of port and statuses (01, "Numbers given for no", refusal 5), but for the carried bytes.
use Rattle.std.specs.Prelude.{ℕ, ◌+◌, ◌*◌, ◌≤◌, ◌<◌, ◌≢◌, ◌↔◌, ◌≡◌, Bool, true, false, not, ◌&&◌, ◌||◌, List, leb, ltb, length, get_or}
use Rattle.bits.specs.Every.{every}
use Rattle.times.specs.declared.Nanos.{Nanos}
use Rattle.times.specs.Codes.{greatest_time}
use Rattle.messages.specs.Messages.{frs_allowed}
use Rattle.frs_queue.specs.Queue.{place_of, reason_in}
use Rattle.readiness.specs.declared.Cause.{Cause}
use Rattle.readiness.specs.declared.Cause.TheVariants.{LinkUp, Flr, D3hot}
use Rattle.readiness.specs.declared.Phase.{Phase}
use Rattle.readiness.specs.declared.Phase.TheVariants.{Down, Pending, Ready}
use Rattle.readiness.specs.declared.Status.{Status}
use Rattle.readiness.specs.declared.Setup.{Setup}
use Rattle.readiness.specs.declared.Dev.{Dev}
use Rattle.readiness.specs.Status.{ready, all_ready}
use Rattle.records.specs.State.{State, status_at, phase_at}
use Rattle.times.specs.Moments.{clock_end}

-- ---- the test for refusal 5
-- an FLR end isn't after its ready time
abbrev pub sound_cause : Cause → Nanos → Bool
sound_cause LinkUp t = true
sound_cause D3hot t = true
sound_cause (Flr end) t = leb end.0 t.0

-- a Pending ready time is after the clock, and at most 1,006,632,960 after it
abbrev pub sound_phase : Nanos → Phase → Bool
sound_phase clock Down = true
sound_phase clock Ready = true
sound_phase clock (Pending cause t) = ltb clock.0 t.0 && leb t.0 (clock.0 + greatest_time) && sound_cause cause t

-- no Down slot with the link up, nor any other with it down
abbrev pub matches_link : Bool → Phase → Bool
matches_link link Down = not link
matches_link link (Pending cause t) = link
matches_link link Ready = link

abbrev pub sound_status : Dev → Status → Bool
sound_status d s = sound_phase d.clock s.phase && matches_link d.link s.phase

-- each of the card's slots
abbrev pub sound_statuses : (slots : ℕ) → Dev → List Status → Bool
sound_statuses slots d l = every slots λ i. sound_status d (status_at l i)

-- a live cell is below 2^20, so that its reason is one that an FRS may have; a request to come allows fewer
abbrev pub sound_cell : ℕ → Bool
sound_cell v = ltb v 1048576 && frs_allowed (reason_in v)

abbrev pub sound_cells : (depth : ℕ) → (cells : List ℕ) → (start : ℕ) → Bool
sound_cells depth cells start = every depth λ k. sound_cell (get_or cells (place_of (length cells) start k) 0)

-- a DRS isn't owed with the link down, nor with every slot Ready
abbrev pub sound_owed : Setup → Dev → List Status → Bool
sound_owed setup d l = not d.owed || (d.link && not (all_ready setup l))

-- all of it
unfoldable pub sound : Setup → State → Bool
sound setup s =
    let d = s.port in
    let q = d.queue in
    leb d.clock.0 clock_end
    && ltb q.start (length s.cells)
    && leb q.depth (length s.cells)
    && sound_cells q.depth s.cells q.start
    && leb d.control.signalling 2
    && sound_statuses setup.slots d s.statuses
    && sound_owed setup d s.statuses

-- nothing that 5 lists, point by point
pub record Sound (setup : Setup) (s : State) : Type 0 where
  -- the clock is at most 10^15
  pub clock : s.port.clock.0 ≤ clock_end
  -- the queue's start is below its length, its depth at most that
  pub start : s.port.queue.start < length s.cells
  pub depth : s.port.queue.depth ≤ length s.cells
  -- a live cell is below 2^20
  pub cells : (k : ℕ) → k < s.port.queue.depth → get_or s.cells (place_of (length s.cells) s.port.queue.start k) 0 < 1048576
  -- signalling isn't 3
  pub signalling : s.port.control.signalling ≤ 2
  -- a Pending slot's ready time is after the clock, and at most 1,006,632,960 after it
  pub later : (i : ℕ) (cause : Cause) (t : Nanos) → i < setup.slots → phase_at s i ≡ Pending cause t → s.port.clock.0 < t.0
  pub most : (i : ℕ) (cause : Cause) (t : Nanos) → i < setup.slots → phase_at s i ≡ Pending cause t → t.0 ≤ s.port.clock.0 + 1006632960
  -- an FLR end isn't after its ready time
  pub flr_end : (i : ℕ) (end t : Nanos) → i < setup.slots → phase_at s i ≡ Pending (Flr end) t → end.0 ≤ t.0
  -- a Down slot only with the link down, any other only with it up
  pub link_down : (i : ℕ) → i < setup.slots → phase_at s i ≡ Down → s.port.link ≡ false
  pub link_up : (i : ℕ) → i < setup.slots → phase_at s i ≢ Down → s.port.link ≡ true
  -- a DRS is owed only with the link up, and not with every slot Ready
  pub owed_link : s.port.owed ≡ true → s.port.link ≡ true
  pub owed_slots : s.port.owed ≡ true → ((i : ℕ) → phase_at s i ≡ Ready) → ⊥

-- THE TEST passes exactly where nothing that 5 lists is there
abbrev pub SoundExactly : Setup → State → Type 0
SoundExactly setup s = (sound setup s ≡ true) ↔ Sound setup s

-- what a set-up that isn't refused says of lengths: the card's slots, their registers, and nothing but Ready past the last slot
pub record Fitting (setup : Setup) (defaults : List ℕ) (s : State) : Type 0 where
  pub some : 0 < setup.slots
  pub most : setup.slots ≤ 32
  pub words : length s.live ≡ 64 * setup.slots
  pub default_words : length defaults ≡ 64 * setup.slots
  pub slots : setup.slots ≤ length s.statuses
  pub past : (i : ℕ) → setup.slots ≤ i → status_at s.statuses i ≡ ready
