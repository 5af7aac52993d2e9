-- What a record does, kind by kind: what has to be shown of each so that something holds of every record that is done.
use Prim.Native.Nat.{ℕ, ◌/◌, ◌%◌}
use mathlib.Core.Bool.{Bool, true, false, not, ◌||◌}
use mathlib.Core.List.{List, [], ◌∷◌}
use mathlib.Core.Path.{◌≡◌, sym, ap, subst}
use lib.Dec.{leb, ltb, eqb}
use lib.ListN.{length, set}
use lib.Seq.{set-get_or}
use Rattle.bits.proofs.Choices.{either_way}
use Rattle.times.specs.declared.Nanos.{Nanos}
use Rattle.times.specs.Moments.{sum_of, clock_end}
use Rattle.std.specs.Prelude.{Option, Some, None}
use Rattle.messages.specs.declared.Message.{Message}
use Rattle.messages.specs.declared.Message.TheVariants.{Drs, Frs}
use Rattle.registers.specs.declared.Kind.{Kind}
use Rattle.registers.specs.Rows.{flr_capability_word, starts_flr}
use Rattle.registers.specs.Words.{read_word, write_word, hardware_set, starts_d3hot}
use Rattle.config_space.specs.Functions.{link_reset_all, cold_reset}
use Rattle.frs_queue.specs.declared.Tally.{Tally}
use Rattle.frs_queue.specs.Queue.{no_tally, removed, register_of}
use Rattle.readiness.specs.declared.Slot.{Slot}
use Rattle.readiness.specs.declared.Status.{Status}
use Rattle.readiness.specs.declared.Setup.{Setup}
use Rattle.readiness.specs.declared.Dev.{Dev}
use Rattle.readiness.specs.Status.{ready, is_ready, entry_of, started_by_link_up, after_link_up, stopped_by_reset, after_link_down, after_cold_reset}
use Rattle.readiness.specs.Root.{Root, frs_arrive, drs_arrives}
use Rattle.records.specs.declared.Request.{Request}
use Rattle.records.specs.declared.Route.{Route}
use Rattle.records.specs.declared.Record.{Record}
use Rattle.records.specs.declared.Record.TheVariants.{Advance, Read, Write, Message as MessageRecord, LinkUp, LinkDown, ColdReset, ReadQueue, RemoveOldest, ClearBits, Control, HardwareSet, ReadBits, NoKind}
use Rattle.records.specs.State.{State, state, Seat, seat_of, put_back, slot_kind, word_place, root_of}
use Rattle.records.specs.Answer.{Effect, refused, does}
use Rattle.records.specs.Route.{route_of, is_access}
use Rattle.records.specs.Requests.{word_at, written, after_flr, after_d3hot, write_seat, read_effect, write_effect, hardware_effect}
use Rattle.records.specs.PortRecords.{Front, message_done, message_effect, cleared_dev, control_of, control_effect, status_bits}
use Rattle.readiness.specs.Fields.{with_clock, with_queue, with_control}
use Rattle.records.specs.CardRecords.{advance_effect, link_up_effect, link_down_effect, cold_reset_effect}
use Rattle.records.specs.Run.{at_slot, at_port, front_of, effect}

-- what a record leaves, brings and gives as data, if it is done
abbrev pub Leaves : {S : Type 0} → (S → Tally → ℕ → Type 0) → Effect S → Type 0
Leaves P (refused completion data_word) = Unit {0}
Leaves P (does t tally data_word) = P t tally data_word

-- ---- what each kind leaves, before slots become Ready

-- the state with another root port
abbrev pub with_dev : Dev → State → State
with_dev d s = state d s.statuses s.live s.cells

abbrev pub with_root : Root → State → State
with_root x s = state x.dev s.statuses s.live x.cells

-- the route of a request
abbrev pub routed : Setup → State → (is_read : Bool) → Request → Route
routed setup s is_read q = route_of setup.slots (slot_kind setup q.slot) s.port (seat_of s q.slot).status is_read q

abbrev pub advanced_by : Nanos → State → State
advanced_by by s = with_dev (with_clock s.port (sum_of s.port.clock by)) s

abbrev pub word_read : Setup → State → Request → ℕ
word_read setup s q = read_word (slot_kind setup q.slot) q.word (word_at s.live q.slot q.word) q.enables

abbrev pub seat_written : Setup → (defaults : List ℕ) → State → Request → (value : ℕ) → Seat
seat_written setup defaults s q value = write_seat (slot_kind setup q.slot) (entry_of setup q.slot) defaults q value (seat_of s q.slot)

abbrev pub word_set : Setup → State → (slot word mask : ℕ) → State
word_set setup s slot word mask =
    state s.port s.statuses (set s.live (word_place slot word) (hardware_set (slot_kind setup slot) word (word_at s.live slot word) mask)) s.cells

abbrev pub linked_up : Setup → State → State
linked_up setup s = state (after_link_up s.port) (started_by_link_up setup s.port s.statuses) s.live s.cells

abbrev pub linked_down : Setup → (defaults : List ℕ) → State → State
linked_down setup defaults s = state (after_link_down s.port) (stopped_by_reset setup s.port s.statuses) (link_reset_all (slot_kind setup) s.live defaults) s.cells

abbrev pub cold_started : Setup → (defaults : List ℕ) → State → State
cold_started setup defaults s = state (after_cold_reset s.port) (stopped_by_reset setup s.port s.statuses) (cold_reset s.live defaults) s.cells

-- P holds of what each kind of record leaves that is done
pub record Every (P : Record → State → Tally → ℕ → Type 0) (setup : Setup) (defaults : List ℕ) (s : State) : Type 0 where
  pub advance : (by : Nanos) → leb (sum_of s.port.clock by).0 clock_end ≡ true → P (Advance by) (advanced_by by s) no_tally 0
  pub read : (q : Request) → is_access (routed setup s true q) ≡ true → P (Read q) s no_tally (word_read setup s q)
  pub write : (q : Request) (value : ℕ) → is_access (routed setup s false q) ≡ true → P (Write q value) (put_back s q.slot (seat_written setup defaults s q value)) no_tally 0
  pub drs : (id : ℕ) → s.port.link ≡ true
      → (let x = drs_arrives setup.port_id (root_of s no_tally) in P (MessageRecord (Some (Drs id))) (with_root x s) x.tally 0)
  pub frs : (id reason : ℕ) → s.port.link ≡ true
      → (let x = frs_arrive (record { id = id; reason = reason } ∷ []) (root_of s no_tally) in P (MessageRecord (Some (Frs id reason))) (with_root x s) x.tally 0)
  pub link_up : s.port.link ≡ false → P LinkUp (linked_up setup s) no_tally 0
  pub link_down : s.port.link ≡ true → P LinkDown (linked_down setup defaults s) no_tally 0
  pub cold_reset : P ColdReset (cold_started setup defaults s) no_tally 0
  pub read_queue : P ReadQueue s no_tally (register_of s.cells s.port.queue)
  pub remove_oldest : P RemoveOldest (with_dev (with_queue s.port (removed (length s.cells) s.port.queue)) s) no_tally 0
  pub clear_bits : (mask : ℕ) → P (ClearBits mask) (with_dev (cleared_dev mask s.port) s) no_tally 0
  pub control : (b : ℕ) → P (Control b) (with_dev (with_control s.port (control_of b)) s) no_tally 0
  pub hardware_set : (slot word mask : ℕ) → ltb 63 word ≡ false → P (HardwareSet slot word mask) (word_set setup s slot word mask) no_tally 0
  pub read_bits : P ReadBits s no_tally (status_bits s.port)
  pub no_kind : P NoKind s no_tally 0

at_slot_lem : (P : State → Tally → ℕ → Type 0) (s : State) (slot : ℕ) (e : Effect Seat)
    → Leaves (λ (z : Seat) (tally : Tally) (d : ℕ). P (put_back s slot z) tally d) e → Leaves P (at_slot s slot e)
at_slot_lem P s slot (refused completion data_word) h = tt
at_slot_lem P s slot (does z tally data_word) h = h

at_port_lem : (P : State → Tally → ℕ → Type 0) (s : State) (e : Effect Front)
    → Leaves (λ (p : Front) (tally : Tally) (d : ℕ). P (state p.dev s.statuses s.live p.cells) tally d) e → Leaves P (at_port s e)
at_port_lem P s (refused completion data_word) h = tt
at_port_lem P s (does p tally data_word) h = h

-- a slot's status put back where it was
same_status : (s : State) (slot : ℕ) (live : List ℕ)
    → state s.port s.statuses live s.cells ≡ state s.port (set s.statuses slot (seat_of s slot).status) live s.cells
same_status s slot live = ap (λ (l : List Status). state s.port l live s.cells) (sym (set-get_or s.statuses slot ready))

module _ (P : Record → State → Tally → ℕ → Type 0) (setup : Setup) (defaults : List ℕ) (s : State) (h : Every P setup defaults s) where
  read_leaves : (q : Request) → Leaves (P (Read q)) (effect setup defaults s (Read q))
  unfolding effect read_effect
  read_leaves q =
      at_slot_lem (P (Read q)) s q.slot (read_effect setup.slots (slot_kind setup q.slot) q (seat_of s q.slot))
      (either_way (Leaves (λ (z : Seat) (tally : Tally) (d : ℕ). P (Read q) (put_back s q.slot z) tally d)) (is_access (routed setup s true q)) _ _
      (λ e. subst (λ (t : State). P (Read q) t no_tally (word_read setup s q)) (same_status s q.slot s.live) (h.read q e))
      (λ e. tt))

  write_leaves : (q : Request) (value : ℕ) → Leaves (P (Write q value)) (effect setup defaults s (Write q value))
  unfolding effect write_effect
  write_leaves q value =
      at_slot_lem (P (Write q value)) s q.slot (write_effect setup.slots (slot_kind setup q.slot) (entry_of setup q.slot) defaults q value (seat_of s q.slot))
      (either_way (Leaves (λ (z : Seat) (tally : Tally) (d : ℕ). P (Write q value) (put_back s q.slot z) tally d)) (is_access (routed setup s false q)) _ _
      (λ e. h.write q value e) (λ e. tt))

  hardware_leaves : (slot word mask : ℕ) → Leaves (P (HardwareSet slot word mask)) (effect setup defaults s (HardwareSet slot word mask))
  unfolding effect hardware_effect
  hardware_leaves slot word mask =
      let Q : Effect Seat → Type 0 = Leaves (λ (z : Seat) (tally : Tally) (d : ℕ). P (HardwareSet slot word mask) (put_back s slot z) tally d) in
      at_slot_lem (P (HardwareSet slot word mask)) s slot (hardware_effect setup.slots (slot_kind setup slot) slot word mask (seat_of s slot))
      (either_way Q (not (ltb slot setup.slots)) _ _ (λ e. tt)
      (λ e. either_way Q (ltb 63 word) _ _ (λ f. tt)
      (λ f. either_way Q (not (is_ready (seat_of s slot).status)) _ _ (λ g. tt)
      (λ g. subst (λ (t : State). P (HardwareSet slot word mask) t no_tally 0) (same_status s slot (word_set setup s slot word mask).live) (h.hardware_set slot word mask f)))))

  message_leaves : (m : Option Message) → Leaves (P (MessageRecord m)) (effect setup defaults s (MessageRecord m))
  unfolding effect message_effect message_done
  message_leaves m =
      at_port_lem (P (MessageRecord m)) s (message_effect setup.port_id m (front_of s))
      (either_way (Leaves (λ (p : Front) (tally : Tally) (d : ℕ). P (MessageRecord m) (state p.dev s.statuses s.live p.cells) tally d)) s.port.link _ _ (by m) (λ e. tt))
    where
      by : (m : Option Message) → s.port.link ≡ true
          → Leaves (λ (p : Front) (tally : Tally) (d : ℕ). P (MessageRecord m) (state p.dev s.statuses s.live p.cells) tally d) (message_done setup.port_id m (front_of s))
      by None e = tt
      by (Some (Drs id)) e = h.drs id e
      by (Some (Frs id reason)) e = h.frs id reason e

  -- so P holds of what every record leaves that is done
  pub every : (r : Record) → Leaves (P r) (effect setup defaults s r)
  unfolding effect advance_effect link_up_effect link_down_effect cold_reset_effect control_effect
  every (Advance by) = either_way (Leaves (P (Advance by))) (leb (sum_of s.port.clock by).0 clock_end) _ _ (h.advance by) (λ e. tt)
  every (Read q) = read_leaves q
  every (Write q value) = write_leaves q value
  every (MessageRecord m) = message_leaves m
  every LinkUp = either_way (Leaves (P LinkUp)) s.port.link _ _ (λ e. tt) h.link_up
  every LinkDown = either_way (Leaves (P LinkDown)) s.port.link _ _ h.link_down (λ e. tt)
  every ColdReset = h.cold_reset
  every ReadQueue = h.read_queue
  every RemoveOldest = h.remove_oldest
  every (ClearBits mask) = h.clear_bits mask
  every (Control b) =
      at_port_lem (P (Control b)) s (control_effect b (front_of s))
      (either_way (Leaves (λ (p : Front) (tally : Tally) (d : ℕ). P (Control b) (state p.dev s.statuses s.live p.cells) tally d)) (ltb 15 b || eqb (b / 4 % 4) 3) _ _ (λ e. tt) (λ e. h.control b))
  every (HardwareSet slot word mask) = hardware_leaves slot word mask
  every ReadBits = h.read_bits
  every NoKind = h.no_kind

-- ---- a write

-- what holds of the slot after an FLR, after the way from D3hot and after any other write holds after a write
pub write_cases : (P : Seat → Type 0) (kind : Kind) (entry : Slot) (defaults : List ℕ) (q : Request) (value : ℕ) (z : Seat)
    → (let new = write_word kind q.word (word_at z.live q.slot q.word) value q.enables in
    let w = written q.slot q.word new z in
    P (after_flr kind entry defaults q.slot w) → P (after_d3hot kind entry defaults q.slot new w) → P w → P (write_seat kind entry defaults q value z))
unfolding write_seat
write_cases P kind entry defaults q value z f d w =
    let old = word_at z.live q.slot q.word in
    either_way P (starts_flr kind q.word value q.enables (word_at defaults q.slot (flr_capability_word kind))) _ _ (λ e. f)
    (λ e. either_way P (starts_d3hot kind q.word old (write_word kind q.word old value q.enables)) _ _ (λ e. d) (λ e. w))
