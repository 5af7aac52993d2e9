-- What holds of every record, whatever its kind.
use Prim.Native.Nat.{ℕ, ◌+◌, ◌/◌, ◌≤◌, ◌<◌}
use native.Mathlib.Omega.{arith}
use mathlib.Core.Bool.{Bool, true, false, ◌||◌, cond, false≢true}
use mathlib.Core.List.{List}
use mathlib.Core.Logic.{◌≢◌}
use mathlib.Core.Path.{◌≡◌, refl, sym, ap, ◌∙◌}
use lib.Dec.{leb}
use lib.ListN.{length}
use lib.Seq.{get_or-set_other}
use borrow.Author.Tests.{le-leb, lt-leb, ltb-false}
use Rattle.bits.proofs.Choices.{either_way}
use Rattle.bits.specs.Bits.{bit}
use Rattle.times.specs.declared.Nanos.{Nanos}
use Rattle.times.specs.Moments.{greatest_nanos, sum_of, clock_end}
use Rattle.registers.specs.declared.Kind.{Kind}
use Rattle.registers.specs.Rows.{device_zeros, reads_zero}
use Rattle.registers.specs.Words.{write_word, hardware_set}
use Rattle.config_space.specs.Functions.{link_reset_slot}
use Rattle.registers.proofs.Laws.{read_zero, device_zeros_lem}
use Rattle.config_space.proofs.Slots.{link_reset_slot_others, flr_reset_slot_others}
use Rattle.frs_queue.specs.declared.Tally.{Tally}
use Rattle.frs_queue.specs.Queue.{no_tally}
use Rattle.readiness.specs.declared.Cause.{Cause}
use Rattle.readiness.specs.declared.Phase.{Phase}
use Rattle.readiness.specs.declared.Phase.TheVariants as phase
use Rattle.readiness.specs.declared.Status.{Status}
use Rattle.readiness.specs.declared.Slot.{Slot}
use Rattle.readiness.specs.declared.Setup.{Setup}
use Rattle.readiness.specs.declared.Dev.{Dev}
use Rattle.readiness.specs.Status.{ready, entry_of, after_reset, after_link_down, after_cold_reset}
use Rattle.readiness.specs.Root.{frs_arrive, drs_set, drs_arrives}
use Rattle.readiness.specs.Settle.{Scene, advances}
use Rattle.readiness.proofs.Order.{phase_by}
use Rattle.readiness.proofs.Scenes.{fresh, settled_kept, settled_statuses}
use Rattle.readiness.proofs.TwoAdvances.{together, two_advances}
use Rattle.records.specs.declared.Request.{Request}
use Rattle.records.specs.declared.Record.{Record}
use Rattle.records.specs.declared.Record.TheVariants.{Advance, Read}
use Rattle.records.specs.declared.Completion.TheVariants as completion
use Rattle.records.specs.State.{State, state, Seat, seat_of, status_at, word_place, scene_of, with_live, slot_kind}
use Rattle.records.specs.Answer.{Effect, refused, does, Ran, reply, answered, completion_number}
use Rattle.records.specs.Requests.{word_at, after_flr, after_d3hot, written, write_seat}
use Rattle.records.specs.PortRecords.{cleared_dev}
use Rattle.records.specs.CardRecords.{advance_effect}
use Rattle.records.specs.Run.{effect, run}
use Rattle.records.specs.Sound.{sound_phase, Sound}
use Rattle.records.specs.Statuses.{status_of, data_of, Unchanged}
use Rattle.records.specs.EachKind.{is_advance, Addresses, SameSlot}
use Rattle.records.proofs.SoundFacts.{pending_exactly, phase_test}
use Rattle.records.proofs.Routes.{access_facts, answered_0}
use Rattle.records.proofs.Data.{read_done_data}
use Rattle.records.proofs.SlotsKept.{at_ready_by}
use Rattle.records.proofs.Leaving.{Leaves, Every, every, advanced_by, write_cases}

-- ---- a record that isn't done

refused-answered : (setup : Setup) (s : State) (e : Effect State) → completion_number (answered setup s e).reply.completion ≢ 0 → Unchanged s (answered setup s e)
unfolding answered
refused-answered setup s (refused completion data_word) n = record { state = refl; tally = refl }
refused-answered setup s (does t tally data_word) n = absurd (n refl)

-- A status other than 0 changes no register, slot status, queue cell, port bit or clock; its interrupts and counts are 0.
pub refused-unchanged : (setup : Setup) (defaults : List ℕ) (s : State) (r : Record)
    → status_of setup defaults s r ≢ 0 → Unchanged s (run setup defaults s r)
unfolding run
refused-unchanged setup defaults s r n = refused-answered setup s (effect setup defaults s r) n

-- ---- the clock

abbrev SameClock : State → Record → State → Tally → ℕ → Type 0
SameClock s r t tally d = is_advance r ≡ false → t.port.clock ≡ s.port.clock

-- a write changes no part of the root port, and no queue cell
pub write_dev : (kind : Kind) (entry : Slot) (defaults : List ℕ) (q : Request) (value : ℕ) (z : Seat) → (write_seat kind entry defaults q value z).dev ≡ z.dev
unfolding after_flr after_d3hot
write_dev kind entry defaults q value z = write_cases (λ (y : Seat). y.dev ≡ z.dev) kind entry defaults q value z refl refl refl

pub write_cells : (kind : Kind) (entry : Slot) (defaults : List ℕ) (q : Request) (value : ℕ) (z : Seat) → (write_seat kind entry defaults q value z).cells ≡ z.cells
unfolding after_flr after_d3hot
write_cells kind entry defaults q value z = write_cases (λ (y : Seat). y.cells ≡ z.cells) kind entry defaults q value z refl refl refl

same_clock : (setup : Setup) (defaults : List ℕ) (s : State) → Every (SameClock s) setup defaults s
unfolding frs_arrive drs_arrives drs_set cleared_dev after_reset after_link_down after_cold_reset
same_clock setup defaults s =
    record {
      advance = λ by e n. absurd (false≢true (sym n));
      read = λ q e n. refl;
      write = λ q value e n. ap (λ (d : Dev). d.clock) (write_dev (slot_kind setup q.slot) (entry_of setup q.slot) defaults q value (seat_of s q.slot));
      drs = λ id e n. refl;
      frs = λ id reason e n. refl;
      link_up = λ e n. refl;
      link_down = λ e n. refl;
      cold_reset = λ n. refl;
      read_queue = λ n. refl;
      remove_oldest = λ n. refl;
      clear_bits = λ mask n. refl;
      control = λ b n. refl;
      hardware_set = λ slot word mask e n. refl;
      read_bits = λ n. refl;
      no_kind = λ n. refl;
    }

answered_clock : (setup : Setup) (s : State) (r : Record) (e : Effect State) → is_advance r ≡ false → Leaves (SameClock s r) e → (answered setup s e).after.port.clock ≡ s.port.clock
unfolding answered
answered_clock setup s r (refused completion data_word) n h = refl
answered_clock setup s r (does t tally data_word) n h = (settled_kept setup (scene_of t tally)).clock ∙ h n

-- The clock moves only by a record 01.
pub clock_stays_lem : (setup : Setup) (defaults : List ℕ) (s : State) (r : Record) → is_advance r ≡ false → (run setup defaults s r).after.port.clock ≡ s.port.clock
unfolding run
clock_stays_lem setup defaults s r n = answered_clock setup s r (effect setup defaults s r) n (every (SameClock s) setup defaults s (same_clock setup defaults s) r)

-- an advance that stays within 10^15
advance-effect : (by : Nanos) (s : State) → s.port.clock.0 + by.0 ≤ clock_end → advance_effect by s ≡ does (advanced_by by s) no_tally 0
unfolding advance_effect sum_of
advance-effect by s h =
    ap (λ (b : Bool). cond b (does (advanced_by by s) no_tally 0) (refused completion.ClockEnd 0))
    (ap (λ (b : Bool). leb (cond b (s.port.clock.0 + by.0) greatest_nanos) clock_end) (le-leb (s.port.clock.0 + by.0) greatest_nanos (omega arith))
    ∙ le-leb (s.port.clock.0 + by.0) clock_end h)

-- what a record leaves where slots became Ready
abbrev ran_to : Scene → (live : List ℕ) → Ran State
ran_to x live = record { after = with_live x live; reply = reply completion.Done x.root.tally 0 }

-- an advance that stays within 10^15 is done: the clock advances, and what becomes Ready on the way happens at its moment
pub advance-runs : (setup : Setup) (defaults : List ℕ) (s : State) (by : Nanos) → s.port.clock.0 + by.0 ≤ clock_end
    → run setup defaults s (Advance by) ≡ ran_to (advances setup by (scene_of s no_tally)) s.live
unfolding run effect answered advances
advance-runs setup defaults s by h = ap (answered setup s) (advance-effect by s h)

pub plain_sum : (t by : Nanos) → t.0 + by.0 ≤ clock_end → (sum_of t by).0 ≡ t.0 + by.0
unfolding sum_of
plain_sum t by h = ap (λ (b : Bool). cond b (t.0 + by.0) greatest_nanos) (le-leb (t.0 + by.0) greatest_nanos (omega arith))

advances_clock : (setup : Setup) (by : Nanos) (x : Scene) → (advances setup by x).root.dev.clock ≡ sum_of x.root.dev.clock by
unfolding advances
advances_clock setup by x = (settled_kept setup _).clock

-- An advance that is done adds just its nanoseconds to the clock.
pub advance_adds : (setup : Setup) (defaults : List ℕ) (s : State) (by : Nanos) → s.port.clock.0 + by.0 ≤ clock_end
    → (run setup defaults s (Advance by)).after.port.clock.0 ≡ s.port.clock.0 + by.0
advance_adds setup defaults s by h =
    ap (λ (x : Ran State). x.after.port.clock.0) (advance-runs setup defaults s by h)
    ∙ ap (λ (t : Nanos). t.0) (advances_clock setup by (scene_of s no_tally)) ∙ plain_sum s.port.clock by h

-- One that would pass 10^15 is answered 22.
pub advance-refused : (setup : Setup) (defaults : List ℕ) (s : State) (by : Nanos) → clock_end < s.port.clock.0 + by.0
    → run setup defaults s (Advance by) ≡ record { after = s; reply = reply completion.ClockEnd no_tally 0 }
unfolding run effect answered advance_effect sum_of
advance-refused setup defaults s by h =
    ap (λ (b : Bool). answered setup s (cond b (does (advanced_by by s) no_tally 0) (refused completion.ClockEnd 0)))
    (either_way (λ (n : ℕ). leb n clock_end ≡ false) (leb (s.port.clock.0 + by.0) greatest_nanos) (s.port.clock.0 + by.0) greatest_nanos
    (λ e. lt-leb (s.port.clock.0 + by.0) clock_end h) (λ e. lt-leb greatest_nanos clock_end (omega arith)))

-- ---- two advances

-- the whole is the second's state; counts add up, interrupts are the or; all three are done
pub record TwoAreOne (whole first second : Ran State) : Type 0 where
  pub state : whole.after ≡ second.after
  pub queued : whole.reply.tally.queued ≡ first.reply.tally.queued + second.reply.tally.queued
  pub dropped : whole.reply.tally.dropped ≡ first.reply.tally.dropped + second.reply.tally.dropped
  pub received : whole.reply.tally.received ≡ (first.reply.tally.received || second.reply.tally.received)
  pub overflow : whole.reply.tally.overflow ≡ (first.reply.tally.overflow || second.reply.tally.overflow)
  pub drs : whole.reply.tally.drs ≡ (first.reply.tally.drs || second.reply.tally.drs)
  pub whole-done : whole.reply.completion ≡ completion.Done
  pub first_done : first.reply.completion ≡ completion.Done
  pub second_done : second.reply.completion ≡ completion.Done
  pub no_data_lem : whole.reply.«data» ≡ 0

two_scenes : (setup : Setup) (a b : Nanos) (s : State) → length s.statuses ≤ 32
    → (let x = scene_of s no_tally in
    let first = advances setup a x in
    TwoAreOne (ran_to (advances setup (together a b) x) s.live) (ran_to first s.live) (ran_to (advances setup b (fresh first)) s.live))
two_scenes setup a b s h =
    let t = two_advances setup a b (scene_of s no_tally) h refl in
    record {
      state = ap (λ (x : Scene). with_live x s.live) t.same;
      queued = t.queued;
      dropped = t.dropped;
      received = t.received;
      overflow = t.overflow;
      drs = t.drs;
      whole-done = refl;
      first_done = refl;
      second_done = refl;
      no_data_lem = refl;
    }

-- Two records 01 in a row, by a and then by b, are one by a + b, where that stays within 10^15.
pub two_advances_are_one : (setup : Setup) (defaults : List ℕ) (s : State) (a b : Nanos) → length s.statuses ≤ 32 → s.port.clock.0 + a.0 + b.0 ≤ clock_end
    → TwoAreOne (run setup defaults s (Advance (together a b))) (run setup defaults s (Advance a)) (run setup defaults (run setup defaults s (Advance a)).after (Advance b))
two_advances_are_one setup defaults s a b few h =
    let first = advances setup a (scene_of s no_tally) in
    let u : run setup defaults s (Advance a) ≡ ran_to first s.live = advance-runs setup defaults s a (omega arith) in
    let clock : first.root.dev.clock.0 ≡ s.port.clock.0 + a.0 =
    ap (λ (t : Nanos). t.0) (advances_clock setup a (scene_of s no_tally)) ∙ plain_sum s.port.clock a (omega arith) in
    let v : run setup defaults (with_live first s.live) (Advance b) ≡ ran_to (advances setup b (fresh first)) s.live =
    advance-runs setup defaults (with_live first s.live) b (omega arith) in
    rw (u, v, advance-runs setup defaults s (together a b) (omega arith)) (two_scenes setup a b s few)

-- ---- word 1Eh

-- In every read of word 1Eh answered 0, data bits 15 and 21 are 0, whatever the live registers hold.
pub device_control_reads_0 : (setup : Setup) (defaults : List ℕ) (s : State) (q : Request) → q.word ≡ 0x78 / 4 → status_of setup defaults s (Read q) ≡ 0
    → (bit (data_of setup defaults s (Read q)) 15 ≡ false) × (bit (data_of setup defaults s (Read q)) 21 ≡ false)
unfolding bit
device_control_reads_0 setup defaults s q w z = (at 15 (omega arith) refl, at 21 (omega arith) refl)
  where
    kind : Kind
    kind = slot_kind setup q.slot

    at : (k : ℕ) → k < 32 → bit device_zeros k ≡ true → bit (data_of setup defaults s (Read q)) k ≡ false
    at k l e =
        ap (λ (n : ℕ). bit n k) (read_done_data setup defaults s q (answered_0 setup defaults s true q 0 z))
        ∙ read_zero kind q.word (word_at s.live q.slot q.word) q.enables k l (ap (λ (i : ℕ). bit (reads_zero kind i) k) w ∙ device_zeros_lem kind k ∙ e)

-- ---- a slot other than the one addressed

-- the same, where the clock is the same
record Left (s t : State) (slot : ℕ) : Type 0 where
  clock : t.port.clock ≡ s.port.clock
  same : SameSlot s t slot

abbrev OthersLeft : (slot : ℕ) → State → Record → State → Tally → ℕ → Type 0
OthersLeft slot s r t tally d = (addressed : ℕ) → Addresses r addressed → slot ≢ addressed → Left s t slot

elsewhere : (slot addressed word at : ℕ) → slot ≢ addressed → word < 64 → at ≤ 63 → word_place slot word ≢ word_place addressed at
elsewhere slot addressed word at n h k e = n (omega arith)

-- a write in one slot leaves the words of every other slot
write_live : (kind : Kind) (entry : Slot) (defaults : List ℕ) (q : Request) (value : ℕ) (z : Seat) (slot word : ℕ) → slot ≢ q.slot → word < 64 → q.word ≤ 63
    → word_at (write_seat kind entry defaults q value z).live slot word ≡ word_at z.live slot word
unfolding after_flr after_d3hot
write_live kind entry defaults q value z slot word n h k =
    write_cases Same kind entry defaults q value z
    (flr_reset_slot_others kind q.slot w.live defaults (word_place slot word) other ∙ here)
    (either_way (λ (l : List ℕ). word_at l slot word ≡ word_at z.live slot word) (bit new 3) w.live (link_reset_slot kind q.slot w.live defaults) (λ g. here)
    (λ g. link_reset_slot_others kind q.slot w.live defaults (word_place slot word) other ∙ here))
    here
  where
    Same : Seat → Type 0
    Same y = word_at y.live slot word ≡ word_at z.live slot word

    old : ℕ
    old = word_at z.live q.slot q.word

    new : ℕ
    new = write_word kind q.word old value q.enables

    w : Seat
    w = written q.slot q.word new z

    other : word_place slot word / 64 ≡ q.slot → ⊥
    other e = n (omega arith)

    here : word_at w.live slot word ≡ word_at z.live slot word
    here = get_or-set_other z.live (word_place q.slot q.word) (word_place slot word) new 0 (elsewhere slot q.slot word q.word n h k)

others_left : (setup : Setup) (defaults : List ℕ) (s : State) (slot : ℕ) → Every (OthersLeft slot s) setup defaults s
others_left setup defaults s slot =
    record {
      advance = λ by e a x n. absurd x;
      read = λ q e a x n. record { clock = refl; same = record { registers = λ word h. refl; status = refl } };
      write =
          λ q value e a x n.
          let m : slot ≢ q.slot = λ p. n (p ∙ x) in
          let entry = entry_of setup q.slot in
          let kind = slot_kind setup q.slot in
          record {
            clock = ap (λ (d : Dev). d.clock) (write_dev kind entry defaults q value (seat_of s q.slot));
            same = record {
              registers = λ word h. write_live kind entry defaults q value (seat_of s q.slot) slot word m h (access_facts setup s false q e).0.word;
              status = get_or-set_other s.statuses q.slot slot _ ready m;
            };
          };
      drs = λ id e a x n. absurd x;
      frs = λ id reason e a x n. absurd x;
      link_up = λ e a x n. absurd x;
      link_down = λ e a x n. absurd x;
      cold_reset = λ a x n. absurd x;
      read_queue = λ a x n. absurd x;
      remove_oldest = λ a x n. absurd x;
      clear_bits = λ mask a x n. absurd x;
      control = λ b a x n. absurd x;
      hardware_set =
          λ at word mask e a x n.
          record {
            clock = refl;
            same = record {
              registers = λ i h. get_or-set_other s.live (word_place at word) (word_place slot i) _ 0 (elsewhere slot at i word (λ p. n (p ∙ x)) h (ltb-false 63 word e));
              status = refl;
            };
          };
      read_bits = λ a x n. absurd x;
      no_kind = λ a x n. absurd x;
    }

-- a sound Pending slot's ready time is after the clock
pub sound-later : (clock : Nanos) (c : Cause) (t : Nanos) → sound_phase clock (phase.Pending c t) ≡ true → clock.0 < t.0
sound-later clock c t e = ((pending_exactly clock c t).0 e).0

later-stays : (clock : Nanos) (p : Phase) → sound_phase clock p ≡ true → phase_by clock p ≡ p
later-stays clock phase.Down e = refl
later-stays clock phase.Ready e = refl
later-stays clock (phase.Pending c t) e = ap (λ (b : Bool). cond b phase.Ready (phase.Pending c t)) (lt-leb t.0 clock.0 (sound-later clock c t e))

answered_others : (setup : Setup) (s : State) (slot : ℕ) (r : Record) (addressed : ℕ) (e : Effect State)
    → Leaves (OthersLeft slot s r) e → Addresses r addressed → slot ≢ addressed → sound_phase s.port.clock (status_at s.statuses slot).phase ≡ true
    → SameSlot s (answered setup s e).after slot
unfolding answered
answered_others setup s slot r addressed (refused c d) h a n sound = record { registers = λ word l. refl; status = refl }
answered_others setup s slot r addressed (does t tally d) h a n sound =
    let left = h addressed a n in
    record {
      registers = left.same.registers;
      status =
          ap (λ (l : List Status). status_at l slot) (settled_statuses setup (scene_of t tally)) ∙ at_ready_by t.port.clock t.statuses slot
          ∙ ap (λ (c : Nanos). record { phase = phase_by c (status_at t.statuses slot).phase }) left.clock
          ∙ ap (λ (x : Status). record { phase = phase_by s.port.clock x.phase }) left.same.status
          ∙ ap (λ (p : Phase). record { phase = p }) (later-stays s.port.clock (status_at s.statuses slot).phase sound);
    }

-- A slot other than the one addressed keeps its registers and its status under 02, 03 and 0C.
pub other_slots_lem : (setup : Setup) (defaults : List ℕ) (s : State) (r : Record) (addressed slot : ℕ) → Sound setup s → Addresses r addressed → slot < setup.slots → slot ≢ addressed
    → SameSlot s (run setup defaults s r).after slot
unfolding run
other_slots_lem setup defaults s r addressed slot sound a l n =
    answered_others setup s slot r addressed (effect setup defaults s r) (every (OthersLeft slot s) setup defaults s (others_left setup defaults s slot) r) a n (phase_test sound slot l)
