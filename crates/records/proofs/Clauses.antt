-- Clauses of 01 as laws of the definitions: which write starts what, the root port's records, and what link up, link down and cold reset leave, before slots become Ready.
use Prim.Native.Nat.{ℕ, ◌+◌, ◌-◌, ◌*◌, ◌/◌, ◌%◌, ◌≤◌, ◌<◌, min}
use native.Mathlib.Omega.{arith}
use mathlib.Core.Bool.{Bool, true, false, not, ◌&&◌, cond, true≢false}
use mathlib.Core.List.{List}
use mathlib.Core.Logic.{◌≢◌, ◌↔◌}
use mathlib.Core.Path.{◌≡◌, refl, sym, ap, ◌∙◌}
use lib.Dec.{eqb}
use lib.ListN.{length}
use borrow.Author.Tests.{eqb-true, eqb-false, eq-eqb, ne_eqb, le-ltb}
use Rattle.bits.proofs.Choices.{either_way, when_true, when_false}
use Rattle.bits.specs.Bits.{bit, one}
use Rattle.bits.proofs.Bits.{one_most}
use Rattle.bits.proofs.Tests.{truth, both, both_left, both_right, untrue, split}
use Rattle.times.specs.Codes.{nanos_of}
use Rattle.registers.specs.declared.Kind.{Kind}
use Rattle.registers.specs.Rows.{flr_capability_word, starts_flr}
use Rattle.registers.specs.Words.{write_word, starts_d3hot}
use Rattle.config_space.specs.Functions.{link_reset_slot, flr_reset_slot}
use Rattle.registers.proofs.Laws.{starts_flr_only}
use Rattle.config_space.proofs.Slots.{cold_reset_defaults}
use Rattle.frs_queue.specs.declared.Queue.{Queue}
use Rattle.frs_queue.specs.Queue.{place_of, moved_on, removed}
use Rattle.frs_queue.proofs.Laws.{removed_none, removed_takes_head, removed-received, removed_overflow}
use Rattle.readiness.specs.declared.Cause.TheVariants as cause
use Rattle.readiness.specs.declared.Slot.{Slot}
use Rattle.readiness.specs.declared.Setup.{Setup}
use Rattle.readiness.specs.declared.Dev.{Dev}
use Rattle.readiness.specs.Status.{down, pending, status_after_reset, stopped_by_reset, after_reset, after_link_down, after_cold_reset}
use Rattle.readiness.proofs.Clauses.{at, each_at, link_up_starts, d3hot_starts, flr_starts}
use Rattle.records.specs.declared.Request.{Request}
use Rattle.records.specs.declared.Record.TheVariants as kind
use Rattle.records.specs.State.{State, Seat, status_at, kind_of_entry, slot_kind}
use Rattle.records.specs.Answer.{answered}
use Rattle.records.specs.Requests.{word_at, written, after_flr, after_d3hot, write_seat}
use Rattle.records.specs.PortRecords.{cleared_dev, status_bits, control_of, control_effect}
use Rattle.readiness.specs.Fields.{with_queue}
use Rattle.records.proofs.Leaving.{with_dev}
use Rattle.records.specs.CardRecords.{link_up_effect, link_down_effect, cold_reset_effect}
use Rattle.records.specs.Run.{effect, run}
use Rattle.records.specs.Statuses.{data_of}
use Rattle.records.specs.EachKind.{Does, AsksFlr, From3To0, LinkedUp, LinkedDown, ColdStarted, Removes, ClearsWhere1, Controls, ShowsBits}

-- ---- which write starts an FLR, or the way from D3hot

-- An FLR starts exactly with such a write.
pub starts_flr_exactly : (setup : Setup) (defaults : List ℕ) (q : Request) (value : ℕ)
    → (starts_flr (slot_kind setup q.slot) q.word value q.enables (word_at defaults q.slot (flr_capability_word (slot_kind setup q.slot))) ≡ true) ↔ AsksFlr defaults q value
unfolding kind_of_entry starts_flr
starts_flr_exactly setup defaults q value = (
  λ e.
      let h = starts_flr_only (slot_kind setup q.slot) q.word value q.enables (word_at defaults q.slot (flr_capability_word (slot_kind setup q.slot))) e in
      record { word = h.0; byte1 = h.1; bit15 = h.2; capable = h.3 },
  λ h. both _ _ (both _ _ (both _ _ (eq-eqb q.word 30 h.word) h.byte1) h.bit15) h.capable,
)

-- The way from D3hot starts exactly with such a write.
pub starts_d3hot_exactly : (kind : Kind) (word old new : ℕ) → (starts_d3hot kind word old new ≡ true) ↔ From3To0 word old new
unfolding starts_d3hot
starts_d3hot_exactly kind word old new = (holds, λ h. both _ _ (both _ _ (eq-eqb word 0x11 h.0) (eq-eqb (old % 4) 3 h.1)) (eq-eqb (new % 4) 0 h.2))
  where
    holds : (eqb word 0x11 && eqb (old % 4) 3 && eqb (new % 4) 0) ≡ true → From3To0 word old new
    holds e =
        let a = both_left (eqb word 0x11 && eqb (old % 4) 3) (eqb (new % 4) 0) e in (
          eqb-true word 0x11 (both_left (eqb word 0x11) (eqb (old % 4) 3) a),
          eqb-true (old % 4) 3 (both_right (eqb word 0x11) (eqb (old % 4) 3) a),
          eqb-true (new % 4) 0 (both_right (eqb word 0x11 && eqb (old % 4) 3) (eqb (new % 4) 0) e),
        )

module _ (kind : Kind) (entry : Slot) (defaults : List ℕ) (q : Request) (value : ℕ) (z : Seat) where
  -- the word before the write, and after it
  abbrev old : ℕ
  old = word_at z.live q.slot q.word

  abbrev new : ℕ
  new = write_word kind q.word old value q.enables

  -- the write starts an FLR, or the way from D3hot
  abbrev flr : Bool
  flr = starts_flr kind q.word value q.enables (word_at defaults q.slot (flr_capability_word kind))

  abbrev d3hot : Bool
  d3hot = starts_d3hot kind q.word old new

  -- the slot once the write is finished, and after what it starts
  abbrev w : Seat
  w = written q.slot q.word new z

  abbrev after : Seat
  after = write_seat kind entry defaults q value z

  -- no FLR starts at 44h
  d3hot_no_flr : From3To0 q.word old new → flr ≡ false
  d3hot_no_flr h = untrue flr (λ e. let w = (starts_flr_only kind q.word value q.enables (word_at defaults q.slot (flr_capability_word kind)) e).0 in let v = h.0 in omega arith)

  pub seat-flr : flr ≡ true → after ≡ after_flr kind entry defaults q.slot w
  unfolding write_seat
  seat-flr e = when_true flr _ _ e

  pub seat_d3hot : From3To0 q.word old new → after ≡ after_d3hot kind entry defaults q.slot new w
  unfolding write_seat
  seat_d3hot h = when_false flr _ _ (d3hot_no_flr h) ∙ when_true d3hot _ _ ((starts_d3hot_exactly kind q.word old new).1 h)

  pub seat_other : flr ≡ false → (From3To0 q.word old new → ⊥) → after ≡ w
  unfolding write_seat
  seat_other e n = when_false flr _ _ e ∙ when_false d3hot _ _ (untrue d3hot (λ t. n ((starts_d3hot_exactly kind q.word old new).0 t)))

  -- A write to a Ready slot: an FLR makes the slot Pending until c + T with T its FLR Time, and is in progress until c + min(T, 100,000,000);
  pub write_starts_flr : z.dev.clock.0 ≤ 1000000000000000000 → flr ≡ true
      → (let t = (nanos_of entry.flr).0 in after.status ≡ pending (cause.Flr (at (z.dev.clock.0 + min t 100000000))) (at (z.dev.clock.0 + t)))
  unfolding after_flr
  write_starts_flr c e = ap (λ (y : Seat). y.status) (seat-flr e) ∙ flr_starts z.dev.clock entry c

  -- one that takes PowerState from 3 to 0 makes it Pending until c + its D3hot time;
  pub write_starts_d3hot : z.dev.clock.0 ≤ 1000000000000000000 → From3To0 q.word old new → after.status ≡ pending cause.D3hot (at (z.dev.clock.0 + (nanos_of entry.d3hot).0))
  unfolding after_d3hot
  write_starts_d3hot c h = ap (λ (y : Seat). y.status) (seat_d3hot h) ∙ d3hot_starts z.dev.clock entry c

  -- any other leaves its status.
  pub write_starts_nothing : flr ≡ false → (From3To0 q.word old new → ⊥) → after.status ≡ z.status
  write_starts_nothing e n = ap (λ (y : Seat). y.status) (seat_other e n)

  -- The registers: an FLR resets the slot's,
  pub write_resets_flr : flr ≡ true → after.live ≡ flr_reset_slot kind q.slot w.live defaults
  unfolding after_flr
  write_resets_flr e = ap (λ (y : Seat). y.live) (seat-flr e)

  -- the way from D3hot too, as link down, unless No_Soft_Reset is set,
  pub write_resets_d3hot : From3To0 q.word old new → bit new 3 ≡ false → after.live ≡ link_reset_slot kind q.slot w.live defaults
  unfolding after_d3hot
  write_resets_d3hot h e = ap (λ (y : Seat). y.live) (seat_d3hot h) ∙ when_false (bit new 3) _ _ e

  pub write_resets_none : From3To0 q.word old new → bit new 3 ≡ true → after.live ≡ w.live
  unfolding after_d3hot
  write_resets_none h e = ap (λ (y : Seat). y.live) (seat_d3hot h) ∙ when_true (bit new 3) _ _ e

-- ---- the root port

module _ (setup : Setup) (defaults : List ℕ) (s : State) where
  -- removing moves start one on, where there is a message
  removed_moves : s.port.queue.depth ≤ length s.cells → 0 < s.port.queue.depth → removed (length s.cells) s.port.queue ≡ moved_on (length s.cells) s.port.queue
  unfolding removed
  removed_moves h p = rw (ne_eqb s.port.queue.depth 0 (λ z. omega arith), ne_eqb (length s.cells) 0 (λ z. omega arith))

  removed_depth : s.port.queue.depth ≤ length s.cells → (removed (length s.cells) s.port.queue).depth ≡ s.port.queue.depth - 1
  removed_depth h =
      split (eqb s.port.queue.depth 0)
      (λ e. let z = eqb-true s.port.queue.depth 0 e in ap (λ (q : Queue). q.depth) (removed_none (length s.cells) s.port.queue z) ∙ omega arith)
      (λ e. ap (λ (q : Queue). q.depth) (removed_moves h (let n = eqb-false s.port.queue.depth 0 e in omega arith)))

  -- 09 takes the oldest of the queue's list by moving start one on, and changes no cell or status bit; on an empty queue it does nothing.
  pub removes : s.port.queue.depth ≤ length s.cells → Does (Removes s) (effect setup defaults s kind.RemoveOldest)
  unfolding effect place_of
  removes h = (
    record {
      list = removed_takes_head s.cells s.port.queue h;
      depth = removed_depth h;
      start = λ p. ap (λ (q : Queue). q.start) (removed_moves h p);
      empty = λ e. ap (λ (q : Queue). with_dev (with_queue s.port q) s) (removed_none (length s.cells) s.port.queue e);
      received = removed-received (length s.cells) s.port.queue;
      overflow = removed_overflow (length s.cells) s.port.queue;
      drs_received = refl;
      control = refl;
      rest = record { clock = refl; link = refl; owed = refl; statuses = refl; live = refl; cells = refl };
    },
    refl,
    refl,
  )

  -- 0A clears exactly the status bits where the mask has 1: 0 Received, 1 Overflow, 2 DRS Received; others ignored.
  pub clears_where_1 : (mask : ℕ) → Does (ClearsWhere1 mask s) (effect setup defaults s (kind.ClearBits mask))
  unfolding effect cleared_dev
  clears_where_1 mask = (
    record {
      received = clears (bit mask 0) s.port.queue.received;
      overflow = clears (bit mask 1) s.port.queue.overflow;
      drs_received = clears (bit mask 2) s.port.drs_received;
      start = refl;
      depth = refl;
      control = refl;
      rest = record { clock = refl; link = refl; owed = refl; statuses = refl; live = refl; cells = refl };
    },
    refl,
    refl,
  )
    where
      clears : (m b : Bool) → (b && not m) ≡ cond m false b
      clears = truth 2 (λ m b. b && not m) (λ m b. cond m false b) tt

  -- 0B sets the control bits.
  pub controls : (b : ℕ) → b ≤ 15 → b / 4 % 4 ≢ 3 → Does (Controls b s) (effect setup defaults s (kind.Control b))
  unfolding effect control_effect control_of
  controls b h n =
      rw (le-ltb 15 b h, ne_eqb (b / 4 % 4) 3 n) (
        record {
          visibility = refl;
          frs_interrupt = refl;
          signalling = refl;
          queue = refl;
          drs_received = refl;
          rest = record { clock = refl; link = refl; owed = refl; statuses = refl; live = refl; cells = refl };
        },
        refl,
        refl,
      )

-- the three status bits, numbered as in 0A, and no other
reads_status_bits : (d : Dev)
    → (bit (status_bits d) 0 ≡ d.queue.received) × (bit (status_bits d) 1 ≡ d.queue.overflow) × (bit (status_bits d) 2 ≡ d.drs_received) × (status_bits d < 8)
unfolding status_bits bit
reads_status_bits d =
    let r = d.queue.received in
    let o = d.queue.overflow in
    let s = d.drs_received in (
      truth 3 (λ r o s. bit (bits r o s) 0) (λ r o s. r) tt r o s,
      truth 3 (λ r o s. bit (bits r o s) 1) (λ r o s. o) tt r o s,
      truth 3 (λ r o s. bit (bits r o s) 2) (λ r o s. s) tt r o s,
      small r o s,
    )
  where
    bits : Bool → Bool → Bool → ℕ
    bits r o s = one r + 2 * one o + 4 * one s

    small : (r o s : Bool) → one r + 2 * one o + 4 * one s < 8
    small r o s = omega (arith, one_most r, one_most o, one_most s)

-- 0D reads them.
pub reads_bits : (setup : Setup) (defaults : List ℕ) (s : State) → ShowsBits s (data_of setup defaults s kind.ReadBits)
unfolding run effect answered
reads_bits setup defaults s =
    let b = reads_status_bits s.port in
    record { received = b.0; overflow = b.1; drs_received = b.2; others = b.3 }

-- ---- link up, link down, cold reset

-- Link up with the link down, before slots become Ready.
pub link_up : (setup : Setup) (defaults : List ℕ) (s : State) → s.port.link ≡ false → s.port.clock.0 ≤ 1000000000000000000 → setup.slots ≤ length s.statuses
    → Does (LinkedUp setup s) (effect setup defaults s kind.LinkUp)
unfolding effect link_up_effect
link_up setup defaults s e c n =
    either_way (Does (LinkedUp setup s)) s.port.link _ _ (λ up. absurd (true≢false (sym up ∙ e)))
    (λ down. (
      record {
        link = refl;
        owed = refl;
        slots = λ i h. link_up_starts setup s.port s.statuses i c h (omega arith);
        clock = refl;
        drs_received = refl;
        control = refl;
        queue = refl;
        cells = refl;
        live = refl;
      },
      refl,
      refl,
    ))

module _ (setup : Setup) (defaults : List ℕ) (s : State) (n : setup.slots ≤ length s.statuses) where
  all_down : (i : ℕ) → i < setup.slots → status_at (stopped_by_reset setup s.port s.statuses) i ≡ down
  all_down i h = each_at setup.slots (status_after_reset setup s.port) 0 s.statuses i (omega arith) (omega arith)

  -- Link down with the link up.
  pub link_down_lem : s.port.link ≡ true → Does (LinkedDown setup defaults s) (effect setup defaults s kind.LinkDown)
  unfolding effect link_down_effect after_link_down after_reset
  link_down_lem e =
      rw e (
        record {
          stopped = record { link = refl; owed = refl; slots = all_down; start = refl; depth = refl; drs_received = refl; cells = refl; clock = refl };
          control = refl;
          received = refl;
          overflow = refl;
          live = refl;
        },
        refl,
        refl,
      )

  -- Cold reset.
  pub cold_reset_lem : length s.live ≡ length defaults → Does (ColdStarted setup defaults s) (effect setup defaults s kind.ColdReset)
  unfolding effect cold_reset_effect after_cold_reset after_reset
  cold_reset_lem e = (
    record {
      stopped = record { link = refl; owed = refl; slots = all_down; start = refl; depth = refl; drs_received = refl; cells = refl; clock = refl };
      received = refl;
      overflow = refl;
      visibility = refl;
      frs_interrupt = refl;
      signalling = refl;
      live = cold_reset_defaults s.live defaults e;
    },
    refl,
    refl,
  )
