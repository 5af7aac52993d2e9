-- The data of an answer: that of a read that isn't done, by its status, and of a read that is done; no other record but 08 and 0D has any.
use Prim.Native.Nat.{ℕ, ◌+◌, ◌/◌, ◌%◌, ◌≤◌}
use native.Mathlib.Omega.{arith}
use mathlib.Core.Bool.{Bool, true, false, not, ◌||◌, cond, false≢true}
use mathlib.Core.List.{List}
use mathlib.Core.Logic.{◌≢◌}
use mathlib.Core.Path.{◌≡◌, refl, sym, ap, ◌∙◌}
use lib.Dec.{leb, ltb, eqb}
use borrow.Author.Tests.{eqb-true, ne_eqb}
use Rattle.bits.specs.Bits.{bit, one, number, word}
use Rattle.bits.proofs.Tests.{all_at, is_true, split}
use Rattle.registers.specs.Words.{lane_mask, hardware_set}
use Rattle.times.specs.Moments.{sum_of, clock_end}
use Rattle.std.specs.Prelude.{Option, Some, None}
use Rattle.messages.specs.declared.Message.{Message}
use Rattle.messages.specs.declared.Message.TheVariants.{Drs, Frs}
use Rattle.frs_queue.specs.Queue.{no_tally}
use Rattle.readiness.specs.declared.Setup.{Setup}
use Rattle.readiness.specs.Status.{is_ready, entry_of}
use Rattle.readiness.specs.Fields.{with_control}
use Rattle.records.specs.declared.Request.{Request}
use Rattle.records.specs.declared.Completion.TheVariants as completion
use Rattle.records.specs.declared.Crs.TheVariants.{Shown, VisibilityOff, NotVendorId}
use Rattle.records.specs.declared.Route.{Route}
use Rattle.records.specs.declared.Route.TheVariants as route
use Rattle.records.specs.declared.Record.{Record}
use Rattle.records.specs.declared.Record.TheVariants as kind
use Rattle.records.specs.State.{State, Seat, status_at, seat_of, slot_kind}
use Rattle.records.specs.Answer.{Effect, refused, does, Ran, answered, completion_number}
use Rattle.records.specs.Route.{route_completion, crs_data, read_data, refused_data, is_access}
use Rattle.records.specs.Requests.{word_at, written, read_effect, write_effect, hardware_effect, read_done, write_done}
use Rattle.records.specs.PortRecords.{Front, front, message_done, message_effect, control_of, control_effect}
use Rattle.records.specs.CardRecords.{advance_effect, link_up_effect, link_down_effect, cold_reset_effect}
use Rattle.records.specs.Run.{at_slot, at_port, front_of, effect, run}
use Rattle.records.specs.Statuses.{status_of, data_of, ff_in, RefusedReadData}
use Rattle.records.specs.EachKind.{gives_data}
use Rattle.records.proofs.Leaving.{routed, word_read, advanced_by, linked_up, linked_down}
use Rattle.records.proofs.Routes.{not_reached, reached, request_statuses}

-- the data of a read that isn't done: 16 has vendor bytes 0001h and FFh in other enabled bytes, 18 has FFh in enabled bytes, others none
abbrev not_done_data : (status enables : ℕ) → ℕ
not_done_data status enables = cond (eqb status 16) (crs_data enables) (cond (eqb status 18) (lane_mask enables) 0)

route_data : (enables : ℕ) (r : Route) → is_access r ≡ false → read_data enables r ≡ not_done_data (completion_number (route_completion r)) enables
route_data enables route.NoSlot e = refl
route_data enables route.NoWord e = refl
route_data enables route.BadEnables e = refl
route_data enables route.LinkDown e = refl
route_data enables (route.FlrInProgress end) e = refl
route_data enables (route.Starting cause t Shown) e = refl
route_data enables (route.Starting cause t VisibilityOff) e = refl
route_data enables (route.Starting cause t NotVendorId) e = refl
route_data enables route.Access e = absurd (false≢true (sym e))

-- with enables of at most 15, byte by byte
shown_bytes : (enables : ℕ) → enables ≤ 15 → crs_data enables ≡ one (bit enables 0) + ff_in enables 2 65536 + ff_in enables 3 16777216
unfolding crs_data word number bit
shown_bytes enables h =
    eqb-true _ _ (is_true _ (all_at 16 (λ e. eqb (crs_data e) (one (bit e 0) + ff_in e 2 65536 + ff_in e 3 16777216)) tt enables (omega arith)))

lane_bytes : (enables : ℕ) → enables ≤ 15 → lane_mask enables ≡ ff_in enables 0 1 + ff_in enables 1 256 + ff_in enables 2 65536 + ff_in enables 3 16777216
unfolding lane_mask word number bit
lane_bytes enables h =
    eqb-true _ _ (is_true _ (all_at 16 (λ e. eqb (lane_mask e) (ff_in e 0 1 + ff_in e 1 256 + ff_in e 2 65536 + ff_in e 3 16777216)) tt enables (omega arith)))

-- ---- the data of an effect

abbrev effect_data : {S : Type 0} → Effect S → ℕ
effect_data (refused c d) = d
effect_data (does t tally d) = d

data_answered : (setup : Setup) (s : State) (e : Effect State) → (answered setup s e).reply.«data» ≡ effect_data e
unfolding answered
data_answered setup s (refused c d) = refl
data_answered setup s (does t tally d) = refl

at_slot_data : (s : State) (slot : ℕ) (e : Effect Seat) → effect_data (at_slot s slot e) ≡ effect_data e
at_slot_data s slot (refused c d) = refl
at_slot_data s slot (does z tally d) = refl

at_port_data : (s : State) (e : Effect Front) → effect_data (at_port s e) ≡ effect_data e
at_port_data s (refused c d) = refl
at_port_data s (does p tally d) = refl

neither : {S : Type 0} (b : Bool) (x y : Effect S) → effect_data x ≡ 0 → effect_data y ≡ 0 → effect_data (cond b x y) ≡ 0
neither true x y p q = p
neither false x y p q = q

message_data : (port_id : ℕ) (m : Option Message) (p : Front) → effect_data (message_done port_id m p) ≡ 0
unfolding message_done
message_data port_id None p = refl
message_data port_id (Some (Drs id)) p = refl
message_data port_id (Some (Frs id reason)) p = refl

module _ (setup : Setup) (defaults : List ℕ) (s : State) where
  -- a read that isn't done has the data of its status
  read_data_lem : (q : Request) → status_of setup defaults s (kind.Read q) ≢ 0 → data_of setup defaults s (kind.Read q) ≡ not_done_data (status_of setup defaults s (kind.Read q)) q.enables
  read_data_lem q n =
      split (is_access (routed setup s true q)) (λ e. absurd (n (ap completion_number (reached setup defaults s true q 0 e))))
      (λ e.
      ap (λ (x : Ran State). x.reply.«data») (not_reached setup defaults s true q 0 e) ∙ route_data q.enables (routed setup s true q) e
      ∙ sym (ap (λ (x : Ran State). not_done_data (completion_number x.reply.completion) q.enables) (not_reached setup defaults s true q 0 e)))

  pub refused_read : (q : Request) → RefusedReadData setup defaults s q
  refused_read q =
      let statuses = request_statuses setup defaults s true q 0 in
      let status = status_of setup defaults s (kind.Read q) in
      record {
        shown = λ e.
            let h = statuses.shown.0 e in
            let w = h.1 in
            read_data_lem q (λ z. omega arith) ∙ ap (λ (n : ℕ). not_done_data n q.enables) e ∙ shown_bytes q.enables h.0.in_range.enables
            ∙ ap (λ (b : Bool). one b + ff_in q.enables 2 65536 + ff_in q.enables 3 16777216) w.low;
        unsupported = λ e.
            read_data_lem q (λ z. omega arith) ∙ ap (λ (n : ℕ). not_done_data n q.enables) e ∙ lane_bytes q.enables (statuses.unsupported.0 e).0.enables;
        other = λ z a b.
            read_data_lem q z ∙ ap (λ (t : Bool). cond t (crs_data q.enables) (cond (eqb status 18) (lane_mask q.enables) 0)) (ne_eqb status 16 a)
            ∙ ap (λ (t : Bool). cond t (lane_mask q.enables) 0) (ne_eqb status 18 b);
      }

  -- Every other record has data 0, whatever its status, but for 08 and 0D.
  pub no_data_lem : (r : Record) → gives_data r ≡ false → data_of setup defaults s r ≡ 0
  unfolding run effect advance_effect link_up_effect link_down_effect cold_reset_effect message_effect write_effect hardware_effect control_effect
  no_data_lem (kind.Advance by) n =
      data_answered setup s (advance_effect by s)
      ∙ neither (leb (sum_of s.port.clock by).0 clock_end) (does (advanced_by by s) no_tally 0) (refused completion.ClockEnd 0) refl refl
  no_data_lem (kind.Read q) n = absurd (false≢true (sym n))
  no_data_lem (kind.Write q value) n =
      let x = write_effect setup.slots (slot_kind setup q.slot) (entry_of setup q.slot) defaults q value (seat_of s q.slot) in
      data_answered setup s (at_slot s q.slot x) ∙ at_slot_data s q.slot x
      ∙ neither (is_access (routed setup s false q)) (write_done (slot_kind setup q.slot) (entry_of setup q.slot) defaults q value (seat_of s q.slot)) (refused (route_completion (routed setup s false q)) 0) refl refl
  no_data_lem (kind.Message m) n =
      data_answered setup s (effect setup defaults s (kind.Message m)) ∙ at_port_data s (message_effect setup.port_id m (front_of s))
      ∙ neither s.port.link (message_done setup.port_id m (front_of s)) (refused completion.WrongState 0) (message_data setup.port_id m (front_of s)) refl
  no_data_lem kind.LinkUp n = data_answered setup s (link_up_effect setup s) ∙ neither s.port.link (refused completion.WrongState 0) (does (linked_up setup s) no_tally 0) refl refl
  no_data_lem kind.LinkDown n =
      data_answered setup s (link_down_effect setup defaults s) ∙ neither s.port.link (does (linked_down setup defaults s) no_tally 0) (refused completion.WrongState 0) refl refl
  no_data_lem kind.ColdReset n = data_answered setup s (cold_reset_effect setup defaults s)
  no_data_lem kind.ReadQueue n = absurd (false≢true (sym n))
  no_data_lem kind.RemoveOldest n = data_answered setup s (effect setup defaults s kind.RemoveOldest)
  no_data_lem (kind.ClearBits mask) n = data_answered setup s (effect setup defaults s (kind.ClearBits mask))
  no_data_lem (kind.Control b) n =
      data_answered setup s (effect setup defaults s (kind.Control b)) ∙ at_port_data s (control_effect b (front_of s))
      ∙ neither (ltb 15 b || eqb (b / 4 % 4) 3) (refused completion.BadValue 0) (does (front (with_control s.port (control_of b)) s.cells) no_tally 0) refl refl
  no_data_lem (kind.HardwareSet slot word mask) n =
      let x = hardware_effect setup.slots (slot_kind setup slot) slot word mask (seat_of s slot) in
      let z : Effect Seat = does (written slot word (hardware_set (slot_kind setup slot) word (word_at s.live slot word) mask) (seat_of s slot)) no_tally 0 in
      let y : Effect Seat = cond (not (is_ready (status_at s.statuses slot))) (refused completion.WrongState 0) z in
      data_answered setup s (at_slot s slot x) ∙ at_slot_data s slot x
      ∙ neither (not (ltb slot setup.slots)) (refused completion.NoSlot 0) (cond (ltb 63 word) (refused completion.NoWord 0) y) refl
      (neither (ltb 63 word) (refused completion.NoWord 0) y refl (neither (not (is_ready (status_at s.statuses slot))) (refused completion.WrongState 0) z refl refl))
  no_data_lem kind.ReadBits n = absurd (false≢true (sym n))
  no_data_lem kind.NoKind n = data_answered setup s (effect setup defaults s kind.NoKind)

  -- A read that is done has the word as a read gives it.
  pub read_done_data : (q : Request) → is_access (routed setup s true q) ≡ true → data_of setup defaults s (kind.Read q) ≡ word_read setup s q
  unfolding run effect answered read_effect
  read_done_data q e =
      let r = routed setup s true q in
      ap (λ (b : Bool).
      (answered setup s (at_slot s q.slot (cond b (read_done (slot_kind setup q.slot) q (seat_of s q.slot)) (refused (route_completion r) (refused_data true q.enables r))))).reply.«data») e
