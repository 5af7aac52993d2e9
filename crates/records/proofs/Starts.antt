-- Advances, link up, and writes that are done: the slot's status after the record, and the live registers.
use Prim.Native.Nat.{ℕ, ◌+◌, ◌≤◌, ◌<◌}
use native.Mathlib.Omega.{arith}
use mathlib.Core.Bool.{Bool, true, false, not, ◌&&◌, ◌||◌, cond}
use mathlib.Core.List.{List}
use mathlib.Core.Path.{◌≡◌, refl, sym, ap, subst, ◌∙◌}
use lib.Dec.{leb, eqb}
use lib.ListN.{length, set}
use lib.Seq.{get_or-set_same}
use borrow.Author.Tests.{leb-true, le-leb, eqb-true, eq-eqb}
use Rattle.bits.proofs.Tests.{same_test, untrue}
use Rattle.times.specs.declared.Nanos.{Nanos}
use Rattle.times.specs.Codes.{nanos_of}
use Rattle.times.specs.Moments.{sum_of, clock_end}
use Rattle.registers.specs.declared.Kind.{Kind}
use Rattle.registers.specs.Rows.{flr_capability_word, starts_flr}
use Rattle.frs_queue.specs.declared.Tally.{Tally}
use Rattle.frs_queue.specs.Queue.{no_tally}
use Rattle.readiness.specs.declared.Cause.{Cause}
use Rattle.readiness.specs.declared.Cause.TheVariants as cause
use Rattle.readiness.specs.declared.Phase.{Phase}
use Rattle.readiness.specs.declared.Phase.TheVariants.{Down, Pending, Ready}
use Rattle.readiness.specs.declared.Status.{Status}
use Rattle.readiness.specs.declared.Slot.{Slot}
use Rattle.readiness.specs.declared.Setup.{Setup}
use Rattle.readiness.specs.declared.Dev.{Dev}
use Rattle.readiness.specs.Status.{ready, entry_of, all_ready}
use Rattle.readiness.specs.Settle.{advances}
use Rattle.readiness.proofs.Order.{phase_by}
use Rattle.readiness.proofs.Scenes.{settled_statuses, settled_kept}
use Rattle.readiness.proofs.Clauses.{at}
use Rattle.records.specs.declared.Request.{Request}
use Rattle.records.specs.declared.Record.TheVariants as kind
use Rattle.records.specs.State.{State, Seat, status_at, phase_at, seat_of, put_back, scene_of, slot_kind}
use Rattle.records.specs.Answer.{Effect, refused, does, Ran, answered}
use Rattle.records.specs.Route.{route_completion, refused_data, is_access}
use Rattle.records.specs.Requests.{word_at, write_effect, write_done}
use Rattle.records.specs.declared.Completion.TheVariants as completion
use Rattle.records.specs.CardRecords.{link_up_effect}
use Rattle.records.specs.Run.{at_slot, effect, run}
use Rattle.records.specs.Statuses.{status_of}
use Rattle.records.specs.EachKind.{Does, phase_once, Advances, AsksFlr, pending_for, WriteLeaves, LinkedUp, LinkUpEnds}
use Rattle.records.proofs.Clauses.{starts_flr_exactly, seat_other, write_starts_flr, write_starts_d3hot, write_starts_nothing, write_resets_flr, write_resets_d3hot, write_resets_none, link_up}
use Rattle.records.proofs.Leaving.{routed, seat_written, advanced_by, linked_up}
use Rattle.records.proofs.Routes.{access_facts, answered_0}
use Rattle.records.proofs.Laws.{write_dev, plain_sum, advance-runs}
use Rattle.records.proofs.Sending.{told-drs, told_owed}
use Rattle.records.proofs.SlotsKept.{at_ready_by}

-- ---- advance

phase_once_lem : (clock : Nanos) (p : Phase) → phase_by clock p ≡ phase_once clock.0 p
phase_once_lem clock Down = refl
phase_once_lem clock Ready = refl
phase_once_lem clock (Pending c t) = refl

-- After an advance that is done each slot is Ready if its ready time has come, else as it was; the live registers stay.
pub after-advance : (setup : Setup) (defaults : List ℕ) (s : State) (by : Nanos) → s.port.clock.0 + by.0 ≤ clock_end
    → Advances setup s (s.port.clock.0 + by.0) (run setup defaults s (kind.Advance by)).after
unfolding advances
after-advance setup defaults s by h =
    let to = sum_of s.port.clock by in
    let x = scene_of (advanced_by by s) no_tally in
    let kept = settled_kept setup x in
    subst (λ (y : Ran State). Advances setup s (s.port.clock.0 + by.0) y.after) (sym (advance-runs setup defaults s by h))
    (record {
      slots = λ i.
          ap (λ (l : List Status). (status_at l i).phase) (settled_statuses setup x) ∙ ap (λ (v : Status). v.phase) (at_ready_by to s.statuses i)
          ∙ phase_once_lem to (phase_at s i) ∙ ap (λ (n : ℕ). phase_once n (phase_at s i)) (plain_sum s.port.clock by h);
      drs_received = told-drs setup x ∙ sym (ap (λ (l : List Status). s.port.drs_received || (s.port.owed && all_ready setup l)) (settled_statuses setup x));
      owed = told_owed setup x ∙ sym (ap (λ (l : List Status). s.port.owed && not (all_ready setup l)) (settled_statuses setup x));
      link = kept.link;
      control = kept.control;
      live = refl;
    })

-- ---- link up and writes

for_time : (clock : Nanos) (cause : Cause) (t : ℕ) → record { phase = phase_by clock (Pending cause (at (clock.0 + t))) } ≡ pending_for cause clock.0 t
for_time clock cause t =
    ap (λ (b : Bool). record { phase = cond b Ready (Pending cause (at (clock.0 + t))) })
    (same_test (leb (clock.0 + t) clock.0) (eqb t 0) (λ e. let h = leb-true (clock.0 + t) clock.0 e in eq-eqb t 0 (omega arith))
    (λ e. let h = eqb-true t 0 e in le-leb (clock.0 + t) clock.0 (omega arith)))

-- Once link up is answered a DRS is owed, unless all slots are Ready at once and DRS Received is set.
pub link_up_ends_lem : (setup : Setup) (defaults : List ℕ) (s : State) → s.port.link ≡ false → LinkUpEnds setup s (run setup defaults s kind.LinkUp).after
unfolding run effect link_up_effect answered
link_up_ends_lem setup defaults s e =
    let x = scene_of (linked_up setup s) no_tally in
    let kept = settled_kept setup x in
    subst (λ (b : Bool). LinkUpEnds setup s (answered setup s (cond b (refused completion.WrongState 0) (does (linked_up setup s) no_tally 0))).after) (sym e)
    (record {
      link = kept.link;
      drs_received = told-drs setup x ∙ sym (ap (λ (l : List Status). s.port.drs_received || all_ready setup l) (settled_statuses setup x));
      owed = told_owed setup x ∙ sym (ap (λ (l : List Status). not (all_ready setup l)) (settled_statuses setup x));
      control = kept.control;
      live = refl;
    })

module _ (setup : Setup) (defaults : List ℕ) (s : State) (c : s.port.clock.0 ≤ clock_end) (n : setup.slots ≤ length s.statuses) where
  settled_at : (t : State) (tally : Tally) (d i : ℕ) → status_at (answered setup s (does t tally d)).after.statuses i ≡ record { phase = phase_by t.port.clock (status_at t.statuses i).phase }
  unfolding answered
  settled_at t tally d i = ap (λ (l : List Status). status_at l i) (settled_statuses setup (scene_of t tally)) ∙ at_ready_by t.port.clock t.statuses i

  -- After link up slot i is Pending until c + its own DL Up Time, or Ready at once where that is 0.
  pub after_link_up : (i : ℕ) → s.port.link ≡ false → i < setup.slots
      → status_at (run setup defaults s kind.LinkUp).after.statuses i ≡ pending_for cause.LinkUp s.port.clock.0 (nanos_of (entry_of setup i).dl_up).0
  unfolding run
  after_link_up i e h = by (effect setup defaults s kind.LinkUp) (link_up setup defaults s e (omega arith) n)
    where
      time : ℕ
      time = (nanos_of (entry_of setup i).dl_up).0

      by : (x : Effect State) → Does (LinkedUp setup s) x → status_at (answered setup s x).after.statuses i ≡ pending_for cause.LinkUp s.port.clock.0 time
      by (refused completion d) l = absurd l
      by (does t tally d) l =
          settled_at t tally d i ∙ ap (λ (v : Status). record { phase = phase_by t.port.clock v.phase }) (l.0.slots i h)
          ∙ ap (λ (clock : Nanos). record { phase = phase_by clock (Pending cause.LinkUp (at (s.port.clock.0 + time))) }) l.0.clock ∙ for_time s.port.clock cause.LinkUp time

  -- a write that is answered 0
  module _ (q : Request) (value : ℕ) (done : status_of setup defaults s (kind.Write q value) ≡ 0) where
    abbrev slot_is : Kind
    slot_is = slot_kind setup q.slot

    abbrev entry : Slot
    entry = entry_of setup q.slot

    abbrev flr : Bool
    flr = starts_flr slot_is q.word value q.enables (word_at defaults q.slot (flr_capability_word slot_is))

    -- what it leaves of its slot, before and after slots become Ready
    abbrev y : Seat
    y = seat_written setup defaults s q value

    abbrev left : State
    left = (run setup defaults s (kind.Write q value)).after

    access : is_access (routed setup s false q) ≡ true
    access = answered_0 setup defaults s false q value done

    ran : run setup defaults s (kind.Write q value) ≡ answered setup s (does (put_back s q.slot y) no_tally 0)
    unfolding run effect write_effect
    ran =
        let r = routed setup s false q in
        ap (λ (b : Bool). answered setup s (at_slot s q.slot (cond b (write_done slot_is entry defaults q value (seat_of s q.slot)) (refused (route_completion r) (refused_data false q.enables r))))) access

    live_is : left.live ≡ y.live
    unfolding answered
    live_is = ap (λ (x : Ran State). x.after.live) ran

    status_is : (v : Status) → y.status ≡ v → status_at left.statuses q.slot ≡ record { phase = phase_by s.port.clock v.phase }
    status_is v e =
        let slot = (access_facts setup s false q access).0.slot in
        ap (λ (x : Ran State). status_at x.after.statuses q.slot) ran
        ∙ settled_at (put_back s q.slot y) no_tally 0 q.slot
        ∙ ap (λ (d : Dev). record { phase = phase_by d.clock (status_at (set s.statuses q.slot y.status) q.slot).phase }) (write_dev slot_is entry defaults q value (seat_of s q.slot))
        ∙ ap (λ (v : Status). record { phase = phase_by s.port.clock v.phase }) (get_or-set_same s.statuses q.slot y.status ready (omega arith) ∙ e)

    starts : AsksFlr defaults q value → flr ≡ true
    starts h = (starts_flr_exactly setup defaults q value).1 h

    starts_not : (AsksFlr defaults q value → ⊥) → flr ≡ false
    starts_not h = untrue flr (λ e. h ((starts_flr_exactly setup defaults q value).0 e))

    pub after_write : WriteLeaves setup defaults s q value left
    after_write =
        let z = seat_of s q.slot in
        record {
          flr = λ h. status_is _ (write_starts_flr slot_is entry defaults q value z (omega arith) (starts h)) ∙ for_time s.port.clock _ _;
          flr_registers = λ h. live_is ∙ write_resets_flr slot_is entry defaults q value z (starts h);
          d3hot = λ h. status_is _ (write_starts_d3hot slot_is entry defaults q value z (omega arith) h) ∙ for_time s.port.clock _ _;
          d3hot_registers = λ h e. live_is ∙ write_resets_d3hot slot_is entry defaults q value z h e;
          no_soft_reset = λ h e. live_is ∙ write_resets_none slot_is entry defaults q value z h e;
          other = λ f h.
              status_is z.status (write_starts_nothing slot_is entry defaults q value z (starts_not f) h)
              ∙ ap (λ (p : Phase). record { phase = phase_by s.port.clock p }) (access_facts setup s false q access).2;
          other_registers = λ f h. live_is ∙ ap (λ (x : Seat). x.live) (seat_other slot_is entry defaults q value z (starts_not f) h);
        }
