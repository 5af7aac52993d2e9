-- What a record leaves before slots become Ready: the root port as the record itself leaves it, with the record's own messages arrived.
use Prim.Native.Nat.{ℕ, ◌-◌, ◌≤◌}
use native.Mathlib.Omega.{arith}
use mathlib.Core.Bool.{Bool, true, false, not, ◌&&◌, ◌||◌, or-false, or-true, and-true, and-false}
use mathlib.Core.List.{List, [], ◌∷◌}
use mathlib.Core.Path.{◌≡◌, refl, sym, ap, ◌∙◌}
use lib.Dec.{eqb}
use lib.ListN.{length, length-set}
use Rattle.bits.proofs.Choices.{either_way}
use Rattle.bits.specs.Bits.{one}
use Rattle.std.specs.Prelude.{Option, Some, None}
use Rattle.messages.specs.declared.Message.{Message}
use Rattle.messages.specs.declared.Message.TheVariants.{Drs, Frs}
use Rattle.frs_queue.specs.declared.Frs as queue_frs
use Rattle.frs_queue.specs.declared.Tally.{Tally}
use Rattle.frs_queue.specs.Queue.{no_tally, arrive_all, removed, messages_of}
use Rattle.frs_queue.proofs.Laws.{removed_takes_head, removed-received, removed_overflow, emptied_holds_nothing}
use Rattle.frs_queue.proofs.Several.{fresh}
use Rattle.readiness.specs.declared.Status.{Status}
use Rattle.readiness.specs.declared.Setup.{Setup}
use Rattle.readiness.specs.declared.Dev.{Dev}
use Rattle.readiness.specs.Status.{entry_of, each_from, after_reset, after_link_down, after_cold_reset}
use Rattle.readiness.specs.Root.{ring_of, frs_arrive, frs_of_drs, drs_interrupt, drs_set, drs_arrives}
use Rattle.readiness.proofs.Clauses.{each-length}
use Rattle.readiness.proofs.Sent.{with_drs, arrive_all-drs, no_drs}
use Rattle.records.specs.declared.Record.{Record}
use Rattle.records.specs.declared.Record.TheVariants.{Advance, Read, Write, Message as MessageRecord, LinkUp, LinkDown, ColdReset, ReadQueue, RemoveOldest, ClearBits, Control, HardwareSet, ReadBits, NoKind}
use Rattle.records.specs.State.{State, seat_of, root_of, slot_kind}
use Rattle.readiness.specs.Fields.{with_queue, with_control}
use Rattle.records.specs.PortRecords.{cleared_dev, control_of}
use Rattle.records.specs.Arrivals.{of_record}
use Rattle.records.proofs.Leaving.{Every}
use Rattle.records.proofs.Laws.{write_dev, write_cells}
use Rattle.records.specs.Counts.{kept_by, clears_bit}

-- the root port as messages find it
abbrev pub found_by : State → Record → Dev
found_by s (Advance by) = s.port
found_by s (Read q) = s.port
found_by s (Write q value) = s.port
found_by s (MessageRecord m) = s.port
found_by s LinkUp = s.port
found_by s LinkDown = after_link_down s.port
found_by s ColdReset = after_cold_reset s.port
found_by s ReadQueue = s.port
found_by s RemoveOldest = with_queue s.port (removed (length s.cells) s.port.queue)
found_by s (ClearBits mask) = cleared_dev mask s.port
found_by s (Control b) = with_control s.port (control_of b)
found_by s (HardwareSet slot word mask) = s.port
found_by s ReadBits = s.port
found_by s NoKind = s.port

-- a DRS comes as a message
abbrev drs_message : Option Message → Bool
drs_message None = false
drs_message (Some (Drs id)) = true
drs_message (Some (Frs id reason)) = false

abbrev pub is_drs : Record → Bool
is_drs (Advance by) = false
is_drs (Read q) = false
is_drs (Write q value) = false
is_drs (MessageRecord m) = drs_message m
is_drs LinkUp = false
is_drs LinkDown = false
is_drs ColdReset = false
is_drs ReadQueue = false
is_drs RemoveOldest = false
is_drs (ClearBits mask) = false
is_drs (Control b) = false
is_drs (HardwareSet slot word mask) = false
is_drs ReadBits = false
is_drs NoKind = false

-- what a done record leaves before slots become Ready is what the port was found as, with the record's own messages arrived
pub record Opens (setup : Setup) (s : State) (r : Record) (t : State) (tally : Tally) : Type 0 where
  pub ring : ring_of (root_of t tally) ≡ with_drs (is_drs r && drs_interrupt (found_by s r)) (arrive_all (found_by s r).control.frs_interrupt (of_record setup s r) (fresh s.cells (found_by s r).queue))
  pub control : t.port.control ≡ (found_by s r).control
  pub drs : t.port.drs_received ≡ ((found_by s r).drs_received || is_drs r)
  pub list : s.port.queue.depth ≤ length s.cells → messages_of s.cells (found_by s r).queue ≡ kept_by s r
  pub slots : length t.statuses ≡ length s.statuses

abbrev pub OpensAs : Setup → State → Record → State → Tally → ℕ → Type 0
OpensAs setup s r t tally d = Opens setup s r t tally

-- a record that changes nothing of the port itself
quiet : (setup : Setup) (s : State) (r : Record) (t : State) → t.cells ≡ s.cells → t.port.queue ≡ (found_by s r).queue → t.port.control ≡ (found_by s r).control
    → t.port.drs_received ≡ (found_by s r).drs_received → is_drs r ≡ false → of_record setup s r ≡ [] → length t.statuses ≡ length s.statuses
    → (s.port.queue.depth ≤ length s.cells → messages_of s.cells (found_by s r).queue ≡ kept_by s r) → Opens setup s r t no_tally
unfolding arrive_all
quiet setup s r t cells queue control drs is none slots list =
    record {
      ring =
          (λ i. record { cells = cells i; queue = queue i; tally = no_tally })
          ∙ sym (ap (λ (b : Bool). with_drs (b && drs_interrupt (found_by s r)) (arrive_all (found_by s r).control.frs_interrupt (of_record setup s r) (fresh s.cells (found_by s r).queue))) is
          ∙ ap (λ (l : List queue_frs.Frs). with_drs false (arrive_all (found_by s r).control.frs_interrupt l (fresh s.cells (found_by s r).queue))) none);
      control = control;
      drs = drs ∙ sym (ap (λ (b : Bool). (found_by s r).drs_received || b) is ∙ or-false _);
      list = list;
      slots = slots;
    }

pub opens : (setup : Setup) (defaults : List ℕ) (s : State) → Every (OpensAs setup s) setup defaults s
unfolding frs_arrive drs_arrives drs_set cleared_dev after_reset after_link_down after_cold_reset messages_of
opens setup defaults s =
    let each : (f : ℕ → Status) → length (each_from 0 setup.slots f s.statuses) ≡ length s.statuses = λ f. each-length 0 setup.slots f s.statuses in
    record {
      advance = λ by e. quiet setup s (Advance by) _ refl refl refl refl refl refl refl (λ h. refl);
      read = λ q e. quiet setup s (Read q) s refl refl refl refl refl refl refl (λ h. refl);
      write =
          λ q value e.
          let same = write_dev (slot_kind setup q.slot) (entry_of setup q.slot) defaults q value (seat_of s q.slot) in
          quiet setup s (Write q value) _ (write_cells (slot_kind setup q.slot) (entry_of setup q.slot) defaults q value (seat_of s q.slot)) (ap (λ (d : Dev). d.queue) same)
          (ap (λ (d : Dev). d.control) same) (ap (λ (d : Dev). d.drs_received) same) refl refl (length-set s.statuses q.slot _) (λ h. refl);
      drs =
          λ id e.
          record {
            ring = arrive_all-drs (drs_interrupt s.port) s.port.control.frs_interrupt (frs_of_drs setup.port_id s.port) (fresh s.cells s.port.queue);
            control = refl;
            drs = sym (or-true s.port.drs_received);
            list = λ h. refl;
            slots = refl;
          };
      frs = λ id reason e. record { ring = no_drs _; control = refl; drs = sym (or-false s.port.drs_received); list = λ h. refl; slots = refl };
      link_up = λ e. quiet setup s LinkUp _ refl refl refl refl refl refl (each _) (λ h. refl);
      link_down = λ e. quiet setup s LinkDown _ refl refl refl refl refl refl (each _) (λ h. emptied_holds_nothing s.cells s.port.queue);
      cold_reset = quiet setup s ColdReset _ refl refl refl refl refl refl (each _) (λ h. emptied_holds_nothing s.cells s.port.queue);
      read_queue = quiet setup s ReadQueue s refl refl refl refl refl refl refl (λ h. refl);
      remove_oldest = quiet setup s RemoveOldest _ refl refl refl refl refl refl refl (λ h. removed_takes_head s.cells s.port.queue h);
      clear_bits = λ mask. quiet setup s (ClearBits mask) _ refl refl refl refl refl refl refl (λ h. refl);
      control = λ b. quiet setup s (Control b) _ refl refl refl refl refl refl refl (λ h. refl);
      hardware_set = λ slot word mask e. quiet setup s (HardwareSet slot word mask) _ refl refl refl refl refl refl refl (λ h. refl);
      read_bits = quiet setup s ReadBits s refl refl refl refl refl refl refl (λ h. refl);
      no_kind = quiet setup s NoKind s refl refl refl refl refl refl refl (λ h. refl);
    }

-- a record has at most one message of its own
pub own_most : (setup : Setup) (s : State) (r : Record) → length (of_record setup s r) ≤ 1
unfolding frs_of_drs
own_most setup s (Advance by) = omega arith
own_most setup s (Read q) = omega arith
own_most setup s (Write q value) = omega arith
own_most setup s (MessageRecord None) = omega arith
own_most setup s (MessageRecord (Some (Drs id))) =
    either_way (λ (l : List queue_frs.Frs). length l ≤ 1) (not s.port.drs_received && eqb s.port.control.signalling 2) (record { id = setup.port_id; reason = 1 } ∷ []) []
    (λ e. omega arith) (λ e. omega arith)
own_most setup s (MessageRecord (Some (Frs id reason))) = omega arith
own_most setup s LinkUp = omega arith
own_most setup s LinkDown = omega arith
own_most setup s ColdReset = omega arith
own_most setup s ReadQueue = omega arith
own_most setup s RemoveOldest = omega arith
own_most setup s (ClearBits mask) = omega arith
own_most setup s (Control b) = omega arith
own_most setup s (HardwareSet slot word mask) = omega arith
own_most setup s ReadBits = omega arith
own_most setup s NoKind = omega arith

-- Received and Overflow where the record found the port: as they were, but for those that it clears
abbrev pub FoundBits : State → Record → Type 0
FoundBits s r =
    ((found_by s r).queue.received ≡ (s.port.queue.received && not (clears_bit 0 r))) × ((found_by s r).queue.overflow ≡ (s.port.queue.overflow && not (clears_bit 1 r)))

pub found_bits : (s : State) (r : Record) → FoundBits s r
unfolding cleared_dev after_reset after_link_down after_cold_reset
found_bits s r = by r
  where
    as_were : (s.port.queue.received ≡ (s.port.queue.received && true)) × (s.port.queue.overflow ≡ (s.port.queue.overflow && true))
    as_were = (sym (and-true s.port.queue.received), sym (and-true s.port.queue.overflow))

    by : (r : Record) → FoundBits s r
    by (Advance n) = as_were
    by (Read q) = as_were
    by (Write q value) = as_were
    by (MessageRecord m) = as_were
    by LinkUp = as_were
    by LinkDown = as_were
    by ColdReset = (sym (and-false s.port.queue.received), sym (and-false s.port.queue.overflow))
    by ReadQueue = as_were
    by RemoveOldest = (removed-received (length s.cells) s.port.queue ∙ as_were.0, removed_overflow (length s.cells) s.port.queue ∙ as_were.1)
    by (ClearBits mask) = (refl, refl)
    by (Control b) = as_were
    by (HardwareSet slot word mask) = as_were
    by ReadBits = as_were
    by NoKind = as_were
