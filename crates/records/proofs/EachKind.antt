-- WHAT EACH KIND OF RECORD DOES, proved as specs/EachKind.antt states it.
use Prim.Native.Nat.{ℕ}
use native.Mathlib.Omega.{arith}
use mathlib.Core.Bool.{true}
use mathlib.Core.List.{List}
use mathlib.Core.Path.{◌≡◌, refl, ap, sym, ◌∙◌}
use lib.ListN.{set}
use borrow.Author.Tests.{lt-ltb, le-ltb}
use Rattle.registers.specs.Words.{hardware_set}
use Rattle.frs_queue.specs.Queue.{register_of}
use Rattle.readiness.specs.declared.Setup.{Setup}
use Rattle.readiness.specs.Status.{ready_phase, is_ready}
use Rattle.records.specs.declared.Record.TheVariants as kind
use Rattle.records.specs.State.{State, status_at, word_place, slot_kind}
use Rattle.records.specs.Answer.{answered}
use Rattle.records.specs.Requests.{word_at, hardware_effect}
use Rattle.records.specs.Run.{effect, run}
use Rattle.records.specs.Statuses.{status_of}
use Rattle.records.specs.EachKind.{LinkedDown, ColdStarted, Removes, ClearsWhere1, Controls, EachKind, EveryKind}
use Rattle.records.proofs.Routes.{answered_0}
use Rattle.records.proofs.Data.{no_data_lem, read_done_data}
use Rattle.records.proofs.Laws.{advance_adds, clock_stays_lem, device_control_reads_0, other_slots_lem}
use Rattle.records.proofs.Clauses.{link_up, link_down_lem, cold_reset_lem, removes, clears_where_1, controls, reads_bits}
use Rattle.records.proofs.AtOnce.{ends}
use Rattle.records.proofs.Stays.{no_change, write_port_lem, write_drs_lem, message_port_lem, message_card_lem, frs-drs, hardware_alone_lem}
use Rattle.records.proofs.Starts.{after-advance, link_up_ends_lem, after_link_up, after_write}
use Rattle.records.proofs.Statuses.{statuses}
use Rattle.records.proofs.Sending.{drs-sets, drs_owed_lem}

module _ (setup : Setup) (defaults : List ℕ) (s : State) where
  hardware_sets : (slot word mask : ℕ) → status_of setup defaults s (kind.HardwareSet slot word mask) ≡ 0
      → (run setup defaults s (kind.HardwareSet slot word mask)).after.live
      ≡ set s.live (word_place slot word) (hardware_set (slot_kind setup slot) word (word_at s.live slot word) mask)
  unfolding run effect answered hardware_effect
  hardware_sets slot word mask z =
      let h = ((statuses setup defaults s).hardware slot word mask).done.0 z in
      let e : is_ready (status_at s.statuses slot) ≡ true = ap ready_phase h.2 in
      rw (lt-ltb slot setup.slots h.0, le-ltb 63 word h.1, e)

  queue_shown : (run setup defaults s kind.ReadQueue).reply.«data» ≡ register_of s.cells s.port.queue
  unfolding run effect answered
  queue_shown = refl

  kinds : EachKind setup defaults s
  kinds =
      record {
        advance = advance_adds setup defaults s;
        advance_leaves = after-advance setup defaults s;
        clock_stays = clock_stays_lem setup defaults s;
        read = λ q z. read_done_data setup defaults s q (answered_0 setup defaults s true q 0 z);
        reads_zero = device_control_reads_0 setup defaults s;
        write = λ q value z c n. after_write setup defaults s c n q value z;
        hardware = hardware_sets;
        other_slots = other_slots_lem setup defaults s;
        drs = drs-sets setup defaults s;
        drs_owed = drs_owed_lem setup defaults s;
        link_up = λ e c. link_up setup defaults s e (omega arith);
        link_up_slots = after_link_up setup defaults s;
        link_up_ends = link_up_ends_lem setup defaults s;
        link_down = link_down_lem setup defaults s;
        cold_reset = cold_reset_lem setup defaults s;
        read_queue = queue_shown;
        remove = removes setup defaults s;
        clear = clears_where_1 setup defaults s;
        control = controls setup defaults s;
        read_bits = reads_bits setup defaults s;
        no_change = no_change setup defaults s;
        write_port = write_port_lem setup defaults s;
        write_drs = write_drs_lem setup defaults s;
        message_port = message_port_lem setup defaults s;
        message_card = message_card_lem setup defaults s;
        frs_drs = frs-drs setup defaults s;
        hardware_alone = hardware_alone_lem setup defaults s;
        link_down_ends = λ sound fits e. ends setup defaults s sound fits (LinkedDown setup defaults s) kind.LinkDown refl (link_down_lem setup defaults s fits.slots e);
        cold_reset_ends = λ sound fits. ends setup defaults s sound fits (ColdStarted setup defaults s) kind.ColdReset refl (cold_reset_lem setup defaults s fits.slots (fits.words ∙ sym fits.default_words));
        remove_ends = λ sound fits. ends setup defaults s sound fits (Removes s) kind.RemoveOldest refl (removes setup defaults s sound.depth);
        clear_ends = λ sound fits mask. ends setup defaults s sound fits (ClearsWhere1 mask s) (kind.ClearBits mask) refl (clears_where_1 setup defaults s mask);
        control_ends = λ sound fits b h n. ends setup defaults s sound fits (Controls b s) (kind.Control b) refl (controls setup defaults s b h n);
        no_data = no_data_lem setup defaults s;
      }

-- EACH KIND
pub each_kind : EveryKind
each_kind = kinds
