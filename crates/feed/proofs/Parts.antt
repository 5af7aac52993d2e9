-- A record of a call's trace: each part of the state as code runs it.
use Prim.Native.Nat.{ℕ}
use mathlib.Core.Path.{◌≡◌, ap, sym, ◌∙◌}
use mathlib.Core.List.{List}
use lib.ListN.{set}
use Rattle.trace.specs.Format.{pad, longest}
use Rattle.trace.specs.Bench.{Ran as RanBytes}
use Rattle.readiness.specs.declared.Status.{Status}
use Rattle.readiness.specs.declared.Setup.{Setup}
use Rattle.readiness.specs.declared.Dev.{Dev}
use Rattle.readiness.specs.Status.{entry_of}
use Rattle.records.specs.declared.Record.{Record}
use Rattle.records.specs.declared.Reply.{Reply}
use Rattle.records.specs.declared.Part.TheVariants.{OneSlot, PortAlone, WholeCard}
use Rattle.records.specs.declared.SlotDone.{SlotDone}
use Rattle.records.specs.declared.PortDone.{PortDone}
use Rattle.records.specs.State.{State, state, status_at, seat, slot_kind}
use Rattle.records.specs.Decode.{decode}
use Rattle.records.specs.Answer.{Ran, answer_bytes}
use Rattle.records.specs.PortRecords.{front}
use Rattle.records.specs.Run.{run}
use Rattle.records.specs.Sound.{Sound, Fitting}
use Rattle.records.specs.inner.Parts.{part_of, slot_run, slot_ran, slot_put, port_run, port_ran, port_put, card_run, card_ran}
use Rattle.records.proofs.Parted.{run_slot, run_port, run-card}
use Rattle.records.specs.Device.{in_bytes, device}
use Rattle.feed.specs.inner.Turns.{Turned}

-- ---- a record by its bytes
-- the state after a record, and its answer's bytes, are what the device makes of the record's bytes
pub ran_bytes : (k : Setup) (defaults : List ℕ) (s t : State) (a : List ℕ) (r : Record) (bytes whole : List ℕ) → r ≡ decode bytes → bytes ≡ pad longest whole
    → t ≡ (run k defaults s r).after → a ≡ answer_bytes (run k defaults s r).reply
    → ◌≡◌ {A = RanBytes State} (record { state = t; answer = a }) ((device k defaults).run s whole)
unfolding in_bytes
ran_bytes k defaults s t a r bytes whole d b e f =
    ◌∙◌ {A = RanBytes State} (λ i. record { state = e i; answer = f i }) (ap (λ (x : Record). in_bytes (run k defaults s x)) (d ∙ ap decode b))

-- ---- a record runs, part by part, as code runs it
module _ (k : Setup) (defaults : List ℕ) (dev : Dev) (statuses : List Status) (live cells : List ℕ) (r : Record) where
  abbrev present : State
  present = state dev statuses live cells

  turned_of : (t : State) (a : Reply) → ◌≡◌ {A = Ran State} (record { after = t; reply = a }) (run k defaults present r) → Turned k defaults present r t a
  turned_of t a e = record { state = ap (λ (x : Ran State). x.after) e; reply = ap (λ (x : Ran State). x.reply) e }

  -- the whole card
  pub card-runs : part_of k r ≡ WholeCard → (x : PortDone) (statuses' : List Status) (live' cells' : List ℕ)
      → card_ran x statuses' live' cells' ≡ card_run k defaults r present
      → Turned k defaults present r (state x.dev statuses' live' cells') x.reply
  card-runs q x statuses' live' cells' e = turned_of _ _ (e ∙ sym (run-card k defaults present r q))

  module _ (sound : Sound k present) (fits : Fitting k defaults present) where
    -- the port alone
    pub port_runs : part_of k r ≡ PortAlone → (x : PortDone) (cells' : List ℕ) → port_ran x cells' ≡ port_run k.port_id r (front dev cells)
        → Turned k defaults present r (state x.dev statuses live cells') x.reply
    port_runs q x cells' e =
        turned_of _ _ (ap (port_put present) e ∙ sym (run_port k defaults present sound fits r q))

    -- one slot
    pub slot_runs : (i : ℕ) → part_of k r ≡ OneSlot i → (x : SlotDone) (live' cells' : List ℕ)
        → slot_ran x live' cells' ≡ slot_run k.slots (slot_kind k i) k.bus (entry_of k i) defaults i r (seat dev (status_at statuses i) live cells)
        → Turned k defaults present r (state x.dev (set statuses i x.status) live' cells') x.reply
    slot_runs i q x live' cells' e =
        turned_of _ _ (ap (slot_put present i) e ∙ sym (run_slot k defaults present sound fits r i q))
