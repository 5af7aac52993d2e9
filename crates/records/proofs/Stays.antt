-- What stays in a sound state: the whole state under 02, 08 and 0D; the port but for what arrives under 03 and 04; all but the live registers under 0C.
use Prim.Native.Nat.{ℕ}
use native.Mathlib.Omega.{arith}
use mathlib.Core.Bool.{Bool, true, false, cond, false≢true}
use mathlib.Core.List.{List, [], ◌∷◌}
use mathlib.Core.Path.{◌≡◌, refl, sym, ap, subst, ◌∙◌}
use lib.Dec.{ltb}
use Rattle.bits.proofs.Tests.{split}
use Rattle.std.specs.Prelude.{Option, Some}
use Rattle.messages.specs.declared.Message.{Message}
use Rattle.messages.specs.declared.Message.TheVariants.{Drs, Frs}
use Rattle.frs_queue.specs.declared.Frs as queue_frs
use Rattle.frs_queue.specs.Queue.{Ring, arrive_all}
use Rattle.frs_queue.proofs.Laws.{arrives-start}
use Rattle.readiness.specs.declared.Slot.{Slot}
use Rattle.readiness.specs.declared.Setup.{Setup}
use Rattle.readiness.specs.declared.Dev.{Dev}
use Rattle.readiness.specs.Status.{entry_of}
use Rattle.readiness.specs.Root.{Root, frs_arrive, drs_set, drs_arrives}
use Rattle.readiness.specs.Events.{Event, due_event}
use Rattle.readiness.specs.inner.OneSlot.{SlotScene, slot_happens, slot_settles}
use Rattle.records.specs.declared.Request.{Request}
use Rattle.records.specs.declared.Record.{Record}
use Rattle.records.specs.declared.Record.TheVariants as kind
use Rattle.records.specs.declared.Part.TheVariants.{OneSlot, PortAlone}
use Rattle.records.specs.State.{State, Seat, seat_of, slot_kind}
use Rattle.records.specs.Answer.{Effect, refused, does, Ran}
use Rattle.records.specs.Requests.{write_effect}
use Rattle.records.specs.Run.{effect, run}
use Rattle.records.specs.inner.Parts.{slot_effect, slot_answered, slot_run, port_effect, port_answered, port_run}
use Rattle.records.specs.Sound.{Sound, Fitting}
use Rattle.records.specs.EachKind.{gives_data, PortStays, CardStays, LiveAlone}
use Rattle.records.proofs.Leaving.{Leaves, Every, every}
use Rattle.records.proofs.Parted.{SlotDoes, write_does, run_slot, run_port}
use Rattle.records.proofs.AtOnce.{moves, at_once, at_once_lem}

-- ---- what arrives leaves the port but for its queue

arrived_start : (enabled : Bool) (messages : List queue_frs.Frs) (r : Ring) → (arrive_all enabled messages r).queue.start ≡ r.queue.start
unfolding arrive_all
arrived_start enabled [] r = refl
arrived_start enabled (frs ∷ more) r = arrived_start enabled more _ ∙ arrives-start enabled frs r

port_same : (d : Dev) → PortStays d d
port_same d = record { clock = refl; link = refl; owed = refl; control = refl; start = refl }

frs-stays : (messages : List queue_frs.Frs) (x : Root) → PortStays x.dev (frs_arrive messages x).dev
unfolding frs_arrive
frs-stays messages x = record { clock = refl; link = refl; owed = refl; control = refl; start = arrived_start _ messages _ }

drs-stays : (port_id : ℕ) (x : Root) → PortStays x.dev (drs_arrives port_id x).dev
unfolding drs_arrives drs_set frs_arrive
drs-stays port_id x = record { clock = refl; link = refl; owed = refl; control = refl; start = arrived_start _ _ _ }

-- ---- 02, 04, 08, 0C, 0D

-- a message leaves the port but for what arrives, and an FRS leaves DRS Received
record MessageStays (m : Option Message) (s t : State) : Type 0 where
  port : PortStays s.port t.port
  card : CardStays s t
  drs : (id reason : ℕ) → m ≡ Some (Frs id reason) → t.port.drs_received ≡ s.port.drs_received

-- what such a record leaves
abbrev Stays : Record → (s t : State) → Type 0
Stays (kind.Advance by) s t = Unit {0}
Stays (kind.Read q) s t = t ≡ s
Stays (kind.Write q value) s t = Unit {0}
Stays (kind.Message m) s t = MessageStays m s t
Stays kind.LinkUp s t = Unit {0}
Stays kind.LinkDown s t = Unit {0}
Stays kind.ColdReset s t = Unit {0}
Stays kind.ReadQueue s t = t ≡ s
Stays kind.RemoveOldest s t = Unit {0}
Stays (kind.ClearBits mask) s t = Unit {0}
Stays (kind.Control b) s t = Unit {0}
Stays (kind.HardwareSet slot word mask) s t = LiveAlone s t
Stays kind.ReadBits s t = t ≡ s
Stays kind.NoKind s t = Unit {0}

-- a record that isn't done leaves the state
stays_same : (r : Record) (s : State) → Stays r s s
stays_same (kind.Advance by) s = tt
stays_same (kind.Read q) s = refl
stays_same (kind.Write q value) s = tt
stays_same (kind.Message m) s = record { port = port_same s.port; card = record { statuses = refl; live = refl }; drs = λ id reason e. refl }
stays_same kind.LinkUp s = tt
stays_same kind.LinkDown s = tt
stays_same kind.ColdReset s = tt
stays_same kind.ReadQueue s = refl
stays_same kind.RemoveOldest s = tt
stays_same (kind.ClearBits mask) s = tt
stays_same (kind.Control b) s = tt
stays_same (kind.HardwareSet slot word mask) s = record { port = refl; statuses = refl; cells = refl }
stays_same kind.ReadBits s = refl
stays_same kind.NoKind s = tt

no_frs : {P : Type 0} {id other reason : ℕ} → Some (Drs id) ≡ Some (Frs other reason) → P
no_frs e = let z : ◌≡◌ {A = ℕ} 0 1 = cc in absurd (omega arith)

each-stays : (setup : Setup) (defaults : List ℕ) (s : State) → Every (λ r t tally d. Stays r s t) setup defaults s
unfolding frs_arrive
each-stays setup defaults s =
    record {
      advance = λ by e. tt;
      read = λ q e. refl;
      write = λ q value e. tt;
      drs = λ id e. record { port = drs-stays _ _; card = record { statuses = refl; live = refl }; drs = λ other reason e. no_frs e };
      frs = λ id reason e. record { port = frs-stays _ _; card = record { statuses = refl; live = refl }; drs = λ id reason e. refl };
      link_up = λ e. tt;
      link_down = λ e. tt;
      cold_reset = tt;
      read_queue = refl;
      remove_oldest = tt;
      clear_bits = λ mask. tt;
      control = λ b. tt;
      hardware_set = λ slot word mask e. record { port = refl; statuses = refl; cells = refl };
      read_bits = refl;
      no_kind = tt;
    }

module _ (setup : Setup) (defaults : List ℕ) (s : State) (sound : Sound setup s) (fits : Fitting setup defaults s) where
  stays : (r : Record) → moves r ≡ false → Stays r s (run setup defaults s r).after
  stays r n =
      subst (λ (x : Ran State). Stays r s x.after) (sym (at_once_lem setup defaults s sound fits r n))
      (by (effect setup defaults s r) (every (λ r t tally d. Stays r s t) setup defaults s (each-stays setup defaults s) r))
    where
      by : (e : Effect State) → Leaves (λ t tally d. Stays r s t) e → Stays r s (at_once s e).after
      by (refused c d) h = stays_same r s
      by (does t tally d) h = h

  -- 02, 08 and 0D change nothing.
  pub no_change : (r : Record) → gives_data r ≡ true → (run setup defaults s r).after ≡ s
  no_change (kind.Read q) e = stays (kind.Read q) refl
  no_change kind.ReadQueue e = stays kind.ReadQueue refl
  no_change kind.ReadBits e = stays kind.ReadBits refl
  no_change (kind.Advance by) e = absurd (false≢true e)
  no_change (kind.Write q value) e = absurd (false≢true e)
  no_change (kind.Message m) e = absurd (false≢true e)
  no_change kind.LinkUp e = absurd (false≢true e)
  no_change kind.LinkDown e = absurd (false≢true e)
  no_change kind.ColdReset e = absurd (false≢true e)
  no_change kind.RemoveOldest e = absurd (false≢true e)
  no_change (kind.ClearBits mask) e = absurd (false≢true e)
  no_change (kind.Control b) e = absurd (false≢true e)
  no_change (kind.HardwareSet slot word mask) e = absurd (false≢true e)
  no_change kind.NoKind e = absurd (false≢true e)

  -- 04 leaves statuses, registers, and the port but for what arrives.
  pub message_port_lem : (m : Option Message) → PortStays s.port (run setup defaults s (kind.Message m)).after.port
  message_port_lem m = (stays (kind.Message m) refl).port

  pub message_card_lem : (m : Option Message) → CardStays s (run setup defaults s (kind.Message m)).after
  message_card_lem m = (stays (kind.Message m) refl).card

  pub frs-drs : (id reason : ℕ) → (run setup defaults s (kind.Message (Some (Frs id reason)))).after.port.drs_received ≡ s.port.drs_received
  frs-drs id reason = (stays (kind.Message (Some (Frs id reason))) refl).drs id reason refl

  -- 0C leaves all but the live registers.
  pub hardware_alone_lem : (slot word mask : ℕ) → LiveAlone s (run setup defaults s (kind.HardwareSet slot word mask)).after
  hardware_alone_lem slot word mask = stays (kind.HardwareSet slot word mask) refl

-- ---- 03

-- of the port nothing but what arrives
record WriteStays (d e : Dev) : Type 0 where
  port : PortStays d e
  drs : e.drs_received ≡ d.drs_received

happens-stays : (bus : ℕ) (entry : Slot) (x : SlotScene) (es : List Event) → WriteStays x.root.dev (slot_happens bus entry x es).root.dev
unfolding frs_arrive
happens-stays bus entry x [] = record { port = port_same _; drs = refl }
happens-stays bus entry x (e ∷ es) = record { port = frs-stays _ _; drs = refl }

answered-stays : (bus : ℕ) (entry : Slot) (slot : ℕ) (z : Seat) (e : Effect Seat) → SlotDoes z e → WriteStays z.dev (slot_answered bus entry slot z e).after.dev
unfolding slot_answered slot_settles
answered-stays bus entry slot z (refused c d) h = record { port = port_same _; drs = refl }
answered-stays bus entry slot z (does y tally d) h =
    let x : SlotScene = record { status = y.status; root = record { dev = y.dev; cells = y.cells; tally = tally } } in
    subst (λ (e : Dev). WriteStays e (slot_answered bus entry slot z (does y tally d)).after.dev) h.1 (happens-stays bus entry x (due_event y.dev.clock slot y.status.phase))

module _ (setup : Setup) (defaults : List ℕ) (s : State) (sound : Sound setup s) (fits : Fitting setup defaults s) (q : Request) (value : ℕ) where
  write_stays : WriteStays s.port (run setup defaults s (kind.Write q value)).after.port
  unfolding slot_run slot_effect port_run port_effect port_answered
  write_stays =
      let entry = entry_of setup q.slot in
      let is_slot = slot_kind setup q.slot in
      split (ltb q.slot setup.slots)
      (λ e.
      subst (λ (x : Ran State). WriteStays s.port x.after.port)
      (sym (run_slot setup defaults s sound fits (kind.Write q value) q.slot (ap (λ (b : Bool). cond b (OneSlot q.slot) PortAlone) e)))
      (answered-stays setup.bus entry q.slot (seat_of s q.slot) (write_effect setup.slots is_slot entry defaults q value (seat_of s q.slot))
      (write_does setup.slots is_slot (seat_of s q.slot) entry defaults q value)))
      (λ e.
      subst (λ (x : Ran State). WriteStays s.port x.after.port)
      (sym (run_port setup defaults s sound fits (kind.Write q value) (ap (λ (b : Bool). cond b (OneSlot q.slot) PortAlone) e)))
      (record { port = port_same s.port; drs = refl }))

  -- 03 leaves the port but for what arrives.
  pub write_port_lem : PortStays s.port (run setup defaults s (kind.Write q value)).after.port
  write_port_lem = write_stays.port

  pub write_drs_lem : (run setup defaults s (kind.Write q value)).after.port.drs_received ≡ s.port.drs_received
  write_drs_lem = write_stays.drs
