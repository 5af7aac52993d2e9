-- A record by the part of the state that it touches: on a sound state, running it is running it on that part alone, put back.
use Prim.Native.Nat.{ℕ, ◌/◌, ◌%◌, ◌<◌}
use native.Mathlib.Omega.{arith}
use mathlib.Core.Path.{◌≡◌, refl, ap, sym, ◌∙◌, subst}
use mathlib.Core.Bool.{Bool, true, false, not, ◌||◌, cond, false≢true}
use mathlib.Core.List.{List}
use lib.Dec.{eqb, ltb}
use lib.ListN.{length}
use lib.Seq.{set-get_or}
use borrow.Author.Tests.{ltb-true, not-false}
use Rattle.bits.proofs.Choices.{either_way, when_true}
use Rattle.times.specs.declared.Nanos.{Nanos}
use Rattle.std.specs.Prelude.{Option, Some, None}
use Rattle.messages.specs.declared.Message.{Message}
use Rattle.messages.specs.declared.Message.TheVariants.{Drs, Frs}
use Rattle.registers.specs.declared.Kind.{Kind}
use Rattle.frs_queue.specs.Queue.{no_tally}
use Rattle.readiness.specs.declared.Cause.{Cause}
use Rattle.readiness.specs.declared.Cause.TheVariants as cause
use Rattle.readiness.specs.declared.Phase.{Phase}
use Rattle.readiness.specs.declared.Phase.TheVariants.{Down, Pending, Ready}
use Rattle.readiness.specs.declared.Status.{Status}
use Rattle.readiness.specs.declared.Slot.{Slot}
use Rattle.readiness.specs.declared.Setup.{Setup}
use Rattle.readiness.specs.declared.Dev.{Dev}
use Rattle.readiness.specs.Status.{ready, is_ready, entry_of}
use Rattle.readiness.specs.Root.{frs_arrive, drs_arrives, drs_set}
use Rattle.readiness.specs.Settle.{Scene}
use Rattle.readiness.proofs.Laws.{settle_rest}
use Rattle.readiness.proofs.OneSlot.{settle_one}
use Rattle.records.specs.declared.Request.{Request}
use Rattle.records.specs.declared.Record.{Record}
use Rattle.records.specs.declared.Record.TheVariants.{Advance, Read, Write, Message as MessageRecord, LinkUp, LinkDown, ColdReset, ReadQueue, RemoveOldest, ClearBits, Control, HardwareSet, ReadBits, NoKind}
use Rattle.records.specs.declared.Completion.TheVariants as completion
use Rattle.records.specs.declared.Crs.{Crs}
use Rattle.records.specs.declared.Route.{Route}
use Rattle.records.specs.declared.Route.TheVariants as route
use Rattle.records.specs.declared.Part.TheVariants.{OneSlot, PortAlone, WholeCard}
use Rattle.records.specs.State.{State, Seat, seat_of, scene_of, with_live, slot_kind}
use Rattle.records.specs.Answer.{Effect, refused, does, reply, answered}
use Rattle.records.specs.Route.{pending_route, phase_route, route_of, route_completion, refused_data, is_access}
use Rattle.records.specs.Requests.{read_done, write_done, read_effect, write_effect, hardware_effect}
use Rattle.records.specs.PortRecords.{Front, message_done, message_effect, cleared_dev, control_effect}
use Rattle.records.specs.Run.{at_slot, at_port, front_of, effect, run}
use Rattle.records.specs.inner.Parts.{part_at, part_of, slot_effect, slot_answered, slot_run, port_effect, port_answered, port_run, card_effect, card_run, slot_put, port_put}
use Rattle.records.specs.Sound.{Sound, Fitting}
use Rattle.records.proofs.SoundFacts.{ready_phase_lem}
use Rattle.records.proofs.Resting.{Resting, sound_rests}
use Rattle.records.proofs.Laws.{write_dev}

-- ---- which part

-- the three parts differ
port_not_slot : {P : Type 0} {i : ℕ} → PortAlone ≡ OneSlot i → P
port_not_slot e = let z : ◌≡◌ {A = ℕ} 0 1 = cc in absurd (omega arith)

card_not_slot : {P : Type 0} {i : ℕ} → WholeCard ≡ OneSlot i → P
card_not_slot e = let z : ◌≡◌ {A = ℕ} 0 1 = cc in absurd (omega arith)

card_not_port : {P : Type 0} → WholeCard ≡ PortAlone → P
card_not_port e = let z : ◌≡◌ {A = ℕ} 0 1 = cc in absurd (omega arith)

-- a request's part: its slot, if the card has it, else the port
at_slot_lem : (setup : Setup) (slot i : ℕ) → part_at setup slot ≡ OneSlot i → (slot < setup.slots) × (slot ≡ i)
at_slot_lem setup slot i = by (ltb slot setup.slots) refl
  where
    by : (b : Bool) → ltb slot setup.slots ≡ b → cond b (OneSlot slot) PortAlone ≡ OneSlot i → (slot < setup.slots) × (slot ≡ i)
    by true e q = (ltb-true slot setup.slots e, cc)
    by false e q = port_not_slot q

at_port_lem : (setup : Setup) (slot : ℕ) → part_at setup slot ≡ PortAlone → ltb slot setup.slots ≡ false
at_port_lem setup slot = by (ltb slot setup.slots) refl
  where
    by : (b : Bool) → ltb slot setup.slots ≡ b → cond b (OneSlot slot) PortAlone ≡ PortAlone → ltb slot setup.slots ≡ false
    by true e q = port_not_slot (sym q)
    by false e q = e

at_no_card : {P : Type 0} (setup : Setup) (slot : ℕ) → part_at setup slot ≡ WholeCard → P
at_no_card {P} setup slot = by (ltb slot setup.slots)
  where
    by : (b : Bool) → cond b (OneSlot slot) PortAlone ≡ WholeCard → P
    by true q = card_not_slot (sym q)
    by false q = card_not_port (sym q)

-- what holds of a read, a write and a hardware set of slot i, which the card has, holds of every record that touches slot i
at_one_slot : (P : Record → Type 0) (setup : Setup) (i : ℕ)
    → ((q : Request) → q.slot < setup.slots → q.slot ≡ i → P (Read q))
    → ((q : Request) (value : ℕ) → q.slot < setup.slots → q.slot ≡ i → P (Write q value))
    → ((slot word mask : ℕ) → slot < setup.slots → slot ≡ i → P (HardwareSet slot word mask))
    → (r : Record) → part_of setup r ≡ OneSlot i → P r
at_one_slot P setup i f g h (Read q) e = let l = at_slot_lem setup q.slot i e in f q l.0 l.1
at_one_slot P setup i f g h (Write q value) e = let l = at_slot_lem setup q.slot i e in g q value l.0 l.1
at_one_slot P setup i f g h (HardwareSet slot word mask) e = let l = at_slot_lem setup slot i e in h slot word mask l.0 l.1
at_one_slot P setup i f g h (Advance by) e = card_not_slot e
at_one_slot P setup i f g h LinkUp e = card_not_slot e
at_one_slot P setup i f g h LinkDown e = card_not_slot e
at_one_slot P setup i f g h ColdReset e = card_not_slot e
at_one_slot P setup i f g h (MessageRecord m) e = port_not_slot e
at_one_slot P setup i f g h ReadQueue e = port_not_slot e
at_one_slot P setup i f g h RemoveOldest e = port_not_slot e
at_one_slot P setup i f g h (ClearBits mask) e = port_not_slot e
at_one_slot P setup i f g h (Control b) e = port_not_slot e
at_one_slot P setup i f g h ReadBits e = port_not_slot e
at_one_slot P setup i f g h NoKind e = port_not_slot e

-- ---- a slot that there is not

-- A read, a write or a hardware set of a slot that there is not is refused with 20.
module _ (slots : ℕ) (kind : Kind) (z : Seat) where
  pub no_slot_route : (is_read : Bool) (q : Request) → ltb q.slot slots ≡ false → route_of slots kind z.dev z.status is_read q ≡ route.NoSlot
  unfolding route_of
  no_slot_route is_read q e = when_true (not (ltb q.slot slots)) route.NoSlot _ (ap not e)

  pub no_slot_read : (q : Request) → ltb q.slot slots ≡ false → read_effect slots kind q z ≡ refused completion.NoSlot 0
  unfolding read_effect
  no_slot_read q e =
      ap (λ (r : Route). cond (is_access r) (read_done kind q z) (refused (route_completion r) (refused_data true q.enables r))) (no_slot_route true q e)

  pub no_slot_write : (entry : Slot) (defaults : List ℕ) (q : Request) (value : ℕ) → ltb q.slot slots ≡ false
      → write_effect slots kind entry defaults q value z ≡ refused completion.NoSlot 0
  unfolding write_effect
  no_slot_write entry defaults q value e =
      ap (λ (r : Route). cond (is_access r) (write_done kind entry defaults q value z) (refused (route_completion r) (refused_data false q.enables r)))
      (no_slot_route false q e)

  pub no_slot_set : (slot word mask : ℕ) → ltb slot slots ≡ false → hardware_effect slots kind slot word mask z ≡ refused completion.NoSlot 0
  unfolding hardware_effect
  no_slot_set slot word mask e = when_true (not (ltb slot slots)) (refused completion.NoSlot 0) _ (ap not e)

-- ---- an access finds its slot Ready

pub ready_status : (s : Status) → is_ready s ≡ true → s ≡ ready
ready_status s e = ap (λ (p : Phase). record { phase = p }) (ready_phase_lem s.phase e)

pending-refused : (clock : Nanos) (c : Cause) (t : Nanos) (crs : Crs) → is_access (pending_route clock c t crs) ≡ false
unfolding pending_route
pending-refused clock cause.LinkUp t crs = refl
pending-refused clock cause.D3hot t crs = refl
pending-refused clock (cause.Flr end) t crs =
    either_way (λ (r : Route). is_access r ≡ false) (ltb clock.0 end.0) (route.FlrInProgress end) (route.Starting (cause.Flr end) t crs) (λ e. refl) (λ e. refl)

phase_access : (clock : Nanos) (p : Phase) (crs : Crs) → is_access (phase_route clock p crs) ≡ true → p ≡ Ready
unfolding phase_route
phase_access clock Down crs e = absurd (false≢true e)
phase_access clock Ready crs e = refl
phase_access clock (Pending c t) crs e = absurd (false≢true (sym (pending-refused clock c t crs) ∙ e))

-- A request that has access finds its slot Ready.
pub access_ready : (slots : ℕ) (kind : Kind) (dev : Dev) (status : Status) (is_read : Bool) (q : Request) → is_access (route_of slots kind dev status is_read q) ≡ true → status ≡ ready
unfolding route_of
access_ready slots kind dev status is_read q =
    either_way P (not (ltb q.slot slots)) route.NoSlot _ (λ t. no)
    (λ t. either_way P (ltb 63 q.word) route.NoWord _ (λ t. no)
    (λ t. either_way P (ltb 15 q.enables) route.BadEnables _ (λ t. no)
    (λ t. either_way P (not dev.link) route.LinkDown _ (λ t. no)
    (λ t e. ap (λ (p : Phase). record { phase = p }) (phase_access dev.clock status.phase _ e)))))
  where
    P : Route → Type 0
    P r = is_access r ≡ true → status ≡ ready

    no : false ≡ true → status ≡ ready
    no e = absurd (false≢true e)

-- what a request does, if it is done, is done to a Ready slot and leaves the port
abbrev pub SlotDoes : Seat → Effect Seat → Type 0
SlotDoes z (refused c v) = Unit {0}
SlotDoes z (does y tally v) = (z.status ≡ ready) × (y.dev ≡ z.dev)

module _ (slots : ℕ) (kind : Kind) (z : Seat) where
  pub read_does : (q : Request) → SlotDoes z (read_effect slots kind q z)
  unfolding read_effect
  read_does q =
      either_way (SlotDoes z) (is_access (route_of slots kind z.dev z.status true q)) _ _
      (λ e. (access_ready slots kind z.dev z.status true q e, refl)) (λ e. tt)

  pub write_does : (entry : Slot) (defaults : List ℕ) (q : Request) (value : ℕ) → SlotDoes z (write_effect slots kind entry defaults q value z)
  unfolding write_effect
  write_does entry defaults q value =
      either_way (SlotDoes z) (is_access (route_of slots kind z.dev z.status false q)) _ _
      (λ e. (access_ready slots kind z.dev z.status false q e, write_dev kind entry defaults q value z)) (λ e. tt)

  pub set_does : (slot word mask : ℕ) → SlotDoes z (hardware_effect slots kind slot word mask z)
  unfolding hardware_effect
  set_does slot word mask =
      either_way (SlotDoes z) (not (ltb slot slots)) _ _ (λ e. tt)
      (λ e. either_way (SlotDoes z) (ltb 63 word) _ _ (λ e. tt)
      (λ e. either_way (SlotDoes z) (not (is_ready z.status)) _ _ (λ e. tt)
      (λ e. (ready_status z.status (not-false (is_ready z.status) e), refl))))

-- ---- a record of the port leaves clock and "owed"

abbrev pub PortDoes : Front → Effect Front → Type 0
PortDoes p (refused c v) = Unit {0}
PortDoes p (does y tally v) = (y.dev.clock ≡ p.dev.clock) × (y.dev.owed ≡ p.dev.owed)

message_does : (port_id : ℕ) (m : Option Message) (p : Front) → PortDoes p (message_done port_id m p)
unfolding message_done drs_arrives drs_set frs_arrive
message_does port_id None p = tt
message_does port_id (Some (Drs id)) p = (refl, refl)
message_does port_id (Some (Frs id reason)) p = (refl, refl)

pub port_does : (port_id : ℕ) (r : Record) (p : Front) → PortDoes p (port_effect port_id r p)
unfolding port_effect message_effect cleared_dev control_effect
port_does port_id (MessageRecord m) p = either_way (PortDoes p) p.dev.link _ _ (λ e. message_does port_id m p) (λ e. tt)
port_does port_id ReadQueue p = (refl, refl)
port_does port_id RemoveOldest p = (refl, refl)
port_does port_id (ClearBits mask) p = (refl, refl)
port_does port_id (Control b) p = either_way (PortDoes p) (ltb 15 b || eqb (b / 4 % 4) 3) _ _ (λ e. tt) (λ e. (refl, refl))
port_does port_id ReadBits p = (refl, refl)
port_does port_id (Read q) p = tt
port_does port_id (Write q value) p = tt
port_does port_id (HardwareSet slot word mask) p = tt
port_does port_id (Advance by) p = (refl, refl)
port_does port_id LinkUp p = (refl, refl)
port_does port_id LinkDown p = (refl, refl)
port_does port_id ColdReset p = (refl, refl)
port_does port_id NoKind p = (refl, refl)

-- ---- answers part by part, in a state at rest

module _ (setup : Setup) (s : State) (rests : Resting setup s.port.clock s.port.owed s.statuses) where
  -- where clock and "owed" are the state's
  rests_so : (d : Dev) → d.clock ≡ s.port.clock → d.owed ≡ s.port.owed → Resting setup d.clock d.owed s.statuses
  rests_so d c o = rw (c, o) rests

  port_answers : (e : Effect Front) → PortDoes (front_of s) e → answered setup s (at_port s e) ≡ port_put s (port_answered (front_of s) e)
  unfolding answered port_answered
  port_answers (refused c v) h = refl
  port_answers (does y tally v) h =
      let t : State = record { port = y.dev; statuses = s.statuses; live = s.live; cells = y.cells } in
      let r = rests_so y.dev h.0 h.1 in
      ap (λ (x : Scene). record { after = with_live x s.live; reply = reply completion.Done x.root.tally v }) (settle_rest setup (scene_of t tally) r.due r.drs)

  slot_answers : (i : ℕ) → i < length s.statuses → (e : Effect Seat) → SlotDoes (seat_of s i) e
      → answered setup s (at_slot s i e) ≡ slot_put s i (slot_answered setup.bus (entry_of setup i) i (seat_of s i) e)
  unfolding answered slot_answered
  slot_answers i l (refused c v) h =
      ap (λ (m : List Status). record { after = record { port = s.port; statuses = m; live = s.live; cells = s.cells }; reply = reply c no_tally v })
      (sym (set-get_or s.statuses i ready))
  slot_answers i l (does y tally v) h =
      let r = rests_so y.dev (ap (λ (d : Dev). d.clock) h.1) (ap (λ (d : Dev). d.owed) h.1) in
      ap (λ (x : Scene). record { after = with_live x y.live; reply = reply completion.Done x.root.tally v })
      (settle_one setup s.statuses i y.status (record { dev = y.dev; cells = y.cells; tally = tally }) l (ap is_ready h.0) r.due r.drs)

-- ---- what a record does is what it does to its part

-- one slot, which the card has
pub effect_slot : (setup : Setup) (defaults : List ℕ) (s : State) (r : Record) (i : ℕ) → part_of setup r ≡ OneSlot i
    → (let e = slot_effect setup.slots (slot_kind setup i) (entry_of setup i) defaults r (seat_of s i) in
    (i < setup.slots) × SlotDoes (seat_of s i) e × (effect setup defaults s r ≡ at_slot s i e))
unfolding effect slot_effect
effect_slot setup defaults s r i =
    at_one_slot P setup i
    (λ q l e. subst (λ (j : ℕ). Part j (Read q)) e (l, read_does setup.slots (slot_kind setup q.slot) (seat_of s q.slot) q, refl))
    (λ q value l e. subst (λ (j : ℕ). Part j (Write q value)) e (l, write_does setup.slots (slot_kind setup q.slot) (seat_of s q.slot) (entry_of setup q.slot) defaults q value, refl))
    (λ slot word mask l e. subst (λ (j : ℕ). Part j (HardwareSet slot word mask)) e (l, set_does setup.slots (slot_kind setup slot) (seat_of s slot) slot word mask, refl))
    r
  where
    Part : ℕ → Record → Type 0
    Part j r =
        let e = slot_effect setup.slots (slot_kind setup j) (entry_of setup j) defaults r (seat_of s j) in
        (j < setup.slots) × SlotDoes (seat_of s j) e × (effect setup defaults s r ≡ at_slot s j e)

    P : Record → Type 0
    P r = Part i r

-- no slot
pub effect_port : (setup : Setup) (defaults : List ℕ) (s : State) (r : Record) → part_of setup r ≡ PortAlone → effect setup defaults s r ≡ at_port s (port_effect setup.port_id r (front_of s))
unfolding effect port_effect
effect_port setup defaults s (MessageRecord m) e = refl
effect_port setup defaults s ReadQueue e = refl
effect_port setup defaults s RemoveOldest e = refl
effect_port setup defaults s (ClearBits mask) e = refl
effect_port setup defaults s (Control b) e = refl
effect_port setup defaults s ReadBits e = refl
effect_port setup defaults s NoKind e = refl
effect_port setup defaults s (Read q) e = ap (at_slot s q.slot) (no_slot_read setup.slots (slot_kind setup q.slot) (seat_of s q.slot) q (at_port_lem setup q.slot e))
effect_port setup defaults s (Write q value) e =
    ap (at_slot s q.slot) (no_slot_write setup.slots (slot_kind setup q.slot) (seat_of s q.slot) (entry_of setup q.slot) defaults q value (at_port_lem setup q.slot e))
effect_port setup defaults s (HardwareSet slot word mask) e =
    ap (at_slot s slot) (no_slot_set setup.slots (slot_kind setup slot) (seat_of s slot) slot word mask (at_port_lem setup slot e))
effect_port setup defaults s (Advance by) e = card_not_port e
effect_port setup defaults s LinkUp e = card_not_port e
effect_port setup defaults s LinkDown e = card_not_port e
effect_port setup defaults s ColdReset e = card_not_port e

-- every slot
pub effect-card : (setup : Setup) (defaults : List ℕ) (s : State) (r : Record) → part_of setup r ≡ WholeCard → effect setup defaults s r ≡ card_effect setup defaults r s
unfolding effect card_effect
effect-card setup defaults s (Advance by) e = refl
effect-card setup defaults s LinkUp e = refl
effect-card setup defaults s LinkDown e = refl
effect-card setup defaults s ColdReset e = refl
effect-card setup defaults s (Read q) e = at_no_card setup q.slot e
effect-card setup defaults s (Write q value) e = at_no_card setup q.slot e
effect-card setup defaults s (HardwareSet slot word mask) e = at_no_card setup slot e
effect-card setup defaults s (MessageRecord m) e = card_not_port (sym e)
effect-card setup defaults s ReadQueue e = card_not_port (sym e)
effect-card setup defaults s RemoveOldest e = card_not_port (sym e)
effect-card setup defaults s (ClearBits mask) e = card_not_port (sym e)
effect-card setup defaults s (Control b) e = card_not_port (sym e)
effect-card setup defaults s ReadBits e = card_not_port (sym e)
effect-card setup defaults s NoKind e = card_not_port (sym e)

-- ---- the three parts

module _ (setup : Setup) (defaults : List ℕ) (s : State) (good : Sound setup s) (fits : Fitting setup defaults s) where
  -- A RECORD THAT TOUCHES ONE SLOT, which the card has, is run by that slot's status, the port and the lent words alone.
  pub run_slot : (r : Record) (i : ℕ) → part_of setup r ≡ OneSlot i
      → run setup defaults s r ≡ slot_put s i (slot_run setup.slots (slot_kind setup i) setup.bus (entry_of setup i) defaults i r (seat_of s i))
  unfolding run slot_run
  run_slot r i e =
      let p = effect_slot setup defaults s r i e in
      ap (answered setup s) p.2
      ∙ slot_answers setup s (sound_rests setup defaults s good fits) i (omega (arith, fits.slots, p.0)) _ p.1

  -- A RECORD THAT TOUCHES NO SLOT is run by the port alone.
  pub run_port : (r : Record) → part_of setup r ≡ PortAlone → run setup defaults s r ≡ port_put s (port_run setup.port_id r (front_of s))
  unfolding run port_run
  run_port r e =
      ap (answered setup s) (effect_port setup defaults s r e)
      ∙ port_answers setup s (sound_rests setup defaults s good fits) _ (port_does setup.port_id r (front_of s))

-- A RECORD THAT TOUCHES EVERY SLOT is run on the whole card, in any state.
pub run-card : (setup : Setup) (defaults : List ℕ) (s : State) (r : Record) → part_of setup r ≡ WholeCard → run setup defaults s r ≡ card_run setup defaults r s
unfolding run card_run
run-card setup defaults s r e = ap (answered setup s) (effect-card setup defaults s r e)
