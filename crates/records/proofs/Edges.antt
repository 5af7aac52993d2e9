-- Interrupts are bits that go from 0 to 1, and at most 33 messages arrive in one record, in a sound state.
use Prim.Native.Nat.{ℕ, ◌-◌, ◌≤◌}
use native.Mathlib.Omega.{arith}
use mathlib.Core.Bool.{Bool, false, not, ◌&&◌, ◌||◌, cond, and-false, not-and_self}
use mathlib.Core.List.{List, [], ◌∷◌, ◌++◌, append-nil}
use mathlib.Core.Path.{◌≡◌, refl, sym, ap, ap₂, ◌∙◌}
use lib.Dec.{ltb, eqb}
use lib.ListN.{length}
use Rattle.bits.specs.Bits.{bit, one}
use Rattle.bits.proofs.Tests.{truth}
use Rattle.std.specs.Prelude.{Some}
use Rattle.messages.specs.declared.Message.TheVariants.{Drs, Frs}
use Rattle.frs_queue.specs.declared.Tally.{Tally}
use Rattle.frs_queue.specs.Queue.{Ring, no_tally}
use Rattle.frs_queue.proofs.Laws.{removed-received, removed_overflow}
use Rattle.readiness.specs.declared.Setup.{Setup}
use Rattle.readiness.specs.declared.Dev.{Dev}
use Rattle.readiness.specs.declared.Control as PortControl
use Rattle.readiness.specs.Status.{all_ready, stopped_by_reset, after_reset, after_link_down, after_cold_reset}
use Rattle.readiness.specs.Root.{frs_arrive, frs_of_drs, drs_interrupt, drs_set, drs_arrives}
use Rattle.readiness.specs.Events.{Event, due}
use Rattle.readiness.specs.Settle.{Scene, drs_due, tells, settles, frs_told, frames_of, frs_sent}
use Rattle.readiness.proofs.Order.{ready_by}
use Rattle.readiness.proofs.Scenes.{told}
use Rattle.readiness.proofs.Laws.{settle_rest}
use Rattle.readiness.proofs.Sent.{drs_raised, frs_sent_most}
use Rattle.records.specs.declared.Record.{Record}
use Rattle.records.specs.declared.Record.TheVariants.{Advance, Read, Write, Message as MessageRecord, LinkUp, LinkDown, ColdReset, ReadQueue, RemoveOldest, ClearBits, Control, HardwareSet, ReadBits, NoKind}
use Rattle.records.specs.declared.Completion.{Completion}
use Rattle.records.specs.State.{State, state, root_of, scene_of}
use Rattle.records.specs.Answer.{Effect, refused, does, Ran, answered, interrupts}
use Rattle.records.specs.PortRecords.{cleared_dev}
use Rattle.records.specs.Arrivals.{of_record, arrivals_in, arrivals}
use Rattle.records.specs.Run.{effect, run}
use Rattle.records.specs.Sound.{Sound, Fitting}
use Rattle.records.proofs.Leaving.{Leaves, Every, every, with_root}
use Rattle.records.specs.Counts.{Edges}
use Rattle.records.proofs.Opening.{found_by, is_drs, Opens, opens, own_most}
use Rattle.records.proofs.Sending.{told-drs}
use Rattle.records.proofs.Resting.{sound_rests, stopped_rests}
use Rattle.records.proofs.Queued.{answer_bytes_lem, ended, ring_is, outcome}

-- x raises the interrupts of a record that finds the root port so
record EdgesFrom (found : Dev) (x : Ran State) : Type 0 where
  -- Received and Overflow go from 0 to 1 with the FRS interrupt enabled
  received : x.reply.tally.received ≡ (found.control.frs_interrupt && (not found.queue.received && x.after.port.queue.received))
  overflow : x.reply.tally.overflow ≡ (found.control.frs_interrupt && (not found.queue.overflow && x.after.port.queue.overflow))
  -- DRS Received goes from 0 to 1 with signalling 1
  drs : x.reply.tally.drs ≡ (eqb found.control.signalling 1 && (not found.drs_received && x.after.port.drs_received))

module _ (setup : Setup) (s : State) (r : Record) (t : State) (tally : Tally) (o : Opens setup s r t tally) (few : length s.statuses ≤ 32) where
  edges_does : (d : ℕ) → EdgesFrom (found_by s r) (answered setup s (does t tally d))
  unfolding answered
  edges_does d =
      let x = settles setup (scene_of t tally) in
      let found = found_by s r in
      let on = found.control.frs_interrupt in
      let came = ended setup s r t tally o few in
      let raised = drs_raised setup (scene_of t tally) in
      let same = ring_is setup s r t tally o few in
      let out = outcome setup s r t tally o few in
      let q = found.queue in
      let i = is_drs r in
      let b = found.drs_received in
      let g = eqb found.control.signalling 1 in
      let now = t.port.owed && all_ready setup (ready_by t.port.clock t.statuses) in
      record {
        received =
            ap (λ (z : Ring). z.tally.received) same ∙ out.interrupt
            ∙ truth 3 (λ e b z. e && (not b && z)) (λ e b z. e && (not b && (b || z))) tt on q.received (ltb 0 came.tally.queued)
            ∙ sym (ap (λ (z : Bool). on && (not q.received && z)) (ap (λ (z : Ring). z.queue.received) same ∙ out.received));
        overflow =
            ap (λ (z : Ring). z.tally.overflow) same ∙ out.interrupt_overflow
            ∙ truth 3 (λ e b z. e && (not b && z)) (λ e b z. e && (not b && (b || z))) tt on q.overflow (ltb 0 came.tally.dropped)
            ∙ sym (ap (λ (z : Bool). on && (not q.overflow && z)) (ap (λ (z : Ring). z.queue.overflow) same ∙ out.overflow));
        drs =
            ap (λ (z : Ring). z.tally.drs) same
            ∙ ap (λ (z : Bool). (z || (i && drs_interrupt found)) || raised) out.drs
            ∙ ap (λ (z : Bool). (false || (i && (not b && g))) || (now && (not z && eqb t.port.control.signalling 1))) o.drs
            ∙ ap (λ (c : PortControl.Control). (false || (i && (not b && g))) || (now && (not (b || i) && eqb c.signalling 1))) o.control
            ∙ truth 4 (λ i b g d. (false || (i && (not b && g))) || (d && (not (b || i) && g))) (λ i b g d. g && (not b && ((b || i) || d))) tt i b g now
            ∙ sym (ap (λ (z : Bool). g && (not b && z)) (told-drs setup (scene_of t tally) ∙ ap (λ (z : Bool). z || now) o.drs));
      }

-- a record that isn't done raises none
none_raised : (setup : Setup) (s : State) (r : Record) (c : Completion) (d : ℕ) → EdgesFrom s.port (answered setup s (refused c d))
unfolding answered
none_raised setup s r c d =
    let none : (e b : Bool) → false ≡ (e && (not b && b)) = truth 2 (λ e b. false) (λ e b. e && (not b && b)) tt in
    record {
      received = none s.port.control.frs_interrupt s.port.queue.received;
      overflow = none s.port.control.frs_interrupt s.port.queue.overflow;
      drs = none (eqb s.port.control.signalling 1) s.port.drs_received;
    }

-- ---- sound states: a record that starts nothing finds nothing to settle

-- what settling sends where nothing is due and no DRS is to be told
sent_none : (setup : Setup) (x : Scene) → due x.root.dev.clock x.statuses ≡ [] → drs_due setup x ≡ false → frs_sent setup x ≡ []
unfolding frs_sent frames_of frs_told
sent_none setup x e d =
    ap₂ (λ (b : Bool) (es : List Event). cond b (frs_of_drs setup.port_id x.root.dev) [] ++ frames_of setup es (tells setup x)) d e

-- a record that brings nothing and leaves the port's bits, or clears them, has no edges
module _ (setup : Setup) (s t : State) (d : ℕ) (rest : due t.port.clock t.statuses ≡ []) (drs : drs_due setup (scene_of t no_tally) ≡ false) where
  no_edges : (not s.port.queue.received && t.port.queue.received) ≡ false → (not s.port.queue.overflow && t.port.queue.overflow) ≡ false
      → (not s.port.drs_received && t.port.drs_received) ≡ false → EdgesFrom s.port (answered setup s (does t no_tally d))
  unfolding answered
  no_edges a b c =
      let q = s.port.queue in
      let on = s.port.control.frs_interrupt in
      let g = eqb s.port.control.signalling 1 in
      let same = settle_rest setup (scene_of t no_tally) rest drs in
      record {
        received =
            ap (λ (x : Scene). x.root.tally.received) same
            ∙ sym (ap (λ (x : Scene). on && (not q.received && x.root.dev.queue.received)) same ∙ ap (λ (z : Bool). on && z) a ∙ and-false on);
        overflow =
            ap (λ (x : Scene). x.root.tally.overflow) same
            ∙ sym (ap (λ (x : Scene). on && (not q.overflow && x.root.dev.queue.overflow)) same ∙ ap (λ (z : Bool). on && z) b ∙ and-false on);
        drs =
            ap (λ (x : Scene). x.root.tally.drs) same
            ∙ sym (ap (λ (x : Scene). g && (not s.port.drs_received && x.root.dev.drs_received)) same ∙ ap (λ (z : Bool). g && z) c ∙ and-false g);
      }

cleared : (b m : Bool) → (not b && (b && not m)) ≡ false
cleared = truth 2 (λ b m. not b && (b && not m)) (λ b m. false) tt

module _ (setup : Setup) (defaults : List ℕ) (s : State) (sound : Sound setup s) (fits : Fitting setup defaults s) (few : length s.statuses ≤ 32) where
  rests : due s.port.clock s.statuses ≡ []
  rests = (sound_rests setup defaults s sound fits).due

  drs_rests : (s.port.owed && all_ready setup s.statuses) ≡ false
  drs_rests = (sound_rests setup defaults s sound fits).drs

  stopped : due s.port.clock (stopped_by_reset setup s.port s.statuses) ≡ []
  stopped = (stopped_rests setup defaults s fits).due

  abbrev EdgesAs : Record → State → Tally → ℕ → Type 0
  EdgesAs r t tally d = EdgesFrom s.port (answered setup s (does t tally d))

  sound_edges : Every EdgesAs setup defaults s
  unfolding cleared_dev after_reset after_link_down after_cold_reset
  sound_edges =
      let o = opens setup defaults s in
      let q = s.port.queue in
      record {
        advance = λ by e. edges_does setup s (Advance by) _ no_tally (o.advance by e) few 0;
        read = λ p e. edges_does setup s (Read p) s no_tally (o.read p e) few _;
        write = λ p value e. edges_does setup s (Write p value) _ no_tally (o.write p value e) few 0;
        drs = λ id e. edges_does setup s (MessageRecord (Some (Drs id))) _ _ (o.drs id e) few 0;
        frs = λ id reason e. edges_does setup s (MessageRecord (Some (Frs id reason))) _ _ (o.frs id reason e) few 0;
        link_up = λ e. edges_does setup s LinkUp _ no_tally (o.link_up e) few 0;
        link_down = λ e. no_edges setup s _ 0 stopped refl (not-and_self q.received) (not-and_self q.overflow) (and-false (not s.port.drs_received));
        cold_reset = no_edges setup s _ 0 stopped refl (and-false (not q.received)) (and-false (not q.overflow)) (and-false (not s.port.drs_received));
        read_queue = edges_does setup s ReadQueue s no_tally o.read_queue few _;
        remove_oldest =
            no_edges setup s _ 0 rests drs_rests
            (ap (λ (b : Bool). not q.received && b) (removed-received (length s.cells) q) ∙ not-and_self q.received)
            (ap (λ (b : Bool). not q.overflow && b) (removed_overflow (length s.cells) q) ∙ not-and_self q.overflow) (not-and_self s.port.drs_received);
        clear_bits = λ mask. no_edges setup s _ 0 rests drs_rests (cleared q.received (bit mask 0)) (cleared q.overflow (bit mask 1)) (cleared s.port.drs_received (bit mask 2));
        control = λ b. no_edges setup s _ 0 rests drs_rests (not-and_self q.received) (not-and_self q.overflow) (not-and_self s.port.drs_received);
        hardware_set = λ slot word mask e. edges_does setup s (HardwareSet slot word mask) _ no_tally (o.hardware_set slot word mask e) few 0;
        read_bits = edges_does setup s ReadBits s no_tally o.read_bits few _;
        no_kind = edges_does setup s NoKind s no_tally o.no_kind few 0;
      }

  by_effect : (r : Record) (e : Effect State) → Leaves (EdgesAs r) e → EdgesFrom s.port (answered setup s e)
  by_effect r (refused c d) h = none_raised setup s r c d
  by_effect r (does t tally d) h = h

  -- Interrupts are exactly the bits that go from 0 to 1 from the port as the record found it to the port as it leaves it, with the
  -- enables as the record found them.
  pub edges : (r : Record) → Edges setup defaults s r
  unfolding run
  edges r =
      let e = by_effect r (effect setup defaults s r) (every EdgesAs setup defaults s sound_edges r) in
      let b = answer_bytes_lem (run setup defaults s r).reply in
      record { received = b.received ∙ e.received; overflow = b.overflow ∙ e.overflow; drs = b.drs ∙ e.drs; others = b.others }

  abbrev Few : Record → State → Tally → ℕ → Type 0
  Few r t tally d = length (of_record setup s r ++ frs_sent setup (scene_of t no_tally)) ≤ 33

  few_sent : (r : Record) (t : State) (tally : Tally) → Opens setup s r t tally → of_record setup s r ≡ [] → length (of_record setup s r ++ frs_sent setup (scene_of t no_tally)) ≤ 33
  few_sent r t tally o e = rw e (omega (arith, frs_sent_most setup (scene_of t no_tally), o.slots))

  few_own : (r : Record) (t : State) → due t.port.clock t.statuses ≡ [] → drs_due setup (scene_of t no_tally) ≡ false
      → length (of_record setup s r ++ frs_sent setup (scene_of t no_tally)) ≤ 33
  few_own r t e d = rw (sent_none setup (scene_of t no_tally) e d, append-nil (of_record setup s r)) (omega (arith, own_most setup s r))

  few_each : Every Few setup defaults s
  unfolding frs_arrive drs_arrives drs_set
  few_each =
      let o = opens setup defaults s in
      record {
        advance = λ by e. few_sent (Advance by) _ no_tally (o.advance by e) refl;
        read = λ p e. few_sent (Read p) s no_tally (o.read p e) refl;
        write = λ p value e. few_sent (Write p value) _ no_tally (o.write p value e) refl;
        drs = λ id e. few_own (MessageRecord (Some (Drs id))) (with_root (drs_arrives setup.port_id (root_of s no_tally)) s) rests drs_rests;
        frs = λ id reason e. few_own (MessageRecord (Some (Frs id reason))) (with_root (frs_arrive (record { id = id; reason = reason } ∷ []) (root_of s no_tally)) s) rests drs_rests;
        link_up = λ e. few_sent LinkUp _ no_tally (o.link_up e) refl;
        link_down = λ e. few_sent LinkDown _ no_tally (o.link_down e) refl;
        cold_reset = few_sent ColdReset _ no_tally o.cold_reset refl;
        read_queue = few_sent ReadQueue s no_tally o.read_queue refl;
        remove_oldest = few_sent RemoveOldest _ no_tally o.remove_oldest refl;
        clear_bits = λ mask. few_sent (ClearBits mask) _ no_tally (o.clear_bits mask) refl;
        control = λ b. few_sent (Control b) _ no_tally (o.control b) refl;
        hardware_set = λ slot word mask e. few_sent (HardwareSet slot word mask) _ no_tally (o.hardware_set slot word mask e) refl;
        read_bits = few_sent ReadBits s no_tally o.read_bits refl;
        no_kind = few_sent NoKind s no_tally o.no_kind refl;
      }

  few_in : (r : Record) (e : Effect State) → Leaves (Few r) e → length (arrivals_in setup (of_record setup s r) e) ≤ 33
  few_in r (refused c d) h = omega arith
  few_in r (does t tally d) h = h

  -- In a sound state, at most 33 messages arrive in one record, so that the counts are bytes.
  pub at_most_33 : (r : Record) → length (arrivals setup defaults s r) ≤ 33
  unfolding arrivals
  at_most_33 r = few_in r (effect setup defaults s r) (every Few setup defaults s few_each r)
