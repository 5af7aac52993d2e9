-- STATUSES IN AN ANSWER, proved as specs/Statuses.antt states them.
use Prim.Native.Nat.{ℕ, ◌+◌, ◌/◌, ◌%◌, ◌≤◌, ◌<◌}
use native.Mathlib.Omega.{arith}
use mathlib.Core.Bool.{Bool, true, false, not, cond, or-true, true≢false}
use mathlib.Core.List.{List, [], ◌∷◌}
use mathlib.Core.Logic.{◌≢◌, ◌⊎◌, inl, inr}
use mathlib.Core.Path.{◌≡◌, refl, sym, ap, ◌∙◌}
use lib.Dec.{T, ltb, eqb}
use borrow.Author.Tests.{ltb-true, ltb-false, lt-ltb, le-ltb, eqb-true, eqb-false, eq-eqb, ne_eqb}
use Rattle.bits.proofs.Tests.{untrue, split}
use Rattle.times.specs.declared.Nanos.{Nanos}
use Rattle.times.specs.Moments.{clock_end}
use Rattle.std.specs.Prelude.{Option, Some, None}
use Rattle.messages.specs.declared.Message.{Message}
use Rattle.messages.specs.declared.Message.TheVariants.{Drs, Frs}
use Rattle.frs_queue.specs.Queue.{no_tally}
use Rattle.readiness.specs.declared.Phase.TheVariants.{Ready}
use Rattle.readiness.specs.declared.Setup.{Setup}
use Rattle.readiness.specs.Status.{ready_phase, is_ready}
use Rattle.records.specs.declared.Completion.TheVariants as completion
use Rattle.records.specs.declared.Record.{Record}
use Rattle.records.specs.declared.Record.TheVariants as kind
use Rattle.records.specs.State.{State, status_at, phase_at}
use Rattle.records.specs.Answer.{refused, does, Ran, answered, completion_number}
use Rattle.records.specs.Requests.{hardware_effect}
use Rattle.records.specs.PortRecords.{message_done, message_effect, control_effect}
use Rattle.records.specs.CardRecords.{link_up_effect, link_down_effect, cold_reset_effect}
use Rattle.records.specs.Run.{at_port, front_of, effect, run}
use Rattle.records.specs.Statuses.{status_of, can_give, one_of, HardwareStatuses, MessageStatuses, AdvanceStatuses, LinkStatuses, ControlStatuses, Statuses, EveryStatus}
use Rattle.records.proofs.Leaving.{linked_up, linked_down}
use Rattle.records.proofs.SoundFacts.{ready_phase_lem}
use Rattle.records.proofs.Routes.{Reason, because, in_list, request_statuses, request-listed}
use Rattle.records.proofs.Data.{refused_read}
use Rattle.records.proofs.Laws.{refused-unchanged, advance-runs, advance-refused}

-- ---- kind 0C: hardware sets bits
module _ (setup : Setup) (defaults : List ℕ) (s : State) (slot word mask : ℕ) where
  abbrev hardware : ℕ
  hardware = status_of setup defaults s (kind.HardwareSet slot word mask)

  hardware_20 : setup.slots ≤ slot → hardware ≡ 20
  unfolding run effect answered hardware_effect
  hardware_20 h = rw (le-ltb slot setup.slots h)

  hardware_21 : (slot < setup.slots) × (63 < word) → hardware ≡ 21
  unfolding run effect answered hardware_effect
  hardware_21 h = rw (lt-ltb slot setup.slots h.0, lt-ltb 63 word h.1)

  hardware_23 : (slot < setup.slots) × (word ≤ 63) × (phase_at s slot ≢ Ready) → hardware ≡ 23
  unfolding run effect answered hardware_effect
  hardware_23 h =
      let e : is_ready (status_at s.statuses slot) ≡ false = untrue _ (λ e. h.2 (ready_phase_lem (phase_at s slot) e)) in
      rw (lt-ltb slot setup.slots h.0, le-ltb 63 word h.1, e)

  hardware_0 : (slot < setup.slots) × (word ≤ 63) × (phase_at s slot ≡ Ready) → hardware ≡ 0
  unfolding run effect answered hardware_effect
  hardware_0 h =
      let e : is_ready (status_at s.statuses slot) ≡ true = ap ready_phase h.2 in
      rw (lt-ltb slot setup.slots h.0, le-ltb 63 word h.1, e)

  abbrev HardwareBecause : ℕ → Type 0
  HardwareBecause n =
      cond (eqb n 20) (setup.slots ≤ slot)
      (cond (eqb n 21) ((slot < setup.slots) × (63 < word))
      (cond (eqb n 23) ((slot < setup.slots) × (word ≤ 63) × (phase_at s slot ≢ Ready))
      (cond (eqb n 0) ((slot < setup.slots) × (word ≤ 63) × (phase_at s slot ≡ Ready)) ⊥)))

  hardware_why : Reason (can_give (kind.HardwareSet slot word mask)) HardwareBecause hardware
  hardware_why =
      split (ltb slot setup.slots)
      (λ a.
      let h = ltb-true slot setup.slots a in
      split (ltb 63 word) (λ b. let k : (slot < setup.slots) × (63 < word) = (h, ltb-true 63 word b) in record { number = 21; why = k; listed = tt; given = hardware_21 k })
      (λ b.
      let l = ltb-false 63 word b in
      split (ready_phase (phase_at s slot)) (λ c. let k : (slot < setup.slots) × (word ≤ 63) × (phase_at s slot ≡ Ready) = (h, l, ready_phase_lem (phase_at s slot) c) in record { number = 0; why = k; listed = tt; given = hardware_0 k })
      (λ c.
      let n : phase_at s slot ≢ Ready = λ f. let z : true ≡ false = sym (ap ready_phase f) ∙ c in true≢false z in
      let k : (slot < setup.slots) × (word ≤ 63) × (phase_at s slot ≢ Ready) = (h, l, n) in
      record { number = 23; why = k; listed = tt; given = hardware_23 k })))
      (λ a. let k = ltb-false slot setup.slots a in record { number = 20; why = k; listed = tt; given = hardware_20 k })

  hardware_statuses : HardwareStatuses setup defaults s slot word mask
  hardware_statuses =
      record {
        no_slot = (because hardware_why 20, hardware_20);
        no_word = (because hardware_why 21, hardware_21);
        not_ready = (because hardware_why 23, hardware_23);
        done = (because hardware_why 0, hardware_0);
      }

-- ---- kind 04: message
drs_is : (id : ℕ) → Some (Drs id) ≢ None
drs_is id q = let z : ◌≡◌ {A = ℕ} 0 1 = cc in omega arith

frs_is : (id reason : ℕ) → Some (Frs id reason) ≢ None
frs_is id reason q = let z : ◌≡◌ {A = ℕ} 0 1 = cc in omega arith

module _ (setup : Setup) (defaults : List ℕ) (s : State) where
  abbrev message : Option Message → ℕ
  message m = status_of setup defaults s (kind.Message m)

  by_link : (m : Option Message) (b : Bool) → s.port.link ≡ b
      → message m ≡ completion_number (answered setup s (at_port s (cond b (message_done setup.port_id m (front_of s)) (refused completion.WrongState 0)))).reply.completion
  unfolding run effect message_effect
  by_link m b e = ap (λ (b : Bool). completion_number (answered setup s (at_port s (cond b (message_done setup.port_id m (front_of s)) (refused completion.WrongState 0)))).reply.completion) e

  message_23 : (m : Option Message) → s.port.link ≡ false → message m ≡ 23
  unfolding answered
  message_23 m e = by_link m false e

  message_19 : (m : Option Message) → (s.port.link ≡ true) × (m ≡ None) → message m ≡ 19
  unfolding answered message_done
  message_19 m h = ap message h.1 ∙ by_link None true h.0

  message_0 : (m : Option Message) → (s.port.link ≡ true) × (m ≢ None) → message m ≡ 0
  unfolding answered message_done
  message_0 None h = absurd (h.1 refl)
  message_0 (Some (Drs id)) h = by_link (Some (Drs id)) true h.0
  message_0 (Some (Frs id reason)) h = by_link (Some (Frs id reason)) true h.0

  abbrev MessageBecause : Option Message → ℕ → Type 0
  MessageBecause m n =
      cond (eqb n 23) (s.port.link ≡ false)
      (cond (eqb n 19) ((s.port.link ≡ true) × (m ≡ None))
      (cond (eqb n 0) ((s.port.link ≡ true) × (m ≢ None)) ⊥))

  message_up : (m : Option Message) → s.port.link ≡ true → Reason (0 ∷ 19 ∷ 23 ∷ []) (MessageBecause m) (message m)
  message_up None e = record { number = 19; why = (e, refl); listed = tt; given = message_19 None (e, refl) }
  message_up (Some (Drs id)) e = record { number = 0; why = (e, drs_is id); listed = tt; given = message_0 (Some (Drs id)) (e, drs_is id) }
  message_up (Some (Frs id reason)) e = record { number = 0; why = (e, frs_is id reason); listed = tt; given = message_0 (Some (Frs id reason)) (e, frs_is id reason) }

  message_why : (m : Option Message) → Reason (0 ∷ 19 ∷ 23 ∷ []) (MessageBecause m) (message m)
  message_why m = split s.port.link (message_up m) (λ e. record { number = 23; why = e; listed = tt; given = message_23 m e })

  message_statuses : (m : Option Message) → MessageStatuses setup defaults s m
  message_statuses m =
      record {
        link_down = (because (message_why m) 23, message_23 m);
        no_message = (because (message_why m) 19, message_19 m);
        done = (because (message_why m) 0, message_0 m);
      }

  -- ---- kind 01: advance clock
  abbrev advance : Nanos → ℕ
  advance by = status_of setup defaults s (kind.Advance by)

  advance_22 : (by : Nanos) → clock_end < s.port.clock.0 + by.0 → advance by ≡ 22
  advance_22 by h = ap (λ (x : Ran State). completion_number x.reply.completion) (advance-refused setup defaults s by h)

  advance_0 : (by : Nanos) → s.port.clock.0 + by.0 ≤ clock_end → advance by ≡ 0
  advance_0 by h = ap (λ (x : Ran State). completion_number x.reply.completion) (advance-runs setup defaults s by h)

  abbrev AdvanceBecause : Nanos → ℕ → Type 0
  AdvanceBecause by n = cond (eqb n 22) (clock_end < s.port.clock.0 + by.0) (cond (eqb n 0) (s.port.clock.0 + by.0 ≤ clock_end) ⊥)

  advance_why : (by : Nanos) → Reason (0 ∷ 22 ∷ []) (AdvanceBecause by) (advance by)
  advance_why by =
      split (ltb clock_end (s.port.clock.0 + by.0))
      (λ a. let h = ltb-true clock_end (s.port.clock.0 + by.0) a in record { number = 22; why = h; listed = tt; given = advance_22 by h })
      (λ a. let h = ltb-false clock_end (s.port.clock.0 + by.0) a in record { number = 0; why = h; listed = tt; given = advance_0 by h })

  advance_statuses : (by : Nanos) → AdvanceStatuses setup defaults s by
  advance_statuses by = record { past_end = (because (advance_why by) 22, advance_22 by); done = (because (advance_why by) 0, advance_0 by) }

  -- ---- kinds 05 and 06: link up, link down
  abbrev up : ℕ
  up = status_of setup defaults s kind.LinkUp

  up_by : (b : Bool) → s.port.link ≡ b → up ≡ completion_number (answered setup s (cond b (refused completion.WrongState 0) (does (linked_up setup s) no_tally 0))).reply.completion
  unfolding run effect link_up_effect
  up_by b e = ap (λ (b : Bool). completion_number (answered setup s (cond b (refused completion.WrongState 0) (does (linked_up setup s) no_tally 0))).reply.completion) e

  up_23 : s.port.link ≡ true → up ≡ 23
  unfolding answered
  up_23 e = up_by true e

  up_0 : s.port.link ≡ false → up ≡ 0
  unfolding answered
  up_0 e = up_by false e

  abbrev link_down : ℕ
  link_down = status_of setup defaults s kind.LinkDown

  down_by : (b : Bool) → s.port.link ≡ b
      → link_down ≡ completion_number (answered setup s (cond b (does (linked_down setup defaults s) no_tally 0) (refused completion.WrongState 0))).reply.completion
  unfolding run effect link_down_effect
  down_by b e = ap (λ (b : Bool). completion_number (answered setup s (cond b (does (linked_down setup defaults s) no_tally 0) (refused completion.WrongState 0))).reply.completion) e

  down_23 : s.port.link ≡ false → link_down ≡ 23
  unfolding answered
  down_23 e = down_by false e

  down_0 : s.port.link ≡ true → link_down ≡ 0
  unfolding answered
  down_0 e = down_by true e

  abbrev LinkBecause : (when : Bool) → ℕ → Type 0
  LinkBecause when n = cond (eqb n 23) (s.port.link ≡ when) (cond (eqb n 0) (s.port.link ≡ not when) ⊥)

  up_why : Reason (0 ∷ 23 ∷ []) (LinkBecause true) up
  up_why =
      split s.port.link (λ e. record { number = 23; why = e; listed = tt; given = up_23 e }) (λ e. record { number = 0; why = e; listed = tt; given = up_0 e })

  down_why : Reason (0 ∷ 23 ∷ []) (LinkBecause false) link_down
  down_why =
      split s.port.link (λ e. record { number = 0; why = e; listed = tt; given = down_0 e }) (λ e. record { number = 23; why = e; listed = tt; given = down_23 e })

  link_statuses : LinkStatuses setup defaults s
  link_statuses =
      record {
        up_when_up = (because up_why 23, up_23);
        down_when_down = (because down_why 23, down_23);
        up_done = (because up_why 0, up_0);
        down_done = (because down_why 0, down_0);
      }

  -- ---- kind 0B: control
  abbrev control : ℕ → ℕ
  control b = status_of setup defaults s (kind.Control b)

  control_24 : (b : ℕ) → (15 < b) ⊎ (b / 4 % 4 ≡ 3) → control b ≡ 24
  unfolding run effect answered control_effect
  control_24 b (inl h) = rw (lt-ltb 15 b h)
  control_24 b (inr h) = rw (eq-eqb (b / 4 % 4) 3 h, or-true (ltb 15 b))

  control_0 : (b : ℕ) → (b ≤ 15) × (b / 4 % 4 ≢ 3) → control b ≡ 0
  unfolding run effect answered control_effect
  control_0 b h = rw (le-ltb 15 b h.0, ne_eqb (b / 4 % 4) 3 h.1)

  abbrev ControlBecause : ℕ → ℕ → Type 0
  ControlBecause b n = cond (eqb n 24) ((15 < b) ⊎ (b / 4 % 4 ≡ 3)) (cond (eqb n 0) ((b ≤ 15) × (b / 4 % 4 ≢ 3)) ⊥)

  control_why : (b : ℕ) → Reason (0 ∷ 24 ∷ []) (ControlBecause b) (control b)
  control_why b =
      let bad : (15 < b) ⊎ (b / 4 % 4 ≡ 3) → Reason (0 ∷ 24 ∷ []) (ControlBecause b) (control b) =
      λ h. record { number = 24; why = h; listed = tt; given = control_24 b h } in
      split (ltb 15 b) (λ a. bad (inl (ltb-true 15 b a)))
      (λ a.
      split (eqb (b / 4 % 4) 3) (λ c. bad (inr (eqb-true (b / 4 % 4) 3 c)))
      (λ c. let h : (b ≤ 15) × (b / 4 % 4 ≢ 3) = (ltb-false 15 b a, eqb-false (b / 4 % 4) 3 c) in record { number = 0; why = h; listed = tt; given = control_0 b h }))

  control_statuses : (b : ℕ) → ControlStatuses setup defaults s b
  control_statuses b = record { bad_value = (because (control_why b) 24, control_24 b); done = (because (control_why b) 0, control_0 b) }

  -- ---- every kind
  listed : (r : Record) → T (one_of (status_of setup defaults s r) (can_give r))
  unfolding run effect answered cold_reset_effect
  listed (kind.Advance by) = in_list (advance_why by)
  listed (kind.Read q) = request-listed setup defaults s true q 0
  listed (kind.Write q value) = request-listed setup defaults s false q value
  listed (kind.Message m) = in_list (message_why m)
  listed kind.LinkUp = in_list up_why
  listed kind.LinkDown = in_list down_why
  listed kind.ColdReset = tt
  listed kind.ReadQueue = tt
  listed kind.RemoveOldest = tt
  listed (kind.ClearBits mask) = tt
  listed (kind.Control b) = in_list (control_why b)
  listed (kind.HardwareSet slot word mask) = in_list (hardware_why setup defaults s slot word mask)
  listed kind.ReadBits = tt
  listed kind.NoKind = tt

  all_statuses : Statuses setup defaults s
  all_statuses =
      record {
        only_these = listed;
        requests = request_statuses setup defaults s;
        hardware = hardware_statuses setup defaults s;
        messages = message_statuses;
        advance = advance_statuses;
        link = link_statuses;
        control = control_statuses;
        read_data = refused_read setup defaults s;
        refused = refused-unchanged setup defaults s;
      }

-- STATUSES
pub statuses : EveryStatus
statuses = all_statuses
