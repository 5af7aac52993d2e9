-- The FRS messages that arrive in a record: how many are queued and dropped, and what the queue's list is after it; the answer's bytes.
use Prim.Native.Nat.{ℕ, ◌+◌, ◌-◌, ◌*◌, ◌≤◌, min}
use native.Mathlib.Omega.{arith}
use mathlib.Core.Bool.{Bool, true, false, not, ◌&&◌, ◌||◌}
use mathlib.Core.List.{List, ◌++◌, map, append-nil}
use mathlib.Core.Path.{◌≡◌, refl, sym, ap, ap₂, ◌∙◌}
use lib.Dec.{ltb}
use lib.ListN.{length, take, length-append, length-map}
use Rattle.bits.proofs.Lists.{take_min}
use Rattle.bits.proofs.Tests.{truth}
use Rattle.bits.specs.Bits.{bit, one}
use Rattle.frs_queue.specs.declared.Frs as queue_frs
use Rattle.frs_queue.specs.declared.Tally.{Tally}
use Rattle.frs_queue.specs.Queue.{Ring, no_tally, cell_of, arrive_all, messages_of}
use Rattle.frs_queue.proofs.Laws.{messages_length, arrive_all_append}
use Rattle.frs_queue.proofs.Several.{Outcome, several, fresh}
use Rattle.readiness.specs.declared.Setup.{Setup}
use Rattle.readiness.specs.declared.Dev.{Dev}
use Rattle.readiness.specs.Root.{ring_of, drs_interrupt}
use Rattle.readiness.specs.Settle.{settles, frs_sent}
use Rattle.readiness.proofs.Sent.{with_drs, arrive_all-drs, drs_raised, settle_messages, frs_sent_most}
use Rattle.records.specs.declared.Record.{Record}
use Rattle.records.specs.State.{State, list_of, root_of, scene_of}
use Rattle.records.specs.Answer.{Effect, refused, does, Ran, answered, interrupts, answer_bytes}
use Rattle.records.specs.Arrivals.{of_record, arrivals_in, arrivals}
use Rattle.records.specs.Run.{effect, run}
use Rattle.records.proofs.Leaving.{Leaves, every}
use Rattle.records.specs.Counts.{kept_by, kept_in, kept, clears_bit, clears_in, received_kept, overflow_kept, Counts, EveryAnswer}
use Rattle.bits.proofs.Bits.{one_most}
use Rattle.bits.proofs.Numbers.{four_bytes}
use Rattle.records.specs.Decode.{four}
use Rattle.records.proofs.Opening.{found_by, is_drs, Opens, OpensAs, opens, own_most, found_bits}
use Rattle.records.proofs.Sending.{sent_same}

-- ---- the answer's bytes

-- the bits of the interrupts: 0 Received, 1 Overflow, 2 DRS
three_bits : (a b c : Bool) → (bit (one a + 2 * one b + 4 * one c) 0 ≡ a) × (bit (one a + 2 * one b + 4 * one c) 1 ≡ b) × (bit (one a + 2 * one b + 4 * one c) 2 ≡ c)
unfolding bit
three_bits false false false = (refl, refl, refl)
three_bits false false true = (refl, refl, refl)
three_bits false true false = (refl, refl, refl)
three_bits false true true = (refl, refl, refl)
three_bits true false false = (refl, refl, refl)
three_bits true false true = (refl, refl, refl)
three_bits true true false = (refl, refl, refl)
three_bits true true true = (refl, refl, refl)

pub interrupt_bits : (t : Tally) → (bit (interrupts t) 0 ≡ t.received) × (bit (interrupts t) 1 ≡ t.overflow) × (bit (interrupts t) 2 ≡ t.drs)
interrupt_bits t = three_bits t.received t.overflow t.drs

pub answer_bytes_lem : EveryAnswer
unfolding answer_bytes four
answer_bytes_lem a =
    let b = interrupt_bits a.tally in
    record {
      status = refl;
      received = b.0;
      overflow = b.1;
      drs = b.2;
      others = omega (arith, one_most a.tally.received, one_most a.tally.overflow, one_most a.tally.drs);
      queued = refl;
      dropped = refl;
      data_word = λ h. four_bytes a.«data» h;
    }

-- ---- what comes of the messages that arrive in a record

-- x is what comes of a record in the state s that leaves this list of the queue and these two bits, and in which these messages arrive
record ArrivedAs (s : State) (left : List ℕ) (received overflow : Bool) (messages : List queue_frs.Frs) (x : Ran State) : Type 0 where
  -- as many are queued as there is room for, and the others are dropped
  queued : x.reply.tally.queued ≡ min (length s.cells - length left) (length messages)
  all : x.reply.tally.queued + x.reply.tally.dropped ≡ length messages
  -- the queue's list is what was left, and the first queued of the messages
  list : messages_of x.after.cells x.after.port.queue ≡ left ++ take x.reply.tally.queued (map cell_of messages)
  -- Received is set where one was queued, and Overflow where one was dropped
  bit_received : x.after.port.queue.received ≡ (received || ltb 0 x.reply.tally.queued)
  bit_overflow : x.after.port.queue.overflow ≡ (overflow || ltb 0 x.reply.tally.dropped)

module _ (setup : Setup) (s : State) (r : Record) (t : State) (tally : Tally) (o : Opens setup s r t tally) (few : length s.statuses ≤ 32) where
  abbrev pub found : Dev
  found = found_by s r

  abbrev pub messages : List queue_frs.Frs
  messages = of_record setup s r ++ frs_sent setup (scene_of t no_tally)

  abbrev pub on : Bool
  on = found.control.frs_interrupt

  -- all the messages have arrived where the record found the port
  abbrev pub ended : Ring
  ended = arrive_all on messages (fresh s.cells found.queue)

  -- what raises the DRS interrupt
  abbrev pub raised : Bool
  raised = drs_raised setup (scene_of t tally)

  pub ring_is : ring_of (settles setup (scene_of t tally)).root ≡ with_drs raised (with_drs (is_drs r && drs_interrupt found) ended)
  ring_is =
      settle_messages setup (scene_of t tally)
      ∙ ap (λ (b : Bool). with_drs raised (arrive_all b (frs_sent setup (scene_of t tally)) (ring_of (root_of t tally)))) (ap (λ c. c.frs_interrupt) o.control)
      ∙ ap (λ (m : List queue_frs.Frs). with_drs raised (arrive_all on m (ring_of (root_of t tally)))) (sent_same setup t tally)
      ∙ ap (λ (x : Ring). with_drs raised (arrive_all on (frs_sent setup (scene_of t no_tally)) x)) o.ring
      ∙ ap (with_drs raised) (arrive_all-drs (is_drs r && drs_interrupt found) on (frs_sent setup (scene_of t no_tally)) _)
      ∙ ap (λ (x : Ring). with_drs raised (with_drs (is_drs r && drs_interrupt found) x)) (sym (arrive_all_append on (of_record setup s r) (frs_sent setup (scene_of t no_tally)) _))

  pub outcome : Outcome on messages s.cells found.queue ended
  outcome =
      several on messages s.cells found.queue
      (omega (arith, length-append (of_record setup s r) (frs_sent setup (scene_of t no_tally)), own_most setup s r, frs_sent_most setup (scene_of t no_tally), o.slots))

  arrived_does : s.port.queue.depth ≤ length s.cells → (d : ℕ)
      → ArrivedAs s (kept_by s r) (s.port.queue.received && not (clears_bit 0 r)) (s.port.queue.overflow && not (clears_bit 1 r)) messages (answered setup s (does t tally d))
  unfolding answered
  arrived_does h d =
      let left : found.queue.depth ≡ length (kept_by s r) = sym (messages_length s.cells found.queue) ∙ ap length (o.list h) in
      let count : ended.tally.queued ≡ min (length s.cells - length (kept_by s r)) (length messages) =
      outcome.queued ∙ ap (λ (n : ℕ). min (length s.cells - n) (length messages)) left in
      record {
        queued = ap (λ (x : Ring). x.tally.queued) ring_is ∙ count;
        all = ap (λ (x : Ring). x.tally.queued + x.tally.dropped) ring_is ∙ outcome.all;
        list =
            ap (λ (x : Ring). messages_of x.cells x.queue) ring_is ∙ outcome.list
            ∙ ap (λ (l : List ℕ). l ++ take (length s.cells - found.queue.depth) (map cell_of messages)) (o.list h)
            ∙ ap (λ (l : List ℕ). kept_by s r ++ l) (sym (take_min (length s.cells - found.queue.depth) (map cell_of messages)))
            ∙ ap (λ (n : ℕ). kept_by s r ++ take (min (length s.cells - found.queue.depth) n) (map cell_of messages)) (length-map messages cell_of)
            ∙ ap (λ (n : ℕ). kept_by s r ++ take n (map cell_of messages)) (sym outcome.queued ∙ sym (ap (λ (x : Ring). x.tally.queued) ring_is));
        bit_received =
            ap (λ (x : Ring). x.queue.received) ring_is ∙ outcome.received
            ∙ ap₂ (λ (b : Bool) (n : ℕ). b || ltb 0 n) (found_bits s r).0 (sym (ap (λ (x : Ring). x.tally.queued) ring_is));
        bit_overflow =
            ap (λ (x : Ring). x.queue.overflow) ring_is ∙ outcome.overflow
            ∙ ap₂ (λ (b : Bool) (n : ℕ). b || ltb 0 n) (found_bits s r).1 (sym (ap (λ (x : Ring). x.tally.dropped) ring_is));
      }

module _ (setup : Setup) (s : State) (r : Record) (few : length s.statuses ≤ 32) where
  arrived_in : (e : Effect State) → Leaves (OpensAs setup s r) e → s.port.queue.depth ≤ length s.cells
      → ArrivedAs s (kept_in s r e) (s.port.queue.received && not (clears_in 0 r e)) (s.port.queue.overflow && not (clears_in 1 r e)) (arrivals_in setup (of_record setup s r) e)
      (answered setup s e)
  unfolding answered
  arrived_in (refused c d) o h =
      record {
        queued = omega arith;
        all = refl;
        list = sym (append-nil (list_of s));
        bit_received = truth 1 (λ b. b) (λ b. (b && true) || false) tt s.port.queue.received;
        bit_overflow = truth 1 (λ b. b) (λ b. (b && true) || false) tt s.port.queue.overflow;
      }
  arrived_in (does t tally d) o h = arrived_does setup s r t tally o few h d

-- FRS queued are as many of the arrivals as there was room for, queued and dropped are all of them; the queue's list is what the record left of
-- it, and the first queued of the messages, in order; Received and Overflow are set by them, else as the record left them.
arrived : (setup : Setup) (defaults : List ℕ) (s : State) (r : Record) → length s.statuses ≤ 32 → s.port.queue.depth ≤ length s.cells
    → ArrivedAs s (kept setup defaults s r) (received_kept setup defaults s r) (overflow_kept setup defaults s r) (arrivals setup defaults s r) (run setup defaults s r)
unfolding run arrivals
arrived setup defaults s r few h = arrived_in setup s r few (effect setup defaults s r) (every (OpensAs setup s) setup defaults s (opens setup defaults s) r) h

pub counts : (setup : Setup) (defaults : List ℕ) (s : State) (r : Record) → length s.statuses ≤ 32 → s.port.queue.depth ≤ length s.cells → Counts setup defaults s r
unfolding answer_bytes
counts setup defaults s r few h = let a = arrived setup defaults s r few h in record { queued = a.queued; all = a.all; list = a.list; received = a.bit_received; overflow = a.bit_overflow }
