-- What settling sends: which messages, in which order, how many, and what comes of them.
use Prim.Native.Nat.{ℕ, zero, suc, ◌+◌, ◌-◌, ◌≤◌, min}
use native.Mathlib.Omega.{arith}
use mathlib.Core.Bool.{Bool, true, false, not, ◌&&◌, ◌||◌, cond, or-false, or_assoc}
use mathlib.Core.List.{List, [], ◌∷◌, ◌++◌, map}
use mathlib.Core.Path.{◌≡◌, refl, sym, ap, ap₂, ◌∙◌}
use lib.Dec.{ltb, eqb}
use lib.ListN.{length, set, take, length-append}
use Rattle.bits.proofs.Tests.{both_left, and_each, or_right}
use Rattle.bits.proofs.Choices.{either_way, through}
use Rattle.frs_queue.specs.declared.Frs.{Frs}
use Rattle.frs_queue.specs.declared.Tally.{Tally}
use Rattle.frs_queue.specs.Queue.{Ring, no_tally, cell_of, queues, drops, arrives, arrive_all, messages_of}
use Rattle.frs_queue.proofs.Laws.{arrive_all_append}
use Rattle.frs_queue.proofs.Several.{Outcome, several}
use Rattle.readiness.specs.declared.Cause.{Cause}
use Rattle.readiness.specs.declared.Cause.TheVariants.{LinkUp, Flr, D3hot}
use Rattle.readiness.specs.declared.Status.{Status}
use Rattle.readiness.specs.declared.Setup.{Setup}
use Rattle.readiness.specs.declared.Dev.{Dev}
use Rattle.readiness.specs.Status.{ready, is_ready, counts_for_drs, all_ready_from, all_ready, entry_of}
use Rattle.readiness.specs.Root.{Root, ring_of, frs_arrive, frs_of_drs, drs_interrupt, drs_set, drs_arrives}
use Rattle.readiness.specs.Events.{Event, due, frs_of, frs_of_slot, reason_after, frs_with, function_id}
use Rattle.readiness.specs.Settle.{Scene, happens, happen_all, last_of_moment, moment_ends, drs_due, tells, settles, frs_told, frs_ending, frames_of, frs_sent}
use Rattle.readiness.proofs.Order.{ready_by, set_ready, due-ready, due-length}
use Rattle.readiness.proofs.Scenes.{told, step_kept, tells-kept}

-- ---- the messages that arrive and the DRS interrupt

-- the ring with the DRS interrupt raised or not
abbrev pub with_drs : Bool → Ring → Ring
with_drs raised r =
    let t = r.tally in
    record {
      cells = r.cells;
      queue = r.queue;
      tally = record { received = t.received; overflow = t.overflow; drs = t.drs || raised; queued = t.queued; dropped = t.dropped };
    }

arrives-drs : (raised enabled : Bool) (frs : Frs) (r : Ring) → arrives enabled frs (with_drs raised r) ≡ with_drs raised (arrives enabled frs r)
unfolding arrives queues drops
arrives-drs raised enabled frs r = through (with_drs raised) (ltb r.queue.depth (length r.cells)) (queues enabled frs r) (drops enabled r) refl refl

pub arrive_all-drs : (raised enabled : Bool) (messages : List Frs) (r : Ring) → arrive_all enabled messages (with_drs raised r) ≡ with_drs raised (arrive_all enabled messages r)
unfolding arrive_all
arrive_all-drs raised enabled [] r = refl
arrive_all-drs raised enabled (frs ∷ more) r = ap (arrive_all enabled more) (arrives-drs raised enabled frs r) ∙ arrive_all-drs raised enabled more (arrives enabled frs r)

pub no_drs : (r : Ring) → r ≡ with_drs false r
no_drs r = simp or-false

drs_twice : (a b : Bool) (r : Ring) → with_drs b (with_drs a r) ≡ with_drs (a || b) r
drs_twice a b r = simp or_assoc

-- messages with the DRS interrupt raised or not, and then others
ring_then : (on a b : Bool) (f g : List Frs) (r : Ring) → with_drs b (arrive_all on g (with_drs a (arrive_all on f r))) ≡ with_drs (a || b) (arrive_all on (f ++ g) r)
ring_then on a b f g r =
    ap (with_drs b) (arrive_all-drs a on g (arrive_all on f r))
    ∙ drs_twice a b (arrive_all on g (arrive_all on f r))
    ∙ ap (with_drs (a || b)) (sym (arrive_all_append on f g r))

-- the DRS interrupt is raised as a DRS is told
abbrev raised : Setup → Scene → Bool
raised setup x = drs_due setup x && drs_interrupt x.root.dev

abbrev on : Scene → Bool
on x = x.root.dev.control.frs_interrupt

tells-ring : (setup : Setup) (x : Scene) → ring_of (tells setup x).root ≡ with_drs (raised setup x) (arrive_all (on x) (frs_told setup x) (ring_of x.root))
unfolding tells frs_told frs_arrive drs_arrives drs_set frs_of_drs arrive_all
tells-ring setup x = by (drs_due setup x)
  where
    by : (b : Bool) → ring_of (cond b (told setup x) x).root ≡ with_drs (b && drs_interrupt x.root.dev) (arrive_all (on x) (cond b (frs_of_drs setup.port_id x.root.dev) []) (ring_of x.root))
    by true = arrive_all-drs (drs_interrupt x.root.dev) (on x) (frs_of_drs setup.port_id x.root.dev) (ring_of x.root)
    by false = no_drs (ring_of x.root)

abbrev end_raised : Setup → Event → List Event → Scene → Bool
end_raised setup e es x = last_of_moment e es && raised setup x

ends-ring : (setup : Setup) (e : Event) (es : List Event) (x : Scene)
    → ring_of (moment_ends setup e es x).root ≡ with_drs (end_raised setup e es x) (arrive_all (on x) (frs_ending setup e es x) (ring_of x.root))
unfolding moment_ends frs_ending arrive_all
ends-ring setup e es x = by (last_of_moment e es)
  where
    by : (b : Bool) → ring_of (cond b (tells setup x) x).root ≡ with_drs (b && raised setup x) (arrive_all (on x) (cond b (frs_told setup x) []) (ring_of x.root))
    by true = tells-ring setup x
    by false = no_drs (ring_of x.root)

-- one event and the end of its moment
step-ring : (setup : Setup) (e : Event) (es : List Event) (x : Scene)
    → (let y = happens setup e x in
    ring_of (moment_ends setup e es y).root ≡ with_drs (end_raised setup e es y) (arrive_all (on x) (frs_of setup e ++ frs_ending setup e es y) (ring_of x.root)))
unfolding happens frs_arrive
step-ring setup e es x =
    let y = happens setup e x in
    ends-ring setup e es y ∙ ap (with_drs (end_raised setup e es y)) (sym (arrive_all_append (on x) (frs_of setup e) (frs_ending setup e es y) (ring_of x.root)))

unfoldable raised_all : Setup → List Event → Scene → Bool
raised_all setup [] x = false
raised_all setup (e ∷ es) x =
    let y = happens setup e x in
    end_raised setup e es y || raised_all setup es (moment_ends setup e es y)

happen_all-ring : (setup : Setup) (es : List Event) (x : Scene)
    → ring_of (happen_all setup es x).root ≡ with_drs (raised_all setup es x) (arrive_all (on x) (frames_of setup es x) (ring_of x.root))
unfolding happen_all raised_all frames_of arrive_all
happen_all-ring setup [] x = no_drs (ring_of x.root)
happen_all-ring setup (e ∷ es) x =
    let y = happens setup e x in
    let z = moment_ends setup e es y in
    happen_all-ring setup es z
    ∙ ap₂ (λ (b : Bool) (r : Ring). with_drs (raised_all setup es z) (arrive_all b (frames_of setup es z) r)) (ap (λ c. c.frs_interrupt) (step_kept setup e es x).control) (step-ring setup e es x)
    ∙ ring_then (on x) (end_raised setup e es y) (raised_all setup es z) (frs_of setup e ++ frs_ending setup e es y) (frames_of setup es z) (ring_of x.root)

-- ---- the DRS is told at most once in a settle: when all slots that count are Ready once all has happened

made_ready : (setup : Setup) (k : ℕ) (l : List Status) (i : ℕ) → all_ready_from setup k l ≡ true → all_ready_from setup k (set l i ready) ≡ true
unfolding all_ready_from
made_ready setup k [] i e = refl
made_ready setup k (s ∷ l) zero e =
    let n = not (counts_for_drs setup k) in
    and_each (n || is_ready s) (all_ready_from setup (suc k) l) (n || true) (all_ready_from setup (suc k) l) (or_right n (is_ready s) true (λ q. refl)) (λ q. q) e
made_ready setup k (s ∷ l) (suc i) e =
    let b = not (counts_for_drs setup k) || is_ready s in
    and_each b (all_ready_from setup (suc k) l) b (all_ready_from setup (suc k) (set l i ready)) (λ q. q) (made_ready setup (suc k) l i) e

-- Slots that are Ready stay so, whatever happens by itself.
pub all_made_ready : (setup : Setup) (es : List Event) (l : List Status) → all_ready setup l ≡ true → all_ready setup (set_ready es l) ≡ true
unfolding set_ready
all_made_ready setup [] l e = e
all_made_ready setup (v ∷ es) l e = all_made_ready setup es (set l v.slot ready) (made_ready setup 0 l v.slot e)

-- a DRS is owed, all slots that count are Ready once these events have happened, and DRS Received goes from 0 to 1 with signalling 1
abbrev raised_by : Setup → List Event → Scene → Bool
raised_by setup es x = (x.root.dev.owed && all_ready setup (set_ready es x.statuses)) && drs_interrupt x.root.dev

told_raised : (setup : Setup) (es : List Event) (x : Scene) → (raised setup x || raised_by setup es (tells setup x)) ≡ raised_by setup es x
unfolding tells
told_raised setup es x = by (drs_due setup x) refl
  where
    by : (d : Bool) → drs_due setup x ≡ d → ((d && drs_interrupt x.root.dev) || raised_by setup es (cond d (told setup x) x)) ≡ raised_by setup es x
    by false e = refl
    by true e =
        or-false (drs_interrupt x.root.dev)
        ∙ sym (ap (λ (b : Bool). b && drs_interrupt x.root.dev)
        (and_each x.root.dev.owed (all_ready setup x.statuses) x.root.dev.owed (all_ready setup (set_ready es x.statuses)) (λ q. q) (all_made_ready setup es x.statuses) e))

raised_cons : (setup : Setup) (e : Event) (es : List Event) (x : Scene) → raised_all setup (e ∷ es) x ≡ raised_by setup (e ∷ es) x
unfolding raised_all moment_ends set_ready happens frs_arrive
raised_cons setup e [] x = or-false (raised setup (happens setup e x))
raised_cons setup e (f ∷ es) x =
    let y = happens setup e x in
    ap (λ (b : Bool). end_raised setup e (f ∷ es) y || b) (raised_cons setup f es (moment_ends setup e (f ∷ es) y)) ∙ by (last_of_moment e (f ∷ es))
  where
    by : (b : Bool) → (let y = happens setup e x in ((b && raised setup y) || raised_by setup (f ∷ es) (cond b (tells setup y) y)) ≡ raised_by setup (f ∷ es) y)
    by true = told_raised setup (f ∷ es) (happens setup e x)
    by false = refl

raised_all_lem : (setup : Setup) (es : List Event) (x : Scene) → (raised setup x || raised_all setup es (tells setup x)) ≡ raised_by setup es x
unfolding raised_all set_ready
raised_all_lem setup [] x = or-false (raised setup x)
raised_all_lem setup (e ∷ es) x = ap (λ (b : Bool). raised setup x || b) (raised_cons setup e es (tells setup x)) ∙ told_raised setup (e ∷ es) x

-- the DRS interrupt is raised by settling: a DRS is owed, all slots that count are Ready once all that is due has happened, and DRS Received goes from 0 to 1 with signalling 1
abbrev pub drs_raised : Setup → Scene → Bool
drs_raised setup x = (x.root.dev.owed && all_ready setup (ready_by x.root.dev.clock x.statuses)) && drs_interrupt x.root.dev

-- The messages that one settle sends are exactly those of `frs_sent`, in that order.
pub settle_messages : (setup : Setup) (x : Scene)
    → ring_of (settles setup x).root ≡ with_drs (drs_raised setup x) (arrive_all x.root.dev.control.frs_interrupt (frs_sent setup x) (ring_of x.root))
unfolding settles frs_sent
settle_messages setup x =
    let es = due x.root.dev.clock x.statuses in
    let y = tells setup x in
    happen_all-ring setup es y
    ∙ ap₂ (λ (b : Bool) (r : Ring). with_drs (raised_all setup es y) (arrive_all b (frames_of setup es y) r)) (ap (λ c. c.frs_interrupt) (tells-kept setup x).control) (tells-ring setup x)
    ∙ ring_then (on x) (raised setup x) (raised_all setup es y) (frs_told setup x) (frames_of setup es y) (ring_of x.root)
    ∙ ap (λ (b : Bool). with_drs b (arrive_all (on x) (frs_told setup x ++ frames_of setup es y) (ring_of x.root)))
    (raised_all_lem setup es x ∙ ap (λ (l : List Status). (x.root.dev.owed && all_ready setup l) && drs_interrupt x.root.dev) (due-ready x.root.dev.clock x.statuses))

-- at most one message for each slot, and the port's own
frs_with-length : (id : ℕ) (c : Cause) → length (frs_with id (reason_after c)) ≤ 1
frs_with-length id LinkUp = omega arith
frs_with-length id (Flr end) = omega arith
frs_with-length id D3hot = omega arith

frs_of-length : (setup : Setup) (e : Event) → length (frs_of setup e) ≤ 1
unfolding frs_of frs_of_slot
frs_of-length setup e =
    either_way (λ (m : List Frs). length m ≤ 1) (entry_of setup e.slot).sends_frs (frs_with (function_id setup.bus e.slot) (reason_after e.cause)) []
    (λ b. frs_with-length (function_id setup.bus e.slot) e.cause) (λ b. omega arith)

own_length : (setup : Setup) (d : Dev) → length (frs_of_drs setup.port_id d) ≤ 1
unfolding frs_of_drs
own_length setup d =
    either_way (λ (m : List Frs). length m ≤ 1) (not d.drs_received && eqb d.control.signalling 2) (record { id = setup.port_id; reason = 1 } ∷ []) [] (λ t. omega arith) (λ t. omega arith)

-- one that is owed can be told, and then is not owed
abbrev owes : Scene → ℕ
owes x = cond x.root.dev.owed 1 0

told-length : (setup : Setup) (x : Scene) → length (frs_told setup x) + owes (tells setup x) ≤ owes x
unfolding frs_told tells
told-length setup x = by (drs_due setup x) refl
  where
    by : (b : Bool) → drs_due setup x ≡ b → length (cond b (frs_of_drs setup.port_id x.root.dev) []) + owes (cond b (told setup x) x) ≤ owes x
    by true e =
        let o : owes x ≡ 1 = ap (λ (b : Bool). cond b 1 0) (both_left x.root.dev.owed (all_ready setup x.statuses) e) in
        omega (arith, own_length setup x.root.dev)
    by false e = omega arith

ends-length : (setup : Setup) (e : Event) (es : List Event) (x : Scene) → length (frs_ending setup e es x) + owes (moment_ends setup e es x) ≤ owes x
unfolding frs_ending moment_ends
ends-length setup e es x = by (last_of_moment e es)
  where
    by : (b : Bool) → length (cond b (frs_told setup x) []) + owes (cond b (tells setup x) x) ≤ owes x
    by true = told-length setup x
    by false = omega arith

happens_owes : (setup : Setup) (e : Event) (x : Scene) → owes (happens setup e x) ≡ owes x
unfolding happens frs_arrive
happens_owes setup e x = refl

frames_of-length : (setup : Setup) (es : List Event) (x : Scene) → length (frames_of setup es x) ≤ length es + owes x
unfolding frames_of
frames_of-length setup [] x = omega arith
frames_of-length setup (e ∷ es) x =
    let y = happens setup e x in
    let z = moment_ends setup e es y in
    omega (
      arith,
      length-append (frs_of setup e ++ frs_ending setup e es y) (frames_of setup es z),
      length-append (frs_of setup e) (frs_ending setup e es y),
      frs_of-length setup e,
      ends-length setup e es y,
      happens_owes setup e x,
      frames_of-length setup es z,
    )

owes_most : (x : Scene) → owes x ≤ 1
owes_most x = either_way (λ (n : ℕ). n ≤ 1) x.root.dev.owed 1 0 (λ e. omega arith) (λ e. omega arith)

-- One settle sends at most one message for each event, and the port's own;
pub frs_sent_by : (setup : Setup) (x : Scene) → length (frs_sent setup x) ≤ length (due x.root.dev.clock x.statuses) + 1
unfolding frs_sent
frs_sent_by setup x =
    let es = due x.root.dev.clock x.statuses in
    omega (
      arith,
      length-append (frs_told setup x) (frames_of setup es (tells setup x)),
      told-length setup x,
      frames_of-length setup es (tells setup x),
      owes_most x,
    )

-- so at most one for each slot, and the port's own.
pub frs_sent_most : (setup : Setup) (x : Scene) → length (frs_sent setup x) ≤ length x.statuses + 1
frs_sent_most setup x = omega (arith, frs_sent_by setup x, due-length 0 x.root.dev.clock x.statuses)

-- what a record has brought that starts at x and ends at y, if just these messages arrived and the DRS interrupt was raised or not
pub record Brings (messages : List Frs) (raised : Bool) (x y : Root) : Type 0 where
  -- as many are queued as there is room for, and the others are dropped
  pub queued : y.tally.queued ≡ min (length x.cells - x.dev.queue.depth) (length messages)
  pub all : y.tally.queued + y.tally.dropped ≡ length messages
  -- the queue's list grows by the first of them, in order
  pub list : messages_of y.cells y.dev.queue ≡ messages_of x.cells x.dev.queue ++ take (length x.cells - x.dev.queue.depth) (map cell_of messages)
  -- Received is set where one was queued, and Overflow where one was dropped
  pub received : y.dev.queue.received ≡ (x.dev.queue.received || ltb 0 y.tally.queued)
  pub overflow : y.dev.queue.overflow ≡ (x.dev.queue.overflow || ltb 0 y.tally.dropped)
  -- with the FRS interrupt enabled, an interrupt for each of the two bits that went from 0 to 1
  pub interrupt : y.tally.received ≡ (x.dev.control.frs_interrupt && (not x.dev.queue.received && ltb 0 y.tally.queued))
  pub interrupt_overflow : y.tally.overflow ≡ (x.dev.control.frs_interrupt && (not x.dev.queue.overflow && ltb 0 y.tally.dropped))
  pub interrupt_drs : y.tally.drs ≡ raised

brings : (messages : List Frs) (raised : Bool) (x y : Root) (z : Ring)
    → Outcome x.dev.control.frs_interrupt messages x.cells x.dev.queue z → ring_of y ≡ with_drs raised z → Brings messages raised x y
brings messages raised x y z o e =
    let queued = ap (λ (r : Ring). r.tally.queued) e in
    let dropped = ap (λ (r : Ring). r.tally.dropped) e in
    let q = x.dev.queue in
    let on = x.dev.control.frs_interrupt in
    record {
      queued = queued ∙ o.queued;
      all = ap (λ (r : Ring). r.tally.queued + r.tally.dropped) e ∙ o.all;
      list = ap (λ (r : Ring). messages_of r.cells r.queue) e ∙ o.list;
      received = ap (λ (r : Ring). r.queue.received) e ∙ o.received ∙ sym (ap (λ (n : ℕ). q.received || ltb 0 n) queued);
      overflow = ap (λ (r : Ring). r.queue.overflow) e ∙ o.overflow ∙ sym (ap (λ (n : ℕ). q.overflow || ltb 0 n) dropped);
      interrupt = ap (λ (r : Ring). r.tally.received) e ∙ o.interrupt ∙ sym (ap (λ (n : ℕ). on && (not q.received && ltb 0 n)) queued);
      interrupt_overflow =
          ap (λ (r : Ring). r.tally.overflow) e ∙ o.interrupt_overflow ∙ sym (ap (λ (n : ℕ). on && (not q.overflow && ltb 0 n)) dropped);
      interrupt_drs = ap (λ (r : Ring). r.tally.drs) e ∙ ap (λ (b : Bool). b || raised) o.drs;
    }

-- So the queue's list, its bits, the counts and the interrupts of a settle follow by the laws of arrivals; with 32 slots the counts are at most 33.
pub settle_brings : (setup : Setup) (x : Scene) → length x.statuses ≤ 32 → x.root.tally ≡ no_tally → Brings (frs_sent setup x) (drs_raised setup x) x.root (settles setup x).root
settle_brings setup x h t =
    let d = x.root.dev in
    let on = d.control.frs_interrupt in
    let z : Tally → Ring = λ t. arrive_all on (frs_sent setup x) (record { cells = x.root.cells; queue = d.queue; tally = t }) in
    brings (frs_sent setup x) (drs_raised setup x) x.root (settles setup x).root (z no_tally)
    (several on (frs_sent setup x) x.root.cells d.queue (omega (arith, frs_sent_most setup x)))
    (settle_messages setup x ∙ ap (λ (t : Tally). with_drs (drs_raised setup x) (z t)) t)

pub settle_counts : (setup : Setup) (x : Scene) → length x.statuses ≤ 32 → x.root.tally ≡ no_tally → (settles setup x).root.tally.queued + (settles setup x).root.tally.dropped ≤ 33
settle_counts setup x h t = omega (arith, (settle_brings setup x h t).all, frs_sent_most setup x)
