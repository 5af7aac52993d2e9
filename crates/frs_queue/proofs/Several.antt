-- Several messages arrive in one record, from a tally of nothing: what comes of them all.
use mathlib.Core.Path.{◌≡◌, refl, sym, ap, ◌∙◌, subst}
use mathlib.Core.Bool.{Bool, true, false, not, ◌&&◌, ◌||◌, or-false, or-true}
use mathlib.Core.List.{List, [], ◌∷◌, ◌++◌, map, append_assoc, append-nil}
use Prim.Native.Nat.{ℕ, suc, ◌+◌, ◌-◌, ◌≤◌, ◌<◌, min}
use native.Mathlib.Omega.{arith}
use lib.Dec.{ltb}
use lib.ListN.{length, take, set, length-set}
use lib.Seq.{take-nil}
use borrow.Author.Tests.{ltb-true, ltb-false, lt-ltb}
use Rattle.bits.proofs.Tests.{truth}
use Rattle.frs_queue.specs.declared.Frs.{Frs}
use Rattle.frs_queue.specs.declared.Queue.{Queue}
use Rattle.frs_queue.specs.declared.Tally.{Tally}
use Rattle.frs_queue.specs.Queue.{Ring, no_tally, counted, cell_of, place_of, queues, drops, arrives, arrive_all, messages_of}
use Rattle.frs_queue.proofs.Tallies.{counted-min, Shown, plus_none_right, after, arrive_all-after}
use Rattle.frs_queue.proofs.Laws.{arrives-queues, arrives-drops, queues_appends}

-- a record's first message finds nothing brought
abbrev pub fresh : List ℕ → Queue → Ring
fresh cells q = record { cells = cells; queue = q; tally = no_tally }

-- the ring x after these messages arrived at this queue
pub record Outcome (enabled : Bool) (messages : List Frs) (cells : List ℕ) (q : Queue) (x : Ring) : Type 0 where
  -- as many are queued as there is room for, and the others are dropped
  pub queued : x.tally.queued ≡ min (length cells - q.depth) (length messages)
  pub all : x.tally.queued + x.tally.dropped ≡ length messages
  -- the list grows by the first of them, in order
  pub list : messages_of x.cells x.queue ≡ messages_of cells q ++ take (length cells - q.depth) (map cell_of messages)
  pub depth : x.queue.depth ≡ q.depth + x.tally.queued
  pub start : x.queue.start ≡ q.start
  pub size : length x.cells ≡ length cells
  -- Received is set where one was queued, and Overflow where one was dropped
  pub received : x.queue.received ≡ (q.received || ltb 0 x.tally.queued)
  pub overflow : x.queue.overflow ≡ (q.overflow || ltb 0 x.tally.dropped)
  -- with the interrupt enabled it is raised for a bit that went from 0 to 1
  pub interrupt : x.tally.received ≡ (enabled && (not q.received && ltb 0 x.tally.queued))
  pub interrupt_overflow : x.tally.overflow ≡ (enabled && (not q.overflow && ltb 0 x.tally.dropped))
  pub drs : x.tally.drs ≡ false

none : (enabled : Bool) (cells : List ℕ) (q : Queue) → Outcome enabled [] cells q (fresh cells q)
none enabled cells q =
    record {
      queued = omega arith;
      all = refl;
      list = sym (rw take-nil (append-nil _));
      depth = omega arith;
      start = refl;
      size = refl;
      received = sym (or-false q.received);
      overflow = sym (or-false q.overflow);
      interrupt = truth 2 (λ e b. false) (λ e b. e && (not b && false)) tt enabled q.received;
      interrupt_overflow = truth 2 (λ e b. false) (λ e b. e && (not b && false)) tt enabled q.overflow;
      drs = refl;
    }

-- one message queued, where Received was as given
unfoldable pub one_queued : (enabled received : Bool) → Tally
one_queued enabled received = record { received = enabled && not received; overflow = false; drs = false; queued = 1; dropped = 0 }

-- the first of the messages is queued, and the others arrive after it
first_queued : (enabled : Bool) (frs : Frs) (more : List Frs) (cells : List ℕ) (q : Queue) (x : Ring) → length more < 255 → q.depth < length cells
    → Outcome enabled more (queues enabled frs (fresh cells q)).cells (queues enabled frs (fresh cells q)).queue x
    → Outcome enabled (frs ∷ more) cells q (after (one_queued enabled q.received) x)
unfolding queues one_queued
first_queued enabled frs more cells q x few room o =
    let longer : List ℕ = set cells (place_of (length cells) q.start q.depth) (cell_of frs) in
    let size : length longer ≡ length cells = length-set cells _ _ in
    let left : length cells - q.depth ≡ suc (length longer - (q.depth + 1)) = omega arith in
    let count : counted 1 x.tally.queued ≡ 1 + x.tally.queued = omega (arith, counted-min 1 x.tally.queued, o.queued) in
    let same : counted 0 x.tally.dropped ≡ x.tally.dropped = omega (arith, counted-min 0 x.tally.dropped, o.all) in
    let some : ltb 0 (counted 1 x.tally.queued) ≡ true = lt-ltb 0 (counted 1 x.tally.queued) (omega arith) in
    record {
      queued = omega (arith, o.queued);
      all = omega (arith, o.all);
      list =
          o.list
          ∙ ap (λ (l : List ℕ). l ++ take (length longer - (q.depth + 1)) (map cell_of more)) (queues_appends enabled frs (fresh cells q) room)
          ∙ append_assoc (messages_of cells q) (cell_of frs ∷ []) _
          ∙ sym (ap (λ (n : ℕ). messages_of cells q ++ take n (cell_of frs ∷ map cell_of more)) left);
      depth = omega (arith, o.depth);
      start = o.start;
      size = o.size ∙ size;
      received = o.received ∙ sym (ap (λ (b : Bool). q.received || b) some ∙ or-true q.received);
      overflow = o.overflow ∙ sym (ap (λ (n : ℕ). q.overflow || ltb 0 n) same);
      interrupt =
          ap (λ (b : Bool). (enabled && not q.received) || b) o.interrupt
          ∙ truth 2 (λ e b. (e && not b) || (e && false)) (λ e b. e && (not b && true)) tt enabled q.received
          ∙ sym (ap (λ (b : Bool). enabled && (not q.received && b)) some);
      interrupt_overflow = o.interrupt_overflow ∙ sym (ap (λ (n : ℕ). enabled && (not q.overflow && ltb 0 n)) same);
      drs = o.drs;
    }

-- one message dropped, where Overflow was as given
unfoldable pub one_dropped : (enabled overflow : Bool) → Tally
one_dropped enabled overflow = record { received = false; overflow = enabled && not overflow; drs = false; queued = 0; dropped = 1 }

-- the first of the messages is dropped, and the others arrive after it
first_dropped : (enabled : Bool) (frs : Frs) (more : List Frs) (cells : List ℕ) (q : Queue) (x : Ring) → length more < 255 → length cells ≤ q.depth
    → Outcome enabled more (drops enabled (fresh cells q)).cells (drops enabled (fresh cells q)).queue x
    → Outcome enabled (frs ∷ more) cells q (after (one_dropped enabled q.overflow) x)
unfolding drops one_dropped messages_of
first_dropped enabled frs more cells q x few full o =
    let left : length cells - q.depth ≡ 0 = omega arith in
    let count : counted 1 x.tally.dropped ≡ 1 + x.tally.dropped = omega (arith, counted-min 1 x.tally.dropped, o.all) in
    let same : counted 0 x.tally.queued ≡ x.tally.queued = omega (arith, counted-min 0 x.tally.queued, o.queued) in
    let some : ltb 0 (counted 1 x.tally.dropped) ≡ true = lt-ltb 0 (counted 1 x.tally.dropped) (omega arith) in
    record {
      queued = omega (arith, o.queued);
      all = omega (arith, o.all);
      list =
          o.list
          ∙ ap (λ (n : ℕ). messages_of cells q ++ take n (map cell_of more)) left
          ∙ sym (ap (λ (n : ℕ). messages_of cells q ++ take n (cell_of frs ∷ map cell_of more)) left);
      depth = omega (arith, o.depth);
      start = o.start;
      size = o.size;
      received = o.received ∙ sym (ap (λ (n : ℕ). q.received || ltb 0 n) same);
      overflow = o.overflow ∙ sym (ap (λ (b : Bool). q.overflow || b) some ∙ or-true q.overflow);
      interrupt = o.interrupt ∙ sym (ap (λ (n : ℕ). enabled && (not q.received && ltb 0 n)) same);
      interrupt_overflow =
          ap (λ (b : Bool). (enabled && not q.overflow) || b) o.interrupt_overflow
          ∙ truth 2 (λ e b. (e && not b) || (e && false)) (λ e b. e && (not b && true)) tt enabled q.overflow
          ∙ sym (ap (λ (b : Bool). enabled && (not q.overflow && b)) some);
      drs = o.drs;
    }

-- One message brings from nothing: one queued or one dropped, and an interrupt if its bit was 0 and the interrupt is enabled.
pub queues_one : (enabled : Bool) (frs : Frs) (cells : List ℕ) (q : Queue)
    → queues enabled frs (fresh cells q) ≡ record { cells = (queues enabled frs (fresh cells q)).cells; queue = (queues enabled frs (fresh cells q)).queue; tally = one_queued enabled q.received }
unfolding queues counted one_queued
queues_one enabled frs cells q = refl

pub drops_one : (enabled : Bool) (cells : List ℕ) (q : Queue)
    → drops enabled (fresh cells q) ≡ record { cells = (drops enabled (fresh cells q)).cells; queue = (drops enabled (fresh cells q)).queue; tally = one_dropped enabled q.overflow }
unfolding drops counted one_dropped
drops_one enabled cells q = refl

shown_queued : (enabled received : Bool) → Shown (one_queued enabled received)
unfolding one_queued
shown_queued enabled received = record { queued = omega arith; dropped = omega arith }

shown_dropped : (enabled overflow : Bool) → Shown (one_dropped enabled overflow)
unfolding one_dropped
shown_dropped enabled overflow = record { queued = omega arith; dropped = omega arith }

-- the others arrive where e was brought by the first
others : (enabled : Bool) (frs : Frs) (more : List Frs) (r y : Ring) (e : Tally) → Shown e → arrives enabled frs r ≡ record { cells = y.cells; queue = y.queue; tally = e }
    → after e (arrive_all enabled more (fresh y.cells y.queue)) ≡ arrive_all enabled (frs ∷ more) r
unfolding arrive_all
others enabled frs more r y e h p =
    sym (ap (arrive_all enabled more) (p ∙ ap (λ (t : Tally). record { cells = y.cells; queue = y.queue; tally = t }) (sym (plus_none_right e h)))
    ∙ arrive_all-after e enabled more (fresh y.cells y.queue))

one_more : (enabled : Bool) (frs : Frs) (more : List Frs) (cells : List ℕ) (q : Queue) → length more < 255
    → ((c : List ℕ) (p : Queue) → Outcome enabled more c p (arrive_all enabled more (fresh c p)))
    → Outcome enabled (frs ∷ more) cells q (arrive_all enabled (frs ∷ more) (fresh cells q))
one_more enabled frs more cells q few rest = by (ltb q.depth (length cells)) refl
  where
    r : Ring
    r = fresh cells q

    by : (t : Bool) → ltb q.depth (length cells) ≡ t → Outcome enabled (frs ∷ more) cells q (arrive_all enabled (frs ∷ more) (fresh cells q))
    by true e =
        let room = ltb-true q.depth (length cells) e in
        let y = queues enabled frs r in
        subst (Outcome enabled (frs ∷ more) cells q)
        (others enabled frs more r y (one_queued enabled q.received) (shown_queued enabled q.received) (arrives-queues enabled frs r room ∙ queues_one enabled frs cells q))
        (first_queued enabled frs more cells q _ few room (rest y.cells y.queue))
    by false e =
        let full = ltb-false q.depth (length cells) e in
        let y = drops enabled r in
        subst (Outcome enabled (frs ∷ more) cells q)
        (others enabled frs more r y (one_dropped enabled q.overflow) (shown_dropped enabled q.overflow) (arrives-drops enabled frs r full ∙ drops_one enabled cells q))
        (first_dropped enabled frs more cells q _ few full (rest y.cells y.queue))

-- Up to 255 messages arrive: as many are queued as there is room for, in order, and the others are dropped; the bits and the interrupts follow.
pub several : (enabled : Bool) (messages : List Frs) (cells : List ℕ) (q : Queue) → length messages ≤ 255
    → Outcome enabled messages cells q (arrive_all enabled messages (fresh cells q))
unfolding arrive_all
several enabled [] cells q few = none enabled cells q
several enabled (frs ∷ more) cells q few = one_more enabled frs more cells q (omega arith) (λ c p. several enabled more c p (omega arith))
