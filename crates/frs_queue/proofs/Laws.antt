-- The queue as a list of messages, oldest first: what an arrival, a removal and the register are to that list.
use mathlib.Core.Path.{◌≡◌, refl, sym, ap, ap₂, ◌∙◌, subst}
use mathlib.Core.Logic.{◌≢◌}
use mathlib.Core.Bool.{Bool, true, false, cond}
use mathlib.Core.List.{List, [], ◌∷◌, ◌++◌}
use Prim.Native.Nat.{ℕ, zero, suc, ◌+◌, ◌-◌, ◌*◌, ◌/◌, ◌%◌, ◌≤◌, ◌<◌}
use native.Mathlib.Nat.{mod-eq_of_lt}
use native.Mathlib.Omega.{arith}
use lib.Dec.{ltb}
use lib.ListN.{length, get_or, set, drop, length-set}
use lib.Seq.{get_or-set_same, get_or-set_other}
use borrow.Author.Tests.{ltb-true, ltb-false, lt-ltb, le-ltb, eq-eqb, ne_eqb}
use Rattle.bits.specs.Lists.{listed}
use Rattle.bits.proofs.Lists.{length-listed}
use Rattle.frs_queue.specs.declared.Frs.{Frs}
use Rattle.frs_queue.specs.declared.Queue.{Queue}
use Rattle.frs_queue.specs.Queue.{Ring, place_of, cell_of, reason_in, queues, drops, arrives, arrive_all, is_empty, moved_on, removed, emptied, register_of, messages_of}
use Rattle.frs_queue.proofs.Places.{place_lt, place_differs, place_moved}
use Rattle.frs_queue.proofs.Listed.{listed_same, listed_more, listed_head}

-- a ring's messages
abbrev pub held_by : Ring → List ℕ
held_by r = messages_of r.cells r.queue

-- a cell's value tells reason and ID apart
pub cell_reason : (frs : Frs) → frs.id < 65536 → cell_of frs / 65536 ≡ frs.reason
cell_reason frs h = omega arith

pub cell_id : (frs : Frs) → frs.id < 65536 → cell_of frs % 65536 ≡ frs.id
cell_id frs h = omega arith

-- there are as many messages as the depth says
pub messages_length : (cells : List ℕ) (q : Queue) → length (messages_of cells q) ≡ q.depth
unfolding messages_of
messages_length cells q = length-listed q.depth _

-- ---- an arrival

-- which of the two an arrival is
pub arrives-queues : (enabled : Bool) (frs : Frs) (r : Ring) → r.queue.depth < length r.cells → arrives enabled frs r ≡ queues enabled frs r
unfolding arrives
arrives-queues enabled frs r h = ap (λ (t : Bool). cond t (queues enabled frs r) (drops enabled r)) (lt-ltb r.queue.depth (length r.cells) h)

pub arrives-drops : (enabled : Bool) (frs : Frs) (r : Ring) → length r.cells ≤ r.queue.depth → arrives enabled frs r ≡ drops enabled r
unfolding arrives
arrives-drops enabled frs r h = ap (λ (t : Bool). cond t (queues enabled frs r) (drops enabled r)) (le-ltb r.queue.depth (length r.cells) h)

-- what holds of a ring after a message that is queued and after one that is dropped holds after an arrival
by_arrival : (P : Ring → Type 0) (enabled : Bool) (frs : Frs) (r : Ring) → (r.queue.depth < length r.cells → P (queues enabled frs r)) → (length r.cells ≤ r.queue.depth → P (drops enabled r)) → P (arrives enabled frs r)
unfolding arrives
by_arrival P enabled frs r f g = by (ltb r.queue.depth (length r.cells)) refl
  where
    by : (t : Bool) → ltb r.queue.depth (length r.cells) ≡ t → P (cond t (queues enabled frs r) (drops enabled r))
    by true e = f (ltb-true _ _ e)
    by false e = g (ltb-false _ _ e)

-- the cells with a value behind the newest message: the messages that were there lie elsewhere and stay, and the value is the next
abbrev put : List ℕ → Queue → ℕ → List ℕ
put cells q v = set cells (place_of (length cells) q.start q.depth) v

put_old : (cells : List ℕ) (q : Queue) (v k : ℕ) → q.depth < length cells → k < q.depth
    → get_or (put cells q v) (place_of (length (put cells q v)) q.start k) 0 ≡ get_or cells (place_of (length cells) q.start k) 0
put_old cells q v k h l = rw length-set (get_or-set_other cells _ _ v 0 (place_differs (length cells) q.start k q.depth l h))

put_new : (cells : List ℕ) (q : Queue) (v : ℕ) → q.depth < length cells → get_or (put cells q v) (place_of (length (put cells q v)) q.start q.depth) 0 ≡ v
put_new cells q v h = rw length-set (get_or-set_same cells _ v 0 (place_lt (length cells) q.start q.depth (omega arith)))

-- a message that is queued is put at the end of the list
pub queues_appends : (enabled : Bool) (frs : Frs) (r : Ring) → r.queue.depth < length r.cells → held_by (queues enabled frs r) ≡ held_by r ++ (cell_of frs ∷ [])
unfolding messages_of queues
queues_appends enabled frs r h =
    let q = r.queue in
    listed_more q.depth _
    ∙ ap₂ (λ (l : List ℕ) (v : ℕ). l ++ (v ∷ [])) (listed_same q.depth _ _ (λ k l. put_old r.cells q (cell_of frs) k h l)) (put_new r.cells q (cell_of frs) h)

-- a message that is dropped leaves the list as it was
pub drops-leaves : (enabled : Bool) (r : Ring) → held_by (drops enabled r) ≡ held_by r
unfolding messages_of drops
drops-leaves enabled r = refl

-- An arrival appends the message to the list if there is room, and leaves the list as it is if not.
pub arrives_appends : (enabled : Bool) (frs : Frs) (r : Ring)
    → held_by (arrives enabled frs r) ≡ cond (ltb r.queue.depth (length r.cells)) (held_by r ++ (cell_of frs ∷ [])) (held_by r)
arrives_appends enabled frs r =
    by_arrival (λ x. held_by x ≡ cond (ltb r.queue.depth (length r.cells)) (held_by r ++ (cell_of frs ∷ [])) (held_by r)) enabled frs r
    (λ h. rw (lt-ltb _ _ h) (queues_appends enabled frs r h))
    (λ h. rw (le-ltb _ _ h) (drops-leaves enabled r))

-- There are as many cells as before, the oldest message lies where it lay, and the depth stays within the cells.
pub arrives-length : (enabled : Bool) (frs : Frs) (r : Ring) → length (arrives enabled frs r).cells ≡ length r.cells
unfolding queues drops
arrives-length enabled frs r = by_arrival (λ x. length x.cells ≡ length r.cells) enabled frs r (λ h. length-set r.cells _ _) (λ h. refl)

pub arrives-start : (enabled : Bool) (frs : Frs) (r : Ring) → (arrives enabled frs r).queue.start ≡ r.queue.start
unfolding queues drops
arrives-start enabled frs r = by_arrival (λ x. x.queue.start ≡ r.queue.start) enabled frs r (λ h. refl) (λ h. refl)

pub arrives_depth : (enabled : Bool) (frs : Frs) (r : Ring) → r.queue.depth ≤ length r.cells → (arrives enabled frs r).queue.depth ≤ length (arrives enabled frs r).cells
unfolding queues drops
arrives_depth enabled frs r h =
    by_arrival (λ x. x.queue.depth ≤ length x.cells) enabled frs r (λ l. omega (arith, length-set r.cells (place_of (length r.cells) r.queue.start r.queue.depth) (cell_of frs))) (λ l. h)

-- Messages that arrive, and then others, are all of them one after the other.
pub arrive_all_append : (enabled : Bool) (first others : List Frs) (r : Ring) → arrive_all enabled (first ++ others) r ≡ arrive_all enabled others (arrive_all enabled first r)
unfolding arrive_all
arrive_all_append enabled [] others r = refl
arrive_all_append enabled (frs ∷ more) others r = arrive_all_append enabled more others (arrives enabled frs r)

pub arrive_all-length : (enabled : Bool) (messages : List Frs) (r : Ring) → length (arrive_all enabled messages r).cells ≡ length r.cells
unfolding arrive_all
arrive_all-length enabled [] r = refl
arrive_all-length enabled (frs ∷ more) r = arrive_all-length enabled more _ ∙ arrives-length enabled frs r

-- ---- removing and emptying

-- Removing from an empty queue does nothing.
pub removed_none : (n : ℕ) (q : Queue) → q.depth ≡ 0 → removed n q ≡ q
unfolding removed
removed_none n q e = rw (eq-eqb q.depth 0 e)

removed_some : (n : ℕ) (q : Queue) → q.depth ≢ 0 → n ≢ 0 → removed n q ≡ moved_on n q
unfolding removed
removed_some n q d m = rw (ne_eqb q.depth 0 d, ne_eqb n 0 m)

-- what holds of the queue as it is and of the queue moved on holds after a removal
by_removal : (P : Queue → Type 0) (n : ℕ) (q : Queue) → P q → P (moved_on n q) → P (removed n q)
unfolding removed
by_removal P n q x y = by (is_empty n q)
  where
    by : (t : Bool) → P (cond t q (moved_on n q))
    by true = x
    by false = y

-- Removing takes the head of the list; on an empty queue there is none to take.
pub removed_takes_head : (cells : List ℕ) (q : Queue) → q.depth ≤ length cells → messages_of cells (removed (length cells) q) ≡ drop 1 (messages_of cells q)
unfolding messages_of listed
removed_takes_head cells q h = by q.depth refl
  where
    n : ℕ
    n = length cells

    at : ℕ → ℕ
    at k = get_or cells (place_of n q.start k) 0

    by : (d : ℕ) → q.depth ≡ d → messages_of cells (removed n q) ≡ drop 1 (messages_of cells q)
    by zero e = ap (messages_of cells) (removed_none n q e) ∙ ap (λ (k : ℕ). listed k at) e ∙ sym (ap (λ (k : ℕ). drop 1 (listed k at)) e)
    by (suc d) e =
        let less : q.depth - 1 ≡ d = omega arith in
        ap (messages_of cells) (removed_some n q (λ z. omega arith) (λ z. omega arith))
        ∙ listed_same (q.depth - 1) _ _ (λ k l. ap (λ (i : ℕ). get_or cells i 0) (place_moved n q.start k))
        ∙ ap (λ (k : ℕ). listed k (λ j. at (suc j))) less
        ∙ sym (ap (drop 1) (ap (λ (k : ℕ). listed k at) e ∙ listed_head d at))

-- Emptied, the queue holds nothing and starts at cell 0.
pub emptied_holds_nothing : (cells : List ℕ) (q : Queue) → messages_of cells (emptied q) ≡ []
unfolding messages_of listed
emptied_holds_nothing cells q = refl

pub emptied-start : (q : Queue) → (emptied q).start ≡ 0
emptied-start q = refl

-- Neither changes a status bit: Received and Overflow stay after removal and after emptying.
pub removed-received : (n : ℕ) (q : Queue) → (removed n q).received ≡ q.received
removed-received n q = by_removal (λ x. x.received ≡ q.received) n q refl refl

pub removed_overflow : (n : ℕ) (q : Queue) → (removed n q).overflow ≡ q.overflow
removed_overflow n q = by_removal (λ x. x.overflow ≡ q.overflow) n q refl refl

-- ---- the register

-- the length of a list · 2^20 plus its head, or 0
abbrev pub shown_of : List ℕ → ℕ
shown_of [] = 0
shown_of (oldest ∷ more) = length (oldest ∷ more) * 1048576 + oldest

-- The register shows the length of the list and its head: with a depth of at most 4,095 and an oldest cell below 2^20 the word holds both.
pub register_shows : (cells : List ℕ) (q : Queue) → q.depth ≤ length cells → q.depth ≤ 4095 → get_or (messages_of cells q) 0 0 < 1048576
    → register_of cells q ≡ shown_of (messages_of cells q)
unfolding messages_of register_of listed
register_shows cells q fits small oldest = by q.depth refl
  where
    at : ℕ → ℕ
    at k = get_or cells (place_of (length cells) q.start k) 0

    by : (d : ℕ) → q.depth ≡ d → register_of cells q ≡ shown_of (messages_of cells q)
    by zero e = rw (eq-eqb q.depth 0 e) (sym (ap (λ (k : ℕ). shown_of (listed k at)) e))
    by (suc d) e =
        let list : messages_of cells q ≡ at 0 ∷ listed d (λ k. at (suc k)) = ap (λ (k : ℕ). listed k at) e ∙ listed_head d at in
        let below : at 0 < 1048576 = subst (λ (l : List ℕ). get_or l 0 0 < 1048576) list oldest in
        rw (ne_eqb q.depth 0 (λ z. omega arith), ne_eqb (length cells) 0 (λ z. omega arith))
        (mod-eq_of_lt (omega arith) ∙ omega (arith, length-listed d (λ k. at (suc k))) ∙ sym (ap shown_of list))

-- ---- cells outside the queue

-- as many cells, and the same messages in the cells of the queue
pub record Alike (a b : List ℕ) (q : Queue) : Type 0 where
  pub size : length a ≡ length b
  pub same : (k : ℕ) → k < q.depth → get_or a (place_of (length a) q.start k) 0 ≡ get_or b (place_of (length b) q.start k) 0

-- Cells outside the queue don't matter: neither to the list nor to the register.
pub alike_messages : {a b : List ℕ} {q : Queue} → Alike a b q → messages_of a q ≡ messages_of b q
unfolding messages_of
alike_messages {q = q} h = listed_same q.depth _ _ h.same

pub alike_register : {a b : List ℕ} {q : Queue} → Alike a b q → register_of a q ≡ register_of b q
unfolding register_of
alike_register {a} {b} {q} h = by q.depth refl
  where
    by : (d : ℕ) → q.depth ≡ d → register_of a q ≡ register_of b q
    by zero e = rw (eq-eqb q.depth 0 e)
    by (suc d) e = rw (h.same 0 (omega arith), h.size)

pub alike_put : {a b : List ℕ} {q : Queue} (v : ℕ) (received : Bool) → q.depth < length a → Alike a b q
    → Alike (put a q v) (put b q v) (record { start = q.start; depth = q.depth + 1; received = received; overflow = q.overflow })
alike_put {a} {b} {q} v received l h = record { size = simp length-set h.size; same = λ k m. by k m (ltb k q.depth) refl }
  where
    room : q.depth < length b
    room = omega (arith, h.size)

    at : List ℕ → ℕ → ℕ
    at c k = get_or c (place_of (length c) q.start k) 0

    by : (k : ℕ) → k < q.depth + 1 → (t : Bool) → ltb k q.depth ≡ t → at (put a q v) k ≡ at (put b q v) k
    by k m true e = put_old a q v k l (ltb-true _ _ e) ∙ h.same k (ltb-true _ _ e) ∙ sym (put_old b q v k room (ltb-true _ _ e))
    by k m false e =
        let last : k ≡ q.depth = omega (arith, ltb-false k q.depth e) in
        ap (at (put a q v)) last ∙ put_new a q v l ∙ sym (ap (at (put b q v)) last ∙ put_new b q v room)

-- two rings with the same queue and tally whose cells hold the same messages
pub record Same (r s : Ring) : Type 0 where
  pub queue : r.queue ≡ s.queue
  pub tally : r.tally ≡ s.tally
  pub cells : Alike r.cells s.cells r.queue

-- Nor do they matter to an arrival: what it brings is the same, and the cells of the queue are alike again.
pub arrives_same : (enabled : Bool) (frs : Frs) (r s : Ring) → Same r s → Same (arrives enabled frs r) (arrives enabled frs s)
unfolding arrives queues drops
arrives_same enabled frs r s h = subst (λ (x : Ring). Same (arrives enabled frs r) (arrives enabled frs x)) whole (by (ltb q.depth (length r.cells)) refl)
  where
    q : Queue
    q = r.queue

    -- the second ring with the first's queue and tally
    x : Ring
    x = record { cells = s.cells; queue = q; tally = r.tally }

    whole : x ≡ s
    whole = λ i. record { cells = s.cells; queue = h.queue i; tally = h.tally i }

    by : (t : Bool) → ltb q.depth (length r.cells) ≡ t → Same (cond t (queues enabled frs r) (drops enabled r)) (arrives enabled frs x)
    by true e =
        rw (ap (ltb q.depth) (sym h.cells.size) ∙ e)
        (record { queue = refl; tally = refl; cells = alike_put (cell_of frs) true (ltb-true _ _ e) h.cells })
    by false e =
        rw (ap (ltb q.depth) (sym h.cells.size) ∙ e)
        (record { queue = refl; tally = refl; cells = record { size = h.cells.size; same = h.cells.same } })

pub arrive_all_same : (enabled : Bool) (messages : List Frs) (r s : Ring) → Same r s → Same (arrive_all enabled messages r) (arrive_all enabled messages s)
unfolding arrive_all
arrive_all_same enabled [] r s h = h
arrive_all_same enabled (frs ∷ more) r s h = arrive_all_same enabled more (arrives enabled frs r) (arrives enabled frs s) (arrives_same enabled frs r s h)

-- A message's cell holds its reason.
pub reason_in_cell : (f : Frs) → f.id < 65536 → reason_in (cell_of f) ≡ f.reason
reason_in_cell f h = omega arith
