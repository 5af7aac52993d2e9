-- Tallies add up: what messages bring does not depend on what was brought before them.
use mathlib.Core.Path.{◌≡◌, refl, ap, ◌∙◌}
use mathlib.Core.Bool.{Bool, true, false, cond, or_assoc, or-false}
use mathlib.Core.List.{List, [], ◌∷◌}
use Prim.Native.Nat.{ℕ, ◌+◌, ◌≤◌, min}
use native.Mathlib.Omega.{arith}
use lib.Dec.{leb, ltb}
use lib.ListN.{length}
use borrow.Author.Tests.{leb-true, leb-false}
use Rattle.bits.proofs.Choices.{through}
use Rattle.frs_queue.specs.declared.Frs.{Frs}
use Rattle.frs_queue.specs.declared.Tally.{Tally}
use Rattle.frs_queue.specs.Queue.{Ring, no_tally, counted, plus_tally, queues, drops, arrives, arrive_all}

-- a count is the sum, or 255 where the sum is more
pub counted-min : (a b : ℕ) → counted a b ≡ min (a + b) 255
unfolding counted
counted-min a b = by (leb (a + b) 255) refl
  where
    by : (t : Bool) → leb (a + b) 255 ≡ t → cond t (a + b) 255 ≡ min (a + b) 255
    by true e = omega (arith, leb-true (a + b) 255 e)
    by false e = omega (arith, leb-false (a + b) 255 e)

-- it doesn't matter in which order counts are taken together
pub counted_assoc : (a b c : ℕ) → counted (counted a b) c ≡ counted a (counted b c)
counted_assoc a b c = omega (arith, counted-min a b, counted-min b c, counted-min (counted a b) c, counted-min a (counted b c))

-- a count up to 255 is the plain sum
pub counted-plain : (a b : ℕ) → a + b ≤ 255 → counted a b ≡ a + b
counted-plain a b h = omega (arith, counted-min a b)

-- no count is above 255
pub counted_most : (a b : ℕ) → counted a b ≤ 255
counted_most a b = omega (arith, counted-min a b)

-- the counts are numbers that an answer can show
pub record Shown (t : Tally) : Type 0 where
  pub queued : t.queued ≤ 255
  pub dropped : t.dropped ≤ 255

none_after : (a : ℕ) → a ≤ 255 → counted a 0 ≡ a
none_after a h = omega (arith, counted-min a 0)

pub plus_none_right : (t : Tally) → Shown t → plus_tally t no_tally ≡ t
plus_none_right t h = simp (none_after t.queued h.queued, none_after t.dropped h.dropped, or-false)

-- the same ring, where e was brought before
abbrev pub after : Tally → Ring → Ring
after e r = record { cells = r.cells; queue = r.queue; tally = plus_tally e r.tally }

queues-after : (e : Tally) (enabled : Bool) (frs : Frs) (r : Ring) → queues enabled frs (after e r) ≡ after e (queues enabled frs r)
unfolding queues
queues-after e enabled frs r = simp (counted_assoc, or_assoc)

drops-after : (e : Tally) (enabled : Bool) (r : Ring) → drops enabled (after e r) ≡ after e (drops enabled r)
unfolding drops
drops-after e enabled r = simp (counted_assoc, or_assoc)

-- a message that arrives where e was brought before does the same, and its tally comes on top of e
pub arrives-after : (e : Tally) (enabled : Bool) (frs : Frs) (r : Ring) → arrives enabled frs (after e r) ≡ after e (arrives enabled frs r)
unfolding arrives
arrives-after e enabled frs r =
    through (after e) (ltb r.queue.depth (length r.cells)) _ _ (queues-after e enabled frs r) (drops-after e enabled r)

-- so do several
pub arrive_all-after : (e : Tally) (enabled : Bool) (messages : List Frs) (r : Ring) → arrive_all enabled messages (after e r) ≡ after e (arrive_all enabled messages r)
unfolding arrive_all
arrive_all-after e enabled [] r = refl
arrive_all-after e enabled (frs ∷ more) r =
    ap (arrive_all enabled more) (arrives-after e enabled frs r) ∙ arrive_all-after e enabled more (arrives enabled frs r)

-- the counts stay numbers that an answer can show
pub arrives-shown : (enabled : Bool) (frs : Frs) (r : Ring) → Shown r.tally → Shown (arrives enabled frs r).tally
unfolding arrives queues drops
arrives-shown enabled frs r h = by (ltb r.queue.depth (length r.cells))
  where
    by : (t : Bool) → Shown (cond t (queues enabled frs r) (drops enabled r)).tally
    by true = record { queued = counted_most r.tally.queued 1; dropped = h.dropped }
    by false = record { queued = h.queued; dropped = counted_most r.tally.dropped 1 }

pub arrive_all-shown : (enabled : Bool) (messages : List Frs) (r : Ring) → Shown r.tally → Shown (arrive_all enabled messages r).tally
unfolding arrive_all
arrive_all-shown enabled [] r h = h
arrive_all-shown enabled (frs ∷ more) r h = arrive_all-shown enabled more (arrives enabled frs r) (arrives-shown enabled frs r h)
