-- Two advances are one, and an advance is as many advances by one nanosecond.
use Prim.Native.Nat.{ℕ, zero, suc, ◌+◌, ◌≤◌}
use native.Mathlib.Omega.{arith}
use mathlib.Core.Bool.{false, ◌||◌}
use mathlib.Core.List.{List, []}
use mathlib.Core.Path.{◌≡◌, refl, sym, ap, ap₂, ◌∙◌, subst}
use lib.ListN.{length}
use Rattle.times.specs.declared.Nanos.{Nanos}
use Rattle.times.specs.Moments.{greatest_nanos, sum_of}
use Rattle.times.proofs.Laws.{sum_min, sum_most_lem, sum_later}
use Rattle.frs_queue.specs.declared.Tally.{Tally}
use Rattle.frs_queue.specs.Queue.{no_tally}
use Rattle.frs_queue.proofs.Tallies.{Shown, plus_none_right, counted-plain}
use Rattle.readiness.specs.declared.Status.{Status}
use Rattle.readiness.specs.declared.Setup.{Setup}
use Rattle.readiness.specs.Events.{Event, due}
use Rattle.readiness.specs.Settle.{Scene, happen_all, drs_due, tells, settles, at_clock, advances}
use Rattle.readiness.proofs.Order.{ready_by, set_ready, due-before, due-after, due-ready, due-split}
use Rattle.readiness.proofs.Scenes.{Kept, happen_all_statuses, happen_all_append, tells_statuses, tells-kept, happen_all-kept, settled_kept, happen_all_at, tells_at, since, fresh, settles_since, settles-shown}
use Rattle.readiness.proofs.Laws.{tells_quiet, tells-drs, happen_all-drs, settle_rest, settled_due, settled_drs}
use Rattle.readiness.proofs.Sent.{settle_counts}

-- ---- moments

-- two times together
abbrev pub together : Nanos → Nanos → Nanos
together a b = record { 0 = a.0 + b.0 }

-- first a and then b is their sum
pub sum_together : (t a b : Nanos) → sum_of (sum_of t a) b ≡ sum_of t (together a b)
sum_together t a b =
    let e : (sum_of (sum_of t a) b).0 ≡ (sum_of t (together a b)).0 = omega (arith, sum_min t a, sum_min (sum_of t a) b, sum_min t (together a b)) in
    ap (λ (n : ℕ). record { 0 = n }) e

sum_none : (t : Nanos) → t.0 ≤ greatest_nanos → sum_of t (record { 0 = 0 }) ≡ t
sum_none t h =
    let e : (sum_of t (record { 0 = 0 })).0 ≡ t.0 = omega (arith, sum_min t (record { 0 = 0 })) in
    ap (λ (n : ℕ). record { 0 = n }) e

-- ---- settling at a moment, and then at a later one

-- Settling at a moment and then at a later one is settling at the later one.
pub settle_later : (setup : Setup) (t later : Nanos) (x : Scene) → t.0 ≤ later.0 → settles setup (at_clock later (settles setup (at_clock t x))) ≡ settles setup (at_clock later x)
unfolding settles
settle_later setup t later x h =
    ap (settles setup) (happen_all_at setup later first (tells setup (at_clock t x)) ∙ ap (happen_all setup first) (tells_at setup later (at_clock t x)))
    ∙ ap (λ (c : Nanos). happen_all setup (due c z.statuses) (tells setup z)) clock
    ∙ ap₂ (λ (l : List Status) (y : Scene). happen_all setup (due later l) y) statuses (tells_quiet setup z quiet)
    ∙ sym (happen_all_append setup t first (due later (ready_by t x.statuses)) (tells setup (at_clock later x)) (due-before 0 t x.statuses) (due-after 0 t later x.statuses))
    ∙ ap (λ (es : List Event). happen_all setup es (tells setup (at_clock later x))) (sym (due-split 0 t later h x.statuses))
  where
    -- what is due by the first moment
    first : List Event
    first = due t x.statuses

    z : Scene
    z = happen_all setup first (tells setup (at_clock later x))

    clock : z.root.dev.clock ≡ later
    clock = (happen_all-kept setup first (tells setup (at_clock later x))).clock ∙ (tells-kept setup (at_clock later x)).clock

    statuses : z.statuses ≡ ready_by t x.statuses
    statuses =
        happen_all_statuses setup first (tells setup (at_clock later x))
        ∙ ap (set_ready first) (tells_statuses setup (at_clock later x))
        ∙ due-ready t x.statuses

    quiet : drs_due setup z ≡ false
    quiet = happen_all-drs setup first (tells setup (at_clock later x)) (tells-drs setup (at_clock later x))

-- ---- advances

-- One advance after the other, in one record, is one by the sum.
pub advances_together : (setup : Setup) (a b : Nanos) (x : Scene) → advances setup b (advances setup a x) ≡ advances setup (together a b) x
unfolding advances
advances_together setup a b x =
    let t = x.root.dev.clock in
    let first = settles setup (at_clock (sum_of t a) x) in
    ap (λ (c : Nanos). settles setup (at_clock (sum_of c b) first)) (settled_kept setup (at_clock (sum_of t a) x)).clock
    ∙ settle_later setup (sum_of t a) (sum_of (sum_of t a) b) x (sum_later (sum_of t a) b (sum_most_lem t a))
    ∙ ap (λ (c : Nanos). settles setup (at_clock c x)) (sum_together t a b)

-- An advance moves the clock, and keeps the number of slots and of cells, the link and the control bits.
pub advances-keep : (setup : Setup) (d : Nanos) (x : Scene) → Kept (at_clock (sum_of x.root.dev.clock d) x) (advances setup d x)
unfolding advances
advances-keep setup d x = settled_kept setup (at_clock (sum_of x.root.dev.clock d) x)

-- What an advance does and brings does not depend on what was brought before it.
pub advances_since : (setup : Setup) (e : Tally) (d : Nanos) (x : Scene) → advances setup d (since e x) ≡ since e (advances setup d x)
unfolding advances
advances_since setup e d x = settles_since setup e (at_clock (sum_of x.root.dev.clock d) x)

advances-shown : (setup : Setup) (d : Nanos) (x : Scene) → Shown x.root.tally → Shown (advances setup d x).root.tally
unfolding advances
advances-shown setup d x h = settles-shown setup (at_clock (sum_of x.root.dev.clock d) x) h

since_fresh : (x : Scene) → Shown x.root.tally → since x.root.tally (fresh x) ≡ x
since_fresh x h =
    ap (λ (t : Tally). record { statuses = x.statuses; root = record { dev = x.root.dev; cells = x.root.cells; tally = t } }) (plus_none_right x.root.tally h)

-- Two advances, each a record of its own, are one by the sum: the second's end, where what the first brought came before.
pub advances_add : (setup : Setup) (a b : Nanos) (x : Scene) → Shown x.root.tally
    → (let first = advances setup a x in advances setup (together a b) x ≡ since first.root.tally (advances setup b (fresh first)))
advances_add setup a b x h =
    let first = advances setup a x in
    sym (advances_together setup a b x)
    ∙ ap (advances setup b) (sym (since_fresh first (advances-shown setup a x h)))
    ∙ advances_since setup first.root.tally b (fresh first)

-- the whole is the second's end but for the tally; counts add up, and interrupts are the or
pub record Adds (whole first second : Scene) : Type 0 where
  pub same : fresh whole ≡ fresh second
  pub queued : whole.root.tally.queued ≡ first.root.tally.queued + second.root.tally.queued
  pub dropped : whole.root.tally.dropped ≡ first.root.tally.dropped + second.root.tally.dropped
  pub received : whole.root.tally.received ≡ (first.root.tally.received || second.root.tally.received)
  pub overflow : whole.root.tally.overflow ≡ (first.root.tally.overflow || second.root.tally.overflow)
  pub drs : whole.root.tally.drs ≡ (first.root.tally.drs || second.root.tally.drs)

-- an advance brings at most 33 messages
advances_counts : (setup : Setup) (d : Nanos) (x : Scene) → length x.statuses ≤ 32 → x.root.tally ≡ no_tally
    → (advances setup d x).root.tally.queued + (advances setup d x).root.tally.dropped ≤ 33
unfolding advances
advances_counts setup d x h e = settle_counts setup (at_clock (sum_of x.root.dev.clock d) x) h e

advances_slots : (setup : Setup) (d : Nanos) (x : Scene) → length (advances setup d x).statuses ≡ length x.statuses
advances_slots setup d x = (advances-keep setup d x).slots

none_shown : (t : Tally) → t ≡ no_tally → Shown t
none_shown t e = subst Shown (sym e) (record { queued = omega arith; dropped = omega arith })

-- Two advances are one: the state after a and then b is the state after a + b, queued and dropped counts add up, interrupts are the or.
pub two_advances : (setup : Setup) (a b : Nanos) (x : Scene) → length x.statuses ≤ 32 → x.root.tally ≡ no_tally
    → Adds (advances setup (together a b) x) (advances setup a x) (advances setup b (fresh (advances setup a x)))
two_advances setup a b x h n =
    let first = advances setup a x in
    let second = advances setup b (fresh first) in
    let e = advances_add setup a b x (none_shown x.root.tally n) in
    let few = advances_counts setup a x h n in
    let slots : length first.statuses ≤ 32 = omega (arith, advances_slots setup a x) in
    let more = advances_counts setup b (fresh first) slots refl in
    record {
      same = ap fresh e;
      queued = ap (λ (y : Scene). y.root.tally.queued) e ∙ counted-plain first.root.tally.queued second.root.tally.queued (omega arith);
      dropped = ap (λ (y : Scene). y.root.tally.dropped) e ∙ counted-plain first.root.tally.dropped second.root.tally.dropped (omega arith);
      received = ap (λ (y : Scene). y.root.tally.received) e;
      overflow = ap (λ (y : Scene). y.root.tally.overflow) e;
      drs = ap (λ (y : Scene). y.root.tally.drs) e;
    }

-- one nanosecond
abbrev pub nano : Nanos
nano = record { 0 = 1 }

-- d advances by one nanosecond, each a record of its own: the last one's end, where the others' tallies came before
unfoldable pub nano_by_nano : Setup → ℕ → Scene → Scene
nano_by_nano setup zero x = x
nano_by_nano setup (suc d) x =
    let first = advances setup nano x in
    since first.root.tally (nano_by_nano setup d (fresh first))

-- a scene at rest, at a moment that a clock can show
pub record Rests (setup : Setup) (x : Scene) : Type 0 where
  pub due : due x.root.dev.clock x.statuses ≡ []
  pub drs : drs_due setup x ≡ false
  pub clock : x.root.dev.clock.0 ≤ greatest_nanos

advances_rests : (setup : Setup) (d : Nanos) (x : Scene) → Rests setup (fresh (advances setup d x))
unfolding advances
advances_rests setup d x =
    let y = at_clock (sum_of x.root.dev.clock d) x in
    record {
      due = settled_due setup y;
      drs = settled_drs setup y;
      clock = omega (arith, ap (λ (t : Nanos). t.0) (settled_kept setup y).clock, sum_most_lem x.root.dev.clock d);
    }

advances_none : (setup : Setup) (x : Scene) → Rests setup x → advances setup (record { 0 = 0 }) x ≡ x
unfolding advances
advances_none setup x r = ap (λ (t : Nanos). settles setup (at_clock t x)) (sum_none x.root.dev.clock r.clock) ∙ settle_rest setup x r.due r.drs

one_more : (setup : Setup) (d : ℕ) (x : Scene) → Shown x.root.tally
    → (let then = fresh (advances setup nano x) in advances setup (record { 0 = d }) then ≡ nano_by_nano setup d then)
    → advances setup (record { 0 = suc d }) x ≡ nano_by_nano setup (suc d) x
unfolding nano_by_nano
one_more setup d x h rest =
    let n : 1 + d ≡ suc d = omega arith in
    ap (λ (k : ℕ). advances setup (record { 0 = k }) x) (sym n)
    ∙ advances_add setup nano (record { 0 = d }) x h
    ∙ ap (since (advances setup nano x).root.tally) rest

-- An advance by d is d advances by 1: what becomes Ready on the way happens at the exact moment. An advance by 0 is none where the scene is at rest;
pub by_one_rests : (setup : Setup) (d : ℕ) (x : Scene) → Rests setup x → Shown x.root.tally → advances setup (record { 0 = d }) x ≡ nano_by_nano setup d x
unfolding nano_by_nano
by_one_rests setup zero x r h = advances_none setup x r
by_one_rests setup (suc d) x r h = one_more setup d x h (by_one_rests setup d (fresh (advances setup nano x)) (advances_rests setup nano x) (none_shown no_tally refl))

-- any other asks nothing of the scene.
pub by_one : (setup : Setup) (d : ℕ) (x : Scene) → Shown x.root.tally → advances setup (record { 0 = suc d }) x ≡ nano_by_nano setup (suc d) x
by_one setup d x h = one_more setup d x h (by_one_rests setup d (fresh (advances setup nano x)) (advances_rests setup nano x) (none_shown no_tally refl))
