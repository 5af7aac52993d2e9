-- What happens to statuses, port and tally as events happen and a DRS is told, part by part.
use Prim.Native.Nat.{ℕ, ◌≤◌, ◌<◌}
use native.Mathlib.Omega.{arith}
use mathlib.Core.Bool.{Bool, true, false, not, cond, or_assoc}
use mathlib.Core.List.{List, [], ◌∷◌, ◌++◌}
use mathlib.Core.Path.{◌≡◌, refl, sym, ap, ◌∙◌}
use lib.Dec.{eqb}
use lib.ListN.{length, set, length-set}
use borrow.Author.Tests.{eqb-true}
use Rattle.bits.proofs.Choices.{either_way, through}
use Rattle.times.specs.declared.Nanos.{Nanos}
use Rattle.frs_queue.specs.declared.Frs.{Frs}
use Rattle.frs_queue.specs.declared.Tally.{Tally}
use Rattle.frs_queue.specs.Queue.{Ring, no_tally, plus_tally}
use Rattle.frs_queue.proofs.Tallies.{Shown, arrive_all-after, arrive_all-shown}
use Rattle.frs_queue.proofs.Laws.{arrive_all-length}
use Rattle.readiness.specs.declared.Setup.{Setup}
use Rattle.readiness.specs.Status.{ready}
use Rattle.readiness.specs.Root.{Root, ring_of, with_ring, frs_arrive, frs_of_drs, drs_set, drs_arrives, nothing_owed}
use Rattle.readiness.specs.Events.{Event, due, frs_of}
use Rattle.readiness.specs.Settle.{Scene, happens, happen_all, last_of_moment, moment_ends, drs_due, tells, settles, at_clock}
use Rattle.readiness.proofs.Order.{Each, ready_by, set_ready, due-ready}

-- a DRS was told
abbrev pub told : Setup → Scene → Scene
told setup x = record { statuses = x.statuses; root = nothing_owed (drs_arrives setup.port_id x.root) }

-- what holds of a scene, and of one in which a DRS was told, holds at the end of a moment
by_moment : (P : Scene → Type 0) (setup : Setup) (e : Event) (es : List Event) (x : Scene) → P (tells setup x) → P x → P (moment_ends setup e es x)
unfolding moment_ends
by_moment P setup e es x p q = either_way P (last_of_moment e es) (tells setup x) x (λ b. p) (λ b. q)

-- ---- the statuses

pub tells_statuses : (setup : Setup) (x : Scene) → (tells setup x).statuses ≡ x.statuses
unfolding tells
tells_statuses setup x = either_way (λ (y : Scene). y.statuses ≡ x.statuses) (drs_due setup x) (told setup x) x (λ e. refl) (λ e. refl)

pub ends_statuses : (setup : Setup) (e : Event) (es : List Event) (x : Scene) → (moment_ends setup e es x).statuses ≡ x.statuses
ends_statuses setup e es x = by_moment (λ (y : Scene). y.statuses ≡ x.statuses) setup e es x (tells_statuses setup x) refl

-- events that happen: their slots are Ready
pub happen_all_statuses : (setup : Setup) (es : List Event) (x : Scene) → (happen_all setup es x).statuses ≡ set_ready es x.statuses
unfolding happen_all set_ready happens
happen_all_statuses setup [] x = refl
happen_all_statuses setup (e ∷ es) x =
    happen_all_statuses setup es (moment_ends setup e es (happens setup e x)) ∙ ap (set_ready es) (ends_statuses setup e es (happens setup e x))

pub settled_statuses : (setup : Setup) (x : Scene) → (settles setup x).statuses ≡ ready_by x.root.dev.clock x.statuses
unfolding settles
settled_statuses setup x =
    let es = due x.root.dev.clock x.statuses in
    happen_all_statuses setup es (tells setup x) ∙ ap (set_ready es) (tells_statuses setup x) ∙ due-ready x.root.dev.clock x.statuses

-- ---- one list of events after the other, at later moments

last-before : (t : Nanos) (e : Event) (a b : List Event) → Each (λ f. f.time.0 ≤ t.0) (e ∷ a) → Each (λ f. t.0 < f.time.0) b → last_of_moment e (a ++ b) ≡ last_of_moment e a
last-before t e [] [] h k = refl
last-before t e [] (f ∷ b) h k = by (eqb e.time.0 f.time.0) refl
  where
    by : (q : Bool) → eqb e.time.0 f.time.0 ≡ q → not q ≡ true
    by true q = let m = h.0 in let n = k.0 in absurd (omega (arith, eqb-true e.time.0 f.time.0 q))
    by false q = refl
last-before t e (g ∷ a) b h k = refl

pub happen_all_append : (setup : Setup) (t : Nanos) (a b : List Event) (x : Scene) → Each (λ f. f.time.0 ≤ t.0) a → Each (λ f. t.0 < f.time.0) b
    → happen_all setup (a ++ b) x ≡ happen_all setup b (happen_all setup a x)
unfolding happen_all moment_ends
happen_all_append setup t [] b x h k = refl
happen_all_append setup t (e ∷ a) b x h k =
    ap (λ (q : Bool). happen_all setup (a ++ b) (cond q (tells setup (happens setup e x)) (happens setup e x))) (last-before t e a b h k)
    ∙ happen_all_append setup t a b _ h.1 k

-- ---- what stays

-- as many slots, as many cells, the same clock, link and control
pub record Kept (x y : Scene) : Type 0 where
  pub slots : length y.statuses ≡ length x.statuses
  pub cells : length y.root.cells ≡ length x.root.cells
  pub clock : y.root.dev.clock ≡ x.root.dev.clock
  pub link : y.root.dev.link ≡ x.root.dev.link
  pub control : y.root.dev.control ≡ x.root.dev.control

kept_same : (x : Scene) → Kept x x
kept_same x = record { slots = refl; cells = refl; clock = refl; link = refl; control = refl }

kept_trans : (x y z : Scene) → Kept x y → Kept y z → Kept x z
kept_trans x y z h k =
    record {
      slots = k.slots ∙ h.slots;
      cells = k.cells ∙ h.cells;
      clock = k.clock ∙ h.clock;
      link = k.link ∙ h.link;
      control = k.control ∙ h.control;
    }

pub happens-kept : (setup : Setup) (e : Event) (x : Scene) → Kept x (happens setup e x)
unfolding happens frs_arrive
happens-kept setup e x =
    record {
      slots = length-set x.statuses e.slot ready;
      cells = arrive_all-length x.root.dev.control.frs_interrupt (frs_of setup e) (ring_of x.root);
      clock = refl;
      link = refl;
      control = refl;
    }

pub tells-kept : (setup : Setup) (x : Scene) → Kept x (tells setup x)
unfolding tells drs_arrives drs_set frs_arrive
tells-kept setup x =
    either_way (Kept x) (drs_due setup x) _ x
    (λ e.
    record {
      slots = refl;
      cells = arrive_all-length x.root.dev.control.frs_interrupt (frs_of_drs setup.port_id x.root.dev) (ring_of (drs_set x.root));
      clock = refl;
      link = refl;
      control = refl;
    })
    (λ e. kept_same x)

pub ends-kept : (setup : Setup) (e : Event) (es : List Event) (x : Scene) → Kept x (moment_ends setup e es x)
ends-kept setup e es x = by_moment (Kept x) setup e es x (tells-kept setup x) (kept_same x)

pub step_kept : (setup : Setup) (e : Event) (es : List Event) (x : Scene) → Kept x (moment_ends setup e es (happens setup e x))
step_kept setup e es x = kept_trans x (happens setup e x) _ (happens-kept setup e x) (ends-kept setup e es (happens setup e x))

pub happen_all-kept : (setup : Setup) (es : List Event) (x : Scene) → Kept x (happen_all setup es x)
unfolding happen_all
happen_all-kept setup [] x = kept_same x
happen_all-kept setup (e ∷ es) x = kept_trans x _ _ (step_kept setup e es x) (happen_all-kept setup es (moment_ends setup e es (happens setup e x)))

pub settled_kept : (setup : Setup) (x : Scene) → Kept x (settles setup x)
unfolding settles
settled_kept setup x = kept_trans x (tells setup x) _ (tells-kept setup x) (happen_all-kept setup _ (tells setup x))

-- ---- the clock: events and DRS don't look at it

pub tells_at : (setup : Setup) (t : Nanos) (x : Scene) → at_clock t (tells setup x) ≡ tells setup (at_clock t x)
unfolding tells drs_arrives drs_set frs_arrive frs_of_drs
tells_at setup t x = sym (through (at_clock t) (drs_due setup x) (told setup x) x refl refl)

ends_at : (setup : Setup) (t : Nanos) (e : Event) (es : List Event) (x : Scene) → at_clock t (moment_ends setup e es x) ≡ moment_ends setup e es (at_clock t x)
unfolding moment_ends
ends_at setup t e es x = sym (through (at_clock t) (last_of_moment e es) (tells setup x) x (sym (tells_at setup t x)) refl)

pub happen_all_at : (setup : Setup) (t : Nanos) (es : List Event) (x : Scene) → at_clock t (happen_all setup es x) ≡ happen_all setup es (at_clock t x)
unfolding happen_all happens frs_arrive
happen_all_at setup t [] x = refl
happen_all_at setup t (e ∷ es) x =
    happen_all_at setup t es (moment_ends setup e es (happens setup e x)) ∙ ap (happen_all setup es) (ends_at setup t e es (happens setup e x))

-- ---- the tally: what happens comes on top of what was brought before

-- the same, where e was brought before
abbrev pub root_since : Tally → Root → Root
root_since e r = record { dev = r.dev; cells = r.cells; tally = plus_tally e r.tally }

abbrev pub since : Tally → Scene → Scene
since e x = record { statuses = x.statuses; root = root_since e x.root }

-- a record begins: nothing has been brought yet
abbrev pub fresh : Scene → Scene
fresh x = record { statuses = x.statuses; root = record { dev = x.root.dev; cells = x.root.cells; tally = no_tally } }

frs_arrive_since : (e : Tally) (messages : List Frs) (r : Root) → frs_arrive messages (root_since e r) ≡ root_since e (frs_arrive messages r)
unfolding frs_arrive
frs_arrive_since e messages r = ap (λ (x : Ring). with_ring x r) (arrive_all-after e r.dev.control.frs_interrupt messages (ring_of r))

happens_since : (setup : Setup) (e : Tally) (v : Event) (x : Scene) → happens setup v (since e x) ≡ since e (happens setup v x)
unfolding happens
happens_since setup e v x = ap (λ (r : Root). record { statuses = set x.statuses v.slot ready; root = r }) (frs_arrive_since e (frs_of setup v) x.root)

drs_set_since : (e : Tally) (r : Root) → drs_set (root_since e r) ≡ root_since e (drs_set r)
unfolding drs_set
drs_set_since e r = simp or_assoc

drs_arrives_since : (e : Tally) (port_id : ℕ) (r : Root) → drs_arrives port_id (root_since e r) ≡ root_since e (drs_arrives port_id r)
unfolding drs_arrives
drs_arrives_since e port_id r = ap (frs_arrive (frs_of_drs port_id r.dev)) (drs_set_since e r) ∙ frs_arrive_since e (frs_of_drs port_id r.dev) (drs_set r)

pub tells_since : (setup : Setup) (e : Tally) (x : Scene) → tells setup (since e x) ≡ since e (tells setup x)
unfolding tells
tells_since setup e x =
    through (since e) (drs_due setup x) (told setup x) x
    (ap (λ (r : Root). record { statuses = x.statuses; root = nothing_owed r }) (drs_arrives_since e setup.port_id x.root)) refl

ends_since : (setup : Setup) (t : Tally) (e : Event) (es : List Event) (x : Scene) → moment_ends setup e es (since t x) ≡ since t (moment_ends setup e es x)
unfolding moment_ends
ends_since setup t e es x = through (since t) (last_of_moment e es) (tells setup x) x (tells_since setup t x) refl

pub happen_all_since : (setup : Setup) (e : Tally) (es : List Event) (x : Scene) → happen_all setup es (since e x) ≡ since e (happen_all setup es x)
unfolding happen_all
happen_all_since setup e [] x = refl
happen_all_since setup e (v ∷ es) x =
    ap (happen_all setup es) (ap (moment_ends setup v es) (happens_since setup e v x) ∙ ends_since setup e v es (happens setup v x))
    ∙ happen_all_since setup e es (moment_ends setup v es (happens setup v x))

pub settles_since : (setup : Setup) (e : Tally) (x : Scene) → settles setup (since e x) ≡ since e (settles setup x)
unfolding settles
settles_since setup e x = ap (happen_all setup (due x.root.dev.clock x.statuses)) (tells_since setup e x) ∙ happen_all_since setup e _ (tells setup x)

-- the counts stay numbers that an answer can show
happens-shown : (setup : Setup) (e : Event) (x : Scene) → Shown x.root.tally → Shown (happens setup e x).root.tally
unfolding happens frs_arrive
happens-shown setup e x h = arrive_all-shown x.root.dev.control.frs_interrupt (frs_of setup e) (ring_of x.root) h

tells-shown : (setup : Setup) (x : Scene) → Shown x.root.tally → Shown (tells setup x).root.tally
unfolding tells drs_arrives drs_set frs_arrive
tells-shown setup x h =
    either_way (λ (y : Scene). Shown y.root.tally) (drs_due setup x) (told setup x) x
    (λ e. arrive_all-shown x.root.dev.control.frs_interrupt (frs_of_drs setup.port_id x.root.dev) (ring_of (drs_set x.root)) (record { queued = h.queued; dropped = h.dropped }))
    (λ e. h)

happen_all-shown : (setup : Setup) (es : List Event) (x : Scene) → Shown x.root.tally → Shown (happen_all setup es x).root.tally
unfolding happen_all
happen_all-shown setup [] x h = h
happen_all-shown setup (e ∷ es) x h =
    let y = happens setup e x in
    let k = happens-shown setup e x h in
    happen_all-shown setup es (moment_ends setup e es y) (by_moment (λ (z : Scene). Shown z.root.tally) setup e es y (tells-shown setup y k) k)

pub settles-shown : (setup : Setup) (x : Scene) → Shown x.root.tally → Shown (settles setup x).root.tally
unfolding settles
settles-shown setup x h = happen_all-shown setup _ (tells setup x) (tells-shown setup x h)
