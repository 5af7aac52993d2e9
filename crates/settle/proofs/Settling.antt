-- Settling, one event after the other, in the order that is prepared once: the next event stands in the last place that is left; once it has happened,
-- what is left to happen is the rest; and then the DRS is told where no slot waits.
use Prim.Native.Nat.{ℕ, suc, ◌-◌, ◌≤◌, ◌<◌}
use native.Mathlib.Omega.{arith}
use mathlib.Core.Path.{◌≡◌, refl, sym, ap, ap₂, ◌∙◌, subst}
use mathlib.Core.Bool.{Bool, true, false, not, ◌&&◌, ◌||◌, cond}
use mathlib.Core.List.{List, [], ◌∷◌}
use lib.Dec.{leb}
use lib.ListN.{length, get_or, set}
use Rattle.times.specs.declared.Nanos.{Nanos}
use Rattle.readiness.specs.declared.Cause.{Cause}
use Rattle.readiness.specs.declared.Setup.{Setup}
use Rattle.readiness.specs.declared.Phase.{Phase}
use Rattle.readiness.specs.declared.Phase.TheVariants.{Down, Pending, Ready}
use Rattle.readiness.specs.declared.Status.{Status}
use Rattle.readiness.specs.Status.{ready, ready_phase, all_ready_from, all_ready, entry_of}
use Rattle.readiness.specs.Events.{Event, due, frs_of_slot, frs_of}
use Rattle.readiness.specs.Root.{Root, nothing_owed, drs_arrives, frs_arrive}
use Rattle.readiness.specs.inner.Phases.{notes}
use Rattle.readiness.specs.Settle.{Scene, happens, drs_due, tells, settles}
use Rattle.readiness.proofs.Order.{phase_by, ready_by, due-length}
use Rattle.readiness.proofs.Scenes.{tells_statuses, settled_statuses}
use Rattle.readiness.proofs.AtTheEnd.{all_happen, settles_at_end, settle_at_end}
use Rattle.settle.specs.inner.Next.{due_by, waits, some_waits}
use Rattle.settle.specs.inner.Prepared.{down_from, numbers, slot_of, time_number}
use Rattle.settle.proofs.Scan.{First, first-due}
use Rattle.settle.proofs.Insertion.{down-length, numbers-length}

-- the slots of the events that are left stand in the first n places
abbrev pub Left : (slots : List ℕ) → (n : ℕ) → List Event → Type 0
Left slots n es = down_from slots n ≡ numbers slot_of es

-- the next event's slot stands in place i, and the others' in those below it
pub record Next (slots : List ℕ) (i : ℕ) (all : List Event) : Type 0 where
  pub first : Event
  pub others : List Event
  pub is : all ≡ first ∷ others
  pub slot : get_or slots i 0 ≡ first.slot
  pub left : Left slots i others

next_at : (slots : List ℕ) (i : ℕ) (all : List Event) → Left slots (suc i) all → Next slots i all
unfolding down_from numbers
next_at slots i [] n = let z : ◌≡◌ {A = ℕ} 0 1 = cc in absurd (omega arith)
next_at slots i (e ∷ es) n = record { first = e; others = es; is = refl; slot = cc; left = cc }

pub next_event : (slots : List ℕ) (j : ℕ) (all : List Event) → Left slots j all → 0 < j → Next slots (j - 1) all
next_event slots j all p h =
    let z : j ≡ suc (j - 1) = omega arith in
    next_at slots (j - 1) all (subst (λ (n : ℕ). Left slots n all) z p)

pub none_left : (slots : List ℕ) (j : ℕ) (all : List Event) → Left slots j all → j ≡ 0 → all ≡ []
unfolding down_from numbers
none_left slots j all p z = go all (ap (down_from slots) (sym z) ∙ p)
  where
    go : (es : List Event) → down_from slots 0 ≡ numbers slot_of es → es ≡ []
    go [] q = refl
    go (f ∷ es) q = let o : ◌≡◌ {A = ℕ} 0 1 = cc in absurd (omega arith)

-- and their ready times
abbrev pub LeftTimes : (times : List ℕ) → (n : ℕ) → List Event → Type 0
LeftTimes times n es = down_from times n ≡ numbers time_number es

time_at : (times : List ℕ) (i : ℕ) (e : Event) (es : List Event) → LeftTimes times (suc i) (e ∷ es) → (get_or times i 0 ≡ e.time.0) × LeftTimes times i es
unfolding down_from numbers
time_at times i e es n = (cc, cc)

pub next_time : (times : List ℕ) (j : ℕ) (all : List Event) (e : Event) (es : List Event) → LeftTimes times j all → all ≡ e ∷ es → 0 < j → (get_or times (j - 1) 0 ≡ e.time.0) × LeftTimes times (j - 1) es
next_time times j all e es p q h =
    let z : j ≡ suc (j - 1) = omega arith in
    time_at times (j - 1) e es (subst (λ (n : ℕ). LeftTimes times n (e ∷ es)) z (p ∙ ap (numbers time_number) q))

-- at most as many as there are slots
pub left_most : (clock : Nanos) (l : List Status) (slots : List ℕ) (j : ℕ) → Left slots j (due clock l) → length l ≤ 32 → j ≤ 32
left_most clock l slots j p n = omega (arith, down-length slots j, ap length p, numbers-length slot_of (due clock l), due-length 0 clock l)

-- ---- one turn

module _ (setup : Setup) (clock : Nanos) (s : Scene) (slots : List ℕ) (i : ℕ) (k : Next slots i (due clock s.statuses)) where
  abbrev slot : ℕ
  slot = get_or slots i 0

  first : First clock s.statuses k.first k.others
  first = first-due clock s.statuses k.first k.others k.is

  -- the others are due once it has happened
  left : k.others ≡ due clock (set s.statuses slot ready)
  left = first.others ∙ ap (λ (n : ℕ). due clock (set s.statuses n ready)) (sym k.slot)

  pub next-left : (l : List Status) → l ≡ set s.statuses slot ready → Left slots i (due clock l)
  next-left l put = subst (Left slots i) (left ∙ ap (due clock) (sym put)) k.left

  pub next_times : (l : List Status) → l ≡ set s.statuses slot ready → (times : List ℕ) (n : ℕ) → LeftTimes times n k.others → LeftTimes times n (due clock l)
  next_times l put times n = subst (LeftTimes times n) (left ∙ ap (due clock) (sym put))

  -- its ready time is noted, and what is left to note is the others'
  pub notes_on : (l : List Status) → l ≡ set s.statuses slot ready → (m same m' : List ℕ) (t : ℕ) → t ≡ k.first.time.0 → same ≡ m → m' ≡ set same slot t → notes (due clock l) m' ≡ notes (due clock s.statuses) m
  unfolding notes
  notes_on l put m same m' t e u q =
      ap₂ notes (ap (due clock) put ∙ sym left) (q ∙ (λ j. set (u j) (k.slot j) (e j)))
      ∙ sym (ap (λ (es : List Event). notes es m) k.is)

  module _ (l : List Status) (r : Root) (put : l ≡ set s.statuses slot ready)
      (arrives : (cause : Cause) (time : Nanos) → (get_or s.statuses slot ready).phase ≡ Pending cause time → r ≡ frs_arrive (frs_of_slot setup.bus (entry_of setup slot) slot cause) s.root) where
    happened : record { statuses = l; root = r } ≡ happens setup k.first s
    unfolding happens frs_of
    happened =
        let e = k.first in
        let pends = ap (λ (n : ℕ). (get_or s.statuses n ready).phase) k.slot ∙ first.pends in
        let root = arrives e.cause e.time pends ∙ ap (λ (n : ℕ). frs_arrive (frs_of_slot setup.bus (entry_of setup n) n e.cause) s.root) k.slot in
        let statuses = put ∙ ap (λ (n : ℕ). set s.statuses n ready) k.slot in
        λ j. record { statuses = statuses j; root = root j }

    -- what is left to happen, happens to what there is now as all of it would to what there was before
    pub turns : all_happen setup (due clock l) (record { statuses = l; root = r }) ≡ all_happen setup (due clock s.statuses) s
    unfolding all_happen
    turns =
        ap₂ (λ (es : List Event) (x : Scene). all_happen setup es x) (ap (due clock) put ∙ sym left) happened
        ∙ sym (ap (λ (es : List Event). all_happen setup es s) k.is)

pub left_below : (clock : Nanos) (l : List Status) (slots : List ℕ) (j : ℕ) → Left slots j (due clock l) → 0 < j → get_or slots (j - 1) 0 < length l
left_below clock l slots j p h =
    let k = next_event slots j (due clock l) p h in
    let b = (first-due clock l k.first k.others k.is).within in
    omega (arith, k.slot)

-- where none is left, nothing happens
pub left_stops : (setup : Setup) (clock : Nanos) (s : Scene) → due clock s.statuses ≡ [] → s ≡ all_happen setup (due clock s.statuses) s
unfolding all_happen
left_stops setup clock s e = sym (ap (λ (l : List Event). all_happen setup l s) e)

-- ---- then the DRS

-- a slot is Ready once the clock has come to a moment, or waits on
ready_or_waits : (clock : Nanos) (p : Phase) → ready_phase (phase_by clock p) ≡ not (not (ready_phase p) && not (due_by clock p))
ready_or_waits clock Down = refl
ready_or_waits clock Ready = refl
ready_or_waits clock (Pending c t) = by (leb t.0 clock.0)
  where
    by : (b : Bool) → ready_phase (cond b Ready (Pending c t)) ≡ not (not b)
    by true = refl
    by false = refl

-- every slot counts: all are Ready where none waits
none_waits : (setup : Setup) (j : ℕ) (clock : Nanos) (l : List Status) → all_ready_from setup j (ready_by clock l) ≡ not (some_waits clock l)
unfolding all_ready_from ready_by some_waits
none_waits setup j clock [] = refl
none_waits setup j clock (s ∷ l) = ap₂ ◌&&◌ (ready_or_waits clock s.phase) (none_waits setup (suc j) clock l) ∙ neither (waits clock s) (some_waits clock l)
  where
    neither : (a b : Bool) → (not a && not b) ≡ not (a || b)
    neither true b = refl
    neither false b = refl

module _ (setup : Setup) (x y : Scene) (all : y ≡ all_happen setup (due x.root.dev.clock x.statuses) x) where
  -- once all that is due has happened
  then_ready : y.statuses ≡ ready_by x.root.dev.clock x.statuses
  unfolding settles_at_end
  then_ready =
      sym (tells_statuses setup y)
      ∙ ap (λ (z : Scene). z.statuses) (ap (tells setup) all ∙ sym (settle_at_end setup x))
      ∙ settled_statuses setup x

  then_due : drs_due setup y ≡ (y.root.dev.owed && not (some_waits x.root.dev.clock x.statuses))
  then_due = ap (λ (b : Bool). y.root.dev.owed && b) (ap (all_ready setup) then_ready ∙ none_waits setup 0 x.root.dev.clock x.statuses)

  told_by : (b : Bool) (q : Root) → q ≡ cond b (nothing_owed (drs_arrives setup.port_id y.root)) y.root → b ≡ drs_due setup y → record { statuses = y.statuses; root = q } ≡ tells setup y
  unfolding tells
  told_by b q t d =
      ap (λ (z : Root). record { statuses = y.statuses; root = z }) t
      ∙ through b
      ∙ ap (λ (b : Bool). cond b (record { statuses = y.statuses; root = nothing_owed (drs_arrives setup.port_id y.root) }) y) d
    where
      through : (b : Bool) → record { statuses = y.statuses; root = cond b (nothing_owed (drs_arrives setup.port_id y.root)) y.root } ≡ cond b (record { statuses = y.statuses; root = nothing_owed (drs_arrives setup.port_id y.root) }) y
      through true = refl
      through false = refl

  -- the DRS is told where one is owed and no slot waits
  pub settles-told : (b : Bool) (q : Root) → q ≡ cond b (nothing_owed (drs_arrives setup.port_id y.root)) y.root
      → b ≡ (y.root.dev.owed && not (some_waits x.root.dev.clock x.statuses)) → record { statuses = y.statuses; root = q } ≡ settles setup x
  unfolding settles_at_end
  settles-told b q t d = told_by b q t (d ∙ sym then_due) ∙ ap (tells setup) all ∙ sym (settle_at_end setup x)
