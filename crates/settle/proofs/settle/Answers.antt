-- `settle::settle` meets its contract: what is left to happen, happens to what there is now as all of it would to what there was first; then the DRS.
use Prim.Native.Nat.{ℕ, ◌-◌, ◌≤◌, ◌<◌}
use native.Mathlib.Omega.{arith}
use mathlib.Core.Bool.{Bool, not, ◌&&◌}
use mathlib.Core.Path.{refl, ap, ◌∙◌}
use mathlib.Core.List.{List, []}
use lib.ListN.{length, get_or, replicate, length-set}
use Rattle.times.specs.declared.Nanos.{Nanos}
use Rattle.readiness.specs.declared.Status.{Status}
use Rattle.readiness.specs.Status.{ready}
use Rattle.readiness.specs.Events.{due}
use Rattle.readiness.specs.inner.Phases.{statuses_in}
use Rattle.readiness.specs.Settle.{scene}
use Rattle.readiness.proofs.PhaseNumbers.{notes_none}
use Rattle.settle.specs.inner.Prepared.{down_from, numbers, Prepared}
use Rattle.settle.proofs.Settling.{Left, next_event, none_left, left_most, left_below, next-left, next_times, next_time, notes_on, turns, left_stops, settles-told}
use Rattle.settle.proofs.settle.Goals as goal

-- two arrays in which no event stands yet
none_yet : Prepared (replicate 32 0) (replicate 32 0) 0 []
unfolding down_from numbers
none_yet = record { times_long = refl; slots_long = refl; timed = refl; named = refl }

-- the next slot is there
there : (slots : List ℕ) (left : ℕ) (clock : Nanos) (l : List Status) → Left slots left (due clock l) → length l ≤ 32 → 0 < left → (get_or slots (left - 1) 0 < length l) × (length l ≤ 32)
there slots left clock l e few h = (left_below _ _ _ left e h, few)

pub loop-place-init : goal.loop-place-init
loop-place-init c =
    let l = statuses_in c.args.phases.now in
    let order = c.prepare-order.ensures.0 none_yet in
    (refl, refl, omega arith, omega arith, left_most _ l _ _ order.named (omega arith), order.named, order.timed, refl, refl)

pub status_at-s-requires : goal.status_at-s-requires
status_at-s-requires c = (there c.prepare-order.new.order c.loop-place.place _ (statuses_in c.loop-place.phases) c.loop-place.invariant.5 (omega (arith, c.loop-place.invariant.2, c.loop-place.invariant.3)) c.loop-place-test.true).0

pub offset_bounds-setup-slot : goal.offset_bounds-setup-slot
offset_bounds-setup-slot c = let h = there c.prepare-order.new.order c.loop-place.place _ (statuses_in c.loop-place.phases) c.loop-place.invariant.5 (omega (arith, c.loop-place.invariant.2, c.loop-place.invariant.3)) c.loop-place-test.true in omega (arith, h.0, h.1)

pub bounds-setup-slot : goal.bounds-setup-slot
bounds-setup-slot c = let h = there c.prepare-order.new.order c.loop-place.place _ (statuses_in c.loop-place.phases) c.loop-place.invariant.5 (omega (arith, c.loop-place.invariant.2, c.loop-place.invariant.3)) c.loop-place-test.true in omega (arith, h.0, h.1)

pub put_status-requires : goal.put_status-requires
put_status-requires c = (there c.prepare-order.new.order c.loop-place.place _ (statuses_in c.loop-place.phases) c.loop-place.invariant.5 (omega (arith, c.loop-place.invariant.2, c.loop-place.invariant.3)) c.loop-place-test.true).0

pub put_moment-requires : goal.put_moment-requires
put_moment-requires c =
    let l = c in
    let h = (there c.prepare-order.new.order c.loop-place.place _ (statuses_in c.loop-place.phases) c.loop-place.invariant.5 (omega (arith, c.loop-place.invariant.2, c.loop-place.invariant.3)) c.loop-place-test.true).0 in
    omega (arith, h, ap length c.put_status.ensures.phases_after, length-set (statuses_in l.loop-place.phases) (get_or l.prepare-order.new.order (l.loop-place.place - 1) 0) ready)

pub status_frs_arrives-p-requires : goal.status_frs_arrives-p-requires
status_frs_arrives-p-requires c = let h = there c.prepare-order.new.order c.loop-place.place _ (statuses_in c.loop-place.phases) c.loop-place.invariant.5 (omega (arith, c.loop-place.invariant.2, c.loop-place.invariant.3)) c.loop-place-test.true in omega (arith, h.0, h.1)

pub loop-place-preserved : goal.loop-place-preserved
loop-place-preserved c =
    let l = c in
    let a = c.args in
    let was = statuses_in l.loop-place.phases in
    let noted = c.put_moment in
    let set-ready = c.put_status in
    let put = noted.ensures.phases_unchanged ∙ set-ready.ensures.phases_after in
    let arrived = c.status_frs_arrives-p in
    let some = c.loop-place-test.true in
    let k = next_event _ l.loop-place.place (due _ was) l.loop-place.invariant.5 some in
    let x = scene was l.loop-place.cells l.loop-place.p in
    let t = next_time _ l.loop-place.place _ _ _ l.loop-place.invariant.6 k.is some in (
      omega (arith, noted.auto, set-ready.auto, l.loop-place.invariant.0),
      omega (arith, arrived.auto, l.loop-place.invariant.1),
      ap length put ∙ length-set was _ ready ∙ l.loop-place.invariant.2,
      l.loop-place.invariant.3,
      omega (arith, l.loop-place.invariant.4),
      next-left a.setup _ x _ _ k _ put,
      next_times a.setup _ x _ _ k _ put _ _ t.1,
      notes_on a.setup _ x _ _ k _ put _ _ _ _ t.0 set-ready.ensures.phases_unchanged noted.ensures.phases_after ∙ l.loop-place.invariant.7,
      turns a.setup _ x _ _ k _ _ put
          (λ cause time q. arrived.ensures cause time (ap (λ (s : Status). s.phase) c.status_at-s.ensures ∙ q))
          ∙ l.loop-place.invariant.8,
    )

pub returns : goal.returns
returns c =
    let l = c in
    let a = c.args in
    let was = statuses_in l.loop-place.phases in
    let x = scene (statuses_in a.phases.now) a.cells.now a.port in
    let y = scene was l.loop-place.cells l.loop-place.p in
    let none = none_left _ l.loop-place.place (due _ was) l.loop-place.invariant.5 (omega arith) in record {
      result_after = settles-told a.setup x y (left_stops a.setup _ y none ∙ l.loop-place.invariant.8) _ _ c.tell.ensures
          (ap (λ (b : Bool). l.loop-place.p.dev.owed && not b) c.prepare-order.ensures.1);
      phases_after = notes_none _ _ none ∙ l.loop-place.invariant.7;
    }
