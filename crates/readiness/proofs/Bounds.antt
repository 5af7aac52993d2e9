-- Moments before which no slot becomes Ready: before one of them nothing is due, and what keeps them.
use Prim.Native.Nat.{ℕ, zero, suc, ◌+◌, ◌≤◌, ◌<◌}
use native.Mathlib.Numerals.{add-one}
use native.Mathlib.Omega.{arith}
use mathlib.Core.Bool.{Bool, cond}
use mathlib.Core.List.{List, [], ◌∷◌}
use mathlib.Core.Path.{◌≡◌, refl, ap, ◌∙◌}
use lib.ListN.{length, get_or, drop, set, drop_of_length-le}
use lib.Seq.{drop-cons}
use borrow.Author.Tests.{lt-leb}
use Rattle.times.specs.declared.Nanos.{Nanos}
use Rattle.times.specs.Moments.{least_of}
use Rattle.times.proofs.Laws.{least_both}
use Rattle.readiness.specs.declared.Phase.{Phase}
use Rattle.readiness.specs.declared.Phase.TheVariants.{Down, Pending, Ready}
use Rattle.readiness.specs.declared.Status.{Status}
use Rattle.readiness.specs.Events.{Event, due_event, insert_all, due_from, due}
use Rattle.readiness.specs.inner.Earliest.{never, ready_time, earliest_ready, PhaseFrom, ReadyFrom}

-- ---- before a bound nothing is due

phase_quiet : (e clock : Nanos) (slot : ℕ) (p : Phase) → PhaseFrom e p → clock.0 < e.0 → due_event clock slot p ≡ []
phase_quiet e clock slot Down b h = refl
phase_quiet e clock slot Ready b h = refl
phase_quiet e clock slot (Pending c t) b h = ap (λ (q : Bool). cond q (record { slot = slot; cause = c; time = t } ∷ []) []) (lt-leb t.0 clock.0 (omega arith))

quiet_from : (k : ℕ) (e clock : Nanos) (l : List Status) → ReadyFrom e l → clock.0 < e.0 → due_from k clock l ≡ []
unfolding due_from insert_all
quiet_from k e clock [] b h = refl
quiet_from k e clock (s ∷ l) b h =
    ap (λ (es : List Event). insert_all es (due_from (suc k) clock l)) (phase_quiet e clock k s.phase b.0 h)
    ∙ quiet_from (suc k) e clock l b.1 h

-- While the clock is below a moment before which no slot becomes Ready, nothing is due.
pub bound_quiet : (e clock : Nanos) (l : List Status) → ReadyFrom e l → clock.0 < e.0 → due clock l ≡ []
bound_quiet e clock l b h = quiet_from 0 e clock l b h

-- ---- the earliest ready time is a bound

phase_lower : (e f : Nanos) (p : Phase) → f.0 ≤ e.0 → PhaseFrom e p → PhaseFrom f p
phase_lower e f Down h b = tt
phase_lower e f Ready h b = tt
phase_lower e f (Pending c t) h b = omega arith

-- An earlier moment is one too.
pub bound_lower : (e f : Nanos) (l : List Status) → f.0 ≤ e.0 → ReadyFrom e l → ReadyFrom f l
bound_lower e f [] h b = tt
bound_lower e f (s ∷ l) h b = (phase_lower e f s.phase h b.0, bound_lower e f l h b.1)

phase_own : (p : Phase) → PhaseFrom (ready_time p) p
phase_own Down = tt
phase_own Ready = tt
phase_own (Pending c t) = omega arith

-- No slot becomes Ready before the earliest ready time.
pub bound_earliest : (l : List Status) → ReadyFrom (earliest_ready l) l
unfolding earliest_ready
bound_earliest [] = tt
bound_earliest (s ∷ l) =
    let r = ready_time s.phase in
    let m = earliest_ready l in
    (phase_lower r (least_of r m) s.phase (least_both r m).0 (phase_own s.phase), bound_lower m (least_of r m) l (least_both r m).1 (bound_earliest l))

-- ---- what keeps a bound

-- One slot's status replaced by one that is not Pending, or Pending with a ready time at or after the bound.
pub bound_set : (e : Nanos) (l : List Status) (i : ℕ) (s : Status) → ReadyFrom e l → PhaseFrom e s.phase → ReadyFrom e (set l i s)
bound_set e [] i s b p = tt
bound_set e (r ∷ l) zero s b p = (p, b.1)
bound_set e (r ∷ l) (suc i) s b p = (b.0, bound_set e l i s b.1 p)

-- One slot's status replaced by any: the earlier of the bound and the slot's ready time.
pub bound_least : (e : Nanos) (l : List Status) (i : ℕ) (s : Status) → ReadyFrom e l → ReadyFrom (least_of (ready_time s.phase) e) (set l i s)
bound_least e l i s b =
    let r = ready_time s.phase in
    bound_set (least_of r e) l i s (bound_lower e (least_of r e) l (least_both r e).1 b) (phase_lower r (least_of r e) s.phase (least_both r e).0 (phase_own s.phase))

-- ---- the scan

pub earliest_cons : (l : List Status) (d : Status) (i : ℕ) → i < length l → earliest_ready (drop i l) ≡ least_of (ready_time (get_or l i d).phase) (earliest_ready (drop (i + 1) l))
unfolding earliest_ready
earliest_cons l d i h = rw (add-one, drop-cons l i d)

pub earliest_end : (l : List Status) (i : ℕ) → length l ≤ i → earliest_ready (drop i l) ≡ never
unfolding earliest_ready
earliest_end l i h = rw (drop_of_length-le l h)
