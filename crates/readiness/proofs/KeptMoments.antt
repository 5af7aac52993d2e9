-- The moments of slots that become Ready, as numbers and as they are kept.
use Rattle.std.specs.Prelude.{Option, Some}
use Prim.Native.Nat.{ℕ, zero, suc, ◌<◌}
use native.Mathlib.Omega.{arith}
use mathlib.Core.Path.{◌≡◌, refl, sym, ap, ◌∙◌, subst}
use mathlib.Core.Bool.{Bool, cond}
use mathlib.Core.List.{List, [], ◌∷◌, ◌++◌}
use lib.ListN.{length, get_or, set, replicate, length-set, get_or-eq_default}
use borrow.Author.Tests.{ne_eqb}
use Rattle.bits.proofs.Numbers.{by_le}
use Rattle.times.specs.declared.Nanos.{Nanos}
use Rattle.times.specs.Moments.{greatest_nanos}
use Rattle.readiness.specs.declared.Cause.{Cause}
use Rattle.readiness.specs.declared.Phase.TheVariants.{Pending}
use Rattle.readiness.specs.declared.Status.{Status}
use Rattle.readiness.specs.Status.{ready}
use Rattle.readiness.specs.Events.{Event, due}
use Rattle.readiness.specs.MadeReady.{noted}
use Rattle.readiness.specs.inner.Phases.{notes, moment_with, moments_with}
use Rattle.readiness.proofs.Order.{Each, each_map, Awaited, due_from-sound, never-pending}

-- a slot among the first n, at a moment before the greatest
abbrev pub Within : ℕ → Event → Type 0
Within n e = (e.slot < n) × (e.time.0 < greatest_nanos)

pub each_append : (P : Event → Type 0) (es fs : List Event) → Each P es → Each P fs → Each P (es ++ fs)
each_append P [] fs a b = b
each_append P (e ∷ es) fs a b = (a.0, each_append P es fs a.1 b)

-- a slot that is Pending is there
pub pending_there : (l : List Status) (i : ℕ) (c : Cause) (t : Nanos) → (get_or l i ready).phase ≡ Pending c t → i < length l
pending_there l i c t e =
    by_le (length l) i (λ h. absurd (never-pending c t (sym (ap (λ (s : Status). s.phase) (get_or-eq_default l ready h)) ∙ e))) (λ h. h)

-- slots that are due at a clock before the greatest moment
pub due-within : (clock : Nanos) (l : List Status) → clock.0 < greatest_nanos → Each (Within (length l)) (due clock l)
due-within clock l h = each_map (Awaited 0 clock l) (Within (length l)) one (due clock l) (due_from-sound 0 clock l)
  where
    one : (e : Event) → Awaited 0 clock l e → Within (length l) e
    one e w = (omega (arith, w.slot, pending_there l w.at e.cause e.time w.pends), omega (arith, w.now, h))

-- ---- numbers and moments
with_set : (ms : List (Option Nanos)) (l : List ℕ) (i t : ℕ) → i < length l → t < greatest_nanos → moments_with ms (set l i t) ≡ set (moments_with ms l) i (Some (record { 0 = t }))
unfolding moments_with
with_set [] l i t h g = refl
with_set (m ∷ ms) [] i t h g = absurd (omega arith)
with_set (m ∷ ms) (x ∷ l) zero t h g =
    ap (λ (b : Bool). cond b m (Some (record { 0 = t })) ∷ moments_with ms l) (ne_eqb t greatest_nanos (λ z. omega (arith, z, g)))
with_set (m ∷ ms) (x ∷ l) (suc i) t h g = ap (λ (r : List (Option Nanos)). moment_with m x ∷ r) (with_set ms l i t (omega arith) g)

-- what is noted in the numbers is noted in the moments
pub with_notes : (es : List Event) (ms : List (Option Nanos)) (l : List ℕ) → Each (Within (length l)) es → moments_with ms (notes es l) ≡ noted es (moments_with ms l)
unfolding notes noted
with_notes [] ms l h = refl
with_notes (e ∷ es) ms l h =
    with_notes es ms (set l e.slot e.time.0) (each_map (Within (length l)) _ (λ f w. subst (λ (n : ℕ). Within n f) (sym (length-set l e.slot e.time.0)) w) es h.1)
    ∙ ap (noted es) (with_set ms l e.slot e.time.0 h.0.0 h.0.1)

pub notes-length : (es : List Event) (l : List ℕ) → length (notes es l) ≡ length l
unfolding notes
notes-length [] l = refl
notes-length (e ∷ es) l = notes-length es (set l e.slot e.time.0) ∙ length-set l e.slot e.time.0

-- none of the numbers has a moment
pub with_never : (ms : List (Option Nanos)) (n : ℕ) → moments_with ms (replicate n greatest_nanos) ≡ ms
unfolding moments_with
with_never [] n = refl
with_never (m ∷ ms) zero = refl
with_never (m ∷ ms) (suc n) = ap (λ (r : List (Option Nanos)). m ∷ r) (with_never ms n)
