-- Each slot's status where slots are started anew, become Ready, or are replaced.
use Prim.Native.Nat.{ℕ, zero, suc, ◌+◌, ◌≤◌}
use native.Mathlib.Omega.{arith}
use mathlib.Core.Path.{◌≡◌, refl, ap}
use mathlib.Core.Bool.{Bool, cond}
use mathlib.Core.List.{List, [], ◌∷◌}
use lib.ListN.{set}
use borrow.Author.Tests.{le-ltb}
use Rattle.times.specs.declared.Nanos.{Nanos}
use Rattle.readiness.specs.declared.Status.{Status}
use Rattle.readiness.specs.Status.{each_from}
use Rattle.readiness.proofs.Order.{phase_by, ready_by}
use Rattle.records.specs.State.{status_at}

-- what holds of the new status and held at j before a slot is replaced holds at j after it
pub set_keeps : (P : Status → Type 0) (l : List Status) (i j : ℕ) (a : Status) → P a → P (status_at l j) → P (status_at (set l i a) j)
set_keeps P [] i j a p q = q
set_keeps P (x ∷ l) zero zero a p q = p
set_keeps P (x ∷ l) zero (suc j) a p q = q
set_keeps P (x ∷ l) (suc i) zero a p q = q
set_keeps P (x ∷ l) (suc i) (suc j) a p q = set_keeps P l i j a p q

-- the slots once the clock has come to a moment
pub at_ready_by : (clock : Nanos) (l : List Status) (i : ℕ) → status_at (ready_by clock l) i ≡ record { phase = phase_by clock (status_at l i).phase }
unfolding ready_by
at_ready_by clock [] i = refl
at_ready_by clock (s ∷ l) zero = refl
at_ready_by clock (s ∷ l) (suc i) = at_ready_by clock l i

-- each slot of the card anew
module _ (slots : ℕ) (f : ℕ → Status) where
  -- past the card's slots the statuses stay
  pub each-past : (k : ℕ) (l : List Status) (i : ℕ) → slots ≤ k + i → status_at (each_from k slots f l) i ≡ status_at l i
  unfolding each_from
  each-past k [] i m = refl
  each-past k (s ∷ l) zero m = let n : slots ≤ k = omega arith in ap (λ (b : Bool). cond b (f k) s) (le-ltb k slots n)
  each-past k (s ∷ l) (suc i) m = each-past (suc k) l i (omega arith)
