-- Slot statuses as numbers, four to a slot: the phase with its cause, the ready time, the end of an FLR, and the moment at which the slot last became Ready.
use Rattle.times.specs.declared.Nanos.{Nanos}
use Rattle.std.specs.Prelude.{ℕ, cond, List, [], ◌∷◌, eqb, set, Option, None, Some}
use Rattle.times.specs.Moments.{greatest_nanos}
use Rattle.readiness.specs.declared.Cause.TheVariants.{LinkUp, Flr, D3hot}
use Rattle.readiness.specs.declared.Status.{Status}
use Rattle.readiness.specs.Status.{down, pending, ready}
use Rattle.readiness.specs.Events.{Event}

-- 0 Down; 1, 2, 3 Pending after link up, FLR, D3hot; any other number Ready
unfoldable pub status_of : (phase ready_time flr_end : ℕ) → Status
status_of phase t e =
    cond (eqb phase 0) down
    (cond (eqb phase 1) (pending LinkUp (record { 0 = t }))
    (cond (eqb phase 2) (pending (Flr (record { 0 = e })) (record { 0 = t }))
    (cond (eqb phase 3) (pending D3hot (record { 0 = t }))
    ready)))

-- the statuses of as many slots as there are four numbers for
unfoldable pub statuses_in : List ℕ → List Status
statuses_in [] = []
statuses_in (p ∷ []) = []
statuses_in (p ∷ t ∷ []) = []
statuses_in (p ∷ t ∷ e ∷ []) = []
statuses_in (p ∷ t ∷ e ∷ m ∷ l) = status_of p t e ∷ statuses_in l

-- and the moments
unfoldable pub moments_in : List ℕ → List ℕ
moments_in [] = []
moments_in (p ∷ []) = []
moments_in (p ∷ t ∷ []) = []
moments_in (p ∷ t ∷ e ∷ []) = []
moments_in (p ∷ t ∷ e ∷ m ∷ l) = m ∷ moments_in l

-- slots become Ready, each at its ready time
unfoldable pub notes : List Event → List ℕ → List ℕ
notes [] l = l
notes (e ∷ es) l = notes es (set l e.slot e.time.0)

-- one slot did, if it did
abbrev pub notes_at : Option Nanos → (slot : ℕ) → List ℕ → List ℕ
notes_at None slot l = l
notes_at (Some t) slot l = set l slot t.0

-- the moments of before, and those of the numbers: the greatest moment there is, which no sound clock reaches, stands for none
abbrev pub moment_with : Option Nanos → ℕ → Option Nanos
moment_with m t = cond (eqb t greatest_nanos) m (Some (record { 0 = t }))

unfoldable pub moments_with : List (Option Nanos) → List ℕ → List (Option Nanos)
moments_with [] l = []
moments_with (m ∷ ms) [] = m ∷ ms
moments_with (m ∷ ms) (t ∷ l) = moment_with m t ∷ moments_with ms l
