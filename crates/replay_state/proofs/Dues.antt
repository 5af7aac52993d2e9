-- The advances that are due, case by case.
use Prim.Native.Nat.{ℕ, ◌≤◌, ◌<◌}
use mathlib.Core.Path.{◌≡◌, refl, ap, ◌∙◌}
use mathlib.Core.Bool.{Bool, true, false}
use mathlib.Core.List.{List, [], ◌∷◌}
use native.Mathlib.Omega.{arith}
use lib.ListN.{length}
use lib.Dec.{leb, eqb}
use borrow.Author.Tests.{le-leb, lt-leb, eq-eqb, ne_eqb}
use Rattle.std.specs.Prelude.{None, Some}
use Rattle.times.specs.declared.Nanos.{Nanos}
use Rattle.ticks.specs.declared.Stamp.{Stamp}
use Rattle.ticks.specs.Ticks.{difference, went_back, in_nanos}
use Rattle.trace.specs.Format.{when◌then◌else◌}
use Rattle.trace.proofs.Tests.{if_true, if_false}
use Rattle.capture.specs.Advances.{stamp_in, Earlier, back, longest_advance, rest, advances, between, due}
use Rattle.capture.proofs.Advancing.{due_few}
use Rattle.replay_state.specs.inner.Moves.{due_of, advances_in}

-- ---- the recorder went back
pub later_went : (e : Earlier) (s s' : Stamp) → e ≡ Some s → back e s' ≡ went_back (difference s s')
unfolding back
later_went e s s' h = ap (λ (x : Earlier). back x s') h

-- ---- of a time
pub none_for_0 : (t : Nanos) → t.0 ≡ 0 → advances t ≡ []
unfolding advances
none_for_0 t e = if_true (eqb t.0 0) _ _ (eq-eqb t.0 0 e)

pub one_advance : (t : Nanos) → (t.0 ≡ 0 → ⊥) → t.0 ≤ 4294967295 → advances t ≡ t ∷ []
unfolding advances
one_advance t e h = if_false (eqb t.0 0) _ _ (ne_eqb t.0 0 e) ∙ if_true (leb t.0 4294967295) _ _ (le-leb t.0 4294967295 h)

pub two_advances : (t : Nanos) → 4294967295 < t.0 → advances t ≡ longest_advance ∷ rest t ∷ []
unfolding advances
two_advances t h =
    if_false (eqb t.0 0) _ _ (ne_eqb t.0 0 (λ e. omega arith)) ∙ if_false (leb t.0 4294967295) _ _ (lt-leb t.0 4294967295 h)

-- ---- of a stamp
pub too_short : (e : Earlier) (stamp : List ℕ) → (length stamp ≡ 4 → ⊥) → due e stamp ≡ []
unfolding due
too_short e stamp h = if_false (eqb (length stamp) 4) _ _ (ne_eqb (length stamp) 4 h)

pub the_first : (e : Earlier) (stamp : List ℕ) → e ≡ None → due e stamp ≡ []
unfolding due back between
the_first e stamp h = rw h (same (eqb (length stamp) 4))
  where
    same : (t : Bool) → ◌≡◌ {A = List Nanos} (when t then [] else []) []
    same true = refl
    same false = refl

pub gone_back : (e : Earlier) (s : Stamp) (stamp : List ℕ) → length stamp ≡ 4 → e ≡ Some s → went_back (difference s (stamp_in stamp)) ≡ true → due e stamp ≡ []
unfolding due back
gone_back e s stamp l q h =
    if_true (eqb (length stamp) 4) _ _ (eq-eqb (length stamp) 4 l) ∙ rw q (if_true (went_back (difference s (stamp_in stamp))) _ _ h)

pub gone_on : (e : Earlier) (s : Stamp) (stamp : List ℕ) → length stamp ≡ 4 → e ≡ Some s → went_back (difference s (stamp_in stamp)) ≡ false
    → due e stamp ≡ advances (in_nanos (difference s (stamp_in stamp)))
unfolding due back between
gone_on e s stamp l q h =
    if_true (eqb (length stamp) 4) _ _ (eq-eqb (length stamp) 4 l)
    ∙ rw q (if_false (went_back (difference s (stamp_in stamp))) _ _ h)

-- ---- the advances that the code holds
pub advances-held : (ts : List Nanos) → length ts ≤ 2 → advances_in (due_of ts) ≡ ts
advances-held [] h = refl
advances-held (t ∷ []) h = refl
advances-held (t ∷ u ∷ []) h = refl
advances-held (t ∷ u ∷ v ∷ more) h = absurd (omega arith)

-- of a stamp they are those that are due
pub dues_held : (e : Earlier) (stamp : List ℕ) → advances_in (due_of (due e stamp)) ≡ due e stamp
dues_held e stamp = advances-held (due e stamp) (due_few e stamp)
