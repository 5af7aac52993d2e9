-- Another order of a list of differences.
use Rattle.std.specs.Prelude.{ℕ, ◌+◌, ◌≡◌, Bool, false, List, [], ◌∷◌, eqb, ℤ, pos, negsuc}
use Rattle.bits.specs.Bits.{one}

-- made by neighbours that change places, anywhere and any number of times
pub data Reordered : List ℤ → List ℤ → Type 0 where
  none : Reordered [] []
  keep : {l m : List ℤ} → (d : ℤ) → Reordered l m → Reordered (d ∷ l) (d ∷ m)
  swap : (d e : ℤ) (l : List ℤ) → Reordered (d ∷ e ∷ l) (e ∷ d ∷ l)
  again : {l m n : List ℤ} → Reordered l m → Reordered m n → Reordered l n

unfoldable pub same_z : ℤ → ℤ → Bool
same_z (pos a) (pos b) = eqb a b
same_z (pos a) (negsuc b) = false
same_z (negsuc a) (pos b) = false
same_z (negsuc a) (negsuc b) = eqb a b

-- how often a difference stands in a list
unfoldable pub times_in : ℤ → List ℤ → ℕ
times_in d [] = 0
times_in d (e ∷ l) = one (same_z d e) + times_in d l

-- every difference stands in both equally often
abbrev pub SameTimes : (l m : List ℤ) → Type 0
SameTimes l m = (d : ℤ) → times_in d l ≡ times_in d m
