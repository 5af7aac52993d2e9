-- A list by its elements.
use Rattle.std.specs.Prelude.{ℕ, zero, suc, Bool, cond, List, [], ◌∷◌, ◌++◌, length, get_or}

-- the list of n elements whose element at i is f i
unfoldable pub listed : ℕ → (ℕ → ℕ) → List ℕ
listed zero f = []
listed (suc n) f = listed n f ++ (f n ∷ [])

-- the list l with the element at each n for which p n holds replaced by f n
unfoldable pub replaced : (p : ℕ → Bool) (f : ℕ → ℕ) → List ℕ → List ℕ
replaced p f l = listed (length l) λ n. cond (p n) (f n) (get_or l n 0)
