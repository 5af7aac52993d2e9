-- What stands in a list, and the same list in another order.
use Rattle.std.specs.Prelude.{List, [], ◌∷◌}

-- an element of a list
pub data Among {A : Type 0} (a : A) : List A → Type 0 where
  here : {l : List A} → Among a (a ∷ l)
  there : {b : A} {l : List A} → Among a l → Among a (b ∷ l)

-- the same elements, each as often, in any order: neighbours change places
pub data Reordered {A : Type 0} : List A → List A → Type 0 where
  none : Reordered [] []
  keep : {a : A} {l m : List A} → Reordered l m → Reordered (a ∷ l) (a ∷ m)
  swap : {a b : A} {l : List A} → Reordered (a ∷ b ∷ l) (b ∷ a ∷ l)
  again : {l m n : List A} → Reordered l m → Reordered m n → Reordered l n
