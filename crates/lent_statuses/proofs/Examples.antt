-- Copies in and out, computed.
use mathlib.Core.Path.{◌≡◌, refl}
use mathlib.Core.List.{[], ◌∷◌, ◌++◌}
use lib.ListN.{get_or, set, replicate}
use Rattle.readiness.specs.Status.{ready, down}
use Rattle.demand3.specs.Held.{lent_of}
use Rattle.lent_statuses.specs.Statuses.{stored_over}

-- one status is lent: it is copied, and 31 are Ready
one_in : lent_of 32 (down ∷ []) ≡ down ∷ replicate 31 ready
one_in = refl

-- and the first comes back, no other
one_out : stored_over (down ∷ []) (ready ∷ replicate 31 down) ≡ ready ∷ []
one_out = refl

-- of 33 statuses the first 32 are copied, and the last stays where it is
many_in : lent_of 32 (replicate 32 down ++ ready ∷ []) ≡ replicate 32 down
many_in = refl

many_out : stored_over (replicate 32 down ++ down ∷ []) (replicate 32 ready) ≡ replicate 32 ready ++ down ∷ []
many_out = refl

-- slot 1 of two, replaced and read; slot 2 isn't there
replaced : set (down ∷ down ∷ []) 1 ready ≡ down ∷ ready ∷ []
replaced = refl

past_end : set (down ∷ down ∷ []) 2 ready ≡ down ∷ down ∷ []
past_end = refl

read_past_end : get_or (down ∷ down ∷ []) 2 ready ≡ ready
read_past_end = refl
