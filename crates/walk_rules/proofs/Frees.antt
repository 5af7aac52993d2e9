-- The locals of a walk at its end: what lets a local's block go stands in one entry D for all locals, in their order, from the start of the walk on. It says nothing of the crate, and can be copied as it stands.
--     free_next    D at the head and the first local's cell after it: the local is freed, whatever it holds
--     free_last    the same of the last local
-- Assumes `Logic`.
use mathlib.Core.Path.{refl}
use Prim.Native.Nat.{ℕ, zero}
use mathlib.Core.List.{List, [], ◌∷◌}
use seplogic.Ra.Ura.{Ura}
use base.Fraction.{full_share}
use mir.Syntax.{Ty}
use mir.Val.{Val}
use base.Fml.{fat, fdies}
use prog.Wp.{Env}
use types.Logic.{Logic}
use types.Kit.{Goal, frees, Item, ‵, ◌⊛◌, Step, step, ◌$◌, move, split}
use types.Run.{forget, free1}

module _ {M : Type 1} {𝓤 : Ura M} {𝓛 : Logic 𝓤} {K : Type 0} {Γ : List (Item 𝓤)} {E : Env 𝓤 𝓛.H} {g : Goal 𝓤 𝓛.H} {τ : Ty} {b : ℕ} {v : Val} where
  pub free_next : K → {D : Item 𝓤} → Step K 𝓛 (D ∷ Γ) (frees E g) ((‵ (fdies τ b) ⊛ D) ∷ ‵ (fat full_share τ b zero v) ∷ Γ) (frees ((τ, b) ∷ E) g)
  free_next t = step (λ s. split t $ move t (2 ∷ 0 ∷ []) $ forget t 0 refl $ free1 t $ s)

  pub free_last : K → Step K 𝓛 Γ (frees E g) (‵ (fdies τ b) ∷ ‵ (fat full_share τ b zero v) ∷ Γ) (frees ((τ, b) ∷ E) g)
  free_last t = step (λ s. move t (1 ∷ 0 ∷ []) $ forget t 0 refl $ free1 t $ s)
