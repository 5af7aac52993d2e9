-- A local that a walk lends to a callee by `&mut`, and uses again: a struct or any value of one machine value as a `&mut T`. Steps of `Types/Kit.antt`'s calculus. It says nothing of the crate, and can be copied as it stands.
--     lend-local   the local's cell and what its value owns at the head: for a lifetime ν of the call, its token, the `&mut` under a name δ, and the lender's part
--     back-local   ν's token, the lender's part and the last value y under δ: the local's cell again, at some machine value of y
-- Assumes `Logic`.
use Prim.Native.Nat.{ℕ}
use mathlib.Core.List.{List, [], ◌∷◌}
use seplogic.Ra.Ura.{Ura}
use base.Fraction.{full_share}
use mir.Syntax.{named}
use mir.Val.{Val, vptr}
use base.Fml.{GName, flft, fres, flent, fat}
use types.Logic.{Logic}
use types.Kit.{Goal, Soaks, Item, ‵, ◌⊛◌, some, later, Seq, ◌$◌, move, drop, use1, use2, use3, split, pick, await}
use types.Tokens.{lft_new, lft_end}
use types.SemTy.{Body}
use denote.RattleType.{RattleType}
use denote.Laws.{Is, shows}
use denote.Memory.{mem, lone, part_at}
use denote.Ref.{MutRef}
use denote.Steps.{peeks}
use denote.Lend.{lends_ref, ref_back}
use borrow.Table.OneValue.{One, part_in, part_out}
use Rattle.walk_rules.proofs.Lent.{at_list}

module _ {M : Type 1} {𝓤 : Ura M} {𝓛 : Logic 𝓤} {K : Type 0} {Γ : List (Item 𝓤)} {G : Goal 𝓤 𝓛.H} where
  pub lend-local : K → Soaks G → (R : RattleType) → One R → (l : ℕ) (h : R.Denot) (v : Val)
      → ((ν : ℕ) (δ : GName) → Seq K 𝓛 (‵ (flft (ν ∷ []) full_share) ∷ ‵ ((MutRef (named 0) (ν ∷ []) R).own_val (at_list l 0 δ h) (vptr l 0 ∷ [])) ∷ ‵ (flent (ν ∷ []) (Body (mem R) l 0 δ)) ∷ Γ) G)
      → Seq K 𝓛 (‵ (fat full_share (lone R.mir) l 0 v) ∷ ‵ (R.own_val h (v ∷ [])) ∷ Γ) G
  lend-local t z R one l h v k =
      use2 𝓛 (‵ (part_at R full_share h l 0)) (part_in 𝓛 R one full_share h l 0 v) $ lft_new t z (λ ν. move t (1 ∷ []) $
      use1 𝓛 (later (some (λ (δ : GName). ‵ ((MutRef (named 0) (ν ∷ []) R).own_val (at_list l 0 δ h) (vptr l 0 ∷ [])) ⊛ ‵ (flent (ν ∷ []) (Body (mem R) l 0 δ))))) (lends_ref 𝓛 R (named 0) (ν ∷ []) h l 0) $
      await t z $ pick t (λ δ. split t $ move t (2 ∷ 0 ∷ []) $ k ν δ))

  pub back-local : K → Soaks G → (R : RattleType) → One R → (l : ℕ) (y : R.Denot) (ν : ℕ) (δ : GName) → ((v : Val) → Is R y (v ∷ []) → Seq K 𝓛 (‵ (fat full_share (lone R.mir) l 0 v) ∷ Γ) G)
      → Seq K 𝓛 (‵ (flft (ν ∷ []) full_share) ∷ ‵ (flent (ν ∷ []) (Body (mem R) l 0 δ)) ∷ ‵ (fres δ (R.coded.code y)) ∷ Γ) G
  back-local t z R one l y ν δ k = lft_end t z $
      use3 𝓛 (later (‵ (part_at R full_share y l 0))) (ref_back 𝓛 R (ν ∷ []) δ y l 0) $ await t z $
      use1 𝓛 (some (λ (v : Val). ‵ (fat full_share (lone R.mir) l 0 v) ⊛ ‵ (R.own_val y (v ∷ [])))) (part_out 𝓛 R one full_share y l 0) $ pick t (λ v. split t $ move t (1 ∷ []) $ peeks t R (Is R) (shows 𝓛 R) y (v ∷ []) (λ is. drop t $ k v is))
