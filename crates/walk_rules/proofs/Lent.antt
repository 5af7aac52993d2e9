-- A `&mut [T]` that a walk lends to a callee and uses again, as steps of `Types/Kit.antt`'s calculus. It says nothing of the crate, and can be copied as it stands, with `Again.antt`.
--     lend_slice   a `&κ mut [T]` and κ's token at the head: for a lifetime ν that is made for the call, its token, the slice under a name δ at ν, and what the holder keeps
--     back_slice   ν's token, the last list under δ and what the holder kept: ν is ended, and the slice is back at that list, with κ's token
--     share_slice, unshare_slice   a `&κ mut [T]` of a type that is Copy, lent as a `&[T]`, which comes back as it was. SharedOut is what the holder keeps
-- The slice's count is m, which its list's length is: in a loop the list changes, and the machine value does not.
-- Assumes `Logic`.
use mathlib.Core.Path.{◌≡◌, refl, sym}
use Prim.Native.Nat.{ℕ}
use mathlib.Core.List.{List, [], ◌∷◌}
use lib.ListN.{length}
use seplogic.Ra.Ura.{Ura}
use base.Fraction.{full_share}
use mir.Syntax.{Lifetime, named}
use base.Fml.{Lft, GName, Share, Fml, Incl-refl, fsep, flft, flent, fobor, fobs, fauth}
use types.Logic.{Logic}
use mathlib.Core.Path.{subst}
use types.Kit.{Goal, Soaks, Item, ‵, ◌⊛◌, some, later, Seq, Step, step, ◌$◌, move, drop, use2, use3, split, pick, rewrite, fsplit, fjoin, feq_i, await}
use types.Tokens.{lft_new, lft_end, lent_back}
use types.Share.{arr_parts}
use denote.RattleType.{RattleType}
use denote.Ref.{Bor, MutBor}
use denote.Shadow.{pure_l, pure_i}
use denote.Memory.{shares}
use denote.Slice.{slice_val, MutSlice, ShrSlice, heres, coded_holeys, mut_slice_at, Room, finally}
use denote.Index.{opens_slice, closes_slice}
use denote.Lend as L
use denote.Copied.{Copied}
use denote.Lend.{Held}
use Rattle.walk_rules.proofs.Again.{LentAgain, lends_again, comes_back}

abbrev pub at_list : {X : Type 0} → ℕ → ℕ → GName → X → MutBor X
at_list b o δ ys = record { ref_ptr = (b, o); ghost_name = δ; now = ys }

abbrev pub shared_at : {X : Type 0} → ℕ → ℕ → X → Bor X
shared_at b o ys = record { ref_ptr = (b, o); now = ys }

abbrev pub SharedOut : (R : RattleType) → Lft → ℕ → Share → GName → ℕ → ℕ → List R.Denot → Fml
SharedOut R κ ν q γ b o ys = fsep (flent (ν ∷ []) ((arr_parts (shares R) (length ys)).part full_share ys b o)) (fsep (fobor κ q (Held R (length ys) b o γ)) (fsep (fobs γ ((coded_holeys R).code (heres R ys))) (fauth γ ((coded_holeys R).code (heres R ys)))))

module _ {M : Type 1} {𝓤 : Ura M} {𝓛 : Logic 𝓤} {K : Type 0} {Γ : List (Item 𝓤)} {G : Goal 𝓤 𝓛.H} where
  pub lend_slice : K → Soaks G → (R : RattleType) (ℓ : Lifetime) (κ : Lft) (q : Share) (γ : GName) (b o m : ℕ) (ys : List R.Denot) → length ys ≡ m
      → ((ν : ℕ) (δ : GName) → Seq K 𝓛 (‵ (flft (ν ∷ []) full_share) ∷ ‵ ((MutSlice (named 0) (ν ∷ []) R).own_val (at_list b o δ ys) (slice_val (b, o) m ∷ [])) ∷ ‵ (LentAgain R κ (ν ∷ []) q γ b o δ ys) ∷ Γ) G)
      → Seq K 𝓛 (‵ ((MutSlice ℓ κ R).own_val (at_list b o γ ys) (slice_val (b, o) m ∷ [])) ∷ ‵ (flft κ q) ∷ Γ) G
  lend_slice t z R ℓ κ q γ b o m ys e k =
      rewrite t 0 (λ (n : ℕ). ‵ ((MutSlice ℓ κ R).own_val (at_list b o γ ys) (slice_val (b, o) n ∷ []))) (sym e) refl $
      lft_new t z (λ ν. move t (1 ∷ 2 ∷ []) $
      use2 𝓛 (later (some (λ (δ : GName). ‵ ((MutSlice (named 0) (ν ∷ []) R).own_val (at_list b o δ ys) (slice_val (b, o) (length ys) ∷ [])) ⊛ ‵ (LentAgain R κ (ν ∷ []) q γ b o δ ys)))) (lends_again R κ (ν ∷ []) q γ b o 𝓛 ℓ (named 0) ys) $
      await t z $ pick t (λ δ. split t $ rewrite t 0 (λ (n : ℕ). ‵ ((MutSlice (named 0) (ν ∷ []) R).own_val (at_list b o δ ys) (slice_val (b, o) n ∷ []))) e refl $ move t (2 ∷ 0 ∷ []) $ k ν δ))

  pub back_slice : K → Soaks G → (R : RattleType) (ℓ : Lifetime) (κ : Lft) (q : Share) (γ : GName) (b o m : ℕ) (ys zs : List R.Denot) (ν : ℕ) (δ : GName) → Room R m → length ys ≡ m → length zs ≡ length ys
      → Step K 𝓛 (‵ ((MutSlice ℓ κ R).own_val (at_list b o γ zs) (slice_val (b, o) m ∷ [])) ∷ ‵ (flft κ q) ∷ Γ) G (‵ (flft (ν ∷ []) full_share) ∷ ‵ (LentAgain R κ (ν ∷ []) q γ b o δ ys) ∷ ‵ (finally R δ zs) ∷ Γ) G
  back_slice t z R ℓ κ q γ b o m ys zs ν δ room e l = step (λ s. lft_end t z $
      use3 𝓛 (later (‵ ((MutSlice ℓ κ R).own_val (at_list b o γ zs) (slice_val (b, o) (length ys) ∷ [])) ⊛ ‵ (flft κ q))) (comes_back R κ (ν ∷ []) q γ b o 𝓛 ℓ (named 0) ys δ zs (subst (Room R) (sym e) room) l) $ await t z $ split t $
      rewrite t 0 (λ (n : ℕ). ‵ ((MutSlice ℓ κ R).own_val (at_list b o γ zs) (slice_val (b, o) n ∷ []))) e refl $ s)

  pub share_slice : K → Soaks G → (R : RattleType) → Copied 𝓛 R → (ℓ : Lifetime) (κ : Lft) (q : Share) (γ : GName) (b o m : ℕ) (ys : List R.Denot) → length ys ≡ m
      → ((ν : ℕ) → Seq K 𝓛 (‵ (flft (ν ∷ []) full_share) ∷ ‵ ((ShrSlice (named 0) (ν ∷ []) R).own_val (shared_at b o ys) (slice_val (b, o) m ∷ [])) ∷ ‵ (SharedOut R κ ν q γ b o ys) ∷ Γ) G)
      → Seq K 𝓛 (‵ ((MutSlice ℓ κ R).own_val (at_list b o γ ys) (slice_val (b, o) m ∷ [])) ∷ ‵ (flft κ q) ∷ Γ) G
  share_slice t z R c ℓ κ q γ b o m ys e k =
      rewrite t 0 (λ (n : ℕ). ‵ ((MutSlice ℓ κ R).own_val (at_list b o γ ys) (slice_val (b, o) n ∷ []))) (sym e) refl $
      fsplit t $ pure_l t (mut_slice_at R (at_list b o γ ys) (slice_val (b, o) (length ys) ∷ [])) (λ p. fsplit t $ opens_slice t z R ys b o $
      -- [the elements; the open borrow; obs; auth]
      feq_i t ℕ (length ys) (length ys) refl $ fjoin t $ lft_new t z (λ ν. move t (1 ∷ []) $
      use2 𝓛 (later ((‵ ((ShrSlice (named 0) (ν ∷ []) R).own_val (shared_at b o ys) (slice_val (b, o) (length ys) ∷ [])) ⊛ ‵ (flent (ν ∷ []) ((arr_parts (shares R) (length ys)).part full_share ys b o))) ⊛ ‵ (flft (ν ∷ []) full_share)))
      (L.lends_shr_slice 𝓛 R (named 0) (ν ∷ []) full_share ys b o p.1 (ν ∷ []) (c.shares full_share (ν ∷ [])) ((ν ∷ [], full_share) ∷ []) (Incl-refl (ν ∷ [])) (Incl-refl (ν ∷ []))) $
      await t z $ split t $ split t $
      -- [the `&`; the lender's part; ν's token; the open borrow; obs; auth]
      move t (4 ∷ 5 ∷ []) $ fjoin t $ move t (4 ∷ 0 ∷ []) $ fjoin t $ move t (2 ∷ 0 ∷ []) $ fjoin t $ move t (2 ∷ 1 ∷ 0 ∷ []) $
      rewrite t 1 (λ (n : ℕ). ‵ ((ShrSlice (named 0) (ν ∷ []) R).own_val (shared_at b o ys) (slice_val (b, o) n ∷ []))) e refl $ k ν))

  pub unshare_slice : K → Soaks G → (R : RattleType) (ℓ : Lifetime) (κ : Lft) (q : Share) (γ : GName) (b o m : ℕ) (ys : List R.Denot) (ν : ℕ) → Room R m → length ys ≡ m
      → Step K 𝓛 (‵ ((MutSlice ℓ κ R).own_val (at_list b o γ ys) (slice_val (b, o) m ∷ [])) ∷ ‵ (flft κ q) ∷ Γ) G (‵ (flft (ν ∷ []) full_share) ∷ ‵ (SharedOut R κ ν q γ b o ys) ∷ Γ) G
  unshare_slice t z R ℓ κ q γ b o m ys ν room e = step (λ s. lft_end t z $ move t (1 ∷ []) $ fsplit t $ move t (2 ∷ 0 ∷ []) $ lent_back t z $ fsplit t $ drop t $
      -- [the elements; the open borrow, obs and auth]
      move t (1 ∷ []) $ fsplit t $ move t (1 ∷ []) $ fsplit t $ move t (3 ∷ 2 ∷ 0 ∷ 1 ∷ []) $ closes_slice t z R ys ys refl b o $
      fjoin t $ pure_i t (mut_slice_at R (at_list b o γ ys) (slice_val (b, o) (length ys) ∷ [])) (tt, (tt, tt)) (refl, subst (Room R) (sym e) room) $ fjoin t $
      rewrite t 0 (λ (n : ℕ). ‵ ((MutSlice ℓ κ R).own_val (at_list b o γ ys) (slice_val (b, o) n ∷ []))) e refl $ s)
