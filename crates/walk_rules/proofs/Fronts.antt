-- The first k elements of a local array that a walk lends to a callee by `&mut`, as a slice of k, and uses again. It says nothing of the crate, and can be copied as it stands.
--     FrontOut     what the lender keeps: its part of the loan of k elements, and the elements after them
--     lend-front   the array's cell and what its elements own at the head: for a lifetime ν of the call, its token, the `&mut [T]` on `take k xs` under a name δ, and `FrontOut`
--     back-front   ν's token, `FrontOut` and the last list ys under δ: the array's cell again, at some machine value of `ys ++ drop k xs`
-- Assumes `Logic`.
use mathlib.Core.Path.{◌≡◌, refl, sym, ◌∙◌}
use Prim.Native.Nat.{ℕ, ◌≤◌}
use mathlib.Core.List.{List, [], ◌∷◌, ◌++◌}
use lib.ListN.{length, take, drop as rest, take-append-drop}
use seplogic.Ra.Ura.{Ura}
use base.Fraction.{full_share}
use mir.Syntax.{named, ty_array}
use mir.Val.{Val}
use base.Fml.{GName, Fml, fsep, flft, flent, fat}
use types.Logic.{Logic}
use types.Kit.{Goal, Soaks, Item, ‵, ◌⊛◌, some, later, Seq, ◌$◌, move, drop, use1, use2, use3, split, pick, rewrite, fsplit, fjoin, feq_l, feq_i, await}
use types.Tokens.{lft_new, lft_end}
use types.SemTy.{cells, Arr}
use types.Share.{arr_parts}
use denote.RattleType.{RattleType}
use denote.Laws.{Is, shows}
use denote.Memory.{mem, lone, shares, part_at}
use denote.Array.{Array}
use denote.ArrayMemory.{Single, Array-apart, Array-whole}
use denote.Slice.{slice_val, MutSlice, Room, finally}
use denote.Steps.{peeks}
use denote.Index.{row, whole_in, whole_out}
use denote.Lend.{Held, lends_slice, slice_back}
use borrow.Table.OneValue.{part_in, part_out}
use borrow.Table.Elements.{at, cut_app, join_app, same_len}
use lib.Seq.{length-take-le}
use borrow.Rule.Array.Share.{Room-take}
use Rattle.walk_rules.proofs.Lent.{at_list}

abbrev pub FrontOut : (R : RattleType) → ℕ → ℕ → GName → ℕ → List R.Denot → Fml
FrontOut R ν l δ k xs = fsep (flent (ν ∷ []) (Held R k l 0 δ)) (cells (mem R) (rest k xs) l (at 0 (mem R).size k))

module _ {M : Type 1} {𝓤 : Ura M} {𝓛 : Logic 𝓤} {K : Type 0} {Γ : List (Item 𝓤)} {G : Goal 𝓤 𝓛.H} where
  pub lend-front : K → Soaks G → (R : RattleType) → Single R.mir → (n l k : ℕ) (xs : List R.Denot) (v : Val) → Room R n → length xs ≡ n → k ≤ length xs
      → ((ν : ℕ) (δ : GName) → Seq K 𝓛 (‵ (flft (ν ∷ []) full_share) ∷ ‵ ((MutSlice (named 0) (ν ∷ []) R).own_val (at_list l 0 δ (take k xs)) (slice_val (l, 0) k ∷ [])) ∷ ‵ (FrontOut R ν l δ k xs) ∷ Γ) G)
      → Seq K 𝓛 (‵ (fat full_share (ty_array (lone R.mir) n) l 0 v) ∷ ‵ ((Array R n).own_val xs (v ∷ [])) ∷ Γ) G
  lend-front t z R s n l k xs v room e le c =
      use2 𝓛 (‵ (part_at (Array R n) full_share xs l 0)) (part_in 𝓛 (Array R n) refl full_share xs l 0 v) $
      use1 𝓛 (‵ ((arr_parts (shares R) n).part full_share xs l 0)) (Array-apart 𝓛 R full_share s n xs l 0) $ fsplit t $ drop t $
      use1 𝓛 (‵ (cells (mem R) xs l 0)) (whole_in 𝓛 R xs l 0) $
      rewrite t 0 (λ (ys : List R.Denot). ‵ (cells (mem R) ys l 0)) (sym (take-append-drop k xs)) refl $
      use1 𝓛 (‵ (cells (mem R) (take k xs) l 0) ⊛ ‵ (cells (mem R) (rest k xs) l (at 0 (mem R).size (length (take k xs))))) (cut_app 𝓛 (mem R) (take k xs) (rest k xs) l 0) $ split t $
      rewrite t 1 (λ (m : ℕ). ‵ (cells (mem R) (rest k xs) l (at 0 (mem R).size m))) same refl $
      -- [the first k; the others]
      lft_new t z (λ ν. move t (1 ∷ []) $
      use1 𝓛 (later (some (λ (δ : GName). ‵ ((MutSlice (named 0) (ν ∷ []) R).own_val (at_list l 0 δ (take k xs)) (slice_val (l, 0) (length (take k xs)) ∷ [])) ⊛ ‵ (flent (ν ∷ []) (Held R (length (take k xs)) l 0 δ))))) (lends_slice 𝓛 R (named 0) (ν ∷ []) (take k xs) l 0 (Room-take R n k xs e room)) $
      await t z $ pick t (λ δ. split t $ rewrite t 0 (λ (m : ℕ). ‵ ((MutSlice (named 0) (ν ∷ []) R).own_val (at_list l 0 δ (take k xs)) (slice_val (l, 0) m ∷ []))) same refl $ rewrite t 1 (λ (m : ℕ). ‵ (flent (ν ∷ []) (Held R m l 0 δ))) same refl $
      -- [the slice; the lender's part; ν's token; the others]
      move t (1 ∷ 3 ∷ []) $ fjoin t $ move t (2 ∷ 1 ∷ 0 ∷ []) $ c ν δ))
    where
      same : length (take k xs) ≡ k
      same = length-take-le k xs le

  pub back-front : K → Soaks G → (R : RattleType) (n l k : ℕ) (xs ys : List R.Denot) (ν : ℕ) (δ : GName) → length xs ≡ n → k ≤ length xs
      → ((v : Val) → Is (Array R n) (ys ++ rest k xs) (v ∷ []) → Seq K 𝓛 (‵ (fat full_share (ty_array (lone R.mir) n) l 0 v) ∷ Γ) G)
      → Seq K 𝓛 (‵ (flft (ν ∷ []) full_share) ∷ ‵ (FrontOut R ν l δ k xs) ∷ ‵ (finally R δ ys) ∷ Γ) G
  back-front t z R n l k xs ys ν δ e le c = lft_end t z $ move t (1 ∷ []) $ fsplit t $ move t (2 ∷ 0 ∷ 3 ∷ []) $
      -- [ν is dead; the lender's part; the last list; the others]
      use3 𝓛 (later (‵ ((Arr (mem R) k).own_at ys l 0))) (slice_back 𝓛 R (ν ∷ []) δ ys k l 0) $ await t z $ fsplit t $ feq_l t (λ many.
      rewrite t 1 (λ (m : ℕ). ‵ (cells (mem R) (rest k xs) l (at 0 (mem R).size m))) (sym many) refl $
      use2 𝓛 (‵ (cells (mem R) (ys ++ rest k xs) l 0)) (join_app 𝓛 (mem R) ys (rest k xs) l 0) $
      use1 𝓛 (‵ (row R full_share (ys ++ rest k xs) l 0)) (whole_out 𝓛 R (ys ++ rest k xs) l 0) $
      feq_i t ℕ (length (ys ++ rest k xs)) n (same_len k xs ys (many ∙ sym (length-take-le k xs le)) ∙ e) $ fjoin t $
      use1 𝓛 (‵ (part_at (Array R n) full_share (ys ++ rest k xs) l 0)) (Array-whole 𝓛 R full_share n (ys ++ rest k xs) l 0) $
      use1 𝓛 (some (λ (v : Val). ‵ (fat full_share (ty_array (lone R.mir) n) l 0 v) ⊛ ‵ ((Array R n).own_val (ys ++ rest k xs) (v ∷ [])))) (part_out 𝓛 (Array R n) refl full_share (ys ++ rest k xs) l 0) $ pick t (λ v. split t $ move t (1 ∷ []) $
      peeks t (Array R n) (Is (Array R n)) (shows 𝓛 (Array R n)) (ys ++ rest k xs) (v ∷ []) (λ is. drop t $ c v is)))
