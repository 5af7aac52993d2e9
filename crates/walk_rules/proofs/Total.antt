-- Two theorems for every declared struct T of plain data: of the total functions that read an element of a `&[T]`, and that write one of a `&mut [T]`,
--     fn at_else(s: &[T], i: usize, d: T) -> T { if i < s.len() { return s[i]; } d }      ensures { result ≡ get_or s.now i d }
--     fn put_if(s: &mut [T], i: usize, v: T) { if i < s.len() { s[i] = v; } }             ensures { s.new ≡ set s.old i v }
-- They ask nothing. `function` is the MIR that the compiler makes of such a body, over T: a crate's own MIR is it by computation. So a crate cites `else_meets` or `put_if_meets` in its proof, and walks nothing.
-- What they take of T beside its laws is, at any T that is written out, `λ w. tt` and `λ κs x f. refl`: nothing is bound and nothing said of a value of it at exit.
-- It says nothing of the crate, and can be copied as it stands.
-- Assumes `Logic`.
use mathlib.Core.Path.{◌≡◌, refl, sym, ap, subst}
use Prim.Native.Nat.{ℕ, ◌<◌, ◌^◌, ◌*◌}
use native.Mathlib.Nat.{mul-le-mul_right, lt_of_le_of_lt, lt_trans, le_of_lt}
use mathlib.Core.List.{List, [], ◌∷◌}
use lib.ListN.{length, get_or, set, length-set, get_or-eq_default}
use lib.Seq.{set_out}
use lib.Dec.{lit<, ltb, ltb→lt, nltb→le, T as Holds}
use seplogic.Ra.Ura.{Ura}
use base.Fraction.{full_share}
use mir.Syntax.{Ty, Fn, Body, named, imm, mut, w64, ty_int, ty_ptr, ty_bool, ty_unit, ty_ref, deref, field as field_step, place, copy as copy_opd, int, opd_unit, local, value_local, seq, assign, cond, skip, return, rv_opd, op2, mul, lt, unsigned, offset}
use mir.Val.{Val, vint, vptr, vunit}
use base.Logic.{SProp, ent, emp, via, fst∗}
use base.Fml.{Lft, GName, Share, ftrue, fat, flft}
use prog.Memory.{size}
use prog.Wp.{Calls, Loops, WpFn, Tables}
use types.Logic.{Logic}
use contract.Monad.{fact}
use types.Kit.{Item, ‵, ◌⊛◌, ⋆, ◌$◌, ◌∵◌, !, at_ret, qed, by, move, drop, split, join, rewrite, fsplit, fjoin, feq_i, suffices, frame, done}
use types.Part.{whole, sub, look_in}
use types.Run.{look, look_raw, store_raw, init, forget, stop, hop, fld, from, load, lit, unit_lit, of_opd, bin, assigns, assigns_last, first, branches, skips, exec, returns, returns_within, enter, alloc1, alloc0, params1, pass1, pass0, free1, free0}
use sound.WpLaws.{WpFn-mono}
use denote.Exit.{yes as kept, Last}
use denote.RattleType.{RattleType, owns}
use denote.Shadow.{pure_i}
use denote.Laws.{Is, shows}
use denote.Memory.{pointee, lone}
use denote.Plain.{Nothing, uint_vals, uint_Tells}
use denote.Ref.{Bor, MutBor}
use denote.Slice.{slice_ty, slice_val, ShrSlice, MutSlice, Room, shr_slice_vals, mut_slice_vals, shr_slice_Tells, mut_slice_Tells, mut_slice_at}
use denote.Index.{place_is, elem_out, elem_back, elem_put, looks_slice, shuts_slice, opens_slice, closes_slice}
use denote.Signature.{Slot, plain, shr_slice_of, mut_slice_of}
use denote.Builtin.{usize}
use denote.Steps.{nothing, owned}
use denote.Struct.Declared.{Declared, row, fields}
use denote.Struct.Struct.{Plains}
use denote.Struct.Laws as LL
use denote.Triple.Entry.{on_entry}
use denote.Triple.Spec.{Meets}
use denote.Triple.Clauses.{Clauses, Ended, closing}
use denote.Triple.Walked.{says, Stays, stay_slice, stay_none, stay_dropped, walk_of, ends_at, walked, Goes-slice, Goes-none, Goes-dropped, Silent, walk_Meets}

-- the offset of an element that is there fits
offset_fits : (i n k : ℕ) → i < n → n * k < 2 ^ 63 → i * k < 2 ^ 64
offset_fits i n k l g = lt_trans (lt_of_le_of_lt (mul-le-mul_right k (le_of_lt l)) g) (lit< tt)

module _ (T : Declared) (L : LL.Laws T) (pl : Plains (fields T)) (small : Holds (ltb (size (lone (row T).mir)) (2 ^ 64))) where
  abbrev R : RattleType
  R = row T

  abbrev D : Type 0
  D = T.D

  abbrev τ : Ty
  τ = lone R.mir

  abbrev vals : D → List Val
  vals = LL.vals T L

  abbrev shr_slice : Ty
  shr_slice = slice_ty (ty_ref (named 0) imm (pointee R.written))

  abbrev mut_slice : Ty
  mut_slice = slice_ty (ty_ref (named 0) mut (pointee R.written))

  abbrev SliceS : Slot 1
  SliceS = shr_slice_of (0 ∷ []) tt (plain (λ _. R))

  -- ---- `if i < s.len() { return s[i]; } d`
  abbrev else_ended : Ended
  else_ended = record { signature = record { lifetimes = 1; outlives = []; params = SliceS ∷ plain (λ _. usize) ∷ plain (λ _. R) ∷ []; result = plain (λ _. R) }; kept = (kept, (kept, (kept, tt))) }

  abbrev else_last : Body
  else_last = seq (assign (place 0 []) (rv_opd (copy_opd (place 3 [])))) return

  abbrev pub else_function : Fn
  else_function = record {
    lifetimes = 1;
    outlives = [];
    ty_params = [];
    givens = 0;
    params = 3;
    locals = local τ value_local ∷ local shr_slice value_local ∷ local (ty_int w64) value_local ∷ local τ value_local ∷ local (ty_int w64) value_local ∷ local ty_bool value_local ∷ local (ty_int w64) value_local ∷ local ty_ptr value_local ∷ local τ value_local ∷ [];
    body = seq (assign (place 4 []) (rv_opd (copy_opd (place 1 (field_step 1 ∷ [])))))
        (seq (assign (place 5 []) (op2 (lt unsigned) (copy_opd (place 2 [])) (copy_opd (place 4 []))))
        (seq (cond (copy_opd (place 5 []))
        (seq (assign (place 6 []) (op2 (mul unsigned) (copy_opd (place 2 [])) (int w64 (size τ))))
        (seq (assign (place 7 []) (op2 offset (copy_opd (place 1 (field_step 0 ∷ []))) (copy_opd (place 6 []))))
        (seq (assign (place 8 []) (rv_opd (copy_opd (place 7 (deref τ ∷ [])))))
        (seq (assign (place 0 []) (rv_opd (copy_opd (place 8 [])))) return))))
        skip) else_last));
  }

  abbrev else_stayed : Stays else_ended.signature.params else_ended.kept
  else_stayed = (stay_dropped SliceS kept, (stay_dropped (plain (λ _. usize)) kept, (stay_dropped (plain (λ _. R)) kept, tt)))

  abbrev else_clauses : {M : Type 1} (𝓤 : Ura M) → Clauses 𝓤 else_ended
  else_clauses 𝓤 κs a = record { ghost = Unit {0}; requires = λ _. emp 𝓤; ensures = λ _ r _. fact 𝓤 (r ≡ get_or a.0.now a.1.0 a.1.1.0) }

  module _ (cp : LL.Copyables T.parts) {M : Type 1} {𝓤 : Ura M} (𝓛 : Logic 𝓤) (κ : Lft) (q : Share) (b o : ℕ) (ys : List D) (i : ℕ) (d : D) (last : (w : D) → Last (R.exit kept) w) where
    open 𝓛 use {H}

    abbrev Arg : Type 0
    Arg = Bor (List D) × (ℕ × (D × Unit {0}))

    abbrev x : Arg
    x = (record { ref_ptr = (b, o); now = ys }, (i, (d, tt)))

    abbrev at : List Val × (List Val × (List Val × Unit {0}))
    at = (slice_val (b, o) (length ys) ∷ [], (vint w64 i ∷ [], (vals d, tt)))

    abbrev Bound : (walk_of 𝓛 else_ended else_stayed (else_clauses 𝓤)).Ghost
    Bound = (((κ, tt), (q, tt), tt, x, at), tt)

    abbrev Post : Val → SProp 𝓤
    Post = (walk_of 𝓛 else_ended else_stayed (else_clauses 𝓤)).post Bound

    abbrev Toks : Item 𝓤
    Toks = ‵ (flft κ q) ⊛ ‵ ftrue

    else_exits : (r : D) → Is R r (vals r) → r ≡ get_or ys i d → ent 𝓤 (⋆ 𝓛 (Toks ∷ [])) (Post (LL.val T L r))
    else_exits r g said =
        qed 𝓛 (Toks ∷ []) ∵
        suffices ! _ (ends_at 𝓛 else_ended else_stayed (else_clauses 𝓤) Bound (LL.val T L r) r (tt, (tt, (last d, tt))) (tt, (tt, (tt, tt)))) $ says ! said $
        frame ! $ nothing ! $ nothing ! $ fjoin ! $ nothing ! $ fjoin ! $ nothing ! $ fjoin ! $ frame ! $ owned ! R (Is R) (LL.makes T pl 𝓛) r (vals r) g $ done !

    walk_else : (C : Calls 𝓤 H) (Λ : Loops 𝓤 H) → Room R (length ys) → i < 2 ^ 64 → Is R d (vals d) → ent 𝓤 (on_entry 𝓛 else_ended.signature (κ, tt) (q, tt) x at)
        (WpFn 𝓤 H C Λ else_function (slice_val (b, o) (length ys) ∷ vint w64 i ∷ LL.val T L d ∷ []) Post)
    walk_else C Λ gn gi gd =
        qed 𝓛 (Toks ∷ ‵ (owns (ShrSlice (named 0) κ R ∷ usize ∷ R ∷ []) x at) ∷ []) ∵ enter ! C Λ else_function (slice_val (b, o) (length ys) ∷ vint w64 i ∷ LL.val T L d ∷ []) _ $
        alloc1 ! (λ l₀. alloc1 ! (λ l₁. alloc1 ! (λ l₂. alloc1 ! (λ l₃. alloc1 ! (λ l₄. alloc1 ! (λ l₅. alloc1 ! (λ l₆. alloc1 ! (λ l₇. alloc1 ! (λ l₈. alloc0 ! $ params1 ! $
        pass1 ! (init ! 14 refl (tt, (tt, (record { fits = gn.0 }, tt)))) $ pass1 ! (init ! 12 refl (tt, record { fits = gi })) $ pass1 ! (init ! 10 refl ((LL.lawful T L 𝓛).typed d _ gd).0) $ pass0 ! $
        move ! (19 ∷ []) $
        fsplit ! $
        move ! (1 ∷ []) $
        fsplit ! $
        drop ! $
        fsplit ! $
        move ! (1 ∷ []) $
        drop ! $
        assigns ! (of_opd ! (load ! (from ! (fld ! refl (stop !))) (look_in ! 16 (sub ! 1 refl (whole !))))) (from ! (stop !)) (init ! 10 refl (tt, record { fits = gn.0 })) $
        assigns ! (bin ! (load ! (from ! (stop !)) (look ! 14 refl)) (load ! (from ! (stop !)) (look ! 10 refl)) tt) (from ! (stop !)) (init ! 8 refl (tt, tt)) $
        -- [value; slice; l8; l7; l6; l5; l4; l3; l2; l1; l0; toks]
        first ! $ branches ! (load ! (from ! (stop !)) (look ! 8 refl))
        (λ yes. assigns ! (bin ! (load ! (from ! (stop !)) (look ! 14 refl)) (lit ! small) (record { fits = offset_fits i (length ys) (size τ) (ltb→lt i (length ys) yes) gn.1 })) (from ! (stop !)) (init ! 6 refl (tt, (record { fits = offset_fits i (length ys) (size τ) (ltb→lt i (length ys) yes) gn.1 }))) $
        assigns ! (bin ! (load ! (from ! (fld ! refl (stop !))) (look_in ! 16 (sub ! 0 refl (whole !)))) (load ! (from ! (stop !)) (look ! 6 refl)) tt) (from ! (stop !)) (init ! 4 refl (tt, tt)) $
        rewrite ! 4 (λ (p : ℕ). ‵ (fat full_share ty_ptr l₇ 0 (vptr b p))) (sym (place_is (size τ) o i)) refl $
        move ! (1 ∷ []) $
        fsplit ! $
        drop ! $
        move ! (20 ∷ []) $
        split ! $
        move ! (2 ∷ 0 ∷ []) $
        looks_slice ! tt R (LL.copied T cp 𝓛) ys b o (λ q'.
        elem_out ! R (Is R) (shows 𝓛 R) vals (LL.tells T L) q' ys i d b o (ltb→lt i (length ys) yes) (λ g.
        assigns ! (of_opd ! (load ! (from ! (hop ! (look ! 9 refl) (stop !))) (look_raw ! 0 refl))) (from ! (stop !)) (init ! 7 refl ((LL.lawful T L 𝓛).typed (get_or ys i d) _ g).0) $
        assigns ! (of_opd ! (load ! (from ! (stop !)) (look ! 7 refl))) (from ! (stop !)) (init ! 23 refl ((LL.lawful T L 𝓛).typed (get_or ys i d) _ g).0) $
        elem_back ! R q' ys i d (vals (get_or ys i d)) b o (ltb→lt i (length ys) yes) $
        shuts_slice ! tt R q' ys b o $
        returns_within ! Post refl (look ! 20 refl) $
        forget ! 4 refl $
        forget ! 6 refl $
        forget ! 8 refl $
        forget ! 10 refl $
        forget ! 12 refl $
        forget ! 14 refl $
        forget ! 16 refl $
        forget ! 18 refl $
        forget ! 20 refl $
        move ! (20 ∷ 21 ∷ []) $
        free1 ! $
        move ! (18 ∷ 19 ∷ []) $
        free1 ! $
        move ! (16 ∷ 17 ∷ []) $
        free1 ! $
        move ! (14 ∷ 15 ∷ []) $
        free1 ! $
        move ! (12 ∷ 13 ∷ []) $
        free1 ! $
        move ! (10 ∷ 11 ∷ []) $
        free1 ! $
        move ! (8 ∷ 9 ∷ []) $
        free1 ! $
        move ! (6 ∷ 7 ∷ []) $
        free1 ! $
        move ! (4 ∷ 5 ∷ []) $
        free1 ! $
        free0 ! $
        move ! (0 ∷ 2 ∷ []) $
        join ! $
        move ! (1 ∷ []) $
        drop ! $
        move ! (1 ∷ []) $
        drop ! $
        by ! (else_exits (get_or ys i d) g refl))))
        (λ no. skips ! $ exec ! C Λ ((τ, l₀) ∷ (shr_slice, l₁) ∷ (ty_int w64, l₂) ∷ (τ, l₃) ∷ (ty_int w64, l₄) ∷ (ty_bool, l₅) ∷ (ty_int w64, l₆) ∷ (ty_ptr, l₇) ∷ (τ, l₈) ∷ []) else_last (at_ret ((τ, l₀) ∷ (shr_slice, l₁) ∷ (ty_int w64, l₂) ∷ (τ, l₃) ∷ (ty_int w64, l₄) ∷ (ty_bool, l₅) ∷ (ty_int w64, l₆) ∷ (ty_ptr, l₇) ∷ (τ, l₈) ∷ []) Post) $
        assigns ! (of_opd ! (load ! (from ! (stop !)) (look ! 12 refl))) (from ! (stop !)) (init ! 18 refl ((LL.lawful T L 𝓛).typed d _ gd).0) $
        returns ! (look ! 18 refl) $
        forget ! 8 refl $
        forget ! 10 refl $
        forget ! 12 refl $
        forget ! 14 refl $
        forget ! 16 refl $
        forget ! 18 refl $
        move ! (18 ∷ 19 ∷ []) $
        free1 ! $
        move ! (16 ∷ 17 ∷ []) $
        free1 ! $
        move ! (14 ∷ 15 ∷ []) $
        free1 ! $
        move ! (12 ∷ 13 ∷ []) $
        free1 ! $
        move ! (10 ∷ 11 ∷ []) $
        free1 ! $
        move ! (8 ∷ 9 ∷ []) $
        free1 ! $
        move ! (6 ∷ 7 ∷ []) $
        free1 ! $
        move ! (4 ∷ 5 ∷ []) $
        free1 ! $
        move ! (2 ∷ 3 ∷ []) $
        free1 ! $
        free0 ! $
        move ! (1 ∷ []) $
        drop ! $
        drop ! $
        by ! (else_exits d gd (sym (get_or-eq_default ys d (nltb→le i (length ys) no))))))))))))))

  pub else_meets : LL.Copyables T.parts → {M : Type 1} {𝓤 : Ura M} (𝓛 : Logic 𝓤) → ((w : D) → Last (R.exit kept) w) → Silent 𝓛 1 (plain (λ _. R)) kept → (𝓣 : Tables 𝓤 𝓛.H)
      → Meets 𝓛 else_ended.signature (WpFn 𝓤 𝓛.H 𝓣.C 𝓣.Λ else_function) (closing 𝓛 else_ended (else_clauses 𝓤))
  else_meets cp {𝓤 = 𝓤} 𝓛 last silent 𝓣 =
      walk_Meets 𝓛 else_ended else_stayed (Goes-dropped 𝓛 1 SliceS kept (λ κs x f. refl), (Goes-dropped 𝓛 1 (plain (λ _. usize)) kept (λ κs x f. refl), (Goes-dropped 𝓛 1 (plain (λ _. R)) kept silent, tt))) (else_clauses 𝓤)
      (WpFn 𝓤 𝓛.H 𝓣.C 𝓣.Λ else_function) (WpFn-mono 𝓤 𝓛.H 𝓛.laws 𝓣 else_function)
      (walked 𝓛 else_ended else_stayed (else_clauses 𝓤) (WpFn 𝓤 𝓛.H 𝓣.C 𝓣.Λ else_function) (λ κs. (shr_slice_vals, (uint_vals w64, (vals, tt)))) (λ κs. (shr_slice_Tells (named 0) κs.0 R, (uint_Tells w64, (LL.tells T L, tt))))
      (λ κs qs bounds a g are. via 𝓤 _ (fst∗ 𝓤 _ (emp 𝓤))
      (walk_else cp 𝓛 κs.0 qs.0 a.0.ref_ptr.0 a.0.ref_ptr.1 a.0.now a.1.0 a.1.1.0 last 𝓣.C 𝓣.Λ are.0.0.1 are.1.0.1 are.1.1.0)))

  -- ---- `if i < s.len() { s[i] = v; }`
  abbrev put_ended : Ended
  put_ended = record { signature = record { lifetimes = 1; outlives = []; params = mut_slice_of (0 ∷ []) tt (plain (λ _. R)) ∷ plain (λ _. usize) ∷ plain (λ _. R) ∷ []; result = plain (λ _. Nothing) }; kept = (kept, (kept, (kept, tt))) }

  abbrev put_last : Body
  put_last = seq (assign (place 0 []) (rv_opd opd_unit)) return

  abbrev pub put_function : Fn
  put_function = record {
    lifetimes = 1;
    outlives = [];
    ty_params = [];
    givens = 0;
    params = 3;
    locals = local ty_unit value_local ∷ local mut_slice value_local ∷ local (ty_int w64) value_local ∷ local τ value_local ∷ local (ty_int w64) value_local ∷ local ty_bool value_local ∷ local (ty_int w64) value_local ∷ local ty_ptr value_local ∷ [];
    body = seq (assign (place 4 []) (rv_opd (copy_opd (place 1 (field_step 1 ∷ [])))))
        (seq (assign (place 5 []) (op2 (lt unsigned) (copy_opd (place 2 [])) (copy_opd (place 4 []))))
        (seq (cond (copy_opd (place 5 []))
        (seq (assign (place 6 []) (op2 (mul unsigned) (copy_opd (place 2 [])) (int w64 (size τ))))
        (seq (assign (place 7 []) (op2 offset (copy_opd (place 1 (field_step 0 ∷ []))) (copy_opd (place 6 []))))
        (assign (place 7 (deref τ ∷ [])) (rv_opd (copy_opd (place 3 []))))))
        skip) put_last));
  }

  abbrev put_stayed : Stays put_ended.signature.params put_ended.kept
  put_stayed = (stay_slice (0 ∷ []) tt (plain (λ _. R)), (stay_dropped (plain (λ _. usize)) kept, (stay_none (λ _. R) kept, tt)))

  abbrev put_clauses : {M : Type 1} (𝓤 : Ura M) → Clauses 𝓤 put_ended
  put_clauses 𝓤 κs a = record { ghost = Unit {0}; requires = λ _. emp 𝓤; ensures = λ _ _ e. fact 𝓤 (e.0.now ≡ set a.0.now a.1.0 a.1.1.0) }

  module _ {M : Type 1} {𝓤 : Ura M} (𝓛 : Logic 𝓤) (κ : Lft) (q : Share) (b o : ℕ) (γ : GName) (ys : List D) (i : ℕ) (v : D) where
    open 𝓛 use {H}

    abbrev PArg : Type 0
    PArg = MutBor (List D) × (ℕ × (D × Unit {0}))

    abbrev at_list : List D → MutBor (List D)
    at_list zs = record { ref_ptr = (b, o); ghost_name = γ; now = zs }

    abbrev px : PArg
    px = (at_list ys, (i, (v, tt)))

    abbrev pat : List Val × (List Val × (List Val × Unit {0}))
    pat = (slice_val (b, o) (length ys) ∷ [], (vint w64 i ∷ [], (vals v, tt)))

    abbrev PBound : (walk_of 𝓛 put_ended put_stayed (put_clauses 𝓤)).Ghost
    PBound = (((κ, tt), (q, tt), tt, px, pat), tt)

    abbrev PPost : Val → SProp 𝓤
    PPost = (walk_of 𝓛 put_ended put_stayed (put_clauses 𝓤)).post PBound

    abbrev PToks : Item 𝓤
    PToks = ‵ (flft κ q) ⊛ ‵ ftrue

    put_exits : (zs : List D) → length zs ≡ length ys → zs ≡ set ys i v → ((w : D) → Last (R.exit kept) w)
        → ent 𝓤 (⋆ 𝓛 (PToks ∷ ‵ ((MutSlice (named 0) κ R).own_val (at_list zs) pat.0) ∷ ‵ (R.own_val v (vals v)) ∷ [])) (PPost vunit)
    put_exits zs len said last =
        qed 𝓛 (PToks ∷ ‵ ((MutSlice (named 0) κ R).own_val (at_list zs) pat.0) ∷ ‵ (R.own_val v (vals v)) ∷ []) ∵
        suffices ! _ (ends_at 𝓛 put_ended put_stayed (put_clauses 𝓤) PBound vunit tt (zs, (tt, (last v, tt))) (len, (tt, (tt, tt)))) $ says ! said $
        frame ! $ nothing ! $ move ! (2 ∷ 0 ∷ []) $ fjoin ! $ nothing ! $ fjoin ! $ move ! (1 ∷ 0 ∷ []) $ fjoin ! $ frame ! $ feq_i ! (List Val) (vunit ∷ []) (vunit ∷ []) refl $ done !

    walk_put : ((w : D) → Last (R.exit kept) w) → (C : Calls 𝓤 H) (Λ : Loops 𝓤 H) → Room R (length ys) → i < 2 ^ 64 → Is R v (vals v) → ent 𝓤 (on_entry 𝓛 put_ended.signature (κ, tt) (q, tt) px pat)
        (WpFn 𝓤 H C Λ put_function (slice_val (b, o) (length ys) ∷ vint w64 i ∷ LL.val T L v ∷ []) PPost)
    walk_put last C Λ gn gi gv =
        qed 𝓛 (PToks ∷ ‵ (owns (MutSlice (named 0) κ R ∷ usize ∷ R ∷ []) px pat) ∷ []) ∵ enter ! C Λ put_function (slice_val (b, o) (length ys) ∷ vint w64 i ∷ LL.val T L v ∷ []) _ $
        alloc1 ! (λ l₀. alloc1 ! (λ l₁. alloc1 ! (λ l₂. alloc1 ! (λ l₃. alloc1 ! (λ l₄. alloc1 ! (λ l₅. alloc1 ! (λ l₆. alloc1 ! (λ l₇. alloc0 ! $ params1 ! $
        pass1 ! (init ! 12 refl (tt, (tt, (record { fits = gn.0 }, tt)))) $ pass1 ! (init ! 10 refl (tt, record { fits = gi })) $ pass1 ! (init ! 8 refl ((LL.lawful T L 𝓛).typed v _ gv).0) $ pass0 ! $
        move ! (17 ∷ []) $
        fsplit ! $
        move ! (1 ∷ []) $
        fsplit ! $
        drop ! $
        fsplit ! $
        move ! (1 ∷ []) $
        drop ! $
        assigns ! (of_opd ! (load ! (from ! (fld ! refl (stop !))) (look_in ! 14 (sub ! 1 refl (whole !))))) (from ! (stop !)) (init ! 8 refl (tt, record { fits = gn.0 })) $
        assigns ! (bin ! (load ! (from ! (stop !)) (look ! 12 refl)) (load ! (from ! (stop !)) (look ! 8 refl)) tt) (from ! (stop !)) (init ! 6 refl (tt, tt)) $
        -- [value; slice; l7; l6; l5; l4; l3; l2; l1; l0; toks]
        first ! $ branches ! (load ! (from ! (stop !)) (look ! 6 refl))
        (λ yes. assigns ! (bin ! (load ! (from ! (stop !)) (look ! 12 refl)) (lit ! small) (record { fits = offset_fits i (length ys) (size τ) (ltb→lt i (length ys) yes) gn.1 })) (from ! (stop !)) (init ! 4 refl (tt, (record { fits = offset_fits i (length ys) (size τ) (ltb→lt i (length ys) yes) gn.1 }))) $
        assigns ! (bin ! (load ! (from ! (fld ! refl (stop !))) (look_in ! 14 (sub ! 0 refl (whole !)))) (load ! (from ! (stop !)) (look ! 4 refl)) tt) (from ! (stop !)) (init ! 2 refl (tt, tt)) $
        rewrite ! 2 (λ (p : ℕ). ‵ (fat full_share ty_ptr l₇ 0 (vptr b p))) (sym (place_is (size τ) o i)) refl $
        move ! (1 ∷ []) $
        fsplit ! $
        drop ! $
        fsplit ! $
        move ! (19 ∷ []) $
        split ! $
        move ! (2 ∷ 3 ∷ 0 ∷ []) $
        opens_slice ! tt R ys b o $
        elem_out ! R (Is R) (shows 𝓛 R) vals (LL.tells T L) full_share ys i v b o (ltb→lt i (length ys) yes) (λ _.
        assigns_last ! (of_opd ! (load ! (from ! (stop !)) (look ! 16 refl))) (from ! (hop ! (look ! 8 refl) (stop !))) (store_raw ! 0 refl ((LL.lawful T L 𝓛).typed v _ gv).0) $ exec ! C Λ ((ty_unit, l₀) ∷ (mut_slice, l₁) ∷ (ty_int w64, l₂) ∷ (τ, l₃) ∷ (ty_int w64, l₄) ∷ (ty_bool, l₅) ∷ (ty_int w64, l₆) ∷ (ty_ptr, l₇) ∷ []) put_last (at_ret ((ty_unit, l₀) ∷ (mut_slice, l₁) ∷ (ty_int w64, l₂) ∷ (τ, l₃) ∷ (ty_int w64, l₄) ∷ (ty_bool, l₅) ∷ (ty_int w64, l₆) ∷ (ty_ptr, l₇) ∷ []) PPost) $
        move ! (1 ∷ []) $
        drop ! $
        owned ! R (Is R) (LL.makes T pl 𝓛) v (vals v) gv $
        move ! (1 ∷ 0 ∷ 2 ∷ []) $
        elem_put ! R full_share ys i v (vals v) b o (ltb→lt i (length ys) yes) $
        closes_slice ! tt R ys (set ys i v) (length-set ys i v) b o $
        fjoin ! $
        pure_i ! (mut_slice_at R (at_list (set ys i v)) pat.0) (tt, (tt, tt)) (ap (λ (m : ℕ). slice_val (b, o) m ∷ []) (sym (length-set ys i v)), subst (Room R) (sym (length-set ys i v)) gn) $
        fjoin ! $
        move ! (1 ∷ 2 ∷ []) $
        join ! $
        assigns ! (of_opd ! (unit_lit !)) (from ! (stop !)) (init ! 17 refl (tt, tt)) $
        returns ! (look ! 17 refl) $
        forget ! 3 refl $
        forget ! 5 refl $
        forget ! 7 refl $
        forget ! 9 refl $
        forget ! 11 refl $
        forget ! 13 refl $
        forget ! 15 refl $
        forget ! 17 refl $
        move ! (17 ∷ 18 ∷ []) $
        free1 ! $
        move ! (15 ∷ 16 ∷ []) $
        free1 ! $
        move ! (13 ∷ 14 ∷ []) $
        free1 ! $
        move ! (11 ∷ 12 ∷ []) $
        free1 ! $
        move ! (9 ∷ 10 ∷ []) $
        free1 ! $
        move ! (7 ∷ 8 ∷ []) $
        free1 ! $
        move ! (5 ∷ 6 ∷ []) $
        free1 ! $
        move ! (3 ∷ 4 ∷ []) $
        free1 ! $
        free0 ! $
        by ! (put_exits (set ys i v) (length-set ys i v) refl last)))
        (λ no. skips ! $ exec ! C Λ ((ty_unit, l₀) ∷ (mut_slice, l₁) ∷ (ty_int w64, l₂) ∷ (τ, l₃) ∷ (ty_int w64, l₄) ∷ (ty_bool, l₅) ∷ (ty_int w64, l₆) ∷ (ty_ptr, l₇) ∷ []) put_last (at_ret ((ty_unit, l₀) ∷ (mut_slice, l₁) ∷ (ty_int w64, l₂) ∷ (τ, l₃) ∷ (ty_int w64, l₄) ∷ (ty_bool, l₅) ∷ (ty_int w64, l₆) ∷ (ty_ptr, l₇) ∷ []) PPost) $
        assigns ! (of_opd ! (unit_lit !)) (from ! (stop !)) (init ! 16 refl (tt, tt)) $
        returns ! (look ! 16 refl) $
        forget ! 6 refl $
        forget ! 8 refl $
        forget ! 10 refl $
        forget ! 12 refl $
        forget ! 14 refl $
        forget ! 16 refl $
        move ! (16 ∷ 17 ∷ []) $
        free1 ! $
        move ! (14 ∷ 15 ∷ []) $
        free1 ! $
        move ! (12 ∷ 13 ∷ []) $
        free1 ! $
        move ! (10 ∷ 11 ∷ []) $
        free1 ! $
        move ! (8 ∷ 9 ∷ []) $
        free1 ! $
        move ! (6 ∷ 7 ∷ []) $
        free1 ! $
        move ! (4 ∷ 5 ∷ []) $
        free1 ! $
        move ! (2 ∷ 3 ∷ []) $
        free1 ! $
        free0 ! $
        move ! (2 ∷ 1 ∷ 0 ∷ []) $
        by ! (put_exits ys refl (sym (set_out ys i v (nltb→le i (length ys) no))) last))))))))))

  pub put_if_meets : {M : Type 1} {𝓤 : Ura M} (𝓛 : Logic 𝓤) → ((w : D) → Last (R.exit kept) w) → Silent 𝓛 1 (plain (λ _. R)) kept → (𝓣 : Tables 𝓤 𝓛.H)
      → Meets 𝓛 put_ended.signature (WpFn 𝓤 𝓛.H 𝓣.C 𝓣.Λ put_function) (closing 𝓛 put_ended (put_clauses 𝓤))
  put_if_meets {𝓤 = 𝓤} 𝓛 last silent 𝓣 =
      walk_Meets 𝓛 put_ended put_stayed (Goes-slice 𝓛 1 0 tt (plain (λ _. R)), (Goes-dropped 𝓛 1 (plain (λ _. usize)) kept (λ κs x f. refl), (Goes-none 𝓛 1 (λ _. R) kept silent, tt))) (put_clauses 𝓤)
      (WpFn 𝓤 𝓛.H 𝓣.C 𝓣.Λ put_function) (WpFn-mono 𝓤 𝓛.H 𝓛.laws 𝓣 put_function)
      (walked 𝓛 put_ended put_stayed (put_clauses 𝓤) (WpFn 𝓤 𝓛.H 𝓣.C 𝓣.Λ put_function) (λ κs. (mut_slice_vals, (uint_vals w64, (vals, tt)))) (λ κs. (mut_slice_Tells (named 0) κs.0 R, (uint_Tells w64, (LL.tells T L, tt))))
      (λ κs qs bounds a g are. via 𝓤 _ (fst∗ 𝓤 _ (emp 𝓤))
      (walk_put 𝓛 κs.0 qs.0 a.0.ref_ptr.0 a.0.ref_ptr.1 a.0.ghost_name a.0.now a.1.0 a.1.1.0 last 𝓣.C 𝓣.Λ are.0.0.1 are.1.0.1 are.1.1.0)))
