-- Lists: the one that a loop makes element by element, what is done and then what is left of the old list; one by its elements; fronts and padding.
use mathlib.Core.Path.{◌≡◌, refl, sym, ap, ◌∙◌}
use mathlib.Core.Bool.{Bool, true, false, cond}
use mathlib.Core.Logic.{⊎_elim}
use mathlib.Core.List.{List, [], ◌∷◌, ◌++◌, append_assoc, append-nil}
use Prim.Native.Nat.{ℕ, zero, suc, ◌+◌, ◌-◌, ◌<◌, ◌≤◌, min}
use native.Mathlib.Nat.{eq-or-lt_of_le}
use native.Mathlib.Numerals.{add-one}
use native.Mathlib.Omega.{arith}
use lib.Dec.{eqb, ltb}
use lib.ListN.{length, get_or, set, take, drop, replicate, length-append, length-set, length-replicate, drop_of_length-le, get_or-append, get_or-eq_default}
use lib.Seq.{drop-cons, take-suc, take_all, take-append_seam, append_snoc, length-take-le, set_at, set-append_seam, get_or_at, get_or-set_same, get_or-set_other, ext_get_or}
use borrow.Author.Tests.{eqb-true, eqb-false, ltb-true, ltb-false}
use Rattle.bits.specs.Lists.{listed, replaced}
use Rattle.bits.proofs.Numbers.{by_le}

-- the first i elements are done
unfoldable pub done : ℕ → (ℕ → ℕ) → List ℕ → List ℕ
done i f l = listed i f ++ drop i l

pub length-listed : (n : ℕ) (f : ℕ → ℕ) → length (listed n f) ≡ n
unfolding listed
length-listed zero f = refl
length-listed (suc n) f = omega (arith, length-append (listed n f) (f n ∷ []), length-listed n f)

pub done_none : (f : ℕ → ℕ) (l : List ℕ) → l ≡ done 0 f l
unfolding done listed
done_none f l = refl

pub done_more : (i : ℕ) (f : ℕ → ℕ) (l : List ℕ) → i < length l → set (done i f l) i (f i) ≡ done (i + 1) f l
unfolding done listed
done_more i f l h = rw (add-one, drop-cons l i 0) (set_at (listed i f) (get_or l i 0) (drop (suc i) l) (f i) i (length-listed i f) ∙ sym (append_assoc (listed i f) (f i ∷ []) (drop (suc i) l)))

pub done_all : (n : ℕ) (f : ℕ → ℕ) (l : List ℕ) → length l ≡ n → done n f l ≡ listed n f
unfolding done
done_all n f l e = let h : length l ≤ n = omega arith in ap (λ (r : List ℕ). listed n f ++ r) (drop_of_length-le l h) ∙ append-nil (listed n f)

-- ---- a list by its elements

pub get_or-listed : (n : ℕ) (f : ℕ → ℕ) (i : ℕ) → i < n → get_or (listed n f) i 0 ≡ f i
unfolding listed
get_or-listed zero f i h = absurd (omega arith)
get_or-listed (suc n) f i h =
    ⊎_elim
    (λ (e : suc i ≡ suc n). let m : i ≡ n = omega arith in
    ap (λ (k : ℕ). get_or (listed n f ++ (f n ∷ [])) k 0) m ∙ get_or_at (listed n f) (f n) [] 0 n (length-listed n f) ∙ ap f (sym m))
    (λ (l : suc i < suc n). let b : i < length (listed n f) = omega (arith, length-listed n f) in
    get_or-append (listed n f) (f n ∷ []) 0 i b ∙ get_or-listed n f i (omega arith))
    (eq-or-lt_of_le h)

-- a list is known by its elements
pub is_listed : (l : List ℕ) (n : ℕ) (f : ℕ → ℕ) → length l ≡ n → ((i : ℕ) → i < n → get_or l i 0 ≡ f i) → l ≡ listed n f
is_listed l n f e h = ext_get_or 0 l (listed n f) (e ∙ sym (length-listed n f)) (λ i b. let m : i < n = omega arith in h i m ∙ sym (get_or-listed n f i m))

-- ---- a list with some elements replaced

module _ (p : ℕ → Bool) (f : ℕ → ℕ) (l : List ℕ) where
  pub length-replaced : length (replaced p f l) ≡ length l
  unfolding replaced
  length-replaced = length-listed (length l) _

  -- what stands at i
  pub get_or-replaced : (i : ℕ) → i < length l → get_or (replaced p f l) i 0 ≡ cond (p i) (f i) (get_or l i 0)
  unfolding replaced
  get_or-replaced i h = get_or-listed (length l) _ i h

  -- an element that isn't chosen stays, also past the end
  pub replaced_other : (i : ℕ) → p i ≡ false → get_or (replaced p f l) i 0 ≡ get_or l i 0
  replaced_other i e =
      let by : (t : Bool) → ltb i (length l) ≡ t → get_or (replaced p f l) i 0 ≡ get_or l i 0 =
      elim [
        | true ↦ λ b. get_or-replaced i (ltb-true i (length l) b) ∙ ap (λ (t : Bool). cond t (f i) (get_or l i 0)) e
        | false ↦ λ b. let past : length l ≤ i = ltb-false i (length l) b in
            get_or-eq_default (replaced p f l) 0 (omega (arith, length-replaced)) ∙ sym (get_or-eq_default l 0 past)
      ] in
      by (ltb i (length l)) refl

  -- a list that has those elements
  pub is_replaced : (m : List ℕ) → length m ≡ length l → ((i : ℕ) → i < length l → get_or m i 0 ≡ cond (p i) (f i) (get_or l i 0)) → m ≡ replaced p f l
  unfolding replaced
  is_replaced m e h = is_listed m (length l) _ e h

  -- none is chosen
  pub replaced_none : ((i : ℕ) → i < length l → p i ≡ false) → replaced p f l ≡ l
  replaced_none h = sym (is_replaced l refl (λ i b. rw (h i b)))

-- two choices that agree on the list, and two values that agree where chosen
pub replaced_ext : (p q : ℕ → Bool) (f g : ℕ → ℕ) (l : List ℕ) → ((i : ℕ) → i < length l → p i ≡ q i) → ((i : ℕ) → i < length l → q i ≡ true → f i ≡ g i)
    → replaced p f l ≡ replaced q g l
replaced_ext p q f g l e h =
    let pick : (i : ℕ) → i < length l → (b : Bool) → q i ≡ b → cond b (f i) (get_or l i 0) ≡ cond b (g i) (get_or l i 0) =
    λ i m. elim [
      | true ↦ λ t. h i m t
      | false ↦ λ t. refl
    ] in
    is_replaced q g l (replaced p f l) (length-replaced p f l)
    (λ i m. get_or-replaced p f l i m ∙ ap (λ (t : Bool). cond t (f i) (get_or l i 0)) (e i m) ∙ pick i m (q i) refl)

-- one element more is chosen
pub replaced_more : (p q : ℕ → Bool) (f : ℕ → ℕ) (l : List ℕ) (n : ℕ) → n < length l → q n ≡ true → ((i : ℕ) → (i ≡ n → ⊥) → q i ≡ p i)
    → set (replaced p f l) n (f n) ≡ replaced q f l
replaced_more p q f l n h t e =
    let long : n < length (replaced p f l) = omega (arith, length-replaced p f l) in
    let at : (i : ℕ) → i < length l → (b : Bool) → eqb i n ≡ b → get_or (set (replaced p f l) n (f n)) i 0 ≡ cond (q i) (f i) (get_or l i 0) =
    λ i m. elim [
      | true ↦ λ s. let d : i ≡ n = eqb-true i n s in
          ap (λ (k : ℕ). get_or (set (replaced p f l) n (f n)) k 0) d ∙ get_or-set_same (replaced p f l) n (f n) 0 long
          ∙ sym (ap (λ (k : ℕ). cond (q k) (f k) (get_or l k 0)) d ∙ ap (λ (b : Bool). cond b (f n) (get_or l n 0)) t)
      | false ↦ λ s. get_or-set_other (replaced p f l) n i (f n) 0 (eqb-false i n s) ∙ get_or-replaced p f l i m
          ∙ ap (λ (b : Bool). cond b (f i) (get_or l i 0)) (sym (e i (eqb-false i n s)))
    ] in
    is_replaced q f l (set (replaced p f l) n (f n)) (length-set (replaced p f l) n (f n) ∙ length-replaced p f l) (λ i m. at i m (eqb i n) refl)

-- ---- the first n elements, where there may be fewer

module _ {A : Type 0} where
  pub take_min : (n : ℕ) (l : List A) → take (min n (length l)) l ≡ take n l
  take_min n l =
      by_le n (length l)
      (λ h. let e : min n (length l) ≡ n = omega arith in ap (λ (k : ℕ). take k l) e)
      (λ h. take_all (min n (length l)) l (omega arith) ∙ sym (take_all n l (omega arith)))

  pub drop_min : (n : ℕ) (l : List A) → drop (min n (length l)) l ≡ drop n l
  drop_min n l =
      by_le n (length l)
      (λ h. let e : min n (length l) ≡ n = omega arith in ap (λ (k : ℕ). drop k l) e)
      (λ h.
      let a : length l ≤ min n (length l) = omega arith in
      let b : length l ≤ n = omega arith in
      drop_of_length-le l a ∙ sym (drop_of_length-le l b))

  -- the same element everywhere, and past the end
  pub get_or_same : (n i : ℕ) (a : A) → get_or (replicate n a) i a ≡ a
  get_or_same zero i a = refl
  get_or_same (suc n) zero a = refl
  get_or_same (suc n) (suc i) a = get_or_same n i a

  -- ---- a list that a loop fills from the front: the first i of the new one, then what is left of the old one

  abbrev pub front : ℕ → (new old : List A) → List A
  front i new old = take i new ++ drop i old

  pub front_more : (i : ℕ) (new old : List A) (d : A) → i < length new → i < length old → set (front i new old) i (get_or new i d) ≡ front (i + 1) new old
  front_more i new old d h k =
      let v = get_or new i d in
      rw (add-one, drop-cons old i d, take-suc new i d)
      (set_at (take i new) (get_or old i d) (drop (suc i) old) v i (length-take-le i new (omega arith))
      ∙ sym (append_assoc (take i new) (v ∷ []) (drop (suc i) old)))

  -- ---- a list with the same element after it, m in all

  abbrev pub padded : A → ℕ → List A → List A
  padded a m l = l ++ replicate (m - length l) a

  pub length_padded : (a : A) (m : ℕ) (l : List A) → length l ≤ m → length (padded a m l) ≡ m
  length_padded a m l h = length-append l _ ∙ rw length-replicate (omega arith)

  pub take_padded : (a : A) (m : ℕ) (l : List A) → take (length l) (padded a m l) ≡ l
  take_padded a m l = take-append_seam l _

  -- one more element after the first j
  pub padded_more : (a : A) (m : ℕ) (l : List A) (j : ℕ) → j < m → j < length l → set (padded a m (take j l)) j (get_or l j a) ≡ padded a m (take (j + 1) l)
  padded_more a m l j h k =
      let c = take j l in
      let n : length c ≡ j = length-take-le j l (omega arith) in
      let b = get_or l j a in
      let e : m - length c ≡ suc (m - length (c ++ b ∷ [])) = omega (arith, length-append c (b ∷ [])) in
      ap (λ (i : ℕ). set (padded a m c) i b) (sym n)
      ∙ ap (λ (i : ℕ). set (c ++ replicate i a) (length c) b) e
      ∙ set-append_seam c a (replicate (m - length (c ++ b ∷ [])) a) b
      ∙ sym (append_snoc c b (replicate (m - length (c ++ b ∷ [])) a))
      ∙ ap (padded a m) (sym (take-suc l j a k) ∙ ap (λ (i : ℕ). take i l) (sym (add-one j)))
