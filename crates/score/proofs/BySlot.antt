-- The differences that are chosen for a slot are the slot's.
use Prim.Native.Nat.{ℕ, zero, suc, ◌≤◌, ◌<◌}
use mathlib.Core.Path.{◌≡◌, refl, sym, ap, subst, ◌∙◌}
use mathlib.Core.Bool.{Bool, true, false, cond}
use mathlib.Core.List.{List, [], ◌∷◌, ◌++◌, append-nil, append_assoc}
use native.Mathlib.Omega.{arith}
use lib.Dec.{eqb, ltb}
use lib.ListN.{length, get_or, take, length-append}
use lib.Seq.{take-suc, take-length, length-take-le}
use lib.IntN.{ℤ, pos}
use borrow.Author.Tests.{ltb-true, ltb-false, lt-ltb, le-ltb, eqb-true, eqb-false, eq-eqb}
use Rattle.bits.proofs.Choices.{when_true, when_false}
use Rattle.bits.proofs.Tests.{split}
use Rattle.lateness.specs.declared.Lateness.{Lateness}
use Rattle.lateness.specs.declared.Lateness.TheVariants.{NoDifference, Of, Outside}
use Rattle.score.specs.Scores.{Lists, Picked, difference_at, kept, with_difference, collected, is_of, pick, chosen}
use Rattle.score.specs.Together.{Captured, given, differences_of, differences_in, collected_in, at_start, differences_at, taken, BySlot}
use Rattle.score.proofs.Filling.{Filled, whole, one_more, at_first}
use Rattle.score.proofs.Together.{values_filled}

-- ---- The slots of the differences, in their order

tag : ℕ → Lateness → List ℕ
tag slot NoDifference = []
tag slot (Of d) = slot ∷ []
tag slot Outside = []

tags_of : (slots : ℕ) → Captured → ℕ → List ℕ
tags_of slots c zero = []
tags_of slots c (suc k) = tags_of slots c k ++ tag k (difference_at slots c.bench c.seen k)

tags_in : (slots : ℕ) → List Captured → List ℕ
tags_in slots [] = []
tags_in slots (c ∷ cs) = tags_of slots c 32 ++ tags_in slots cs

record Tagged (l : Lists) (all : List ℕ) : Type 0 where
  filled : Filled l.count l.slots all

tag_one : (l : Lists) (all : List ℕ) (slot : ℕ) (x : Lateness) → Tagged l all → Tagged (with_difference slot x l) (all ++ tag slot x)
unfolding with_difference tag kept
tag_one l all slot NoDifference h = subst (λ (r : List ℕ). Tagged l r) (sym (append-nil all)) h
tag_one l all slot (Of d) h = record { filled = one_more l.count l.slots all h.filled slot }
tag_one l all slot Outside h = record { filled = subst (λ (r : List ℕ). Filled l.count l.slots r) (sym (append-nil all)) h.filled }

tag_capture : (slots : ℕ) (c : Captured) (n : ℕ) (l : Lists) (all : List ℕ) → Tagged l all → Tagged (collected slots c.bench c.seen n l) (all ++ tags_of slots c n)
unfolding collected tags_of
tag_capture slots c zero l all h = subst (λ (r : List ℕ). Tagged l r) (sym (append-nil all)) h
tag_capture slots c (suc k) l all h =
    let x = difference_at slots c.bench c.seen k in
    subst (λ (r : List ℕ). Tagged (with_difference k x (collected slots c.bench c.seen k l)) r) (append_assoc all (tags_of slots c k) (tag k x)) (tag_one (collected slots c.bench c.seen k l) (all ++ tags_of slots c k) k x (tag_capture slots c k l all h))

tag_all : (slots : ℕ) (cs : List Captured) (l : Lists) (all : List ℕ) → Tagged l all → Tagged (collected_in slots cs l) (all ++ tags_in slots cs)
unfolding collected_in tags_in
tag_all slots [] l all h = subst (λ (r : List ℕ). Tagged l r) (sym (append-nil all)) h
tag_all slots (c ∷ cs) l all h =
    subst (λ (r : List ℕ). Tagged (collected_in slots cs (collected slots c.bench c.seen 32 l)) r) (append_assoc all (tags_of slots c 32) (tags_in slots cs))
    (tag_all slots cs (collected slots c.bench c.seen 32 l) (all ++ tags_of slots c 32) (tag_capture slots c 32 l all h))

same_length : (k : ℕ) (x : Lateness) → length (given x) ≡ length (tag k x)
unfolding given tag
same_length k NoDifference = refl
same_length k (Of d) = refl
same_length k Outside = refl

joined_length : {A B : Type 0} (a a' : List A) (b b' : List B) → length a ≡ length b → length a' ≡ length b' → length (a ++ a') ≡ length (b ++ b')
joined_length a a' b b' p q = let l = length-append a a' in let r = length-append b b' in omega (arith, l, r, p, q)

lengths_of : (slots : ℕ) (c : Captured) (n : ℕ) → length (differences_of slots c n) ≡ length (tags_of slots c n)
unfolding differences_of tags_of
lengths_of slots c zero = refl
lengths_of slots c (suc k) = let x = difference_at slots c.bench c.seen k in joined_length (differences_of slots c k) (given x) (tags_of slots c k) (tag k x) (lengths_of slots c k) (same_length k x)

lengths_in : (slots : ℕ) (cs : List Captured) → length (differences_in slots cs) ≡ length (tags_in slots cs)
unfolding differences_in tags_in
lengths_in slots [] = refl
lengths_in slots (c ∷ cs) = joined_length (differences_of slots c 32) (differences_in slots cs) (tags_of slots c 32) (tags_in slots cs) (lengths_of slots c 32) (lengths_in slots cs)

-- ---- The differences that are of a slot

module _ (slot : ℕ) where
  only : Bool → ℤ → List ℤ
  only b d = cond b (d ∷ []) []

  of_slot : List ℤ → List ℕ → List ℤ
  of_slot [] is = []
  of_slot (d ∷ ds) [] = []
  of_slot (d ∷ ds) (i ∷ is) = only (eqb i slot) d ++ of_slot ds is

  of_append : (ds : List ℤ) (is : List ℕ) (es : List ℤ) (js : List ℕ) → length ds ≡ length is → of_slot (ds ++ es) (is ++ js) ≡ of_slot ds is ++ of_slot es js
  unfolding of_slot
  of_append [] [] es js q = refl
  of_append [] (i ∷ is) es js q = absurd (omega (arith, q))
  of_append (d ∷ ds) [] es js q = absurd (omega (arith, q))
  of_append (d ∷ ds) (i ∷ is) es js q =
      ap (λ (r : List ℤ). only (eqb i slot) d ++ r) (of_append ds is es js (omega (arith, q))) ∙ sym (append_assoc (only (eqb i slot) d) (of_slot ds is) (of_slot es js))

  only_most : (b : Bool) (d : ℤ) → length (only b d) ≤ 1
  unfolding only
  only_most true d = omega arith
  only_most false d = omega arith

  of_most : (ds : List ℤ) (is : List ℕ) → length (of_slot ds is) ≤ length ds
  unfolding of_slot
  of_most [] is = omega arith
  of_most (d ∷ ds) [] = omega arith
  of_most (d ∷ ds) (i ∷ is) =
      let l = length-append (only (eqb i slot) d) (of_slot ds is) in
      let a = only_most (eqb i slot) d in
      let b = of_most ds is in
      omega (arith, l, a, b)

  of_pair : (d : ℤ) (i : ℕ) → of_slot (d ∷ []) (i ∷ []) ≡ only (eqb i slot) d
  unfolding of_slot
  of_pair d i = append-nil (only (eqb i slot) d)

  nothing : (b : Bool) → ◌≡◌ {A = List ℤ} [] (cond b [] [])
  nothing true = refl
  nothing false = refl

  of_one : (k : ℕ) (x : Lateness) → of_slot (given x) (tag k x) ≡ cond (eqb k slot) (given x) []
  unfolding of_slot given tag only
  of_one k NoDifference = nothing (eqb k slot)
  of_one k (Of d) = of_pair d k
  of_one k Outside = nothing (eqb k slot)

  -- ---- Of a capture, and of all

  module _ (slots : ℕ) (c : Captured) where
    own : List ℤ
    own = given (difference_at slots c.bench c.seen slot)

    at_slot : (k : ℕ) → k ≡ slot → cond (ltb slot k) own [] ++ cond (eqb k slot) (given (difference_at slots c.bench c.seen k)) [] ≡ cond (ltb slot (suc k)) own []
    unfolding own
    at_slot k e =
        ap (λ (r : List ℤ). r ++ cond (eqb k slot) (given (difference_at slots c.bench c.seen k)) []) (when_false (ltb slot k) own [] (le-ltb slot k (omega (arith, e))))
        ∙ when_true (eqb k slot) (given (difference_at slots c.bench c.seen k)) [] (ap (λ (n : ℕ). eqb n slot) e ∙ eq-eqb slot slot refl)
        ∙ ap (λ (n : ℕ). given (difference_at slots c.bench c.seen n)) e
        ∙ sym (when_true (ltb slot (suc k)) own [] (lt-ltb slot (suc k) (omega (arith, e))))

    before_slot : (k : ℕ) → eqb k slot ≡ false → cond (ltb slot k) own [] ++ cond (eqb k slot) (given (difference_at slots c.bench c.seen k)) [] ≡ cond (ltb slot (suc k)) own []
    before_slot k e =
        ap (λ (r : List ℤ). cond (ltb slot k) own [] ++ r) (when_false (eqb k slot) (given (difference_at slots c.bench c.seen k)) [] e)
        ∙ append-nil (cond (ltb slot k) own [])
        ∙ ap (λ (b : Bool). cond b own [])
        (split (ltb slot k)
        (λ p. p ∙ sym (lt-ltb slot (suc k) (let h = ltb-true slot k p in omega (arith, h))))
        (λ p. p ∙ sym (le-ltb slot (suc k) (let h = ltb-false slot k p in by_ne k slot h (eqb-false k slot e)))))
      where
        by_ne : (a b : ℕ) → a ≤ b → (a ≡ b → ⊥) → suc a ≤ b
        by_ne a b h n = omega (arith, h, n)

    of_capture : (n : ℕ) → of_slot (differences_of slots c n) (tags_of slots c n) ≡ cond (ltb slot n) own []
    unfolding differences_of tags_of of_slot
    of_capture zero = sym (when_false (ltb slot 0) own [] (le-ltb slot 0 (omega arith)))
    of_capture (suc k) =
        let x = difference_at slots c.bench c.seen k in
        of_append (differences_of slots c k) (tags_of slots c k) (given x) (tag k x) (lengths_of slots c k)
        ∙ ap (λ (r : List ℤ). r ++ of_slot (given x) (tag k x)) (of_capture k)
        ∙ ap (λ (r : List ℤ). cond (ltb slot k) own [] ++ r) (of_one k x)
        ∙ split (eqb k slot) (λ e. at_slot k (eqb-true k slot e)) (before_slot k)

  of_all : (slots : ℕ) (cs : List Captured) → slot < 32 → of_slot (differences_in slots cs) (tags_in slots cs) ≡ differences_at slots slot cs
  unfolding differences_in tags_in differences_at of_slot own
  of_all slots [] q = refl
  of_all slots (c ∷ cs) q =
      of_append (differences_of slots c 32) (tags_of slots c 32) (differences_in slots cs) (tags_in slots cs) (lengths_of slots c 32)
      ∙ ap (λ (r : List ℤ). r ++ of_slot (differences_in slots cs) (tags_in slots cs)) (of_capture slots c 32 ∙ when_true (ltb slot 32) (own slots c) [] (lt-ltb slot 32 q))
      ∙ ap (λ (r : List ℤ). own slots c ++ r) (of_all slots cs q)

  -- ---- What is chosen

  record Picks (p : Picked) (all : List ℤ) : Type 0 where
    filled : Filled p.count p.list all

  picks_one : (b : Bool) (d : ℤ) (p : Picked) (all : List ℤ) → Picks p all → Picks (pick b d p) (all ++ only b d)
  unfolding pick only
  picks_one true d p all h = record { filled = one_more p.count p.list all h.filled d }
  picks_one false d p all h = subst (λ (r : List ℤ). Picks p r) (sym (append-nil all)) h

  module _ (ds : List ℤ) (is : List ℕ) (e : length ds ≡ length is) (list : List ℤ) (long : length list ≡ 9001) where
    abbrev first : Picked
    first = record { count = 0; list = list }

    picks : (n : ℕ) → n ≤ length ds → Picks (chosen ds is slot n first) (of_slot (take n ds) (take n is))
    unfolding chosen of_slot is_of
    picks zero q = record { filled = at_first list long }
    picks (suc k) q =
        let there : k < length ds = omega (arith, q) in
        let there' : k < length is = omega (arith, q, e) in
        let d = get_or ds k (pos 0) in
        let i = get_or is k 0 in
        let is_of_lem : is_of is k slot ≡ eqb i slot = when_true (ltb k (length is)) (eqb i slot) false (lt-ltb k (length is) there') in
        let parts : of_slot (take (suc k) ds) (take (suc k) is) ≡ of_slot (take k ds) (take k is) ++ only (eqb i slot) d =
        ap (λ (r : List ℤ). of_slot r (take (suc k) is)) (take-suc ds k (pos 0) there) ∙ ap (λ (r : List ℕ). of_slot (take k ds ++ (d ∷ [])) r) (take-suc is k 0 there')
        ∙ of_append (take k ds) (take k is) (d ∷ []) (i ∷ []) (length-take-le k ds (omega (arith, there)) ∙ sym (length-take-le k is (omega (arith, there'))))
        ∙ ap (λ (r : List ℤ). of_slot (take k ds) (take k is) ++ r) (of_pair d i) in
        subst (λ (r : List ℤ). Picks (pick (is_of is k slot) d (chosen ds is slot k first)) r)
        (ap (λ (b : Bool). of_slot (take k ds) (take k is) ++ only b d) is_of_lem ∙ sym parts)
        (picks_one (is_of is k slot) d (chosen ds is slot k first) (of_slot (take k ds) (take k is)) (picks k (omega (arith, q))))

    all_picked : length ds ≤ 9000 → taken (chosen ds is slot (length ds) first) ≡ of_slot ds is
    all_picked q =
        let p = picks (length ds) (omega arith) in
        let same : of_slot (take (length ds) ds) (take (length ds) is) ≡ of_slot ds is = ap (λ (r : List ℤ). of_slot r (take (length ds) is)) (take-length ds)
        ∙ ap (λ (n : ℕ). of_slot ds (take n is)) e ∙ ap (of_slot ds) (take-length is) in
        let most = of_most ds is in
        whole _ _ _ p.filled (let l = ap length same in omega (arith, l, most, q)) ∙ same

pub by_slot : BySlot
by_slot slots slot low cs values of list v o p q =
    let l = collected_in slots cs (at_start values of) in
    let ds : take l.count l.values ≡ differences_in slots cs = whole _ _ _ (values_filled slots cs values of v).filled q in
    let t : Tagged l (tags_in slots cs) = tag_all slots cs (at_start values of) [] (record { filled = at_first of o }) in
    let e = lengths_in slots cs in
    let is : take l.count l.slots ≡ tags_in slots cs = whole _ _ _ t.filled (omega (arith, e, q)) in
    ap (λ (r : List ℤ). taken (chosen r (take l.count l.slots) slot (length r) (record { count = 0; list = list }))) ds
    ∙ ap (λ (r : List ℕ). taken (chosen (differences_in slots cs) r slot (length (differences_in slots cs)) (record { count = 0; list = list }))) is
    ∙ all_picked slot (differences_in slots cs) (tags_in slots cs) e list p q
    ∙ of_all slot slots cs low
