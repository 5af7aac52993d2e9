-- The words of the lent lists from one index up to another: a reset of them word by word, and which of them a slot has.
use mathlib.Core.Path.{◌≡◌, refl, sym, ap, ap₂, ◌∙◌, subst}
use mathlib.Core.Bool.{Bool, true, false, ◌&&◌, ◌||◌, cond}
use mathlib.Core.List.{List}
use Prim.Native.Nat.{ℕ, ◌+◌, ◌*◌, ◌/◌, ◌%◌, ◌<◌, ◌≤◌, min, max}
use native.Mathlib.Omega.{arith}
use lib.Arith.{lt_of_le-ne}
use lib.Dec.{T, leb, ltb}
use lib.ListN.{length, get_or, set}
use borrow.Author.Tests.{leb-true, ltb-true, ltb-false, eqb-true, le-leb, lt-ltb, eq-eqb}
use Rattle.bits.proofs.Lists.{get_or-replaced, is_replaced, replaced_none, replaced_other, replaced_ext, replaced_more}
use Rattle.bits.proofs.Tests.{same_test, both_left, both_right, both, untrue}
use Rattle.config_space.proofs.Slots.{length_reset, same_words, split, after}
use Rattle.config_space.specs.Functions.{in_slot, in_any_slot, reset_where}
use Rattle.config_words.specs.inner.Resetting.{between}

-- i is from a up to b, and below d
abbrev within : (a b d i : ℕ) → Bool
within a b d i = between a b i && ltb i d

record Within (a b d i : ℕ) : Type 0 where
  from : a ≤ i
  to : i < b
  has : i < d

is_within : (a b d i : ℕ) → within a b d i ≡ true → Within a b d i
is_within a b d i e =
    let s : between a b i ≡ true = both_left (between a b i) (ltb i d) e in
    record {
      from = leb-true a i (both_left (leb a i) (ltb i b) s);
      to = ltb-true i b (both_right (leb a i) (ltb i b) s);
      has = ltb-true i d (both_right (between a b i) (ltb i d) e);
    }

make_within : (a b d i : ℕ) → a ≤ i → i < b → i < d → within a b d i ≡ true
make_within a b d i h k l = both (between a b i) (ltb i d) (both (leb a i) (ltb i b) (le-leb a i h) (lt-ltb i b k)) (lt-ltb i d l)

-- two spans have the same words, where each word that one has is a word that the other has
same_span : (a b d i a' b' d' : ℕ) → (Within a b d i → Within a' b' d' i) → (Within a' b' d' i → Within a b d i) → within a b d i ≡ within a' b' d' i
same_span a b d i a' b' d' f g =
    same_test (within a b d i) (within a' b' d' i)
    (λ e. let w = f (is_within a b d i e) in make_within a' b' d' i w.from w.to w.has)
    (λ e. let w = g (is_within a' b' d' i e) in make_within a b d i w.from w.to w.has)

module _ (reset : ℕ → ℕ → ℕ → ℕ → ℕ) (live defaults : List ℕ) where
  -- no word is reset yet
  pub none_yet : (a : ℕ) → live ≡ reset_where (between a a) reset live defaults
  unfolding reset_where
  none_yet a = sym (replaced_none _ _ live (λ i h. untrue (within a a (length defaults) i) (λ e. let w = is_within a a (length defaults) i e in omega arith)))

  -- the word at hand is as it was
  pub not_yet : (a n : ℕ) → get_or (reset_where (between a n) reset live defaults) n 0 ≡ get_or live n 0
  unfolding reset_where
  not_yet a n = replaced_other _ _ live n (untrue (within a n (length defaults) n) (λ e. let w = is_within a n (length defaults) n e in omega arith))

  -- one word more
  pub one_more : (a n : ℕ) → a ≤ n → n < length live → n < length defaults
      → set (reset_where (between a n) reset live defaults) n (reset (n / 64) (n % 64) (get_or live n 0) (get_or defaults n 0)) ≡ reset_where (between a (n + 1)) reset live defaults
  unfolding reset_where
  one_more a n h l d =
      replaced_more _ _ _ live n l (make_within a (n + 1) (length defaults) n h (omega arith) d)
      (λ i ne. same_span a (n + 1) (length defaults) i a n (length defaults)
      (λ w. record { from = w.from; to = lt_of_le-ne (omega arith) ne; has = w.has })
      (λ w. record { from = w.from; to = omega arith; has = w.has }))

  -- the last word of the span, or of a list, is done
  pub all_done : (a b n : ℕ) → n ≤ max a (min b (min (length live) (length defaults))) → min b (min (length live) (length defaults)) ≤ n
      → reset_where (between a n) reset live defaults ≡ reset_where (between a b) reset live defaults
  unfolding reset_where
  all_done a b n h l =
      replaced_ext _ _ _ _ live
      (λ i m. same_span a n (length defaults) i a b (length defaults) (λ w. record { from = w.from; to = omega arith; has = w.has }) (λ w. record { from = w.from; to = omega arith; has = w.has }))
      (λ i m t. refl)

  -- all the words of the lists
  pub every-word : reset_where (between 0 (length live)) reset live defaults ≡ reset_where in_any_slot reset live defaults
  every-word =
      same_words _ _ reset live defaults (λ i m. both (leb 0 i) (ltb i (length live)) (le-leb 0 i (omega arith)) (lt-ltb i (length live) m))

  -- the words of a slot
  pub slot_words : (slot : ℕ) → reset_where (between (min (slot * 64 + 0) (length live)) (min (slot * 64 + 64) (length live))) reset live defaults ≡ reset_where (in_slot slot) reset live defaults
  unfolding reset_where
  slot_words slot =
      replaced_ext _ _ _ _ live
      (λ i m. ap (λ (t : Bool). t && ltb i (length defaults))
      (same_test (between (min (slot * 64 + 0) (length live)) (min (slot * 64 + 64) (length live)) i) (in_slot slot i)
      (λ e.
      let p : min (slot * 64 + 0) (length live) ≤ i = leb-true (min (slot * 64 + 0) (length live)) i (both_left (leb (min (slot * 64 + 0) (length live)) i) (ltb i (min (slot * 64 + 64) (length live))) e) in
      let q : i < min (slot * 64 + 64) (length live) = ltb-true i (min (slot * 64 + 64) (length live)) (both_right (leb (min (slot * 64 + 0) (length live)) i) (ltb i (min (slot * 64 + 64) (length live))) e) in
      eq-eqb (i / 64) slot (omega arith))
      (λ e. let s : i / 64 ≡ slot = eqb-true (i / 64) slot e in
      both (leb (min (slot * 64 + 0) (length live)) i) (ltb i (min (slot * 64 + 64) (length live)))
      (le-leb (min (slot * 64 + 0) (length live)) i (omega arith)) (lt-ltb i (min (slot * 64 + 64) (length live)) (omega arith)))))
      (λ i m t. refl)

-- ---- some of the words of a span

-- i is from a up to b, and q holds of it
abbrev some_of : (q : ℕ → Bool) (a b i : ℕ) → Bool
some_of q a b i = between a b i && q i

-- a test cannot be both
pub not_both : (b : Bool) → b ≡ true → b ≡ false → ⊥
not_both b e f = subst (λ (x : Bool). T x) (sym e ∙ f) tt

record Between (a b i : ℕ) : Type 0 where
  from : a ≤ i
  to : i < b

is_between : (a b i : ℕ) → between a b i ≡ true → Between a b i
is_between a b i e = record { from = leb-true a i (both_left (leb a i) (ltb i b) e); to = ltb-true i b (both_right (leb a i) (ltb i b) e) }

make_between : (a b i : ℕ) → a ≤ i → i < b → between a b i ≡ true
make_between a b i h k = both (leb a i) (ltb i b) (le-leb a i h) (lt-ltb i b k)

-- the words from b up to c, of which q holds of none, are no more of them
skipped : (q : ℕ → Bool) (a b c : ℕ) → b ≤ c → ((i : ℕ) → b ≤ i → i < c → q i ≡ false) → (i : ℕ) → some_of q a b i ≡ some_of q a c i
skipped q a b c h none i =
    same_test (some_of q a b i) (some_of q a c i)
    (λ e. let w = is_between a b i (both_left (between a b i) (q i) e) in
    both (between a c i) (q i) (make_between a c i w.from (omega arith)) (both_right (between a b i) (q i) e))
    (λ e. let w = is_between a c i (both_left (between a c i) (q i) e) in
    let k = both_right (between a c i) (q i) e in
    let by : (t : Bool) → ltb i b ≡ t → some_of q a b i ≡ true =
    elim [
      | true ↦ λ l. both (between a b i) (q i) (make_between a b i w.from (ltb-true i b l)) k
      | false ↦ λ l. absurd (not_both (q i) k (none i (ltb-false i b l) w.to))
    ] in
    by (ltb i b) refl)

-- every other word than n is from a up to n + 1 where it is from a up to n
one_apart : (a n i : ℕ) → (i ≡ n → ⊥) → between a (n + 1) i ≡ between a n i
one_apart a n i ne =
    same_test (between a (n + 1) i) (between a n i)
    (λ e. let w = is_between a (n + 1) i e in make_between a n i w.from (lt_of_le-ne (omega arith) ne))
    (λ e. let w = is_between a n i e in make_between a (n + 1) i w.from (omega arith))

-- two spans, one after the other
two_spans : (q : ℕ → Bool) (a b c : ℕ) → a ≤ b → b ≤ c → (i : ℕ) → (some_of q a b i || some_of q b c i) ≡ some_of q a c i
two_spans q a b c h k i =
    split (some_of q a b i) (some_of q b c i) (some_of q a c i)
    (λ e. let w = is_between a b i (both_left (between a b i) (q i) e) in
    both (between a c i) (q i) (make_between a c i w.from (omega arith)) (both_right (between a b i) (q i) e))
    (λ e. let w = is_between b c i (both_left (between b c i) (q i) e) in
    both (between a c i) (q i) (make_between a c i (omega arith) w.to) (both_right (between b c i) (q i) e))
    (λ e f. let w = is_between a c i (both_left (between a c i) (q i) e) in
    let t = both_right (between a c i) (q i) e in
    let by : (x : Bool) → ltb i b ≡ x → some_of q b c i ≡ true =
    elim [
      | true ↦ λ l. absurd (not_both (some_of q a b i) (both (between a b i) (q i) (make_between a b i w.from (ltb-true i b l)) t) f)
      | false ↦ λ l. both (between b c i) (q i) (make_between b c i (ltb-false i b l) w.to) t
    ] in
    by (ltb i b) refl)

-- a word that the reset leaves need not be chosen
left_word : (chosen changes has : Bool) (new live : ℕ) → (changes ≡ false → new ≡ live) → cond ((chosen && changes) && has) new live ≡ cond (chosen && has) new live
left_word true true has new live h = refl
left_word true false true new live h = sym (h refl)
left_word true false false new live h = refl
left_word false changes has new live h = refl

module _ (reset : ℕ → ℕ → ℕ → ℕ → ℕ) (live defaults : List ℕ) where
  pub none_of : (q : ℕ → Bool) (a b : ℕ) → b ≤ a → live ≡ reset_where (some_of q a b) reset live defaults
  unfolding reset_where
  none_of q a b h =
      sym (replaced_none _ _ live (λ i m. untrue (some_of q a b i && ltb i (length defaults))
      (λ e. let w = is_between a b i (both_left (between a b i) (q i) (both_left (some_of q a b i) (ltb i (length defaults)) e)) in omega arith)))

  pub skip : (q : ℕ → Bool) (a b c : ℕ) → b ≤ c → ((i : ℕ) → b ≤ i → i < c → q i ≡ false)
      → reset_where (some_of q a b) reset live defaults ≡ reset_where (some_of q a c) reset live defaults
  unfolding reset_where
  skip q a b c h none = replaced_ext _ _ _ _ live (λ i m. ap (λ (t : Bool). t && ltb i (length defaults)) (skipped q a b c h none i)) (λ i m t. refl)

  not_of : (q : ℕ → Bool) (a n : ℕ) → get_or (reset_where (some_of q a n) reset live defaults) n 0 ≡ get_or live n 0
  unfolding reset_where
  not_of q a n =
      replaced_other _ _ live n (untrue (some_of q a n n && ltb n (length defaults))
      (λ e. let w = is_between a n n (both_left (between a n n) (q n) (both_left (some_of q a n n) (ltb n (length defaults)) e)) in omega arith))

  one_of : (q : ℕ → Bool) (a n : ℕ) → a ≤ n → n < length live → n < length defaults → q n ≡ true
      → set (reset_where (some_of q a n) reset live defaults) n (reset (n / 64) (n % 64) (get_or live n 0) (get_or defaults n 0)) ≡ reset_where (some_of q a (n + 1)) reset live defaults
  unfolding reset_where
  one_of q a n h l d t =
      replaced_more _ _ _ live n l
      (both (some_of q a (n + 1) n) (ltb n (length defaults)) (both (between a (n + 1) n) (q n) (make_between a (n + 1) n h (omega arith)) t) (lt-ltb n (length defaults) d))
      (λ i ne. ap (λ (t : Bool). (t && q i) && ltb i (length defaults)) (one_apart a n i ne))

  -- the next word of which q holds
  pub next : (q : ℕ → Bool) (a b n : ℕ) (now : List ℕ) → now ≡ reset_where (some_of q a b) reset live defaults
      → a ≤ n → b ≤ n → ((i : ℕ) → b ≤ i → i < n → q i ≡ false) → q n ≡ true → n < length live → n < length defaults → (slot i : ℕ) → slot ≡ n / 64 → i ≡ n % 64
      → set now n (reset slot i (get_or now n 0) (get_or defaults n 0)) ≡ reset_where (some_of q a (n + 1)) reset live defaults
  next q a b n now e h k none t l d slot i o m =
      let s : now ≡ reset_where (some_of q a n) reset live defaults = e ∙ skip q a b n k none in
      let same : get_or now n 0 ≡ get_or live n 0 = ap (λ (l : List ℕ). get_or l n 0) s ∙ not_of q a n in
      ap₂ (λ (l : List ℕ) (v : ℕ). set l n v) s (ap (λ (s : ℕ). reset s i (get_or now n 0) (get_or defaults n 0)) o ∙ ap₂ (λ (j v : ℕ). reset (n / 64) j v (get_or defaults n 0)) m same) ∙ one_of q a n h l d t

  -- a reset that leaves the words of which q doesn't hold
  pub only_of : (q chosen : ℕ → Bool) → ((n : ℕ) → n < length live → q n ≡ false → reset (n / 64) (n % 64) (get_or live n 0) (get_or defaults n 0) ≡ get_or live n 0)
      → reset_where (λ n. chosen n && q n) reset live defaults ≡ reset_where chosen reset live defaults
  unfolding reset_where
  only_of q chosen leaves =
      let some : ℕ → Bool = λ n. chosen n && q n in
      let new : ℕ → ℕ = λ n. reset (n / 64) (n % 64) (get_or live n 0) (get_or defaults n 0) in
      is_replaced (λ n. chosen n && ltb n (length defaults)) new live (reset_where some reset live defaults) (length_reset reset live defaults some)
      (λ n h. get_or-replaced (λ n. some n && ltb n (length defaults)) new live n h
      ∙ left_word (chosen n) (q n) (ltb n (length defaults)) (new n) (get_or live n 0) (leaves n h))

  pub two_resets : (q : ℕ → Bool) (a b c : ℕ) → a ≤ b → b ≤ c
      → reset_where (some_of q b c) reset (reset_where (some_of q a b) reset live defaults) defaults ≡ reset_where (some_of q a c) reset live defaults
  two_resets q a b c h k =
      after reset live defaults (some_of q a b) (some_of q b c) (some_of q a c)
      (λ i e. let w = is_between a b i (both_left (between a b i) (q i) e) in
      untrue (some_of q b c i) (λ f. let v = is_between b c i (both_left (between b c i) (q i) f) in omega arith))
      (two_spans q a b c h k)

  -- the words of a slot that both lists have whole
  pub whole_slot : (slot : ℕ) → reset_where (between (slot * 64) (slot * 64 + 64)) reset live defaults ≡ reset_where (in_slot slot) reset live defaults
  unfolding reset_where
  whole_slot slot =
      replaced_ext _ _ _ _ live
      (λ i m. ap (λ (t : Bool). t && ltb i (length defaults))
      (same_test (between (slot * 64) (slot * 64 + 64) i) (in_slot slot i)
      (λ e. let w = is_between (slot * 64) (slot * 64 + 64) i e in eq-eqb (i / 64) slot (omega arith))
      (λ e. let s : i / 64 ≡ slot = eqb-true (i / 64) slot e in make_between (slot * 64) (slot * 64 + 64) i (omega arith) (omega arith))))
      (λ i m t. refl)
