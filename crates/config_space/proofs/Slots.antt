-- What follows of the resets of the lent words: of one slot, and of all.
use mathlib.Core.Path.{◌≡◌, refl, sym, ap, ◌∙◌}
use mathlib.Core.Bool.{Bool, true, false, ◌&&◌, ◌||◌, cond, true≢false}
use mathlib.Core.List.{List}
use Prim.Native.Nat.{ℕ, zero, suc, ◌+◌, ◌*◌, ◌/◌, ◌%◌, ◌<◌, ◌≤◌}
use native.Mathlib.Omega.{arith}
use native.Mathlib.Numerals.{add-one}
use lib.Dec.{eqb, ltb}
use lib.ListN.{length, get_or}
use borrow.Author.Tests.{eq-eqb, ne_eqb, eqb-true, lt-ltb, le-ltb, ltb-true, ltb-false}
use Rattle.bits.proofs.Tests.{both_left}
use Rattle.bits.proofs.Lists.{length-replaced, get_or-replaced, replaced_none, replaced_other, replaced_ext, is_replaced}
use Rattle.registers.specs.declared.Kind.{Kind}
use Rattle.registers.specs.Words.{link_reset, flr_reset}
use Rattle.config_space.specs.Functions.{in_slot, in_any_slot, reset_where, link_reset_slot, flr_reset_slot, link_reset_all, cold_reset}
use Rattle.config_space.specs.inner.SlotAfterSlot.{link_reset_below}

-- A reset keeps how many words are lent.
pub length_reset : (reset : ℕ → ℕ → ℕ → ℕ → ℕ) (live defaults : List ℕ) (chosen : ℕ → Bool) → length (reset_where chosen reset live defaults) ≡ length live
unfolding reset_where
length_reset reset live defaults chosen = length-replaced _ _ live

-- ---- a reset of some words

module _ (chosen : ℕ → Bool) (reset : ℕ → ℕ → ℕ → ℕ → ℕ) (live defaults : List ℕ) where
  -- a chosen word that both lists have
  pub reset_own : (n : ℕ) → n < length live → n < length defaults → chosen n ≡ true
      → get_or (reset_where chosen reset live defaults) n 0 ≡ reset (n / 64) (n % 64) (get_or live n 0) (get_or defaults n 0)
  unfolding reset_where
  reset_own n h d e = get_or-replaced _ _ live n h ∙ rw (e, lt-ltb n (length defaults) d) refl

  -- a word that isn't chosen stays
  pub reset_other : (n : ℕ) → chosen n ≡ false → get_or (reset_where chosen reset live defaults) n 0 ≡ get_or live n 0
  unfolding reset_where
  reset_other n e = replaced_other _ _ live n (rw e refl)

-- a word that no choice takes stays, and so do all
pub reset_none : (chosen : ℕ → Bool) (reset : ℕ → ℕ → ℕ → ℕ → ℕ) (live defaults : List ℕ) → ((n : ℕ) → chosen n ≡ false) → reset_where chosen reset live defaults ≡ live
unfolding reset_where
reset_none chosen reset live defaults none = replaced_none _ _ live (λ n h. rw (none n) refl)

-- two choices that agree on the words
pub same_words : (p q : ℕ → Bool) (reset : ℕ → ℕ → ℕ → ℕ → ℕ) (live defaults : List ℕ) → ((n : ℕ) → n < length live → p n ≡ q n)
    → reset_where p reset live defaults ≡ reset_where q reset live defaults
unfolding reset_where
same_words p q reset live defaults same =
    replaced_ext _ _ _ _ live (λ n h. ap (λ (b : Bool). b && ltb n (length defaults)) (same n h)) (λ n h t. refl)

-- two resets that do the same to every word that is chosen
pub same_reset : (chosen : ℕ → Bool) (reset reset' : ℕ → ℕ → ℕ → ℕ → ℕ) (live defaults : List ℕ)
    → ((n x d : ℕ) → chosen n ≡ true → reset (n / 64) (n % 64) x d ≡ reset' (n / 64) (n % 64) x d)
    → reset_where chosen reset live defaults ≡ reset_where chosen reset' live defaults
unfolding reset_where
same_reset chosen reset reset' live defaults same =
    replaced_ext _ _ _ _ live (λ n h. refl) (λ n h t. same n (get_or live n 0) (get_or defaults n 0) (both_left (chosen n) (ltb n (length defaults)) t))

-- two resets one after the other at a word, of which only one chooses it
after-word : (p q has : Bool) (reset : ℕ → ℕ) (live : ℕ) → (p ≡ true → q ≡ false)
    → cond (q && has) (reset (cond (p && has) (reset live) live)) (cond (p && has) (reset live) live) ≡ cond ((p || q) && has) (reset live) live
after-word true true has reset live h = absurd (true≢false (h refl))
after-word true false has reset live h = refl
after-word false q has reset live h = refl

-- two resets one after the other that choose no word both
pub after : (reset : ℕ → ℕ → ℕ → ℕ → ℕ) (live defaults : List ℕ) (p q r : ℕ → Bool) → ((n : ℕ) → p n ≡ true → q n ≡ false) → ((n : ℕ) → (p n || q n) ≡ r n)
    → reset_where q reset (reset_where p reset live defaults) defaults ≡ reset_where r reset live defaults
unfolding reset_where
after reset live defaults p q r apart joined =
    let first : List ℕ = reset_where p reset live defaults in
    let long : length first ≡ length live = length_reset reset live defaults p in
    is_replaced (λ n. r n && ltb n (length defaults)) _ live (reset_where q reset first defaults) (length_reset reset first defaults q ∙ long)
    (λ n h.
    let m : n < length first = omega arith in
    let new : ℕ → ℕ = λ v. reset (n / 64) (n % 64) v (get_or defaults n 0) in
    get_or-replaced _ _ first n m
    ∙ ap (λ (v : ℕ). cond (q n && ltb n (length defaults)) (new v) v) (get_or-replaced _ _ live n h)
    ∙ after-word (p n) (q n) (ltb n (length defaults)) new (get_or live n 0) (apart n)
    ∙ ap (λ (t : Bool). cond (t && ltb n (length defaults)) (new (get_or live n 0)) (get_or live n 0)) (joined n))

-- a test that holds where one of two holds, and nowhere else
pub split : (x y z : Bool) → (x ≡ true → z ≡ true) → (y ≡ true → z ≡ true) → (z ≡ true → x ≡ false → y ≡ true) → (x || y) ≡ z
split true y z f g h = sym (f refl)
split false true z f g h = sym (g refl)
split false false true f g h = h refl refl
split false false false f g h = refl

-- ---- one slot

-- link down in one slot resets the words of that slot
pub link_reset_slot_own : (kind : Kind) (slot : ℕ) (live defaults : List ℕ) (n : ℕ) → n < length live → n < length defaults → n / 64 ≡ slot
    → get_or (link_reset_slot kind slot live defaults) n 0 ≡ link_reset kind (n % 64) (get_or live n 0) (get_or defaults n 0)
unfolding link_reset_slot
link_reset_slot_own kind slot live defaults n h d e = reset_own (in_slot slot) (λ s. link_reset kind) live defaults n h d (eq-eqb (n / 64) slot e)

-- and leaves the words of every other slot
pub link_reset_slot_others : (kind : Kind) (slot : ℕ) (live defaults : List ℕ) (n : ℕ) → (n / 64 ≡ slot → ⊥)
    → get_or (link_reset_slot kind slot live defaults) n 0 ≡ get_or live n 0
unfolding link_reset_slot
link_reset_slot_others kind slot live defaults n e = reset_other (in_slot slot) (λ s. link_reset kind) live defaults n (ne_eqb (n / 64) slot e)

-- an FLR resets the words of its slot
pub flr_reset_slot_own : (kind : Kind) (slot : ℕ) (live defaults : List ℕ) (n : ℕ) → n < length live → n < length defaults → n / 64 ≡ slot
    → get_or (flr_reset_slot kind slot live defaults) n 0 ≡ flr_reset kind (n % 64) (get_or live n 0) (get_or defaults n 0)
unfolding flr_reset_slot
flr_reset_slot_own kind slot live defaults n h d e = reset_own (in_slot slot) (λ s. flr_reset kind) live defaults n h d (eq-eqb (n / 64) slot e)

-- its slot only
pub flr_reset_slot_others : (kind : Kind) (slot : ℕ) (live defaults : List ℕ) (n : ℕ) → (n / 64 ≡ slot → ⊥)
    → get_or (flr_reset_slot kind slot live defaults) n 0 ≡ get_or live n 0
unfolding flr_reset_slot
flr_reset_slot_others kind slot live defaults n e = reset_other (in_slot slot) (λ s. flr_reset kind) live defaults n (ne_eqb (n / 64) slot e)

-- the lent words stay as many
pub link_reset_slot_length : (kind : Kind) (slot : ℕ) (live defaults : List ℕ) → length (link_reset_slot kind slot live defaults) ≡ length live
unfolding link_reset_slot
link_reset_slot_length kind slot live defaults = length_reset (λ s. link_reset kind) live defaults (in_slot slot)

pub flr_reset_slot_length : (kind : Kind) (slot : ℕ) (live defaults : List ℕ) → length (flr_reset_slot kind slot live defaults) ≡ length live
unfolding flr_reset_slot
flr_reset_slot_length kind slot live defaults = length_reset (λ s. flr_reset kind) live defaults (in_slot slot)

-- ---- all slots

-- link down resets every word, by the kind of its slot
pub link_reset_all_word : (kind_at : ℕ → Kind) (live defaults : List ℕ) (n : ℕ) → n < length live → n < length defaults
    → get_or (link_reset_all kind_at live defaults) n 0 ≡ link_reset (kind_at (n / 64)) (n % 64) (get_or live n 0) (get_or defaults n 0)
unfolding link_reset_all
link_reset_all_word kind_at live defaults n h d = reset_own in_any_slot (λ s. link_reset (kind_at s)) live defaults n h d refl

pub link_reset_all_length : (kind_at : ℕ → Kind) (live defaults : List ℕ) → length (link_reset_all kind_at live defaults) ≡ length live
unfolding link_reset_all
link_reset_all_length kind_at live defaults = length_reset (λ s. link_reset (kind_at s)) live defaults in_any_slot

-- a place in a slot below a number
abbrev below_slot : (slots n : ℕ) → Bool
below_slot slots n = ltb (n / 64) slots

either_slot : (m slot : ℕ) → (ltb m slot || eqb m slot) ≡ ltb m (suc slot)
either_slot m slot =
    split (ltb m slot) (eqb m slot) (ltb m (suc slot))
    (λ e. let h = ltb-true m slot e in lt-ltb m (suc slot) (omega arith))
    (λ e. let h = eqb-true m slot e in lt-ltb m (suc slot) (omega arith))
    (λ e f. let h = ltb-true m (suc slot) e in let k = ltb-false m slot f in eq-eqb m slot (omega arith))

module _ (kind_at : ℕ → Kind) (live defaults : List ℕ) where
  -- the slots below a number, one after the other, are the words of these slots
  below_words : (slots : ℕ) → link_reset_below kind_at slots live defaults ≡ reset_where (below_slot slots) (λ s. link_reset (kind_at s)) live defaults
  unfolding link_reset_below link_reset_slot
  below_words zero = sym (reset_none _ (λ s. link_reset (kind_at s)) live defaults (λ n. le-ltb (n / 64) 0 (omega arith)))
  below_words (suc slot) =
      ap (λ (l : List ℕ). reset_where (in_slot slot) (λ s. link_reset (kind_at slot)) l defaults) (below_words slot)
      ∙ same_reset (in_slot slot) (λ s. link_reset (kind_at slot)) (λ s. link_reset (kind_at s)) _ defaults
      (λ n x d e. ap (λ (s : ℕ). link_reset (kind_at s) (n % 64) x d) (sym (eqb-true (n / 64) slot e)))
      ∙ after (λ s. link_reset (kind_at s)) live defaults (below_slot slot) (in_slot slot) (below_slot (suc slot))
      (λ n e. let b : n / 64 < slot = ltb-true (n / 64) slot e in ne_eqb (n / 64) slot (λ f. omega arith))
      (λ n. either_slot (n / 64) slot)

  -- link down of all slots is link down of one slot after the other, each by its kind
  pub slot_after_slot : (slots : ℕ) → length live ≤ slots * 64 → link_reset_below kind_at slots live defaults ≡ link_reset_all kind_at live defaults
  unfolding link_reset_all
  slot_after_slot slots h =
      below_words slots
      ∙ same_words (below_slot slots) in_any_slot (λ s. link_reset (kind_at s)) live defaults (λ n l. let m : n / 64 < slots = omega arith in lt-ltb (n / 64) slots m)

  pub below_none : live ≡ link_reset_below kind_at 0 live defaults
  unfolding link_reset_below
  below_none = refl

  -- one slot more
  pub below_more : (slot : ℕ) → link_reset_slot (kind_at slot) slot (link_reset_below kind_at slot live defaults) defaults ≡ link_reset_below kind_at (slot + 1) live defaults
  unfolding link_reset_below
  below_more slot = sym (ap (λ (n : ℕ). link_reset_below kind_at n live defaults) (add-one slot))

  pub below_length : (slots : ℕ) → length (link_reset_below kind_at slots live defaults) ≡ length live
  below_length slots = ap length (below_words slots) ∙ length_reset (λ s. link_reset (kind_at s)) live defaults (below_slot slots)

-- after a cold reset the live registers equal the defaults
pub cold_reset_defaults : (live defaults : List ℕ) → length live ≡ length defaults → cold_reset live defaults ≡ defaults
unfolding cold_reset reset_where
cold_reset_defaults live defaults e =
    sym (is_replaced _ _ live defaults (sym e) (λ n h. let d : n < length defaults = omega arith in rw (lt-ltb n (length defaults) d) refl))

-- a cold reset forgets the past
pub cold_reset_forgets : (live past defaults : List ℕ) → length live ≡ length defaults → length past ≡ length defaults
    → cold_reset live defaults ≡ cold_reset past defaults
cold_reset_forgets live past defaults e d = cold_reset_defaults live defaults e ∙ sym (cold_reset_defaults past defaults d)
