-- The words that have bits in W or in C: every other word stays in a reset, and a reset by masks of these is the reset of all.
use mathlib.Core.Path.{◌≡◌, refl, sym, ap, ◌∙◌}
use mathlib.Core.Bool.{Bool, true, false, not, ◌&&◌, ◌||◌}
use mathlib.Core.List.{List}
use Prim.Native.Nat.{ℕ, ◌+◌, ◌*◌, ◌/◌, ◌%◌, ◌^◌, ◌<◌, ◌≤◌}
use native.Mathlib.Omega.{arith}
use lib.Dec.{T, eqb, eqb→eq, leb, ltb}
use lib.ListN.{length, get_or, set}
use borrow.Author.Tests.{ne_eqb, le-ltb, lt-leb}
use Rattle.bits.specs.Bits.{bit, number, word}
use Rattle.bits.proofs.Bits.{bit_none, is_arg, is_the}
use Rattle.bits.proofs.Tests.{all, all_at, is_false, is_true}
use Rattle.registers.specs.declared.Kind.{Kind}
use Rattle.registers.specs.Rows.{row_of, endpoint_row}
use Rattle.registers.specs.Words.{pmcsr, device_control, reset_bit, link_reset, flr_reset}
use Rattle.registers.specs.inner.Masks.{link_mask, flr_mask, with_defaults}
use Rattle.registers.proofs.Rules.{every_kind, link_by_mask, flr_by_mask}
use Rattle.config_words.specs.declared.ResetMasks.{ResetMasks}
use Rattle.config_space.specs.Functions.{reset_where}
use Rattle.config_space.proofs.Slots.{same_reset}
use Rattle.config_words.specs.inner.Resetting.{changing, changing_between, mask_in, by_mask, link_masks, flr_masks}
use Rattle.config_words.proofs.Spans.{not_both, none_of, skip, next, two_resets, only_of}

-- ---- which words

-- none is from word x up to word y
abbrev pub none_in : (x y : ℕ) → Bool
none_in x y = all 64 (λ i. ltb i x || leb y i || not (changing i))

gap : (slot x y : ℕ) → T (none_in x y) → y ≤ 64 → (n : ℕ) → slot * 64 + x ≤ n → n < slot * 64 + y → changing (n % 64) ≡ false
gap slot x y t h n p q =
    let i : ℕ = n % 64 in
    let low : x ≤ i = omega arith in
    let high : i < y = omega arith in
    let below : i < 64 = omega arith in
    is_false (changing i) (rw (le-ltb i x low, lt-leb y i high) at (all_at 64 (λ i. ltb i x || leb y i || not (changing i)) t i below))

module _ (reset : ℕ → ℕ → ℕ → ℕ → ℕ) (live defaults : List ℕ) (slot : ℕ)
    (lives : slot * 64 + 64 ≤ length live) (given : slot * 64 + 64 ≤ length defaults) where
  -- no word is reset yet
  pub no_word : (a x : ℕ) → slot * 64 + x ≤ a → live ≡ reset_where (changing_between a (slot * 64 + x)) reset live defaults
  no_word a x h = none_of reset live defaults (λ n. changing (n % 64)) a (slot * 64 + x) h

  -- after the words of a slot up to x, the reset of the next one, word i
  pub next_word : (a x i : ℕ) (now : List ℕ) → now ≡ reset_where (changing_between a (slot * 64 + x)) reset live defaults
      → a ≤ slot * 64 + i → x ≤ i → i < 64 → T (none_in x i) → T (changing i)
      → set now (slot * 64 + i) (reset slot i (get_or now (slot * 64 + i) 0) (get_or defaults (slot * 64 + i) 0))
      ≡ reset_where (changing_between a (slot * 64 + (i + 1))) reset live defaults
  next_word a x i now e h k l none on =
      let n : ℕ = slot * 64 + i in
      let o : slot ≡ n / 64 = omega arith in
      let m : i ≡ n % 64 = omega arith in
      let end : n + 1 ≡ slot * 64 + (i + 1) = omega arith in
      next reset live defaults (λ n. changing (n % 64)) a (slot * 64 + x) n now e (omega arith) (omega arith)
      (gap slot x i none (omega arith))
      (ap changing (sym m) ∙ is_true (changing i) on) (omega arith) (omega arith) slot i o m
      ∙ ap (λ (b : ℕ). reset_where (changing_between a b) reset live defaults) end

  -- the words from x up to y need no reset
  pub last_words : (a x y : ℕ) → x ≤ y → y ≤ 64 → T (none_in x y)
      → reset_where (changing_between a (slot * 64 + x)) reset live defaults
      ≡ reset_where (changing_between a (slot * 64 + y)) reset live defaults
  last_words a x y h k none = skip reset live defaults (λ n. changing (n % 64)) a (slot * 64 + x) (slot * 64 + y) (omega arith) (gap slot x y none k)

-- two spans, one after the other
pub two_changing : (reset : ℕ → ℕ → ℕ → ℕ → ℕ) (live defaults : List ℕ) (a b c : ℕ) → a ≤ b → b ≤ c
    → reset_where (changing_between b c) reset (reset_where (changing_between a b) reset live defaults) defaults
    ≡ reset_where (changing_between a c) reset live defaults
two_changing reset live defaults a b c h k = two_resets reset live defaults (λ n. changing (n % 64)) a b c h k

-- ---- the other words stay

not_at : (i k : ℕ) → changing i ≡ false → changing k ≡ true → eqb i k ≡ false
not_at i k off on = ne_eqb i k (λ e. not_both (changing i) (ap changing e ∙ on) off)

no_mask : (t : ResetMasks) (i : ℕ) → changing i ≡ false → mask_in t i ≡ 0
unfolding mask_in
no_mask t i off =
    let at : (k : ℕ) → changing k ≡ true → eqb i k ≡ false = λ k. not_at i k off in
    rw (at 1 refl, at 3 refl, at 4 refl, at 15 refl, at pmcsr refl, at 20 refl, at 21 refl, at 22 refl, at device_control refl, at 32 refl) refl

none_taken : (live default : ℕ) → live < 2 ^ 32 → with_defaults 0 live default ≡ live
unfolding with_defaults reset_bit
none_taken live default h = sym (is_the (is_arg (record { fits = h })) (λ k l. rw (bit_none k) refl))

-- so a reset of those words is a reset of all
pub by_changing : (t : ResetMasks) (chosen : ℕ → Bool) (live defaults : List ℕ) → ((n : ℕ) → n < length live → get_or live n 0 < 2 ^ 32)
    → reset_where (λ n. chosen n && changing (n % 64)) (by_mask t) live defaults ≡ reset_where chosen (by_mask t) live defaults
by_changing t chosen live defaults fit =
    only_of (by_mask t) live defaults (λ n. changing (n % 64)) chosen
    (λ n h e. ap (λ (m : ℕ). with_defaults m (get_or live n 0) (get_or defaults n 0)) (no_mask t (n % 64) e) ∙ none_taken _ _ (fit n h))

-- ---- the masks of those words are the masks of all: one test over all rows of every kind, of link down and of FLR

link_right : Kind → ℕ → Bool
link_right kind i = eqb (mask_in (link_masks kind) i) (link_mask kind i)

link_tested : (kind : Kind) → T (all 64 (link_right kind))
unfolding link_right mask_in link_mask word number row_of endpoint_row bit
link_tested = every_kind (λ kind. all 64 (link_right kind)) tt

flr_right : Kind → ℕ → Bool
flr_right kind i = eqb (mask_in (flr_masks kind) i) (flr_mask kind i)

flr_tested : (kind : Kind) → T (all 64 (flr_right kind))
unfolding flr_right mask_in flr_mask word number row_of endpoint_row bit
flr_tested = every_kind (λ kind. all 64 (flr_right kind)) tt

module _ (kind : Kind) (chosen : ℕ → Bool) (live defaults : List ℕ) where
  pub link_by_masks : reset_where chosen (by_mask (link_masks kind)) live defaults ≡ reset_where chosen (λ s. link_reset kind) live defaults
  unfolding link_right
  link_by_masks =
      same_reset chosen _ _ live defaults
      (λ n x d e. ap (λ (m : ℕ). with_defaults m x d) (eqb→eq _ _ (all_at 64 (link_right kind) (link_tested kind) (n % 64) (omega arith))) ∙ link_by_mask kind (n % 64) x d)

  pub flr_by_masks : reset_where chosen (by_mask (flr_masks kind)) live defaults ≡ reset_where chosen (λ s. flr_reset kind) live defaults
  unfolding flr_right
  flr_by_masks =
      same_reset chosen _ _ live defaults
      (λ n x d e. ap (λ (m : ℕ). with_defaults m x d) (eqb→eq _ _ (all_at 64 (flr_right kind) (flr_tested kind) (n % 64) (omega arith))) ∙ flr_by_mask kind (n % 64) x d)
