-- The first line of a text, and the lines after it.
use mathlib.Core.Path.{◌≡◌, refl, sym, ap, ◌∙◌}
use mathlib.Core.Bool.{Bool, true, false, not, cond}
use mathlib.Core.List.{List, [], ◌∷◌}
use Prim.Native.Nat.{ℕ, suc, ◌+◌, ◌≤◌, ◌<◌}
use native.Mathlib.Omega.{arith}
use lib.Dec.{ltb}
use lib.ListN.{length, take, drop, length-drop}
use borrow.Author.Tests.{ltb-true, ltb-false, lt-ltb, le-ltb}
use Rattle.bits.proofs.Choices.{when_true, when_false}
use Rattle.bits.proofs.Tests.{split}
use Rattle.text_fields.specs.Text.{is_line_end, onto, in_line, run}
use Rattle.sheet_grammar.specs.Reading.{lines_of}
use Rattle.seen.specs.inner.Sizes.{first_size}

pub size_some : (s : List ℕ) → 1 ≤ length s → 1 ≤ first_size s
unfolding first_size
size_some [] h = absurd (omega arith)
size_some (b ∷ s) h = by (is_line_end b)
  where
    by : (t : Bool) → 1 ≤ cond t 1 (suc (first_size s))
    by true = omega arith
    by false = omega arith

pub size_most : (s : List ℕ) → first_size s ≤ length s
unfolding first_size
size_most [] = omega arith
size_most (b ∷ s) = by (is_line_end b) (size_most s)
  where
    by : (t : Bool) → first_size s ≤ length s → cond t 1 (suc (first_size s)) ≤ suc (length s)
    by true h = omega arith
    by false h = omega arith

-- ---- the bytes up to 0Ah, and 0Ah

-- the place after n bytes and the 0Ah after them, if there is one
abbrev last : (n len : ℕ) → ℕ
last n len = cond (ltb n len) (suc n) n

-- 0Ah ends the line, or the text does
pub size_by : (s : List ℕ) → first_size s ≡ last (run in_line s) (length s)
unfolding first_size run in_line
size_by [] = refl
size_by (b ∷ s) = by (is_line_end b) (size_by s)
  where
    more : (n len : ℕ) → suc (last n len) ≡ last (suc n) (suc len)
    more n len =
        split (ltb n len)
        (λ e. ap suc (when_true (ltb n len) (suc n) n e) ∙ sym (when_true (ltb (suc n) (suc len)) (suc (suc n)) (suc n) (lt-ltb (suc n) (suc len) (omega (arith, ltb-true n len e)))))
        (λ e. ap suc (when_false (ltb n len) (suc n) n e) ∙ sym (when_false (ltb (suc n) (suc len)) (suc (suc n)) (suc n) (le-ltb (suc n) (suc len) (omega (arith, ltb-false n len e)))))

    by : (t : Bool) → first_size s ≡ last (run in_line s) (length s)
        → cond t 1 (suc (first_size s)) ≡ last (cond (not t) (suc (run in_line s)) 0) (suc (length s))
    by true e = sym (when_true (ltb 0 (suc (length s))) 1 0 (lt-ltb 0 (suc (length s)) (omega arith)))
    by false e = ap suc e ∙ more (run in_line s) (length s)

module _ (text : List ℕ) (at end : ℕ) (ends : end ≡ at + run in_line (drop at text)) where
  pub after_line : end < length text → end + 1 ≡ at + first_size (drop at text)
  after_line h =
      let n = run in_line (drop at text) in
      let e = size_by (drop at text) ∙ when_true (ltb n (length (drop at text))) (suc n) n (lt-ltb n (length (drop at text)) (omega (arith, length-drop at text))) in
      omega (arith, e)

  pub after_text : length text ≤ end → end ≡ at + first_size (drop at text)
  after_text h =
      let n = run in_line (drop at text) in
      let e = size_by (drop at text) ∙ when_false (ltb n (length (drop at text))) (suc n) n (le-ltb n (length (drop at text)) (omega (arith, length-drop at text))) in
      omega (arith, e)

-- ---- the lines of a text by its first line

pub lines_cut : (s : List ℕ) → 1 ≤ length s → lines_of s ≡ take (first_size s) s ∷ lines_of (drop (first_size s) s)
unfolding lines_of first_size
lines_cut [] h = absurd (omega arith)
lines_cut (b ∷ []) h = by (is_line_end b)
  where
    by : (t : Bool) → cond t ((b ∷ []) ∷ lines_of []) (onto b (lines_of [])) ≡ take (cond t 1 (suc 0)) (b ∷ []) ∷ lines_of (drop (cond t 1 (suc 0)) (b ∷ []))
    by true = refl
    by false = refl
lines_cut (b ∷ d ∷ s) h = by (is_line_end b) (first_size (d ∷ s)) (lines_cut (d ∷ s) (omega arith))
  where
    by : (t : Bool) (n : ℕ) → lines_of (d ∷ s) ≡ take n (d ∷ s) ∷ lines_of (drop n (d ∷ s))
        → cond t ((b ∷ []) ∷ lines_of (d ∷ s)) (onto b (lines_of (d ∷ s))) ≡ take (cond t 1 (suc n)) (b ∷ d ∷ s) ∷ lines_of (drop (cond t 1 (suc n)) (b ∷ d ∷ s))
    by true n e = refl
    by false n e = ap (onto b) e
