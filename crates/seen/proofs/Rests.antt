-- The lines that are left of a text from a place on.
use mathlib.Core.Path.{◌≡◌, refl, sym, ap, subst, ◌∙◌}
use mathlib.Core.Bool.{Bool, true, false, not, cond}
use mathlib.Core.List.{List, ◌∷◌}
use Prim.Native.Nat.{ℕ, suc, ◌+◌, ◌-◌, ◌≤◌, ◌<◌}
use native.Mathlib.Numerals.{add-one}
use native.Mathlib.Omega.{arith}
use lib.Dec.{ltb}
use lib.ListN.{length, get_or, take, drop, set, length-drop, drop_of_length-le}
use lib.Seq.{drop-drop}
use borrow.Author.Tests.{ltb-true}
use Rattle.bits.proofs.Tests.{both_right}
use Rattle.readiness.specs.declared.Moments.{Moments}
use Rattle.sheet_grammar.specs.Reading.{lines_of}
use Rattle.std.specs.Prelude.{Result, Ok, Err}
use Rattle.seen_grammar.specs.declared.SeenLine.{SeenLine}
use Rattle.seen_grammar.specs.declared.NoLine.{NoLine}
use Rattle.seen_grammar.specs.declared.SeenRefusal.{SeenRefusal}
use Rattle.seen_grammar.specs.declared.SeenRefusal.TheVariants.{NoSlot, NamedBefore, TooLong}
use Rattle.seen_grammar.specs.declared.SeenRead.{SeenRead}
use Rattle.seen_grammar.specs.Reading.{line_of, is_slot, is_too_long, refusal_of, with_time, accepts, refuses, read_on, read_lines}
use Rattle.seen.specs.inner.Sizes.{first_size}
use Rattle.seen.proofs.Sizes.{size_some, size_most, lines_cut}

-- ---- a line that isn't refused names a slot that is there

below : (slots slot : ℕ) → is_slot slots slot ≡ true → slot < 32
unfolding is_slot
below slots slot e = ltb-true slot 32 (both_right (ltb slot slots) (ltb slot 32) e)

pub its_slot : (slots : ℕ) (named : List Bool) (r : Result SeenLine NoLine) {l : SeenLine} → refusal_of slots named r ≡ Ok l → l.slot < 32
unfolding refusal_of
its_slot slots named (Err x) e = cc
its_slot slots named (Ok k) e = by (is_slot slots k.slot) (get_or named k.slot false) (is_too_long k.time) _ refl e
  where
    by : (t u v : Bool) (l : SeenLine) → is_slot slots k.slot ≡ t → cond (not t) (Err NoSlot) (cond u (Err NamedBefore) (cond v (Err TooLong) (Ok k))) ≡ Ok l → l.slot < 32
    by true false false l is h = let same : k ≡ l = cc in subst (λ (x : SeenLine). x.slot < 32) same (below slots k.slot is)
    by true false true l is h = cc
    by true true v l is h = cc
    by false u v l is h = cc

-- ---- one line

module _ (text : List ℕ) (at : ℕ) (h : at < length text) {end : ℕ} (ends : end ≡ at + first_size (drop at text)) where
  some : 1 ≤ length (drop at text)
  some = omega (arith, length-drop at text)

  pub end_most : end ≤ length text
  end_most = omega (arith, ends, size_most (drop at text), length-drop at text)

  pub end_more : at < end
  end_more = omega (arith, ends, size_some (drop at text) some)

  cut : lines_of (drop at text) ≡ take (end - at) (drop at text) ∷ lines_of (drop end text)
  cut =
      let size : end - at ≡ first_size (drop at text) = omega (arith, ends) in
      lines_cut (drop at text) some
      ∙ (λ i. take (sym size i) (drop at text) ∷ lines_of (drop-drop (first_size (drop at text)) at text i))
      ∙ ap (λ (n : ℕ). take (end - at) (drop at text) ∷ lines_of (drop n text)) (sym ends)

  module _ (slots count : ℕ) (named : List Bool) (m : Moments) (r : Result SeenLine SeenRefusal) (read : r ≡ refusal_of slots named (line_of (take (end - at) (drop at text)))) where
    go : Result SeenLine SeenRefusal → SeenRead
    go x = read_on count x (λ (l : SeenLine). read_lines slots (suc count) (lines_of (drop end text)) (set named l.slot true) (with_time l m))

    stepped : read_lines slots count (lines_of (drop at text)) named m ≡ go r
    unfolding read_lines go
    stepped = ap (λ (ls : List (List ℕ)). read_lines slots count ls named m) cut ∙ ap go (sym read)

    pub reads_on : (l : SeenLine) → r ≡ Ok l
        → read_lines slots (count + 1) (lines_of (drop end text)) (set named l.slot true) (with_time l m) ≡ read_lines slots count (lines_of (drop at text)) named m
    unfolding go
    reads_on l e = rw (add-one count) (sym (stepped ∙ ap go e))

    pub stops : (why : SeenRefusal) → r ≡ Err why → refuses why (count + 1) ≡ read_lines slots count (lines_of (drop at text)) named m
    unfolding go
    stops why e = rw (add-one count) (sym (stepped ∙ ap go e))

-- ---- no line

pub read_ends : (text : List ℕ) (at : ℕ) → length text ≤ at → (slots count : ℕ) (named : List Bool) (m : Moments)
    → accepts m ≡ read_lines slots count (lines_of (drop at text)) named m
unfolding read_lines lines_of
read_ends text at h slots count named m = sym (ap (λ (s : List ℕ). read_lines slots count (lines_of s) named m) (drop_of_length-le text h))
