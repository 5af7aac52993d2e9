-- How long sheets are: 32 slots of one line each, and a line has at most 58 bytes.
use Prim.Native.Nat.{ℕ, zero, suc, ◌+◌, ◌-◌, ◌*◌, ◌≤◌, ◌<◌}
use mathlib.Core.Path.{◌≡◌, refl, sym, ap, subst, ◌∙◌}
use mathlib.Core.Bool.{Bool, false, ◌||◌, cond}
use mathlib.Core.List.{List, [], ◌∷◌, ◌++◌, append_assoc, cons≢nil}
use native.Mathlib.Omega.{arith}
use lib.Dec.{eqb}
use lib.ListN.{length, take, drop, length-append, take-append-drop}
use lib.Seq.{take_all, take-append-add}
use borrow.Author.Tests.{eqb-true, eqb-false, ne_eqb}
use Rattle.bits.proofs.Choices.{when_false, through}
use Rattle.bits.proofs.Tests.{split}
use Rattle.times.specs.declared.Unit.{Unit}
use Rattle.readiness.specs.declared.Setup.{Setup}
use Rattle.sheet_grammar.specs.declared.SheetLine.{SheetLine}
use Rattle.sheet_grammar.specs.declared.SheetRead.{SheetRead}
use Rattle.sheet_grammar.specs.Layout.{space, line_end}
use Rattle.sheet_grammar.specs.Grammar.{Number, UnitName, Line, Sheet}
use Rattle.sheet_grammar.specs.Reading.{sheet_of}
use Rattle.sheet_grammar.specs.Exactly.{named_by, AllFit, Refused, Outcome}
use Rattle.sheet_grammar.specs.Lengths.{Lengths}
use Rattle.sheet_grammar.proofs.Exactly.{slot_below, exactly}

-- ---- bytes of a line

-- a number and a space in front
number_most : {n k : ℕ} {s : List ℕ} (t : List ℕ) → Number s n → length t ≤ k → length (s ++ (space ∷ t)) ≤ 11 + k
number_most {s = s} t is h = omega (arith, is.most, length-append s (space ∷ t))

-- a unit and 0Ah
unit_most : {s : List ℕ} {u : Unit} → UnitName s u → length (s ++ (line_end ∷ [])) ≤ 3
unit_most UnitName.ns = omega arith
unit_most UnitName.us = omega arith
unit_most UnitName.ms = omega arith

line_most : {first : List ℕ} {l : SheetLine} → Line first l → length first ≤ 58
line_most (Line.line slot reset dl_up flr d3hot unit) =
    number_most _ slot (number_most _ reset (number_most _ dl_up (number_most _ flr (number_most _ d3hot (unit_most unit)))))

-- ---- slots that are left

-- how many of the first k slots these lines don't name
unfoldable free : List SheetLine → (k : ℕ) → ℕ
free before zero = 0
free before (suc k) = cond (named_by before k) (free before k) (suc (free before k))

-- all at first
free_none : (k : ℕ) → free [] k ≡ k
unfolding free named_by
free_none zero = refl
free_none (suc k) = ap suc (free_none k)

-- a line for a later slot takes none of them
free_later : (l : SheetLine) (before : List SheetLine) (k : ℕ) → k ≤ l.slot → free (l ∷ before) k ≡ free before k
unfolding free named_by
free_later l before zero h = refl
free_later l before (suc k) h =
    let other : eqb l.slot k ≡ false = ne_eqb l.slot k (λ e. omega arith) in
    let same = free_later l before k (omega arith) in
    λ i. cond (other i || named_by before k) (same i) (suc (same i))

-- a line for one of them that wasn't named takes one
free_less : (l : SheetLine) (before : List SheetLine) (k : ℕ) → l.slot < k → named_by before l.slot ≡ false
    → free before k ≡ suc (free (l ∷ before) k)
unfolding free named_by
free_less l before zero h e = absurd (omega arith)
free_less l before (suc k) h e =
    let left : ℕ = free (l ∷ before) k in
    let after : Bool → ℕ = λ t. suc (cond (t || named_by before k) left (suc left)) in
    split (eqb l.slot k)
    (λ d. let is : l.slot ≡ k = eqb-true l.slot k d in
    when_false (named_by before k) _ _ (ap (named_by before) (sym is) ∙ e)
    ∙ ap suc (sym (free_later l before k (omega arith)))
    ∙ ap after (sym d))
    (λ d. let other : l.slot ≡ k → ⊥ = eqb-false l.slot k d in
    let below : l.slot < k = omega (arith, other) in
    let less = free_less l before k below e in
    through suc (named_by before k) left (suc left) less (ap suc less) ∙ ap after (sym d))

-- lines that fit are no more than the slots that are left
fit_most : {setup : Setup} {before ls : List SheetLine} → AllFit setup before ls → length ls ≤ free before 32
fit_most AllFit.none = omega arith
fit_most {setup} (AllFit.more {before} {l = l} f a) =
    omega (arith, fit_most a, free_less l before 32 (slot_below setup.slots l f.there) f.fresh)

lines_most : {setup : Setup} {ls : List SheetLine} → AllFit setup [] ls → length ls ≤ 32
lines_most a = omega (arith, fit_most a, free_none 32)

-- ---- bytes of a sheet

sheet_most : {text : List ℕ} {ls : List SheetLine} → Sheet text ls → length text ≤ 58 * length ls
sheet_most Sheet.none = omega arith
sheet_most (Sheet.more {first} {rest} h s) = omega (arith, line_most h, sheet_most s, length-append first rest)

bytes_most : {text : List ℕ} {ls : List SheetLine} {setup : Setup} → Sheet text ls → AllFit setup [] ls → length text ≤ 1856
bytes_most s a = omega (arith, sheet_most s, lines_most a)

-- ---- texts cut short

-- the cut is behind the front
take_after : (s t : List ℕ) (n : ℕ) → length s ≤ n → take n (s ++ t) ≡ s ++ take (n - length s) t
take_after s t n h =
    let e : n ≡ length s + (n - length s) = omega arith in
    ap (λ (k : ℕ). take k (s ++ t)) e ∙ take-append-add s t (n - length s)

-- something is left
take_some : (n : ℕ) (s : List ℕ) → 1 ≤ n → (s ≡ [] → ⊥) → take n s ≡ [] → ⊥
take_some zero s h f e = omega arith
take_some (suc n) [] h f e = f refl
take_some (suc n) (b ∷ s) h f e = cons≢nil e

-- what is refused is refused by its first 58 bytes
refused-cut : {setup : Setup} {before : List SheetLine} {rest : List ℕ} {k : ℕ} (n : ℕ) → 58 ≤ n → Refused setup before rest k
    → Refused setup before (take n rest) k
refused-cut n h (Refused.layout {rest} some none) =
    Refused.layout (take_some n rest (omega arith) some)
    (λ first more l is t. none first (more ++ drop n rest) l is
    (sym (take-append-drop n rest) ∙ ap (λ (s : List ℕ). s ++ drop n rest) t ∙ append_assoc first more (drop n rest)))
refused-cut {setup} {before} n h (Refused.no_slot {first} more is e) =
    subst (λ (s : List ℕ). Refused setup before s 41) (sym (take_after first more n (omega (arith, line_most is))))
    (Refused.no_slot (take (n - length first) more) is e)
refused-cut {setup} {before} n h (Refused.named {first} more is e f) =
    subst (λ (s : List ℕ). Refused setup before s 42) (sym (take_after first more n (omega (arith, line_most is))))
    (Refused.named (take (n - length first) more) is e f)
refused-cut {setup} {before} n h (Refused.too_long {first} more is e f g) =
    subst (λ (s : List ℕ). Refused setup before s 43) (sym (take_after first more n (omega (arith, line_most is))))
    (Refused.too_long (take (n - length first) more) is e f g)

-- each outcome is that of the text cut short
outcome-cut : {setup : Setup} {text : List ℕ} {r : SheetRead} (n : ℕ) → 1914 ≤ n → Outcome setup text r → Outcome setup (take n text) r
outcome-cut {setup} {text} {r} n h (Outcome.accepted s a) =
    subst (λ (t : List ℕ). Outcome setup t r) (sym (take_all n text (omega (arith, bytes_most s a)))) (Outcome.accepted s a)
outcome-cut {setup} {r = r} n h (Outcome.refused {front} {rest} s a q) =
    let short = bytes_most s a in
    subst (λ (t : List ℕ). Outcome setup t r) (sym (take_after front rest n (omega arith)))
    (Outcome.refused s a (refused-cut (n - length front) (omega arith) q))

-- ---- the theorem

pub lengths : Lengths
lengths =
    record {
      line = λ first l h. line_most h;
      lines = λ text ls setup s a. lines_most a;
      bytes = λ text ls setup s a. bytes_most s a;
      front = λ n text setup h. exactly.only (take n text) setup (sheet_of text setup) (outcome-cut n h (exactly.given text setup));
    }
