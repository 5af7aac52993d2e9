-- One line of a text that is read line by line, for loops over the bytes that are left.
use mathlib.Core.Path.{◌≡◌, refl, sym, ap, ◌∙◌}
use mathlib.Core.Bool.{Bool, true, false, not, cond}
use mathlib.Core.List.{List, [], ◌∷◌}
use Prim.Native.Nat.{ℕ, zero, suc, ◌+◌, ◌≤◌}
use native.Mathlib.Omega.{arith}
use lib.Dec.{eqb}
use lib.ListN.{length, drop, set, length-append}
use lib.Seq.{drop_at}
use Rattle.bits.proofs.Choices.{when_true, when_false}
use Rattle.bits.proofs.Tests.{split}
use Rattle.readiness.specs.declared.Setup.{Setup}
use Rattle.sheet_grammar.specs.declared.LineRead.{LineRead}
use Rattle.sheet_grammar.specs.Layout.{no_line, line_from}
use Rattle.sheet_grammar.specs.Reading.{refusal_of, with_line, lines_of, gives, read_lines, line_naming, place_after}
use Rattle.sheet_grammar.proofs.Lines.{line_found, line_none, line_some, lines_first, Front, front}

-- ---- the size of a line

-- a line that is read has bytes, and no more than there are
pub size_some : (s : List ℕ) → (line_from s).fits ≡ true → 1 ≤ (line_from s).size
size_some s e = let r = line_found s e in omega (arith, r.size, line_some r.is)

pub size_most : (s : List ℕ) → (line_from s).size ≤ length s
size_most s =
    split (line_from s).fits
    (λ e. let r = line_found s e in omega (arith, r.size, ap length r.text, length-append r.first r.rest))
    (λ e. omega (arith, ap (λ (r : LineRead). r.size) (line_none s e)))

-- ---- no line is left

pub read_none : (n : ℕ) (named : List Bool) (before after : Setup) → read_lines n (lines_of []) named before after ≡ gives 0 0 after
unfolding read_lines lines_of
read_none n named before after = refl

pub naming_none : (slot : ℕ) → line_naming slot (lines_of []) ≡ no_line
unfolding line_naming lines_of
naming_none slot = refl

pub place_none : (n : ℕ) → place_after n (lines_of []) ≡ 0
unfolding place_after lines_of
place_none zero = refl
place_none (suc n) = refl

-- ---- one step

-- all lines but the first
abbrev later : List (List ℕ) → List (List ℕ)
later [] = []
later (l ∷ ls) = ls

-- the other lines are those after the bytes of the first
others_after : (s : List ℕ) (f : Front s) → (line_from s).fits ≡ true → f.others ≡ lines_of (drop (line_from s).size s)
others_after s f e =
    let r = line_found s e in
    let left : drop (line_from s).size s ≡ r.rest = ap (drop (line_from s).size) r.text ∙ drop_at r.first r.rest (line_from s).size (sym r.size) in
    ap later (sym f.cut ∙ ap lines_of r.text ∙ lines_first r.rest r.is) ∙ ap lines_of (sym left)

-- what is made of the line in front and of the lines after it, where those count only if it fits
step : {A : Type 0} (of : List (List ℕ) → A) (with : LineRead → List (List ℕ) → A)
    → ((l : List ℕ) (ls : List (List ℕ)) → of (l ∷ ls) ≡ with (line_from l) ls)
    → ((r : LineRead) (ls ms : List (List ℕ)) → r.fits ≡ false → with r ls ≡ with r ms)
    → (s : List ℕ) → 1 ≤ length s → of (lines_of s) ≡ with (line_from s) (lines_of (drop (line_from s).size s))
step of with by none s h =
    let f = front s h in
    ap of f.cut ∙ by f.line f.others ∙ ap (λ (r : LineRead). with r f.others) f.same
    ∙ split (line_from s).fits (λ e. ap (with (line_from s)) (others_after s f e)) (none (line_from s) f.others _)

-- of two choices that are the same where the test isn't passed
alike : {A : Type 0} {t : Bool} (a b c : A) → t ≡ false → cond t a c ≡ cond t b c
alike {t} a b c e = when_false t a c e ∙ sym (when_false t b c e)

-- what doesn't fit is refused
layout-refused : (slots : ℕ) (named : List Bool) (r : LineRead) → r.fits ≡ false → eqb (refusal_of slots named r) 0 ≡ false
unfolding refusal_of
layout-refused slots named r e = ap (λ (n : ℕ). eqb n 0) (when_true (not r.fits) 40 _ (ap not e))

-- a sheet's reading
pub read_step : (n : ℕ) (s : List ℕ) (named : List Bool) (before after : Setup) → 1 ≤ length s
    → read_lines n (lines_of s) named before after
    ≡ cond (eqb (refusal_of before.slots named (line_from s)) 0)
    (read_lines (suc n) (lines_of (drop (line_from s).size s)) (set named (line_from s).line.slot true) before (with_line (line_from s).line after))
    (gives (refusal_of before.slots named (line_from s)) (suc n) before)
unfolding read_lines
read_step n s named before after =
    step (λ ls. read_lines n ls named before after)
    (λ r ls. cond (eqb (refusal_of before.slots named r) 0)
    (read_lines (suc n) ls (set named r.line.slot true) before (with_line r.line after))
    (gives (refusal_of before.slots named r) (suc n) before))
    (λ l ls. refl) (λ r ls ms e. alike _ _ _ (layout-refused before.slots named r e)) s

-- the line that names a slot
pub naming_step : (slot : ℕ) (s : List ℕ) → 1 ≤ length s
    → line_naming slot (lines_of s)
    ≡ cond (line_from s).fits (cond (eqb (line_from s).line.slot slot) (line_from s) (line_naming slot (lines_of (drop (line_from s).size s)))) no_line
unfolding line_naming
naming_step slot =
    step (line_naming slot) (λ r ls. cond r.fits (cond (eqb r.line.slot slot) r (line_naming slot ls)) no_line)
    (λ l ls. refl) (λ r ls ms. alike _ _ _)

-- the place after some lines
pub place-step : (n : ℕ) (s : List ℕ) → 1 ≤ length s
    → place_after (suc n) (lines_of s)
    ≡ cond (line_from s).fits ((line_from s).size + place_after n (lines_of (drop (line_from s).size s))) 0
unfolding place_after
place-step n =
    step (place_after (suc n)) (λ r ls. cond r.fits (r.size + place_after n ls) 0)
    (λ l ls. refl) (λ r ls ms. alike _ _ _)
