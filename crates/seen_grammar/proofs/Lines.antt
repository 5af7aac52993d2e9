-- Lines of a file of seen times: a line of the grammar is read as what it says, and what is read as a line is one.
use mathlib.Core.Path.{◌≡◌, refl, sym, ap, subst, ◌∙◌}
use mathlib.Core.Bool.{Bool, true, false, ◌&&◌, cond}
use mathlib.Core.List.{List, [], ◌∷◌, ◌++◌, append-nil}
use Prim.Native.Nat.{ℕ, ◌≤◌}
use native.Mathlib.Omega.{arith}
use lib.Dec.{eqb}
use lib.ListN.{length, length-append, drop_of_length-le}
use borrow.Author.Tests.{eqb-true, eq-eqb}
use Rattle.bits.proofs.Tests.{both_left, both_right}
use Rattle.sheet_grammar.specs.declared.NumberRead.{NumberRead}
use Rattle.sheet_grammar.specs.declared.UnitRead.{UnitRead}
use Rattle.sheet_grammar.specs.Layout.{space, line_end, claim, most_digits, number_at, number_up_to, unit_at}
use Rattle.sheet_grammar.specs.Reading.{lines_of}
use Rattle.sheet_grammar.proofs.Fields.{Stands, joined, first_part, second_part, number_read_lem, number_found, unit_read_lem, unit_found}
use Rattle.sheet_grammar.proofs.Lines.{end_ends, number-ends, unit_ends}
use Rattle.seen_grammar.specs.declared.SeenLine.{SeenLine}
use Rattle.seen_grammar.specs.declared.NoLine.{NoLine}
use Rattle.std.specs.Prelude.{Result, Ok, Err}
use Rattle.seen_grammar.specs.Grammar.{most_time_digits, Line}
use Rattle.seen_grammar.specs.Grammar.Line.{line}
use Rattle.seen_grammar.specs.Reading.{line_of}

-- ---- what is read as a line

said_ok : (b : Bool) (x y : SeenLine) (e : NoLine) → cond b (Ok x) (Err e) ≡ Ok y → (b ≡ true) × (x ≡ y)
said_ok true x y e h = (refl, cc)
said_ok false x y e h = cc

-- what is read as a line is one
pub line_found : (s : List ℕ) (l : SeenLine) → line_of s ≡ Ok l → Line s l
unfolding line_of
line_found s l h =
    let slot = number_at 0 s in
    let time = number_up_to most_time_digits slot.next s in
    let u = unit_at time.next s in
    let two = slot.fits && time.fits in
    let three = two && u.fits in
    let whole = eqb u.next (length s) in
    let said : SeenLine = record { slot = slot.number; time = claim time.number u.unit } in
    let both = said_ok (three && whole) said l _ h in
    let e = both.0 in
    let e3 = both_left three whole e in
    let e2 = both_left two u.fits e3 in
    let end : u.next ≡ length s = eqb-true u.next (length s) (both_right three whole e) in
    let a = number_found most_digits 0 s (both_left slot.fits time.fits e2) in
    let b = number_found most_time_digits slot.next s (both_right slot.fits time.fits e2) in
    let g = unit_found time.next s (both_right two u.fits e3) in
    let all = joined a.text space _ a.here (joined b.text space _ b.here g.here) in
    let text : List ℕ = a.text ++ (space ∷ b.text ++ (space ∷ g.text ++ (line_end ∷ []))) in
    let past : length s ≤ u.next = omega arith in
    let is : s ≡ text = all.whole ∙ ap (λ (r : List ℕ). text ++ r) (drop_of_length-le s past) ∙ append-nil text in
    subst (λ (k : SeenLine). Line s k) both.1 (subst (λ (t : List ℕ). Line t said) (sym is) (line a.is b.is g.is))

-- ---- a line by its fields

unfoldable pub line_by : (s : List ℕ) (slot time : NumberRead) → UnitRead → Result SeenLine NoLine
line_by s slot time u =
    let said : SeenLine = record { slot = slot.number; time = claim time.number u.unit } in
    cond (slot.fits && time.fits && u.fits && eqb u.next (length s)) (Ok said) (Err (record { so_far = said }))

-- each field is read where the one before it ended
pub line_by_lem : (s : List ℕ) {slot time : NumberRead} {u : UnitRead} → number_at 0 s ≡ slot → number_up_to most_time_digits slot.next s ≡ time → unit_at time.next s ≡ u
    → line_of s ≡ line_by s slot time u
unfolding line_of line_by
line_by_lem s {slot} {time} a b c = ap from1 a ∙ ap (from2 slot) b ∙ ap (line_by s slot time) c
  where
    from2 : (v w : NumberRead) → Result SeenLine NoLine
    from2 v w = line_by s v w (unit_at w.next s)

    from1 : NumberRead → Result SeenLine NoLine
    from1 v = from2 v (number_up_to most_time_digits v.next s)

-- a line of the grammar is read as what it says
pub line_read : {first : List ℕ} {l : SeenLine} → Line first l → line_of first ≡ Ok l
unfolding line_by
line_read (line {slot} {seen} {unit} {n} {t} {u} is_slot is_seen is_unit) =
    let at2 : List ℕ = unit ++ (line_end ∷ []) in
    let at1 : List ℕ = seen ++ (space ∷ at2) in
    let s : List ℕ = slot ++ (space ∷ at1) in
    let said : SeenLine = record { slot = n; time = claim t u } in
    let all : length s ≤ length s = omega arith in
    let here0 : Stands 0 (length s) s s = record { whole = sym (append-nil s) ∙ ap (λ (r : List ℕ). s ++ r) (sym (drop_of_length-le s all)); end = omega arith } in
    let here1 = second_part slot space at1 here0 in
    let here2 = second_part seen space at2 here1 in
    line_by_lem s (number_read_lem is_slot (first_part slot space at1 here0)) (number_read_lem is_seen (first_part seen space at2 here1)) (unit_read_lem is_unit here2)
    ∙ ap (λ (b : Bool). cond b (Ok said) (Err (record { so_far = said }))) (eq-eqb (length s) (length s) refl)

-- ---- a line of the grammar among the lines of a text

-- it isn't empty
pub line_some : {first : List ℕ} {l : SeenLine} → Line first l → 1 ≤ length first
line_some (line {slot} is_slot is_seen is_unit) = some_more slot _ is_slot.some
  where
    some_more : (s t : List ℕ) → 1 ≤ length s → 1 ≤ length (s ++ t)
    some_more s t h = omega (arith, length-append s t)

-- and it is the first of the lines of a text that starts with it
pub lines_first : {first : List ℕ} {l : SeenLine} (more : List ℕ) → Line first l → lines_of (first ++ more) ≡ first ∷ lines_of more
lines_first more (line is_slot is_seen is_unit) = number-ends is_slot (number-ends is_seen (unit_ends is_unit end_ends)) more
