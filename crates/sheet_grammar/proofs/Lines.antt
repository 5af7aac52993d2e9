-- The lines of a text: a line of the grammar is read as what it says, and what is read as a line is one; a text's first line is read as the text is.
use mathlib.Core.Path.{◌≡◌, refl, sym, ap, subst, ◌∙◌}
use mathlib.Core.Bool.{Bool, true, false, ◌&&◌, cond}
use mathlib.Core.List.{List, [], ◌∷◌, ◌++◌, append_assoc, append-nil}
use Prim.Native.Nat.{ℕ, ◌≤◌}
use native.Mathlib.Omega.{arith}
use lib.ListN.{length, drop, length-append}
use lib.Seq.{drop-append_seam}
use borrow.Author.Tests.{eqb-true}
use Rattle.bits.proofs.Choices.{when_true, when_false}
use Rattle.bits.proofs.Tests.{both_left, both_right, split, untrue, not_both}
use Rattle.times.specs.declared.Unit.{Unit}
use Rattle.text_fields.specs.Text.{digit_of, is_line_end, onto}
use Rattle.sheet_grammar.specs.declared.SheetLine.{SheetLine}
use Rattle.sheet_grammar.specs.declared.NumberRead.{NumberRead}
use Rattle.sheet_grammar.specs.declared.UnitRead.{UnitRead}
use Rattle.sheet_grammar.specs.declared.LineRead.{LineRead}
use Rattle.sheet_grammar.specs.Layout.{is_digit, space, line_end, claim, most_digits, number_at, unit_at, no_line, line_from}
use Rattle.sheet_grammar.specs.Grammar.{Decimal, NumberUpTo, UnitName, Line}
use Rattle.sheet_grammar.specs.Grammar.Decimal.{done, digit}
use Rattle.sheet_grammar.specs.Grammar.UnitName.{ns, us, ms}
use Rattle.sheet_grammar.specs.Grammar.Line.{line}
use Rattle.sheet_grammar.specs.Reading.{lines_of}
use Rattle.sheet_grammar.proofs.Fields.{Stands, joined, first_part, second_part, number_read_lem, number_found, unit_read_lem, unit_found}

-- ---- a line by its fields

-- a line that was read
abbrev line_read : SheetLine → (size : ℕ) → LineRead
line_read l size = record { fits = true; line = l; size = size }

-- a line by its six fields
unfoldable line_by : (slot reset dl_up flr d3hot : NumberRead) → UnitRead → LineRead
line_by slot reset dl_up flr d3hot u =
    cond (slot.fits && reset.fits && dl_up.fits && flr.fits && d3hot.fits && u.fits)
    (line_read
    (record {
      slot = slot.number;
      reset = claim reset.number u.unit;
      dl_up = claim dl_up.number u.unit;
      flr = claim flr.number u.unit;
      d3hot = claim d3hot.number u.unit;
    })
    u.next)
    no_line

-- each field is read where the one before it ended
line_by_lem : (s : List ℕ) {slot reset dl_up flr d3hot : NumberRead} {u : UnitRead}
    → number_at 0 s ≡ slot → number_at slot.next s ≡ reset → number_at reset.next s ≡ dl_up → number_at dl_up.next s ≡ flr
    → number_at flr.next s ≡ d3hot → unit_at d3hot.next s ≡ u → line_from s ≡ line_by slot reset dl_up flr d3hot u
unfolding line_from line_by
line_by_lem s {slot} {reset} {dl_up} {flr} {d3hot} a b c d e f =
    ap from1 a ∙ ap (from2 slot) b ∙ ap (from3 slot reset) c ∙ ap (from4 slot reset dl_up) d ∙ ap (from5 slot reset dl_up flr) e
    ∙ ap (line_by slot reset dl_up flr d3hot) f
  where
    from5 : (v w x y z : NumberRead) → LineRead
    from5 v w x y z = line_by v w x y z (unit_at z.next s)

    from4 : (v w x y : NumberRead) → LineRead
    from4 v w x y = from5 v w x y (number_at y.next s)

    from3 : (v w x : NumberRead) → LineRead
    from3 v w x = from4 v w x (number_at x.next s)

    from2 : (v w : NumberRead) → LineRead
    from2 v w = from3 v w (number_at w.next s)

    from1 : NumberRead → LineRead
    from1 v = from2 v (number_at v.next s)

-- a line of the grammar in front of any text is read as what it says
pub line_read_lem : {first : List ℕ} {l : SheetLine} (more : List ℕ) → Line first l
    → line_from (first ++ more) ≡ record { fits = true; line = l; size = length first }
unfolding line_by
line_read_lem more (line {slot = slot} {reset = reset} {dl_up = dl_up} {flr = flr} {d3hot = d3hot} {unit = unit} is_slot isReset isDlUp isFlr isD3hot is_unit) =
    let at5 : List ℕ = unit ++ (line_end ∷ []) in
    let at4 : List ℕ = d3hot ++ (space ∷ at5) in
    let at3 : List ℕ = flr ++ (space ∷ at4) in
    let at2 : List ℕ = dl_up ++ (space ∷ at3) in
    let at1 : List ℕ = reset ++ (space ∷ at2) in
    let all : List ℕ = slot ++ (space ∷ at1) in
    let s : List ℕ = all ++ more in
    let here0 : Stands 0 (length all) s all =
    record { whole = ap (λ (r : List ℕ). all ++ r) (sym (drop-append_seam all more)); end = omega arith } in
    let here1 = second_part slot space at1 here0 in
    let here2 = second_part reset space at2 here1 in
    let here3 = second_part dl_up space at3 here2 in
    let here4 = second_part flr space at4 here3 in
    let here5 = second_part d3hot space at5 here4 in
    line_by_lem s (number_read_lem is_slot (first_part slot space at1 here0)) (number_read_lem isReset (first_part reset space at2 here1))
    (number_read_lem isDlUp (first_part dl_up space at3 here2)) (number_read_lem isFlr (first_part flr space at4 here3))
    (number_read_lem isD3hot (first_part d3hot space at5 here4)) (unit_read_lem is_unit here5)

-- ---- what is read as a line

-- what is read as a line is one, and stands in front
pub record Found (s : List ℕ) (r : LineRead) : Type 0 where
  pub first : List ℕ
  pub rest : List ℕ
  pub is : Line first r.line
  pub text : s ≡ first ++ rest
  pub size : r.size ≡ length first

-- a choice of a line that was read fits if its test does
fits_test : (t : Bool) (l : SheetLine) (n : ℕ) → (cond t (line_read l n) no_line).fits ≡ t
fits_test true l n = refl
fits_test false l n = refl

pub line_found : (s : List ℕ) → (line_from s).fits ≡ true → Found s (line_from s)
unfolding line_from
line_found s e =
    let slot = number_at 0 s in
    let reset = number_at slot.next s in
    let dl_up = number_at reset.next s in
    let flr = number_at dl_up.next s in
    let d3hot = number_at flr.next s in
    let u = unit_at d3hot.next s in
    let two = slot.fits && reset.fits in
    let three = two && dl_up.fits in
    let four = three && flr.fits in
    let five = four && d3hot.fits in
    let six : (five && u.fits) ≡ true = sym (fits_test (five && u.fits) _ _) ∙ e in
    let e5 = both_left five u.fits six in
    let e4 = both_left four d3hot.fits e5 in
    let e3 = both_left three flr.fits e4 in
    let e2 = both_left two dl_up.fits e3 in
    let a = number_found most_digits 0 s (both_left slot.fits reset.fits e2) in
    let b = number_found most_digits slot.next s (both_right slot.fits reset.fits e2) in
    let c = number_found most_digits reset.next s (both_right two dl_up.fits e3) in
    let d = number_found most_digits dl_up.next s (both_right three flr.fits e4) in
    let f = number_found most_digits flr.next s (both_right four d3hot.fits e5) in
    let g = unit_found d3hot.next s (both_right five u.fits six) in
    let all = joined a.text space _ a.here (joined b.text space _ b.here (joined c.text space _ c.here
    (joined d.text space _ d.here (joined f.text space _ f.here g.here)))) in
    subst (Found s) (sym (when_true (five && u.fits) _ _ six))
    (record {
      first = _;
      rest = drop u.next s;
      is = line a.is b.is c.is d.is f.is g.is;
      text = all.whole;
      size = omega (arith, all.end);
    })

-- a field doesn't fit
none_by : (slot reset dl_up flr d3hot : NumberRead) (u : UnitRead) → (line_by slot reset dl_up flr d3hot u).fits ≡ false → line_by slot reset dl_up flr d3hot u ≡ no_line
unfolding line_by
none_by slot reset dl_up flr d3hot u e =
    let all = slot.fits && reset.fits && dl_up.fits && flr.fits && d3hot.fits && u.fits in
    when_false all _ _ (sym (fits_test all _ _) ∙ e)

-- else nothing is read
pub line_none : (s : List ℕ) → (line_from s).fits ≡ false → line_from s ≡ no_line
line_none s = subst (λ (r : LineRead). r.fits ≡ false → r ≡ no_line) (sym (line_by_lem s refl refl refl refl refl refl)) (none_by _ _ _ _ _ _)

-- ---- a line of the grammar among the lines of a text

-- more bytes after some
some_more : (s t : List ℕ) → 1 ≤ length s → 1 ≤ length (s ++ t)
some_more s t h = omega (arith, length-append s t)

-- a line of the grammar isn't empty
pub line_some : {first : List ℕ} {l : SheetLine} → Line first l → 1 ≤ length first
line_some (line {slot = slot} is_slot isReset isDlUp isFlr isD3hot is_unit) = some_more slot _ is_slot.some

-- bytes that are the first line of every text that starts with them
abbrev pub Ends : List ℕ → Type 0
Ends first = (more : List ℕ) → lines_of (first ++ more) ≡ first ∷ lines_of more

-- 0Ah alone
pub end_ends : Ends (line_end ∷ [])
unfolding lines_of
end_ends more = refl

-- any other byte in front
byte_ends : (b : ℕ) {t : List ℕ} → is_line_end b ≡ false → Ends t → Ends (b ∷ t)
unfolding lines_of
byte_ends b e h more = when_false (is_line_end b) _ _ e ∙ ap (onto b) (h more)

-- a digit is no 0Ah
digit_inside : (b : ℕ) → is_digit b ≡ true → is_line_end b ≡ false
unfolding digit_of
digit_inside b e = untrue (is_line_end b) (λ t. not_both e (ap is_digit (eqb-true b line_end t)))

-- digits in front
digits_end : {before n : ℕ} {s t : List ℕ} → Decimal before s n → Ends t → Ends (s ++ t)
digits_end done h = h
digits_end (digit {b = b} e d) h = byte_ends b (digit_inside b e) (digits_end d h)

-- a number and a space in front
pub number-ends : {most n : ℕ} {s t : List ℕ} → NumberUpTo most s n → Ends t → Ends (s ++ (space ∷ t))
number-ends is h = digits_end is.digits (byte_ends space refl h)

-- a unit in front
pub unit_ends : {s t : List ℕ} {u : Unit} → UnitName s u → Ends t → Ends (s ++ t)
unit_ends ns h = byte_ends 0x6E refl (byte_ends 0x73 refl h)
unit_ends us h = byte_ends 0x75 refl (byte_ends 0x73 refl h)
unit_ends ms h = byte_ends 0x6D refl (byte_ends 0x73 refl h)

-- it is the first of the lines of a text that starts with it
pub lines_first : {first : List ℕ} {l : SheetLine} (more : List ℕ) → Line first l → lines_of (first ++ more) ≡ first ∷ lines_of more
lines_first more (line is_slot isReset isDlUp isFlr isD3hot is_unit) =
    number-ends is_slot (number-ends isReset (number-ends isDlUp (number-ends isFlr (number-ends isD3hot (unit_ends is_unit end_ends))))) more

-- ---- the first line of any text

-- a text cut after its first line
pub record Cut (s : List ℕ) : Type 0 where
  pub line : List ℕ
  pub rest : List ℕ
  pub cut : lines_of s ≡ line ∷ lines_of rest
  pub text : s ≡ line ++ rest

-- at 0Ah
cut_end : (b : ℕ) (t : List ℕ) → is_line_end b ≡ true → Cut (b ∷ t)
unfolding lines_of
cut_end b t e = record { line = b ∷ []; rest = t; cut = when_true (is_line_end b) _ _ e; text = refl }

-- at the end of the text
cut-last : (b : ℕ) → is_line_end b ≡ false → Cut (b ∷ [])
unfolding lines_of
cut-last b e = record { line = b ∷ []; rest = []; cut = when_false (is_line_end b) _ _ e; text = refl }

-- after it
cut_more : (b : ℕ) {t : List ℕ} → Cut t → is_line_end b ≡ false → Cut (b ∷ t)
unfolding lines_of
cut_more b r e =
    record {
      line = b ∷ r.line;
      rest = r.rest;
      cut = when_false (is_line_end b) _ _ e ∙ ap (onto b) r.cut;
      text = ap (λ (x : List ℕ). b ∷ x) r.text;
    }

-- any text that isn't empty can be cut so
pub cut-first : (b : ℕ) (t : List ℕ) → Cut (b ∷ t)
cut-first b [] = split (is_line_end b) (cut_end b []) (cut-last b)
cut-first b (c ∷ t) = split (is_line_end b) (cut_end b (c ∷ t)) (cut_more b (cut-first c t))

-- the first line of any text that isn't empty is read as the text is
pub record Front (s : List ℕ) : Type 0 where
  pub line : List ℕ
  pub others : List (List ℕ)
  pub cut : lines_of s ≡ line ∷ others
  pub same : line_from line ≡ line_from s

-- if the text starts with a line of the grammar, that is it
front_found : (s : List ℕ) → Found s (line_from s) → Front s
front_found s r =
    record {
      line = r.first;
      others = lines_of r.rest;
      cut = ap lines_of r.text ∙ lines_first r.rest r.is;
      same = sym (ap line_from (append-nil r.first)) ∙ line_read_lem [] r.is ∙ sym (line_read_lem r.rest r.is) ∙ sym (ap line_from r.text);
    }

-- what is read in front of a text is read in front of a longer one
found_more : (s more : List ℕ) → (line_from s).fits ≡ true → (line_from (s ++ more)).fits ≡ true
found_more s more e =
    let r = line_found s e in
    ap (λ (x : LineRead). x.fits)
    (ap (λ (t : List ℕ). line_from (t ++ more)) r.text ∙ ap line_from (append_assoc r.first r.rest more) ∙ line_read_lem (r.rest ++ more) r.is)

-- else its first line doesn't either
front_none : (s : List ℕ) → Cut s → (line_from s).fits ≡ false → Front s
front_none s r e =
    let none : (line_from r.line).fits ≡ false =
    untrue (line_from r.line).fits (λ t. not_both (ap (λ (x : List ℕ). (line_from x).fits) r.text ∙ found_more r.line r.rest t) e) in
    record { line = r.line; others = lines_of r.rest; cut = r.cut; same = line_none r.line none ∙ sym (line_none s e) }

-- and the text does or doesn't
pub front : (s : List ℕ) → 1 ≤ length s → Front s
front [] h = absurd (omega arith)
front (b ∷ t) h = split (line_from (b ∷ t)).fits (λ e. front_found (b ∷ t) (line_found (b ∷ t) e)) (front_none (b ∷ t) (cut-first b t))
