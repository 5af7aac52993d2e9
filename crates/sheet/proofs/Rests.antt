-- The lines that are left of a text from a place on.
use mathlib.Core.Path.{◌≡◌, refl, sym, ap, ◌∙◌}
use mathlib.Core.Bool.{Bool, true, false, not, ◌&&◌, cond}
use mathlib.Core.List.{List, []}
use Prim.Native.Nat.{ℕ, zero, suc, ◌+◌, ◌-◌, ◌≤◌, ◌<◌}
use native.Mathlib.Numerals.{add-one}
use native.Mathlib.Omega.{arith}
use lib.Dec.{eqb, ltb}
use lib.ListN.{length, take, drop, set, length-drop, drop_of_length-le}
use lib.Seq.{take_all, drop-drop}
use borrow.Author.Tests.{eq-eqb, ne_eqb, ltb-true, ltb-false, lt-ltb}
use Rattle.bits.proofs.Choices.{when_true, when_false}
use Rattle.bits.proofs.Tests.{both, both_right, not_both, split}
use Rattle.readiness.specs.declared.Setup.{Setup}
use Rattle.sheet_grammar.specs.declared.LineRead.{LineRead}
use Rattle.sheet_grammar.specs.declared.SheetRead.{SheetRead}
use Rattle.sheet_grammar.specs.Layout.{no_line, line_from}
use Rattle.sheet_grammar.specs.Reading.{is_slot, refusal_of, with_line, lines_of, gives, read_lines, line_naming, place_after}
use Rattle.sheet_grammar.proofs.Steps.{size_some, size_most, read_none, naming_none, place_none, read_step, naming_step, place-step}

-- ---- a line that isn't refused

unless-zero : (t : Bool) (m n : ℕ) → 1 ≤ m → cond (not t) m n ≡ 0 → (t ≡ true) × (n ≡ 0)
unless-zero true m n h e = (refl, e)
unless-zero false m n h e = absurd (omega arith)

module _ (slots : ℕ) (named : List Bool) (l : LineRead) (e : refusal_of slots named l ≡ 0) where
  -- it has the layout
  pub it_fits : l.fits ≡ true
  unfolding refusal_of
  it_fits = (unless-zero l.fits 40 _ (omega arith) e).0

  -- its slot is there
  pub its_slot : l.line.slot < 32
  unfolding refusal_of is_slot
  its_slot =
      let there : is_slot slots l.line ≡ true = (unless-zero (is_slot slots l.line) 41 _ (omega arith) (unless-zero l.fits 40 _ (omega arith) e).1).0 in
      ltb-true l.line.slot 32 (both_right (ltb l.line.slot slots) (ltb l.line.slot 32) there)

-- ---- one line

module _ (text : List ℕ) (at : ℕ) (h : at < length text) (l : LineRead) (read : l ≡ line_from (take (length text - at) (drop at text))) where
  some : 1 ≤ length (drop at text)
  some = omega (arith, length-drop at text)

  line_is : l ≡ line_from (drop at text)
  line_is = read ∙ ap line_from (take_all (length text - at) (drop at text) (omega (arith, length-drop at text)))

  size_is : l.size ≡ (line_from (drop at text)).size
  size_is = ap (λ (r : LineRead). r.size) line_is

  rest_is : drop (line_from (drop at text)).size (drop at text) ≡ drop (at + l.size) text
  rest_is = drop-drop (line_from (drop at text)).size at text ∙ ap (λ (n : ℕ). drop (at + n) text) (sym size_is)

  -- its bytes
  pub size_room : at + l.size ≤ length text
  size_room = omega (arith, size_is, size_most (drop at text), length-drop at text)

  pub size_more : l.fits ≡ true → 1 ≤ l.size
  size_more e = omega (arith, size_is, size_some (drop at text) (ap (λ (r : LineRead). r.fits) (sym line_is) ∙ e))

  -- a law of the line and the bytes after it
  here : {A : Type 0} (of : LineRead → List ℕ → A) → of (line_from (drop at text)) (drop (line_from (drop at text)).size (drop at text)) ≡ of l (drop (at + l.size) text)
  here of = ap (of (line_from (drop at text))) rest_is ∙ ap (λ (r : LineRead). of r (drop (at + l.size) text)) (sym line_is)

  module _ (count : ℕ) (named : List Bool) (before after : Setup) {number : ℕ} (is : number ≡ refusal_of before.slots named l) where
    refusal : LineRead → ℕ
    refusal r = refusal_of before.slots named r

    read_with : LineRead → List ℕ → SheetRead
    read_with r rest =
        cond (eqb (refusal r) 0) (read_lines (suc count) (lines_of rest) (set named r.line.slot true) before (with_line r.line after)) (gives (refusal r) (suc count) before)

    stepped : read_lines count (lines_of (drop at text)) named before after ≡ read_with l (drop (at + l.size) text)
    unfolding read_with refusal
    stepped = read_step count (drop at text) named before after some ∙ here read_with

    pub reads_on : number ≡ 0
        → read_lines (count + 1) (lines_of (drop (at + l.size) text)) (set named l.line.slot true) before (with_line l.line after)
        ≡ read_lines count (lines_of (drop at text)) named before after
    unfolding read_with refusal
    reads_on e = rw (add-one count) (sym (stepped ∙ when_true (eqb (refusal l) 0) _ _ (eq-eqb (refusal l) 0 (sym is ∙ e))))

    pub refuses : (number ≡ 0 → ⊥) → gives number (count + 1) before ≡ read_lines count (lines_of (drop at text)) named before after
    unfolding read_with refusal
    refuses f =
        rw (add-one count)
        (ap (λ (n : ℕ). gives n (suc count) before) is
        ∙ sym (stepped ∙ when_false (eqb (refusal l) 0) _ _ (ne_eqb (refusal l) 0 (λ e. f (is ∙ e)))))

  module _ (slot : ℕ) where
    name_with : LineRead → List ℕ → LineRead
    name_with r rest = cond r.fits (cond (eqb r.line.slot slot) r (line_naming slot (lines_of rest))) no_line

    names : line_naming slot (lines_of (drop at text)) ≡ name_with l (drop (at + l.size) text)
    unfolding name_with
    names = naming_step slot (drop at text) some ∙ here name_with

    pub names_none : l.fits ≡ false → no_line ≡ line_naming slot (lines_of (drop at text))
    unfolding name_with
    names_none e = sym (names ∙ when_false l.fits _ _ e)

    module _ (fits : l.fits ≡ true) where
      pub names_here : l.line.slot ≡ slot → l ≡ line_naming slot (lines_of (drop at text))
      unfolding name_with
      names_here e = sym (names ∙ when_true l.fits _ _ fits ∙ when_true (eqb l.line.slot slot) _ _ (eq-eqb l.line.slot slot e))

      pub names_on : (l.line.slot ≡ slot → ⊥) → line_naming slot (lines_of (drop (at + l.size) text)) ≡ line_naming slot (lines_of (drop at text))
      unfolding name_with
      names_on f = sym (names ∙ when_true l.fits _ _ fits ∙ when_false (eqb l.line.slot slot) _ _ (ne_eqb l.line.slot slot f))

  place_with : ℕ → LineRead → List ℕ → ℕ
  place_with n r rest = cond r.fits (r.size + place_after n (lines_of rest)) 0

  places : (n : ℕ) → place_after (suc n) (lines_of (drop at text)) ≡ place_with n l (drop (at + l.size) text)
  unfolding place_with
  places n = place-step n (drop at text) some ∙ here (place_with n)

  pub place_stops : (n : ℕ) → 0 < n → l.fits ≡ false → at ≡ at + place_after n (lines_of (drop at text))
  unfolding place_with
  place_stops zero k e = absurd (omega arith)
  place_stops (suc n) k e = omega (arith, places n ∙ when_false l.fits _ _ e)

  pub place_on : (n : ℕ) → 0 < n → l.fits ≡ true → (at + l.size) + place_after (n - 1) (lines_of (drop (at + l.size) text)) ≡ at + place_after n (lines_of (drop at text))
  unfolding place_with
  place_on zero k e = absurd (omega arith)
  place_on (suc n) k e =
      let less : suc n - 1 ≡ n = omega arith in
      rw less (omega (arith, places n ∙ when_true l.fits _ _ e))

-- ---- no line

module _ (text : List ℕ) (at : ℕ) (h : length text ≤ at) where
  no_bytes : drop at text ≡ []
  no_bytes = drop_of_length-le text h

  pub read_ends : (count : ℕ) (named : List Bool) (before after : Setup) → gives 0 0 after ≡ read_lines count (lines_of (drop at text)) named before after
  read_ends count named before after = sym (ap (λ (s : List ℕ). read_lines count (lines_of s) named before after) no_bytes ∙ read_none count named before after)

  pub names_end : (slot : ℕ) → no_line ≡ line_naming slot (lines_of (drop at text))
  names_end slot = sym (ap (λ (s : List ℕ). line_naming slot (lines_of s)) no_bytes ∙ naming_none slot)

  pub place_end : (n : ℕ) → at ≡ at + place_after n (lines_of (drop at text))
  place_end n = omega (arith, ap (λ (s : List ℕ). place_after n (lines_of s)) no_bytes ∙ place_none n)

-- no line is left to be counted
no_count : (lines : List (List ℕ)) → place_after 0 lines ≡ 0
unfolding place_after
no_count lines = refl

pub place-ends : (text : List ℕ) (at n : ℕ) → (ltb at (length text) && ltb 0 n) ≡ false → at ≡ at + place_after n (lines_of (drop at text))
place-ends text at zero e = omega (arith, no_count (lines_of (drop at text)))
place-ends text at (suc n) e =
    split (ltb at (length text)) (λ t. not_both (both (ltb at (length text)) (ltb 0 (suc n)) t (lt-ltb 0 (suc n) (omega arith))) e)
    (λ t. place_end text at (ltb-false at (length text) t) (suc n))
