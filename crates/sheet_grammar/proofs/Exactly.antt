-- A sheet gives what its text says, and nothing else.
use Prim.Native.Nat.{ℕ, zero, suc, ◌+◌, ◌≤◌, ◌<◌}
use mathlib.Core.Path.{◌≡◌, refl, sym, ap, subst, ◌∙◌}
use mathlib.Core.Bool.{Bool, true, false, ◌||◌, not, cond, or-true, or-false}
use mathlib.Core.List.{List, [], ◌∷◌, ◌++◌, append-nil, append_assoc, reverse_aux, cons≢nil}
use native.Mathlib.Omega.{arith}
use lib.Dec.{eqb, ltb}
use lib.ListN.{length, get_or, set, replicate, length-append, length-set, length-replicate}
use lib.Seq.{get_or-set_same, get_or-set_other}
use borrow.Author.Tests.{eqb-true, eqb-false, ltb-true}
use Rattle.bits.proofs.Tests.{split, both_right, not_both, untrue}
use Rattle.bits.proofs.Lists.{get_or_same}
use Rattle.readiness.specs.declared.Setup.{Setup}
use Rattle.sheet_grammar.specs.declared.SheetLine.{SheetLine}
use Rattle.sheet_grammar.specs.declared.LineRead.{LineRead}
use Rattle.sheet_grammar.specs.declared.SheetRead.{SheetRead}
use Rattle.sheet_grammar.specs.Layout.{line_from}
use Rattle.sheet_grammar.specs.Grammar.{Line, Sheet}
use Rattle.sheet_grammar.specs.Reading.{is_slot, has_too_long, refusal_of, with_line, lines_of, gives, read_lines, sheet_of}
use Rattle.sheet_grammar.specs.Exactly.{named_by, Fits, AllFit, with_lines, Refused, Outcome, Exactly}
use Rattle.sheet_grammar.proofs.Lines.{line_read_lem, line_found, line_none, line_some, lines_first, front}

-- ---- the slots named so far

-- the marks of the slots that these lines name
record Marks (marks : List Bool) (before : List SheetLine) : Type 0 where
  size : length marks ≡ 32
  same : (slot : ℕ) → slot < 32 → get_or marks slot false ≡ named_by before slot

-- none at first
marks_none : Marks (replicate 32 false) []
unfolding named_by
marks_none = record { size = length-replicate 32 false; same = λ slot h. get_or_same 32 slot false }

-- a slot that is there is one of 32
pub slot_below : (slots : ℕ) (l : SheetLine) → is_slot slots l ≡ true → l.slot < 32
unfolding is_slot
slot_below slots l e = ltb-true l.slot 32 (both_right (ltb l.slot slots) (ltb l.slot 32) e)

-- one line more marks its slot
marks_more : {marks : List Bool} {before : List SheetLine} (l : SheetLine) → l.slot < 32 → Marks marks before → Marks (set marks l.slot true) (l ∷ before)
unfolding named_by
marks_more {marks} {before} l h m =
    record {
      size = length-set marks l.slot true ∙ m.size;
      same = λ slot k. split (eqb l.slot slot)
          (λ e. let d : l.slot ≡ slot = eqb-true l.slot slot e in
          ap (λ (i : ℕ). get_or (set marks l.slot true) i false) (sym d)
          ∙ get_or-set_same marks l.slot true false (omega (arith, m.size))
          ∙ sym (ap (λ (t : Bool). t || named_by before slot) e))
          (λ e. get_or-set_other marks l.slot slot true false (λ d. eqb-false l.slot slot e (sym d))
          ∙ m.same slot k
          ∙ sym (ap (λ (t : Bool). t || named_by before slot) e));
    }

-- ---- one line

module _ (n : ℕ) (marks : List Bool) (setup now : Setup) where
  -- the reading after a line with such a number: it goes on with other lines, or stops
  abbrev onward : (number : ℕ) → List (List ℕ) → SheetLine → SheetRead
  onward number others l =
      cond (eqb number 0) (read_lines (suc n) others (set marks l.slot true) setup (with_line l now)) (gives number (suc n) setup)

  -- a line of the grammar has a number by three tests in turn
  line_step : {first : List ℕ} {l : SheetLine} (rest : List ℕ) (t u v : Bool) → Line first l
      → is_slot setup.slots l ≡ t → get_or marks l.slot false ≡ u → has_too_long l ≡ v
      → read_lines n (lines_of (first ++ rest)) marks setup now ≡ onward (cond (not t) 41 (cond u 42 (cond v 43 0))) (lines_of rest) l
  unfolding read_lines refusal_of
  line_step {first} {l} rest t u v h d e f =
      ap (λ (lines : List (List ℕ)). read_lines n lines marks setup now) (lines_first rest h)
      ∙ ap (λ (r : LineRead). onward (refusal_of setup.slots marks r) (lines_of rest) r.line) (ap line_from (sym (append-nil first)) ∙ line_read_lem [] h)
      ∙ λ i. onward (cond (not (d i)) 41 (cond (e i) 42 (cond (f i) 43 0))) (lines_of rest) l

  -- a text that isn't empty and starts with no line has 40
  none_step : (s : List ℕ) → 1 ≤ length s → (line_from s).fits ≡ false → read_lines n (lines_of s) marks setup now ≡ gives 40 (suc n) setup
  unfolding read_lines refusal_of
  none_step s h e =
      let f = front s h in
      ap (λ (lines : List (List ℕ)). read_lines n lines marks setup now) f.cut
      ∙ ap (λ (r : LineRead). onward (refusal_of setup.slots marks r) f.others r.line) (f.same ∙ line_none s e)

-- a text that isn't empty has a byte
some_byte : (s : List ℕ) → (s ≡ [] → ⊥) → 1 ≤ length s
some_byte [] f = absurd (f refl)
some_byte (b ∷ s) f = omega arith

module _ {marks : List Bool} {before : List SheetLine} (n : ℕ) (setup now : Setup) (m : Marks marks before) where
  -- the mark of a slot that is there
  mark_of : (l : SheetLine) → is_slot setup.slots l ≡ true → get_or marks l.slot false ≡ named_by before l.slot
  mark_of l e = m.same l.slot (slot_below setup.slots l e)

  -- after a line that fits the reading goes on
  fits_step : {first : List ℕ} {l : SheetLine} (rest : List ℕ) → Line first l → Fits setup before l
      → read_lines n (lines_of (first ++ rest)) marks setup now ≡ read_lines (suc n) (lines_of rest) (set marks l.slot true) setup (with_line l now)
  fits_step {l = l} rest h f = line_step n marks setup now rest true false false h f.there (mark_of l f.there ∙ f.fresh) f.short

  -- what is refused gives its number and its line
  refused-step : {rest : List ℕ} {k : ℕ} → Refused setup before rest k → read_lines n (lines_of rest) marks setup now ≡ gives k (suc n) setup
  refused-step (Refused.layout {rest} some none) =
      none_step n marks setup now rest (some_byte rest some)
      (untrue (line_from rest).fits (λ e. let f = line_found rest e in none f.first f.rest (line_from rest).line f.is f.text))
  refused-step (Refused.no_slot more h e) = line_step n marks setup now more false _ _ h e refl refl
  refused-step (Refused.named {l = l} more h e f) = line_step n marks setup now more true true _ h e (mark_of l e ∙ f) refl
  refused-step (Refused.too_long {l = l} more h e f g) = line_step n marks setup now more true false true h e (mark_of l e ∙ f) g

-- ---- lines that fit

-- the marks with those of more lines
abbrev marked : List SheetLine → List Bool → List Bool
marked [] marks = marks
marked (l ∷ ls) marks = marked ls (set marks l.slot true)

-- lines that fit mark their slots
marks_all : {setup : Setup} {before ls : List SheetLine} {marks : List Bool} → AllFit setup before ls → Marks marks before
    → Marks (marked ls marks) (reverse_aux ls before)
marks_all AllFit.none m = m
marks_all {setup} (AllFit.more {l = l} f a) m = marks_all a (marks_more l (slot_below setup.slots l f.there) m)

-- they are read, and the reading goes on after them
all_step : {setup : Setup} {before ls : List SheetLine} {marks : List Bool} {text : List ℕ} (n k : ℕ) (now : Setup) (rest : List ℕ)
    → Sheet text ls → AllFit setup before ls → Marks marks before → n + length ls ≡ k
    → read_lines n (lines_of (text ++ rest)) marks setup now ≡ read_lines k (lines_of rest) (marked ls marks) setup (with_lines ls now)
unfolding with_lines
all_step {setup} {marks} n k now rest Sheet.none AllFit.none m e = let d : n ≡ k = omega arith in ap (λ (i : ℕ). read_lines i (lines_of rest) marks setup now) d
all_step {setup} {marks} n k now rest (Sheet.more {first} {rest = text} {l} {ls} h s) (AllFit.more f a) m e =
    ap (λ (t : List ℕ). read_lines n (lines_of t) marks setup now) (append_assoc first text rest)
    ∙ fits_step n setup now m (text ++ rest) h f
    ∙ all_step (suc n) k (with_line l now) rest s a (marks_more l (slot_below setup.slots l f.there) m) (omega arith)

-- ---- the same slots named

-- two lists of lines that name the same slots
abbrev pub SameNames : (ls ms : List SheetLine) → Type 0
SameNames ls ms = (slot : ℕ) → named_by ls slot ≡ named_by ms slot

-- lines put in front of others, the last one first
named_turned : (ls before : List SheetLine) (slot : ℕ) → named_by (reverse_aux ls before) slot ≡ (named_by ls slot || named_by before slot)
unfolding named_by
named_turned [] before slot = refl
named_turned (l ∷ ls) before slot = named_turned ls (l ∷ before) slot ∙ among (eqb l.slot slot) (named_by ls slot) (named_by before slot)
  where
    among : (a b c : Bool) → (b || (a || c)) ≡ ((a || b) || c)
    among true b c = or-true b
    among false b c = refl

-- and so the order doesn't matter
turned : (ls : List SheetLine) → SameNames (reverse_aux ls []) ls
unfolding named_by
turned ls slot = named_turned ls [] slot ∙ or-false (named_by ls slot)

-- it only matters which slots are named: for the marks
marks_same : {marks : List Bool} {ls ms : List SheetLine} → SameNames ls ms → Marks marks ls → Marks marks ms
marks_same e m = record { size = m.size; same = λ slot h. m.same slot h ∙ e slot }

-- and for a refusal
refused_same : {setup : Setup} {ls ms : List SheetLine} {rest : List ℕ} {k : ℕ} → SameNames ls ms → Refused setup ls rest k → Refused setup ms rest k
refused_same e (Refused.layout some none) = Refused.layout some none
refused_same e (Refused.no_slot more h t) = Refused.no_slot more h t
refused_same e (Refused.named {l = l} more h t u) = Refused.named more h t (sym (e l.slot) ∙ u)
refused_same e (Refused.too_long {l = l} more h t u v) = Refused.too_long more h t (sym (e l.slot) ∙ u) v

-- ---- every text is one or the other

-- lines that fit are all, or what is refused comes after them
data Cut (setup : Setup) (before : List SheetLine) : List ℕ → Type 0 where
  all : {text : List ℕ} {ls : List SheetLine} → Sheet text ls → AllFit setup before ls → Cut setup before text
  up_to : {start rest : List ℕ} {ls : List SheetLine} {k : ℕ} → Sheet start ls → AllFit setup before ls → Refused setup (reverse_aux ls before) rest k
      → Cut setup before (start ++ rest)

-- one more line that fits
cut_more : {setup : Setup} {before : List SheetLine} {first rest : List ℕ} {l : SheetLine} → Line first l → Fits setup before l → Cut setup (l ∷ before) rest
    → Cut setup before (first ++ rest)
cut_more h f (Cut.all s a) = Cut.all (Sheet.more h s) (AllFit.more f a)
cut_more {setup} {before} {first} h f (Cut.up_to {start} {rest} s a q) =
    subst (Cut setup before) (append_assoc first start rest) (Cut.up_to (Sheet.more h s) (AllFit.more f a) q)

-- a line in front fits, or is refused by the first test that it fails
cut_line : (setup : Setup) (before : List SheetLine) {first : List ℕ} {l : SheetLine} (rest : List ℕ) → Line first l → Cut setup (l ∷ before) rest
    → Cut setup before (first ++ rest)
cut_line setup before {first} {l} rest h c =
    split (is_slot setup.slots l)
    (λ e. split (named_by before l.slot)
    (λ f. Cut.up_to Sheet.none AllFit.none (Refused.named rest h e f))
    (λ f. split (has_too_long l)
    (λ g. Cut.up_to Sheet.none AllFit.none (Refused.too_long rest h e f g))
    (λ g. cut_more h (record { there = e; fresh = f; short = g }) c)))
    (λ e. Cut.up_to Sheet.none AllFit.none (Refused.no_slot rest h e))

-- every text is cut: the rest after a line is shorter
cut_of : (most : ℕ) (setup : Setup) (before : List SheetLine) (s : List ℕ) → length s < most → Cut setup before s
cut_of zero setup before s h = absurd (omega arith)
cut_of (suc most) setup before [] h = Cut.all Sheet.none AllFit.none
cut_of (suc most) setup before (b ∷ s) h =
    split (line_from (b ∷ s)).fits
    (λ e. let f = line_found (b ∷ s) e in
    let shorter : length f.rest < most = omega (arith, line_some f.is, length-append f.first f.rest, ap length f.text) in
    subst (Cut setup before) (sym f.text) (cut_line setup before f.rest f.is (cut_of most setup ((line_from (b ∷ s)).line ∷ before) f.rest shorter)))
    (λ e. Cut.up_to Sheet.none AllFit.none
    (Refused.layout cons≢nil (λ first more l is t. not_both (ap (λ (r : LineRead). r.fits) (ap line_from t ∙ line_read_lem more is)) e)))

-- so every text has an outcome
outcome_of : {setup : Setup} {text : List ℕ} → Cut setup [] text → (r : SheetRead) × Outcome setup text r
outcome_of (Cut.all s a) = (_, Outcome.accepted s a)
outcome_of (Cut.up_to {ls = ls} s a q) = (_, Outcome.refused s a (refused_same (turned ls) q))

-- ---- the theorem

-- each outcome is what is given
sheet_only : {text : List ℕ} {setup : Setup} {r : SheetRead} → Outcome setup text r → sheet_of text setup ≡ r
unfolding sheet_of read_lines lines_of
sheet_only {text} {setup} (Outcome.accepted {ls = ls} s a) =
    ap (λ (t : List ℕ). sheet_of t setup) (sym (append-nil text)) ∙ all_step 0 (length ls) setup [] s a marks_none (omega arith)
sheet_only {setup = setup} (Outcome.refused {front} {rest} {ls} s a q) =
    all_step 0 (length ls) setup rest s a marks_none (omega arith)
    ∙ refused-step (length ls) setup (with_lines ls setup) (marks_same (turned ls) (marks_all a marks_none)) q

pub exactly : Exactly
exactly =
    record {
      given = λ text setup. let o = outcome_of (cut_of (suc (length text)) setup [] text (omega arith)) in
          subst (Outcome setup text) (sym (sheet_only o.1)) o.1;
      only = λ text setup r o. sheet_only o;
    }
