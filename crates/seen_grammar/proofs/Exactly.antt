-- A file of seen times gives what its text says, and nothing else.
use Prim.Native.Nat.{ℕ, zero, suc, ◌+◌, ◌<◌}
use mathlib.Core.Path.{◌≡◌, refl, sym, ap, subst, ◌∙◌}
use mathlib.Core.Bool.{Bool, true, false, ◌||◌, not, cond, or-true, or-false}
use mathlib.Core.List.{List, [], ◌∷◌, ◌++◌, append-nil, append_assoc, reverse_aux, cons≢nil}
use native.Mathlib.Omega.{arith}
use lib.Dec.{eqb, ltb}
use lib.ListN.{length, get_or, set, replicate, length-append, length-set, length-replicate}
use lib.Seq.{get_or-set_same, get_or-set_other}
use borrow.Author.Tests.{eqb-true, eqb-false, ltb-true}
use Rattle.bits.proofs.Tests.{split, both_right}
use Rattle.bits.proofs.Lists.{get_or_same}
use Rattle.readiness.specs.declared.Moments.{Moments}
use Rattle.readiness.specs.MadeReady.{no_moments}
use Rattle.sheet_grammar.specs.Reading.{lines_of}
use Rattle.sheet_grammar.proofs.Lines.{cut-first}
use Rattle.seen_grammar.specs.declared.SeenLine.{SeenLine}
use Rattle.seen_grammar.specs.declared.NoLine.{NoLine}
use Rattle.std.specs.Prelude.{Result, Ok, Err}
use Rattle.seen_grammar.specs.declared.SeenRefusal.{SeenRefusal}
use Rattle.seen_grammar.specs.declared.SeenRefusal.TheVariants.{Layout, NoSlot, NamedBefore, TooLong}
use Rattle.seen_grammar.specs.declared.SeenRead.{SeenRead}
use Rattle.seen_grammar.specs.Grammar.{Line, File}
use Rattle.seen_grammar.specs.Reading.{line_of, is_slot, is_too_long, refusal_of, with_time, refuses, read_on, read_lines, seen_of}
use Rattle.seen_grammar.specs.Exactly.{named_by, Fits, AllFit, with_times, Refused, Outcome, Exactly}
use Rattle.seen_grammar.proofs.Lines.{line_read, line_found, line_some, lines_first}

-- ---- the slots named so far

-- the marks of the slots that these lines name
record Marks (marks : List Bool) (before : List SeenLine) : Type 0 where
  size : length marks ≡ 32
  same : (slot : ℕ) → slot < 32 → get_or marks slot false ≡ named_by before slot

-- none at first
marks_none : Marks (replicate 32 false) []
unfolding named_by
marks_none = record { size = length-replicate 32 false; same = λ slot h. get_or_same 32 slot false }

-- a slot that is there is one of 32
pub slot_below : (slots : ℕ) (l : SeenLine) → is_slot slots l.slot ≡ true → l.slot < 32
unfolding is_slot
slot_below slots l e = ltb-true l.slot 32 (both_right (ltb l.slot slots) (ltb l.slot 32) e)

-- one line more marks its slot
marks_more : {marks : List Bool} {before : List SeenLine} (l : SeenLine) → l.slot < 32 → Marks marks before → Marks (set marks l.slot true) (l ∷ before)
unfolding named_by
marks_more {marks} {before} l h m =
    record {
      size = length-set marks l.slot true ∙ m.size;
      same = λ slot k. split (eqb l.slot slot)
          (λ e. let d : l.slot ≡ slot = eqb-true l.slot slot e in
          ap (λ (i : ℕ). get_or (set marks l.slot true) i false) (sym d)
          ∙ get_or-set_same marks l.slot true false (omega (arith, m.size))
          ∙ sym (ap (λ (t : Bool). t || named_by before slot) e))
          (λ e. get_or-set_other marks l.slot slot true false (λ d. eqb-false l.slot slot e (sym d))
          ∙ m.same slot k
          ∙ sym (ap (λ (t : Bool). t || named_by before slot) e));
    }

-- ---- one line

-- bytes are read as a line, or as none
err_or_ok : {A E P : Type 0} (r : Result A E) → ((e : E) → r ≡ Err e → P) → ((a : A) → r ≡ Ok a → P) → P
err_or_ok (Err e) f g = f e refl
err_or_ok (Ok a) f g = g a refl

not_both : {P : Type 0} (x : NoLine) (l : SeenLine) → Err x ≡ Ok l → P
not_both x l e = cc

module _ (slots n : ℕ) (marks : List Bool) (now : Moments) where
  -- the reading after a line: it goes on with other lines, or stops
  abbrev onward : List (List ℕ) → Result SeenLine SeenRefusal → SeenRead
  onward others r = read_on n r (λ (l : SeenLine). read_lines slots (suc n) others (set marks l.slot true) (with_time l now))

  -- a line of the grammar is refused or not by three tests in turn
  line_step : {first : List ℕ} {l : SeenLine} (rest : List ℕ) (t u v : Bool) → Line first l
      → is_slot slots l.slot ≡ t → get_or marks l.slot false ≡ u → is_too_long l.time ≡ v
      → read_lines slots n (lines_of (first ++ rest)) marks now
      ≡ onward (lines_of rest) (cond (not t) (Err NoSlot) (cond u (Err NamedBefore) (cond v (Err TooLong) (Ok l))))
  unfolding read_lines refusal_of
  line_step {first} {l} rest t u v h d e f =
      ap (λ (lines : List (List ℕ)). read_lines slots n lines marks now) (lines_first rest h)
      ∙ ap (λ (o : Result SeenLine NoLine). onward (lines_of rest) (refusal_of slots marks o)) (line_read h)
      ∙ λ i. onward (lines_of rest) (cond (not (d i)) (Err NoSlot) (cond (e i) (Err NamedBefore) (cond (f i) (Err TooLong) (Ok l))))

  -- bytes that are no line of the grammar
  bad_step : (line : List ℕ) (lines : List (List ℕ)) (x : NoLine) → line_of line ≡ Err x → read_lines slots n (line ∷ lines) marks now ≡ refuses Layout (suc n)
  unfolding read_lines refusal_of
  bad_step line lines x e = ap (λ (o : Result SeenLine NoLine). onward lines (refusal_of slots marks o)) e

  -- a text that isn't empty and starts with no line of the grammar
  none_step : (s : List ℕ) → (s ≡ [] → ⊥) → ((first more : List ℕ) (l : SeenLine) → Line first l → s ≡ first ++ more → ⊥)
      → read_lines slots n (lines_of s) marks now ≡ refuses Layout (suc n)
  none_step [] some none = absurd (some refl)
  none_step (b ∷ s) some none =
      let c = cut-first b s in
      ap (λ (lines : List (List ℕ)). read_lines slots n lines marks now) c.cut
      ∙ err_or_ok (line_of c.line) (λ x e. bad_step c.line (lines_of c.rest) x e) (λ l e. absurd (none c.line c.rest l (line_found c.line l e) c.text))

module _ {marks : List Bool} {before : List SeenLine} (slots n : ℕ) (now : Moments) (m : Marks marks before) where
  -- the mark of a slot that is there
  mark_of : (l : SeenLine) → is_slot slots l.slot ≡ true → get_or marks l.slot false ≡ named_by before l.slot
  mark_of l e = m.same l.slot (slot_below slots l e)

  -- after a line that fits the reading goes on
  fits_step : {first : List ℕ} {l : SeenLine} (rest : List ℕ) → Line first l → Fits slots before l
      → read_lines slots n (lines_of (first ++ rest)) marks now ≡ read_lines slots (suc n) (lines_of rest) (set marks l.slot true) (with_time l now)
  fits_step {l = l} rest h f = line_step slots n marks now rest true false false h f.there (mark_of l f.there ∙ f.fresh) f.short

  -- what is refused gives why, and its line
  refused-step : {rest : List ℕ} {why : SeenRefusal} → Refused slots before rest why → read_lines slots n (lines_of rest) marks now ≡ refuses why (suc n)
  refused-step (Refused.layout {rest} some none) = none_step slots n marks now rest some none
  refused-step (Refused.no_slot more h e) = line_step slots n marks now more false _ _ h e refl refl
  refused-step (Refused.named {l = l} more h e f) = line_step slots n marks now more true true _ h e (mark_of l e ∙ f) refl
  refused-step (Refused.too_long {l = l} more h e f g) = line_step slots n marks now more true false true h e (mark_of l e ∙ f) g

-- ---- lines that fit

-- the marks with those of more lines
abbrev marked : List SeenLine → List Bool → List Bool
marked [] marks = marks
marked (l ∷ ls) marks = marked ls (set marks l.slot true)

-- lines that fit mark their slots
marks_all : {slots : ℕ} {before ls : List SeenLine} {marks : List Bool} → AllFit slots before ls → Marks marks before
    → Marks (marked ls marks) (reverse_aux ls before)
marks_all AllFit.none m = m
marks_all {slots} (AllFit.more {l = l} f a) m = marks_all a (marks_more l (slot_below slots l f.there) m)

-- they are read, and the reading goes on after them
all_step : {slots : ℕ} {before ls : List SeenLine} {marks : List Bool} {text : List ℕ} (n k : ℕ) (now : Moments) (rest : List ℕ)
    → File text ls → AllFit slots before ls → Marks marks before → n + length ls ≡ k
    → read_lines slots n (lines_of (text ++ rest)) marks now ≡ read_lines slots k (lines_of rest) (marked ls marks) (with_times ls now)
unfolding with_times
all_step {slots} {marks} n k now rest File.none AllFit.none m e = let d : n ≡ k = omega arith in ap (λ (i : ℕ). read_lines slots i (lines_of rest) marks now) d
all_step {slots} {marks} n k now rest (File.more {first} {rest = text} {l} {ls} h s) (AllFit.more f a) m e =
    ap (λ (t : List ℕ). read_lines slots n (lines_of t) marks now) (append_assoc first text rest)
    ∙ fits_step slots n now m (text ++ rest) h f
    ∙ all_step (suc n) k (with_time l now) rest s a (marks_more l (slot_below slots l f.there) m) (omega arith)

-- ---- the same slots named

-- two lists of lines that name the same slots
abbrev pub SameNames : (ls ms : List SeenLine) → Type 0
SameNames ls ms = (slot : ℕ) → named_by ls slot ≡ named_by ms slot

-- lines put in front of others, the last one first
named_turned : (ls before : List SeenLine) (slot : ℕ) → named_by (reverse_aux ls before) slot ≡ (named_by ls slot || named_by before slot)
unfolding named_by
named_turned [] before slot = refl
named_turned (l ∷ ls) before slot = named_turned ls (l ∷ before) slot ∙ among (eqb l.slot slot) (named_by ls slot) (named_by before slot)
  where
    among : (a b c : Bool) → (b || (a || c)) ≡ ((a || b) || c)
    among true b c = or-true b
    among false b c = refl

-- and so the order doesn't matter
turned : (ls : List SeenLine) → SameNames (reverse_aux ls []) ls
unfolding named_by
turned ls slot = named_turned ls [] slot ∙ or-false (named_by ls slot)

-- it only matters which slots are named: for the marks
marks_same : {marks : List Bool} {ls ms : List SeenLine} → SameNames ls ms → Marks marks ls → Marks marks ms
marks_same e m = record { size = m.size; same = λ slot h. m.same slot h ∙ e slot }

-- and for a refusal
refused_same : {slots : ℕ} {ls ms : List SeenLine} {rest : List ℕ} {k : SeenRefusal} → SameNames ls ms → Refused slots ls rest k → Refused slots ms rest k
refused_same e (Refused.layout some none) = Refused.layout some none
refused_same e (Refused.no_slot more h t) = Refused.no_slot more h t
refused_same e (Refused.named {l = l} more h t u) = Refused.named more h t (sym (e l.slot) ∙ u)
refused_same e (Refused.too_long {l = l} more h t u v) = Refused.too_long more h t (sym (e l.slot) ∙ u) v

-- ---- every text is one or the other

-- lines that fit are all, or what is refused comes after them
data Parts (slots : ℕ) (before : List SeenLine) : List ℕ → Type 0 where
  all : {text : List ℕ} {ls : List SeenLine} → File text ls → AllFit slots before ls → Parts slots before text
  up_to : {start rest : List ℕ} {ls : List SeenLine} {k : SeenRefusal} → File start ls → AllFit slots before ls → Refused slots (reverse_aux ls before) rest k
      → Parts slots before (start ++ rest)

-- one more line that fits
part_more : {slots : ℕ} {before : List SeenLine} {first rest : List ℕ} {l : SeenLine} → Line first l → Fits slots before l → Parts slots (l ∷ before) rest
    → Parts slots before (first ++ rest)
part_more h f (Parts.all s a) = Parts.all (File.more h s) (AllFit.more f a)
part_more {slots} {before} {first} h f (Parts.up_to {start} {rest} s a q) =
    subst (Parts slots before) (append_assoc first start rest) (Parts.up_to (File.more h s) (AllFit.more f a) q)

-- a line in front fits, or is refused by the first test that it fails
part_line : (slots : ℕ) (before : List SeenLine) {first : List ℕ} {l : SeenLine} (rest : List ℕ) → Line first l → Parts slots (l ∷ before) rest
    → Parts slots before (first ++ rest)
part_line slots before {first} {l} rest h c =
    split (is_slot slots l.slot)
    (λ e. split (named_by before l.slot)
    (λ f. Parts.up_to File.none AllFit.none (Refused.named rest h e f))
    (λ f. split (is_too_long l.time)
    (λ g. Parts.up_to File.none AllFit.none (Refused.too_long rest h e f g))
    (λ g. part_more h (record { there = e; fresh = f; short = g }) c)))
    (λ e. Parts.up_to File.none AllFit.none (Refused.no_slot rest h e))

-- the first of the lines of a text
abbrev first_line : List (List ℕ) → List ℕ
first_line [] = []
first_line (l ∷ ls) = l

-- every text has its parts: the rest after a line is shorter
parts_of : (most : ℕ) (slots : ℕ) (before : List SeenLine) (s : List ℕ) → length s < most → Parts slots before s
parts_of zero slots before s h = absurd (omega arith)
parts_of (suc most) slots before [] h = Parts.all File.none AllFit.none
parts_of (suc most) slots before (b ∷ s) h =
    let c = cut-first b s in
    err_or_ok (line_of c.line)
    (λ x e. Parts.up_to File.none AllFit.none
    (Refused.layout cons≢nil (λ first more l is t.
    let same : c.line ≡ first = ap first_line (sym c.cut ∙ ap lines_of t ∙ lines_first more is) in
    not_both x l (sym e ∙ ap line_of same ∙ line_read is))))
    (λ l e. let is = line_found c.line l e in
    let shorter : length c.rest < most = omega (arith, line_some is, length-append c.line c.rest, ap length c.text) in
    subst (Parts slots before) (sym c.text) (part_line slots before c.rest is (parts_of most slots (l ∷ before) c.rest shorter)))

-- so every text has an outcome
outcome_of : {slots : ℕ} {text : List ℕ} → Parts slots [] text → (r : SeenRead) × Outcome slots text r
outcome_of (Parts.all s a) = (_, Outcome.accepted s a)
outcome_of (Parts.up_to {ls = ls} s a q) = (_, Outcome.refused s a (refused_same (turned ls) q))

-- ---- the theorem

-- each outcome is what is given
file_only : {text : List ℕ} {slots : ℕ} {r : SeenRead} → Outcome slots text r → seen_of text slots ≡ r
unfolding seen_of read_lines lines_of
file_only {text} {slots} (Outcome.accepted {ls = ls} s a) =
    ap (λ (t : List ℕ). seen_of t slots) (sym (append-nil text)) ∙ all_step 0 (length ls) no_moments [] s a marks_none (omega arith)
file_only {slots = slots} (Outcome.refused {front} {rest} {ls} s a q) =
    all_step 0 (length ls) no_moments rest s a marks_none (omega arith)
    ∙ refused-step slots (length ls) (with_times ls no_moments) (marks_same (turned ls) (marks_all a marks_none)) q

pub exactly : Exactly
exactly =
    record {
      given = λ text slots. let o = outcome_of (parts_of (suc (length text)) slots [] text (omega arith)) in
          subst (Outcome slots text) (sym (file_only o.1)) o.1;
      only = λ text slots r o. file_only o;
    }
