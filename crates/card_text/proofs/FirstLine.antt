-- A text read line by line.
use mathlib.Core.Path.{◌≡◌, refl, sym, ap, ap₂, ◌∙◌}
use mathlib.Core.Bool.{Bool, true, false, cond}
use mathlib.Core.List.{List, [], ◌∷◌}
use Prim.Native.Nat.{ℕ, suc, ◌+◌, ◌-◌, ◌≤◌, ◌<◌}
use native.Mathlib.Numerals.{add-one}
use native.Mathlib.Omega.{arith}
use lib.Dec.{ltb}
use lib.ListN.{length, get_or, take, drop, drop_of_length-le}
use lib.Seq.{drop-cons, drop-drop}
use borrow.Author.Tests.{ltb-true, ltb-false}
use Rattle.std.specs.Prelude.{Result, Ok, Err}
use Rattle.text_fields.specs.Text.{part, in_line, onto, lines_of, run, run_end}
use Rattle.card_grammar.specs.declared.Reason.{Reason}
use Rattle.card_grammar.specs.declared.Named.{Named}
use Rattle.card_grammar.specs.declared.CardError.{CardError}
use Rattle.card_grammar.specs.SoFar.{refusal}
use Rattle.card_grammar.specs.Grammar.{and_then, entered, enter_line, Told, at_line, read_lines, go_on, named_until}

-- ---- the first line, and the lines after it

by_case : (b : ℕ) (t : List ℕ) (x : Bool)
    → onto b (lines_of t) ≡ (b ∷ take (run in_line t) t) ∷ lines_of (drop (suc (run in_line t)) t)
    → cond x (onto b (lines_of t)) ([] ∷ lines_of t)
    ≡ take (cond x (suc (run in_line t)) 0) (b ∷ t) ∷ lines_of (drop (suc (cond x (suc (run in_line t)) 0)) (b ∷ t))
by_case b t true h = h
by_case b t false h = refl

joined : (b : ℕ) (t : List ℕ) → onto b (lines_of t) ≡ (b ∷ take (run in_line t) t) ∷ lines_of (drop (suc (run in_line t)) t)
unfolding lines_of run
joined b [] = refl
joined b (x ∷ t) = ap (onto b) (by_case x t (in_line x) (joined x t))

first_line : (b : ℕ) (t : List ℕ) → lines_of (b ∷ t) ≡ take (run in_line (b ∷ t)) (b ∷ t) ∷ lines_of (drop (suc (run in_line (b ∷ t))) (b ∷ t))
unfolding lines_of run
first_line b t = by_case b t (in_line b) (joined b t)

-- where the lines that are left begin, within the text
abbrev pub next_line : (end length : ℕ) → ℕ
next_line end length = cond (ltb end length) (end + 1) length

either_drop : (text : List ℕ) (end : ℕ) (x : Bool) → ltb end (length text) ≡ x → drop (cond x (end + 1) (length text)) text ≡ drop (suc end) text
either_drop text end true e = rw add-one refl
either_drop text end false e =
    let past : length text ≤ end = ltb-false end (length text) e in
    drop_of_length-le text {i = length text} (omega arith) ∙ sym (drop_of_length-le text {i = suc end} (omega arith))

either_most : (at end n : ℕ) (x : Bool) → ltb end n ≡ x → at ≤ end → at < n → (at < cond x (end + 1) n) × (cond x (end + 1) n ≤ n)
either_most at end n true e h l = let k : end < n = ltb-true end n e in (omega arith, omega arith)
either_most at end n false e h l = (omega arith, omega arith)

module _ (text : List ℕ) (at : ℕ) (h : at < length text) where
  pub lines_at : lines_of (drop at text)
      ≡ part at (run_end in_line at text) text ∷ lines_of (drop (next_line (run_end in_line at text) (length text)) text)
  lines_at =
      let s : List ℕ = drop at text in
      let r : ℕ = run in_line s in
      let c : s ≡ get_or text at 0 ∷ drop (suc at) text = drop-cons text at 0 h in
      let all : lines_of s ≡ take r s ∷ lines_of (drop (suc r) s) =
      ap lines_of c ∙ first_line (get_or text at 0) (drop (suc at) text)
      ∙ sym (ap (λ (l : List ℕ). take (run in_line l) l ∷ lines_of (drop (suc (run in_line l)) l)) c) in
      let n : r ≡ (at + r) - at = omega arith in
      let m : at + suc r ≡ suc (at + r) = omega arith in
      all
      ∙ ap₂ (λ (k : ℕ) (l : List ℕ). take k s ∷ lines_of l) n
      (drop-drop (suc r) at text ∙ ap (λ (k : ℕ). drop k text) m ∙ sym (either_drop text (at + r) (ltb (at + r) (length text)) refl))

  pub next_more : at < next_line (run_end in_line at text) (length text)
  next_more = (either_most at (run_end in_line at text) (length text) (ltb (run_end in_line at text) (length text)) refl (omega arith) h).0

  pub next_most : next_line (run_end in_line at text) (length text) ≤ length text
  next_most = (either_most at (run_end in_line at text) (length text) (ltb (run_end in_line at text) (length text)) refl (omega arith) h).1

-- ---- one line of several

module _ (n : ℕ) (line : List ℕ) (lines : List (List ℕ)) (named : Named) where
  step : Result Named Reason → Result Told CardError
  step r = and_then (at_line (suc n) named r) (λ (after : Named). read_lines (suc n) lines after)

  -- a line that is entered
  pub line_entered : {r : Result (Unit {0}) Reason} {u : Unit {0}} (after : Named) → entered r after ≡ enter_line line named → r ≡ Ok u
      → read_lines n (line ∷ lines) named ≡ read_lines (n + 1) lines after
  unfolding read_lines step
  line_entered after e f = rw add-one (ap step (sym e) ∙ ap (λ (r : Result (Unit {0}) Reason). step (entered r after)) f)

  -- one that is refused
  pub line_refused : {r : Result (Unit {0}) Reason} {why : Reason} (after : Named) → entered r after ≡ enter_line line named → r ≡ Err why
      → read_lines n (line ∷ lines) named ≡ Err (refusal (n + 1) why named)
  unfolding read_lines step
  line_refused after e f = rw add-one (ap step (sym e) ∙ ap (λ (r : Result (Unit {0}) Reason). step (entered r after)) f)

  onward : Result Named Reason → Named
  onward r = go_on r named (named_until lines)

  -- what is named after a line that is entered, and after one that is refused
  pub until_entered : {r : Result (Unit {0}) Reason} {u : Unit {0}} (after : Named) → entered r after ≡ enter_line line named → r ≡ Ok u
      → named_until (line ∷ lines) named ≡ named_until lines after
  unfolding named_until onward
  until_entered after e f = ap onward (sym e) ∙ ap (λ (r : Result (Unit {0}) Reason). onward (entered r after)) f

  pub until_refused : {r : Result (Unit {0}) Reason} {why : Reason} (after : Named) → entered r after ≡ enter_line line named → r ≡ Err why
      → named_until (line ∷ lines) named ≡ named
  unfolding named_until onward
  until_refused after e f = ap onward (sym e) ∙ ap (λ (r : Result (Unit {0}) Reason). onward (entered r after)) f

-- no line is left
pub lines_end : (n : ℕ) (text : List ℕ) (named : Named) (at : ℕ) → length text ≤ at
    → read_lines n (lines_of (drop at text)) named ≡ Ok (record { lines = n; named = named })
unfolding read_lines lines_of
lines_end n text named at h = ap (λ (l : List ℕ). read_lines n (lines_of l) named) (drop_of_length-le text h)

pub until_end : (text : List ℕ) (named : Named) (at : ℕ) → length text ≤ at → named_until (lines_of (drop at text)) named ≡ named
unfolding named_until lines_of
until_end text named at h = ap (λ (l : List ℕ). named_until (lines_of l) named) (drop_of_length-le text h)
