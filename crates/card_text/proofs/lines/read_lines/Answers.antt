-- `card_text::lines::read_lines` meets its contract.
use mathlib.Core.Path.{◌≡◌, sym, ap, ◌∙◌}
use mathlib.Core.List.{List, ◌∷◌}
use Prim.Native.Nat.{ℕ, ◌+◌, ◌<◌, ◌≤◌}
use Rattle.std.specs.Prelude.{Result, Ok, Err}
use Rattle.std.proofs.lemmas.Result.{IfErr-at_err}
use Rattle.card_grammar.specs.declared.Reason.{Reason}
use Rattle.card_grammar.specs.declared.Named.{Named}
use native.Mathlib.Omega.{arith}
use lib.ListN.{length, drop}
use borrow.Author.Tests.{le-ltb, lt-ltb}
use Rattle.text_fields.specs.Text.{part, in_line, lines_of, run_end}
use Rattle.text_fields.proofs.Runs.{run_end_most}
use Rattle.card_grammar.specs.SoFar.{refusal}
use Rattle.card_grammar.specs.Grammar.{entered, enter_line, read_lines, named_until}
use Rattle.card_text.proofs.FirstLine.{next_line, lines_at, line_entered, line_refused, lines_end, until_entered, until_refused, until_end}
use Rattle.card_text.proofs.lines.read_lines.Goals as goal

-- a line that is entered: the rest is read on
on : (end at : ℕ) (text : List ℕ) (count : ℕ) → at < length text → end ≡ run_end in_line at text → (named : Named) (after : Named) {r : Result (Unit {0}) Reason} {u : Unit {0}}
    → entered r after ≡ enter_line (part at end text) named → r ≡ Ok u
    → read_lines (count + 1) (lines_of (drop (next_line (run_end in_line at text) (length text)) text)) after ≡ read_lines count (lines_of (drop at text)) named
on end at text count h is named after e f =
    sym
    (ap (λ (ls : List (List ℕ)). read_lines count ls named) (lines_at text at h)
    ∙ line_entered count (part at (run_end in_line at text) text) _ named after (e ∙ ap (λ (k : ℕ). enter_line (part at k text) named) is) f)

-- the same for what is named
until_on : (end at : ℕ) (text : List ℕ) → at < length text → end ≡ run_end in_line at text → (named : Named) (after : Named) {r : Result (Unit {0}) Reason} {u : Unit {0}}
    → entered r after ≡ enter_line (part at end text) named → r ≡ Ok u
    → named_until (lines_of (drop (next_line (run_end in_line at text) (length text)) text)) after ≡ named_until (lines_of (drop at text)) named
until_on end at text h is named after e f =
    sym
    (ap (λ (ls : List (List ℕ)). named_until ls named) (lines_at text at h)
    ∙ until_entered 0 (part at (run_end in_line at text) text) _ named after (e ∙ ap (λ (k : ℕ). enter_line (part at k text) named) is) f)

pub slice_bounds-enter_line-end : goal.slice_bounds-enter_line-end
slice_bounds-enter_line-end c = omega (arith, c.line_end-end.ensures, run_end_most in_line c.loop-at.at c.args.text.now (omega arith))

pub returns-in-Err : goal.returns-in-Err
returns-in-Err c =
    let text : List ℕ = c.args.text.now in
    let l = c.loop-at in
    let end : ℕ = run_end in_line l.at text in
    let line : List ℕ = part l.at end text in
    let others : List (List ℕ) = lines_of (drop (next_line end (length text)) text) in
    let first : lines_of (drop l.at text) ≡ line ∷ others = lines_at text l.at c.loop-at-test.true in
    let entry : entered c.enter_line.result c.enter_line.new.named ≡ enter_line line l.named =
    c.enter_line.ensures.value ∙ ap (λ (k : ℕ). enter_line (part l.at k text) l.named) c.line_end-end.ensures in
    let kept : c.enter_line.new.named ≡ l.named = IfErr-at_err (λ _. c.enter_line.new.named ≡ l.named) c.in-Err.is c.enter_line.ensures.kept in
    record {
      read = ap Err (c.refusal.ensures ∙ ap (refusal (l.count + 1) c.in-Err.reason) kept)
          ∙ sym
          (ap (λ (ls : List (List ℕ)). read_lines l.count ls l.named) first
          ∙ line_refused l.count line others l.named c.enter_line.new.named entry c.in-Err.is)
          ∙ l.invariant.rest;
      so_far = kept
          ∙ sym
          (ap (λ (ls : List (List ℕ)). named_until ls l.named) first
          ∙ until_refused l.count line others l.named c.enter_line.new.named entry c.in-Err.is)
          ∙ l.invariant.so_far;
    }

pub loop-at-preserved-then-end-text : goal.loop-at-preserved-then-end-text
loop-at-preserved-then-end-text c =
    let text : List ℕ = c.args.text.now in
    let l = c.loop-at in
    let end : ℕ = run_end in_line l.at text in
    let more : end < length text = omega (arith, c.line_end-end.ensures) in
    let next : next_line end (length text) ≡ c.line_end-end.result + 1 = simp (lt-ltb end (length text) more) (omega (arith, c.line_end-end.ensures)) in
    record {
      within = omega arith;
      short = omega (arith, c.line_end-end.ensures);
      so_far = rw (← next) (until_on c.line_end-end.result l.at text c.loop-at-test.true c.line_end-end.ensures l.named c.enter_line.new.named c.enter_line.ensures.value c.in_default.is ∙ l.invariant.so_far);
      rest = rw (← next) (on c.line_end-end.result l.at text l.count c.loop-at-test.true c.line_end-end.ensures l.named c.enter_line.new.named c.enter_line.ensures.value c.in_default.is ∙ l.invariant.rest);
    }

pub loop-at-preserved : goal.loop-at-preserved
loop-at-preserved c =
    let text : List ℕ = c.args.text.now in
    let l = c.loop-at in
    let end : ℕ = run_end in_line l.at text in
    let all : length text ≤ end = omega (arith, c.line_end-end.ensures) in
    let most : end ≤ length text = run_end_most in_line l.at text (omega arith) in
    let next : next_line end (length text) ≡ c.line_end-end.result = simp (le-ltb end (length text) all) (omega (arith, c.line_end-end.ensures)) in
    record {
      within = omega (arith, c.line_end-end.ensures);
      short = omega (arith, c.line_end-end.ensures);
      so_far = rw (← next) (until_on c.line_end-end.result l.at text c.loop-at-test.true c.line_end-end.ensures l.named c.enter_line.new.named c.enter_line.ensures.value c.in_default.is ∙ l.invariant.so_far);
      rest = rw (← next) (on c.line_end-end.result l.at text l.count c.loop-at-test.true c.line_end-end.ensures l.named c.enter_line.new.named c.enter_line.ensures.value c.in_default.is ∙ l.invariant.rest);
    }

pub returns : goal.returns
returns c =
    record {
      read = sym (lines_end c.loop-at.count c.args.text.now c.loop-at.named c.loop-at.at c.loop-at-test.false) ∙ c.loop-at.invariant.rest;
      so_far = sym (until_end c.args.text.now c.loop-at.named c.loop-at.at c.loop-at-test.false) ∙ c.loop-at.invariant.so_far;
    }
