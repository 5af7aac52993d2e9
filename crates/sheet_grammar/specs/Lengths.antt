-- How long sheets are: an accepted one is short, and what decides stands in front.
use Rattle.std.specs.Prelude.{ℕ, ◌≤◌, ◌≡◌, List, [], length, take}
use Rattle.readiness.specs.declared.Setup.{Setup}
use Rattle.sheet_grammar.specs.declared.SheetLine.{SheetLine}
use Rattle.sheet_grammar.specs.Grammar.{Line, Sheet}
use Rattle.sheet_grammar.specs.Reading.{sheet_of}
use Rattle.sheet_grammar.specs.Exactly.{AllFit}

pub record Lengths : Type 0 where
  -- a line has at most 58 bytes
  pub line : (first : List ℕ) (l : SheetLine) → Line first l → length first ≤ 58
  -- an accepted sheet has at most 32 lines, and so 1,856 bytes
  pub lines : (text : List ℕ) (ls : List SheetLine) (setup : Setup) → Sheet text ls → AllFit setup [] ls → length ls ≤ 32
  pub bytes : (text : List ℕ) (ls : List SheetLine) (setup : Setup) → Sheet text ls → AllFit setup [] ls → length text ≤ 1856
  -- bytes beyond the first 1,914 change nothing: number, line and set-up are decided before
  pub front : (n : ℕ) (text : List ℕ) (setup : Setup) → 1914 ≤ n → sheet_of (take n text) setup ≡ sheet_of text setup
