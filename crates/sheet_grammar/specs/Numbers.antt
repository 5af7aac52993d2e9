-- The numbers that a sheet gives: 0 where it is accepted, else 40 to 43, and then nothing changes.
use Rattle.std.specs.Prelude.{ℕ, ◌≡◌, true, ◌↔◌, List, []}
use Rattle.times.specs.declared.ClaimedTime.{ClaimedTime}
use Rattle.times.specs.Claims.{claimed_nanos}
use Rattle.times.specs.Encoder.{encoded}
use Rattle.readiness.specs.declared.Setup.{Setup}
use Rattle.sheet_grammar.specs.declared.SheetLine.{SheetLine}
use Rattle.sheet_grammar.specs.Grammar.{Sheet}
use Rattle.sheet_grammar.specs.Reading.{is_too_long, code_number, sheet_of}
use Rattle.sheet_grammar.specs.Exactly.{AllFit}

-- a text in the grammar, none of whose lines is refused
pub record Acceptable (text : List ℕ) (setup : Setup) : Type 0 where
  pub lines : List SheetLine
  pub sheet : Sheet text lines
  pub fit : AllFit setup [] lines

-- 0, and the four refusals
pub data SheetNumber : ℕ → Type 0 where
  accepted : SheetNumber 0
  layout : SheetNumber 40
  no_slot : SheetNumber 41
  named : SheetNumber 42
  too_long : SheetNumber 43

pub record Numbers : Type 0 where
  -- the number is 0 exactly if the text is in the grammar and all its lines fit
  pub zero : (text : List ℕ) (setup : Setup) → ((sheet_of text setup).number ≡ 0) ↔ Acceptable text setup
  -- any other number leaves the set-up as it was
  pub keeps : (text : List ℕ) (setup : Setup) → ((sheet_of text setup).number ≡ 0 → ⊥) → (sheet_of text setup).setup ≡ setup
  -- a time is above 1,006,632,960 ns exactly if there is no code for it
  pub no_code : (c : ClaimedTime) → (is_too_long c ≡ true) ↔ (code_number (encoded (claimed_nanos c)) ≡ 43)
  -- and no number is given but 0 and 40 to 43
  pub one_of : (text : List ℕ) (setup : Setup) → SheetNumber (sheet_of text setup).number
