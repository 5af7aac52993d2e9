-- What a sheet gives, exactly: which texts are accepted, which line is refused and by which number, and the set-up that results.
use Rattle.std.specs.Prelude.{ℕ, suc, ◌≡◌, Bool, true, false, ◌||◌, List, [], ◌∷◌, ◌++◌, eqb, length}
use Rattle.readiness.specs.declared.Setup.{Setup}
use Rattle.sheet_grammar.specs.declared.SheetLine.{SheetLine}
use Rattle.sheet_grammar.specs.declared.SheetRead.{SheetRead}
use Rattle.sheet_grammar.specs.Grammar.{Line, Sheet}
use Rattle.sheet_grammar.specs.Reading.{is_slot, has_too_long, with_line, gives, sheet_of}

-- a slot is named by one of these lines
unfoldable pub named_by : List SheetLine → ℕ → Bool
named_by [] slot = false
named_by (l ∷ ls) slot = eqb l.slot slot || named_by ls slot

-- a line that isn't refused, after others: the slot is there, not named before, and no time too long
pub record Fits (setup : Setup) (before : List SheetLine) (l : SheetLine) : Type 0 where
  pub there : is_slot setup.slots l ≡ true
  pub fresh : named_by before l.slot ≡ false
  pub short : has_too_long l ≡ false

-- lines each of which isn't refused, after others
pub data AllFit (setup : Setup) : (before ls : List SheetLine) → Type 0 where
  none : {before : List SheetLine} → AllFit setup before []
  more : {before ls : List SheetLine} {l : SheetLine} → Fits setup before l → AllFit setup (l ∷ before) ls → AllFit setup before (l ∷ ls)

-- the set-up with the codes of all lines
unfoldable pub with_lines : List SheetLine → Setup → Setup
with_lines [] setup = setup
with_lines (l ∷ ls) setup = with_lines ls (with_line l setup)

-- what stands after lines that fit is refused with a number
pub data Refused (setup : Setup) (before : List SheetLine) : (rest : List ℕ) → ℕ → Type 0 where
  -- something stands there, and no line of the grammar
  layout : {rest : List ℕ} → (rest ≡ [] → ⊥) → ((first more : List ℕ) (l : SheetLine) → Line first l → rest ≡ first ++ more → ⊥) → Refused setup before rest 40
  -- a line for a slot that isn't there
  no_slot : {first : List ℕ} {l : SheetLine} (more : List ℕ) → Line first l → is_slot setup.slots l ≡ false → Refused setup before (first ++ more) 41
  -- a line for a slot that is there and was named before
  named : {first : List ℕ} {l : SheetLine} (more : List ℕ) → Line first l → is_slot setup.slots l ≡ true → named_by before l.slot ≡ true → Refused setup before (first ++ more) 42
  -- a line for another slot, with a time too long
  too_long : {first : List ℕ} {l : SheetLine} (more : List ℕ) → Line first l → is_slot setup.slots l ≡ true → named_by before l.slot ≡ false → has_too_long l ≡ true → Refused setup before (first ++ more) 43

-- what a text gives on a set-up
pub data Outcome (setup : Setup) : List ℕ → SheetRead → Type 0 where
  -- in the grammar, all lines fit: 0, and the set-up with the codes of its lines
  accepted : {text : List ℕ} {ls : List SheetLine} → Sheet text ls → AllFit setup [] ls → Outcome setup text (gives 0 0 (with_lines ls setup))
  -- lines that fit, then one that is refused: its number, its line, and the set-up as it was
  refused : {front rest : List ℕ} {ls : List SheetLine} {n : ℕ} → Sheet front ls → AllFit setup [] ls → Refused setup ls rest n
      → Outcome setup (front ++ rest) (gives n (suc (length ls)) setup)

-- a sheet gives what its text says, and nothing else
pub record Exactly : Type 0 where
  pub given : (text : List ℕ) (setup : Setup) → Outcome setup text (sheet_of text setup)
  pub only : (text : List ℕ) (setup : Setup) (r : SheetRead) → Outcome setup text r → sheet_of text setup ≡ r
