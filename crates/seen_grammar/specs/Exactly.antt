-- What a file of seen times gives, exactly: which texts are accepted, which line is refused and why, and the times that result.
use Rattle.std.specs.Prelude.{ℕ, suc, ◌≡◌, Bool, true, false, ◌||◌, List, [], ◌∷◌, ◌++◌, eqb, length}
use Rattle.readiness.specs.declared.Moments.{Moments}
use Rattle.readiness.specs.MadeReady.{no_moments}
use Rattle.seen_grammar.specs.declared.SeenLine.{SeenLine}
use Rattle.seen_grammar.specs.declared.SeenRefusal.{SeenRefusal}
use Rattle.seen_grammar.specs.declared.SeenRefusal.TheVariants.{Layout, NoSlot, NamedBefore, TooLong}
use Rattle.seen_grammar.specs.declared.SeenRead.{SeenRead}
use Rattle.seen_grammar.specs.Grammar.{Line, File}
use Rattle.seen_grammar.specs.Reading.{is_slot, is_too_long, with_time, accepts, refuses, seen_of}

-- a slot is named by one of these lines
unfoldable pub named_by : List SeenLine → ℕ → Bool
named_by [] slot = false
named_by (l ∷ ls) slot = eqb l.slot slot || named_by ls slot

-- a line that isn't refused, after others: the slot is there, not named before, and the time not too long
pub record Fits (slots : ℕ) (before : List SeenLine) (l : SeenLine) : Type 0 where
  pub there : is_slot slots l.slot ≡ true
  pub fresh : named_by before l.slot ≡ false
  pub short : is_too_long l.time ≡ false

-- lines each of which isn't refused, after others
pub data AllFit (slots : ℕ) : (before ls : List SeenLine) → Type 0 where
  none : {before : List SeenLine} → AllFit slots before []
  more : {before ls : List SeenLine} {l : SeenLine} → Fits slots before l → AllFit slots (l ∷ before) ls → AllFit slots before (l ∷ ls)

-- the times of all lines
unfoldable pub with_times : List SeenLine → Moments → Moments
with_times [] m = m
with_times (l ∷ ls) m = with_times ls (with_time l m)

-- what stands after lines that fit is refused
pub data Refused (slots : ℕ) (before : List SeenLine) : (rest : List ℕ) → SeenRefusal → Type 0 where
  -- something stands there, and no line of the grammar
  layout : {rest : List ℕ} → (rest ≡ [] → ⊥) → ((first more : List ℕ) (l : SeenLine) → Line first l → rest ≡ first ++ more → ⊥) → Refused slots before rest Layout
  -- a line for a slot that isn't there
  no_slot : {first : List ℕ} {l : SeenLine} (more : List ℕ) → Line first l → is_slot slots l.slot ≡ false → Refused slots before (first ++ more) NoSlot
  -- a line for a slot that is there and was named before
  named : {first : List ℕ} {l : SeenLine} (more : List ℕ) → Line first l → is_slot slots l.slot ≡ true → named_by before l.slot ≡ true
      → Refused slots before (first ++ more) NamedBefore
  -- a line for another slot, with a time too long
  too_long : {first : List ℕ} {l : SeenLine} (more : List ℕ) → Line first l → is_slot slots l.slot ≡ true → named_by before l.slot ≡ false
      → is_too_long l.time ≡ true → Refused slots before (first ++ more) TooLong

-- what a text gives
pub data Outcome (slots : ℕ) : List ℕ → SeenRead → Type 0 where
  -- in the grammar, all lines fit: the times of its lines
  accepted : {text : List ℕ} {ls : List SeenLine} → File text ls → AllFit slots [] ls → Outcome slots text (accepts (with_times ls no_moments))
  -- lines that fit, then one that is refused: why, and its line
  refused : {front rest : List ℕ} {ls : List SeenLine} {why : SeenRefusal} → File front ls → AllFit slots [] ls → Refused slots ls rest why
      → Outcome slots (front ++ rest) (refuses why (suc (length ls)))

-- a file gives what its text says, and nothing else
pub record Exactly : Type 0 where
  pub given : (text : List ℕ) (slots : ℕ) → Outcome slots text (seen_of text slots)
  pub only : (text : List ℕ) (slots : ℕ) (r : SeenRead) → Outcome slots text r → seen_of text slots ≡ r
