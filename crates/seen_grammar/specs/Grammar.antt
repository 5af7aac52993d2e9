-- The grammar of a file of seen times (02, Q-7: "the lab hands in when, on our clock, the card was first seen to answer there"):
--
--   file    lines; none is fine
--   line    slot SP seen SP unit 0Ah
--   slot    a decimal number of 1 to 10 digits; zeros may stand in front
--   seen    a decimal number of 1 to 16 digits: the bench's clock goes to 10^15 ns, which has 16
--   unit    ns, us or ms, as on a time sheet
--   SP      one space, 20h
use Rattle.std.specs.Prelude.{ℕ, List, [], ◌∷◌, ◌++◌}
use Rattle.times.specs.declared.Unit.{Unit}
use Rattle.sheet_grammar.specs.Layout.{space, line_end, claim}
use Rattle.sheet_grammar.specs.Grammar.{Number, NumberUpTo, UnitName}
use Rattle.seen_grammar.specs.declared.SeenLine.{SeenLine}

-- a seen time has 1 to 16 digits
abbrev pub most_time_digits : ℕ
most_time_digits = 16

-- a line and what it says
pub data Line : List ℕ → SeenLine → Type 0 where
  line : {slot seen unit : List ℕ} {n t : ℕ} {u : Unit} → Number slot n → NumberUpTo most_time_digits seen t → UnitName unit u
      → Line (slot ++ (space ∷ seen ++ (space ∷ unit ++ (line_end ∷ [])))) (record { slot = n; time = claim t u })

-- a file and its lines
pub data File : List ℕ → List SeenLine → Type 0 where
  none : File [] []
  more : {first rest : List ℕ} {l : SeenLine} {ls : List SeenLine} → Line first l → File rest ls → File (first ++ rest) (l ∷ ls)
