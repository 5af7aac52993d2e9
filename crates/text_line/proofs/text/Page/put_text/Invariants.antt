-- `text_line::text::Page::put_text` meets its contract: what was looked at was put.
use mathlib.Core.Path.{◌≡◌}
use lib.ListN.{take}
use Rattle.text_line.specs.Line.{lined, puts}
use Rattle.text_line.proofs.text.Page.put_text.Given as goal

abbrev pub invariant-loop-b : goal.invariant-loop-b
invariant-loop-b l = lined l.at l.line ≡ puts (take l.b-index l.text) (lined l.initial.at l.initial.line)
