-- `text_fields::run_end` meets its contract. The loop's invariant: the run that goes on at i ends where the one at `at` does.
use Rattle.std.proofs.Common.{◌≡◌, ℕ, Bool}
use Rattle.text_fields.specs.Text.{TellsBy, run_end}
use Rattle.text_fields.proofs.run_end.Given as goal

abbrev pub invariant-loop-i : goal.invariant-loop-i
invariant-loop-i g l = (p : ℕ → Bool) → TellsBy (goal.F-post g l.passes) p → run_end p l.i l.text ≡ run_end p l.at l.text
