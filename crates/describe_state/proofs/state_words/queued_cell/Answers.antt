-- `describe_state::state_words::queued_cell` meets its contract.
use mathlib.Core.Path.{ap, ◌∙◌}
use Prim.Native.Nat.{ℕ}
use lib.ListN.{get_or}
use borrow.Author.Tests.{le-ltb, lt-ltb}
use Rattle.describe_state.specs.States.{queued_cell}
use Rattle.describe_state.proofs.state_words.queued_cell.Goals as goal

pub returns-then-i-cells : goal.returns-then-i-cells
unfolding queued_cell
returns-then-i-cells c = simp (lt-ltb _ _ c.if-i-cells.true) (c.word_at.ensures ∙ ap (λ (k : ℕ). get_or c.args.cells.now k 0) c.place.ensures.value)

pub returns : goal.returns
unfolding queued_cell
returns c = simp (le-ltb _ _ c.if-i-cells.false)
