-- `execute::card::settled` meets its contract.
use mathlib.Core.Path.{ap}
use mathlib.Core.List.{List}
use Prim.Native.Nat.{ℕ}
use Rattle.readiness.specs.Settle.{Scene}
use Rattle.records.specs.declared.Completion.TheVariants as completion
use Rattle.records.specs.State.{State, with_live}
use Rattle.records.specs.Answer.{Ran, reply, answered}
use Rattle.execute.proofs.card.settled.Goals as goal

abbrev told : (live : List ℕ) → Scene → Ran State
told live x = record { after = with_live x live; reply = reply completion.Done x.root.tally 0 }

pub returns-clause-cells_after : goal.returns-clause-cells_after
unfolding answered
returns-clause-cells_after c =
    let settle = c in
    λ before live. ap (told live) (rw settle.root_port.ensures at settle.settle-port.ensures.result_after)
