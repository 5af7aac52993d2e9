-- `execute::requests::settled` meets its contract.
use mathlib.Core.Path.{ap}
use mathlib.Core.List.{List}
use Prim.Native.Nat.{ℕ}
use Rattle.readiness.specs.inner.OneSlot.{SlotScene}
use Rattle.records.specs.declared.Completion.TheVariants as completion
use Rattle.records.specs.State.{Seat, seat}
use Rattle.records.specs.Answer.{Ran, reply}
use Rattle.records.specs.inner.Parts.{slot_answered}
use Rattle.execute.proofs.requests.settled.Goals as goal

abbrev told : (live : List ℕ) → ℕ → SlotScene → Ran Seat
told live n x = record { after = seat x.root.dev x.status live x.root.cells; reply = reply completion.Done x.root.tally n }

pub returns-clause-cells_after : goal.returns-clause-cells_after
unfolding slot_answered
returns-clause-cells_after c =
    let x = c in
    let port = x.root_port.ensures in
    λ before live. ap (told live x.args.«data») (rw port at x.settle_slot-settled.ensures.result_after)
