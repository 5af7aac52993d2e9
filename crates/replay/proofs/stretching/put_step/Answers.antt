-- `replay::stretching::put_step` meets its contract.
use Prim.Native.Nat.{ℕ, ◌-◌, ◌≤◌}
use native.Mathlib.Omega.{arith}
use mathlib.Core.Path.{sym, ap, ◌∙◌, subst}
use lib.ListN.{take, drop, length-drop}
use native.Mathlib.Nat.{zero-add}
use lib.Seq.{paste, take-paste}
use borrow.Author.Rules.{rules}
use Rattle.capture.specs.Advances.{advance}
use Rattle.replay.specs.declared.Run.{Run}
use Rattle.replay.specs.inner.Steps.{run_bytes}
use Rattle.replay.specs.inner.Stretches.{RunFits}
use Rattle.replay.proofs.stretching.put_step.Goals as goal

pub returns-in-Advance : goal.returns-in-Advance
unfolding advance
returns-in-Advance c =
    let a = c.args in (
      omega arith,
      ap (take 5) c.put_advance.ensures
          ∙ take-paste a.trace.now 0 (advance c.in-Advance.by) 5 (omega arith) (omega arith)
          ∙ ap (λ (x : Run). run_bytes x a.step.at a.input.now) (sym c.in-Advance.is),
    )

pub returns-in-Record : goal.returns-in-Record
returns-in-Record c =
    let a = c.args in
    let input = a.input.now in
    let size = c.in-Record.size in
    let from = a.step.at - size in
    let fits : (size ≤ 17) × (size ≤ a.step.at) = subst (λ (x : Run). RunFits x a.step.at) c.in-Record.is c.requires.0 in (
      omega (arith, fits.0, c.requires.2),
      ap (take size) c.put_each.ensures
          ∙ ap (λ (n : ℕ). take n (paste a.trace.now 0 (drop from input) size)) (sym (zero-add size))
          ∙ take-paste a.trace.now 0 (drop from input) size (omega arith) (omega (arith, length-drop from input, fits.1, c.requires.1))
          ∙ ap (λ (x : Run). run_bytes x a.step.at input) (sym c.in-Record.is),
    )
