-- `replay::stretching::one_step` meets its contract.
use Prim.Native.Nat.{ℕ}
use native.Mathlib.Omega.{arith}
use mathlib.Core.Path.{◌≡◌, sym, ap, ◌∙◌, subst}
use mathlib.Core.List.{List}
use lib.ListN.{take}
use borrow.Author.Rules.{rules}
use Rattle.std.specs.Prelude.{Ok}
use Rattle.bits.proofs.Bytes.{bytes_of}
use Rattle.trace.specs.Format.{Bytes}
use Rattle.capture.specs.Lent.{progress_in}
use Rattle.replay.specs.declared.Step.{Step}
use Rattle.replay.specs.inner.Stretches.{WrittenOut}
use Rattle.replay.proofs.NextStep.{Runs}
use Rattle.replay.proofs.OneStep.{step_does, one_written}
use Rattle.replay.proofs.stretching.one_step.Goals as goal

pub next_step-requires : goal.next_step-requires
next_step-requires c = record { tidy = c.requires.between.tidy; stamp_len_bound = (c.requires.between.few, c.requires.at_in_bounds.0) }

pub returns : goal.returns
returns c =
    let a = c.args in
    let input : List ℕ = a.input.now in
    let inputs : Bytes input = bytes_of input (λ i h. omega (arith, c.type_inv.input i)) in
    let within = c.requires.at_in_bounds.0 in
    let step : Step = c.in_ok-step.step in
    let does : Runs input inputs (progress_in a.r) a.space a.at step = step_does a.r a.space a.at input inputs c.requires.between within (Ok step) c.in_ok-step.ensures in
    let x = c.put_step in
    record {
      few = omega (arith, x.ensures.0);
      some = omega arith;
      between = does.after;
      written =
          subst (WrittenOut (progress_in a.r) a.space a.at input (progress_in step.replay) step.at 8) (sym x.ensures.1)
          (one_written a.r a.space a.at input inputs c.requires.between within step does);
    }

pub put_step-requires : goal.put_step-requires
put_step-requires c =
    let a = c.args in
    let input : List ℕ = a.input.now in
    let inputs : Bytes input = bytes_of input (λ i h. omega (arith, c.type_inv.input i)) in
    let step : Step = c.in_ok-step.step in
    let does : Runs input inputs (progress_in a.r) a.space a.at step =
    step_does a.r a.space a.at input inputs c.requires.between c.requires.at_in_bounds.0 (Ok step) c.in_ok-step.ensures in
    (does.size, does.to, omega (arith, c.requires.at_in_bounds.1))
