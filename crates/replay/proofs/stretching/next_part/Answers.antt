-- `replay::stretching::next_part` meets its contract.
use Prim.Native.Nat.{◌<◌}
use native.Mathlib.Omega.{arith}
use mathlib.Core.Path.{sym, ap, ◌∙◌, subst}
use lib.ListN.{take}
use borrow.Author.Rules.{rules}
use Rattle.capture.specs.Replay.{Progress}
use Rattle.capture.specs.Lent.{progress_in}
use Rattle.replay.specs.inner.Stretches.{WrittenOut}
use Rattle.replay.proofs.OneMore.{stands_after}
use Rattle.replay.proofs.stretching.next_part.Goals as goal

pub returns-then-entries-gt0 : goal.returns-then-entries-gt0
returns-then-entries-gt0 c =
    let a = c.args in
    let x = c.write_entries-entries in
    let stands = stands_after a.r c.in-Some.before c.requires.between (sym c.stamp_before.ensures ∙ c.in-Some.is) in
    record {
      few = omega (arith, x.ensures.len_in_bounds);
      some = omega arith;
      between = x.ensures.between;
      written =
          subst (λ (q : Progress). WrittenOut q a.space a.at a.input.now (progress_in x.result.replay) x.result.at x.result.answers (take x.result.len x.new.trace)) (sym stands)
          x.ensures.written_out;
    }
