-- `text_fields::run_end` meets its contract.
use Rattle.std.proofs.Common.{arith, sym, ◌∙◌}
use Rattle.text_fields.proofs.Runs.{run-passes, run_stops, run_ends}
use Rattle.text_fields.proofs.run_end.Goals as goal

pub returns-then-not-passes : goal.returns-then-not-passes
returns-then-not-passes g c = λ p tells. sym (run_stops p c.args.text.now c.loop-i.i (omega arith) (sym (tells _ _ (omega (arith, c.type_inv.text c.loop-i.i)) c.passes.ensures) ∙ c.if-not-passes.true)) ∙ c.loop-i.invariant p tells

pub loop-i-preserved : goal.loop-i-preserved
loop-i-preserved g c = λ p tells. sym (run-passes p c.args.text.now c.loop-i.i (omega arith) (sym (tells _ _ (omega (arith, c.type_inv.text c.loop-i.i)) c.passes.ensures) ∙ c.if-not-passes.false)) ∙ c.loop-i.invariant p tells

pub returns : goal.returns
returns g c = λ p tells.
    grind (arith, c.max.ensures, run_ends p c.args.text.now c.args.at, run_ends p c.args.text.now c.loop-i.i (omega arith), c.loop-i.invariant p tells)
