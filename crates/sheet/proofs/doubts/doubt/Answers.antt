-- `sheet::doubts::doubt` meets its contract: the times of codes are within those that `is_far` takes.
use mathlib.Core.Path.{ap, ◌∙◌}
use native.Mathlib.Omega.{arith}
use Rattle.times.specs.declared.Nanos.{Nanos}
use Rattle.times.proofs.Laws.{code_most}
use Rattle.sheet.proofs.doubts.doubt.Goals as goal

pub is_far-requires : goal.is_far-requires
is_far-requires c =
    let args = c.args in (
      omega (arith, c.nanos_number-t.ensures ∙ ap (λ (x : Nanos). x.0) c.in_nanos.ensures, code_most args.before),
      omega (arith, c.nanos_number-u.ensures ∙ ap (λ (x : Nanos). x.0) c.in_nanos-2.ensures, code_most args.after),
    )
