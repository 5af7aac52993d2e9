-- `cli_io::output::put_at` meets its contract.
use Rattle.std.proofs.Common.{rules, ◌≡◌, ◌∙◌, ap}
use Rattle.std.specs.Fn.{FnOnceReturnsAtMut}
use Rattle.text_line.specs.declared.text.Page.{Page}
use Rattle.cli_io.proofs.output.put_at.Goals as goal

pub returns : goal.returns
returns g c =
    let given = c.over-page.result in
    let left = c.text.new.arg2 in
    let calls : FnOnceReturnsAtMut g.F.FnOnce c.args.text given tt left = search rules in
    let over = c.over-page.ensures in
    let loan = ap (λ (p : Page). p.line.ghost_name) over in (
      given,
      left,
      calls,
      ap (λ (p : Page). p.at) over,
      ap (λ (p : Page). p.line.now) over,
      c.close.ensures.at,
      λ same. let ends : _ ≡ c.close.new.self.0 = search rules in ends ∙ c.close.ensures.line,
    )
