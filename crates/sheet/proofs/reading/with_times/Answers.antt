-- `sheet::reading::with_times` meets its contract: code by code.
use Rattle.sheet_grammar.specs.Reading.{with_times}
use Rattle.sheet.proofs.reading.with_times.Goals as goal

pub returns : goal.returns
unfolding with_times
returns c =
    let d3hot = c.code_or-d3hot in
    let flr = c.code_or-flr in
    let dl_up = c.code_or-dl_up in
    let reset = c.code_or-reset in
    λ i. record {
      reset = reset.ensures i;
      dl_up = dl_up.ensures i;
      flr = flr.ensures i;
      d3hot = d3hot.ensures i;
      sends_frs = c.args.s.sends_frs;
    }
