-- `feed::turning::clock_turn` meets its contract.
use mathlib.Core.Path.{refl}
use Rattle.records.specs.declared.Record.TheVariants as variants
use Rattle.feed.proofs.Direct.{clock_runs}
use Rattle.feed.proofs.turning.clock_turn.Goals as goal

pub returns : goal.returns
returns c =
    λ setup defaults statuses live cells earliest b h sound fits.
    let a = c.args in
    clock_runs setup defaults a.dev statuses live cells (variants.Advance a.by) sound fits earliest b a.by refl h c.advance_alone.result
    (c.advance_alone.ensures setup defaults statuses live cells)
