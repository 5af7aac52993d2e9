-- `feed::turning::frs_turn` meets its contract.
use mathlib.Core.Path.{refl}
use Rattle.std.specs.Prelude.{Some}
use Rattle.messages.specs.declared.Message.TheVariants as message
use Rattle.records.specs.declared.Record.TheVariants as variants
use Rattle.feed.proofs.Direct.{frs-runs}
use Rattle.feed.proofs.turning.frs_turn.Goals as goal

pub returns : goal.returns
returns c =
    λ setup defaults statuses live l sound fits.
    let a = c.args in
    let f = a.frs in
    frs-runs setup defaults a.dev statuses live a.cells.now (variants.Message (Some (message.Frs f.id f.reason))) sound fits f.id f.reason refl
    c.receive_frs.result.queue c.receive_frs.result.reply _ (c.receive_frs.ensures setup.port_id l)
