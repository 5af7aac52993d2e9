-- `feed::turning::port_turn` meets its contract.
use Prim.Native.Nat.{ℕ}
use mathlib.Core.Path.{sym, ap, ◌∙◌}
use Rattle.records.specs.PortRecords.{front}
use Rattle.records.specs.inner.Parts.{port_run}
use Rattle.feed.proofs.Parts.{port_runs}
use Rattle.feed.proofs.turning.port_turn.Goals as goal

pub returns : goal.returns
returns c =
    λ setup defaults statuses live e q sound fits.
    let a = c.args in
    port_runs setup defaults a.dev statuses live a.cells.now a.«record» sound fits q c.run_port.result _
    (c.run_port.ensures ∙ ap (λ (id : ℕ). port_run id a.«record» (front a.dev a.cells.now)) (sym e))
