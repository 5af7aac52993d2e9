-- Set-up by value on the statuses copied in, and copied out again, is set-up on what is lent.
use Rattle.std.proofs.Common.{◌≡◌, length, List, rules, ap, ◌∙◌}
use Rattle.readiness.specs.declared.Status.{Status}
use Rattle.demand3.specs.Held.{held, lent_of}
use Rattle.demand3.specs.SettingUp.{sets_up}
use Rattle.bench.specs.Entries.{left_by_set_up}
use Rattle.bench.proofs.Padding.{set_up_as_lent}
use Rattle.bench.proofs.set_up.Goals as goal

pub returns : goal.returns
returns c =
    let a = c.args in
    let l = a.statuses.now in
    let made = c.set_up-made.result in
    let live = c.set_up-made.new.live in
    let cells = c.set_up-made.new.cells in
    let array : length made.statuses ≡ 32 = search rules in
    (λ i. left_by_set_up made.number made.port (c.store.ensures i) live cells)
    ∙ set_up_as_lent a.setup a.defaults.now a.port.now l a.live.now a.cells.now made live cells array
    (c.set_up-made.ensures ∙ ap (λ (s : List Status). sets_up a.setup a.defaults.now (held a.port.now (lent_of (length l) s) a.live.now a.cells.now)) c.load-array.ensures)
