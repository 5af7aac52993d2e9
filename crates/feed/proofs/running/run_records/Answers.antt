-- `feed::running::run_records` meets its contract.
use mathlib.Core.Path.{◌∙◌}
use borrow.Author.Rules.{rules}
use Rattle.demand3.specs.Held.{Held}
use Rattle.set_up.specs.Lent.{held_in}
use Rattle.feed.proofs.Accepting.{Accepted, accepted}
use Rattle.feed.proofs.NoRecord.{fresh_accepted, fresh-feeds}
use Rattle.feed.proofs.running.run_records.Goals as goal

pub run_input-requires : goal.run_input-requires
run_input-requires c =
    let lent : Held = held_in c.args.port c.args.phases.now c.args.live.now c.args.cells.now in
    let relies : Accepted c.args.setup c.args.defaults.now (lent) = accepted c.args.setup c.args.defaults.now (lent) c.requires.not_refused (search rules) (search rules) in
    let t = c in
    let s = t in
    record { not_refused = fresh_accepted s.args.setup s.args.defaults.now (lent) s.args.input.now s.args.answers.now s.requires.not_refused (relies) t.if-port-eq0.true }

pub returns-then-port-eq0 : goal.returns-then-port-eq0
returns-then-port-eq0 c =
    let lent : Held = held_in c.args.port c.args.phases.now c.args.live.now c.args.cells.now in
    let relies : Accepted c.args.setup c.args.defaults.now (lent) = accepted c.args.setup c.args.defaults.now (lent) c.requires.not_refused (search rules) (search rules) in
    let t = c in
    let s = t in
    c.run_input.ensures.answers_after
    ∙ fresh-feeds s.args.setup s.args.defaults.now (lent) s.args.input.now s.args.answers.now s.requires.not_refused (relies) t.if-port-eq0.true

pub run_joined-requires : goal.run_joined-requires
run_joined-requires c = c.requires

pub returns : goal.returns
returns c = c.run_joined.ensures
