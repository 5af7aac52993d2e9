-- Feed by value on the statuses copied in, and copied out again, is feed on what is lent.
use Rattle.std.proofs.Common.{◌≡◌, length, List, rules, ap, refl, ◌∙◌}
use Rattle.readiness.specs.declared.Status.{Status}
use Rattle.demand3.specs.Held.{held, lent_of}
use Rattle.demand3.specs.Feeding.{feeds}
use Rattle.bench.specs.Entries.{left_by_feed, outcome_is}
use Rattle.bench.proofs.Padding.{fed_as_lent}
use Rattle.bench.proofs.feed.Goals as goal

pub returns : goal.returns
returns c =
    let a = c.args in
    let l = a.statuses.now in
    let fed = c.feed-fed.result in
    let live = c.feed-fed.new.live in
    let cells = c.feed-fed.new.cells in
    let answers = c.feed-fed.new.answers in
    let array : length fed.statuses ≡ 32 = search rules in
    (λ i. left_by_feed (outcome_is fed) fed.port (c.store.ensures i) live cells answers)
    ∙ fed_as_lent a.setup a.defaults.now a.port.now l a.live.now a.cells.now a.input.now a.answers.now fed (outcome_is fed) live cells answers array refl
    (c.feed-fed.ensures ∙ ap (λ (s : List Status). feeds a.setup a.defaults.now (held a.port.now (lent_of (length l) s) a.live.now a.cells.now) a.input.now a.answers.now) c.load-array.ensures)
