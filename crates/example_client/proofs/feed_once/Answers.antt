-- The array that is lent holds the one status first.
use Rattle.std.proofs.Common.{◌≡◌, List, length, get_or, rules, arith, ap, ◌∙◌}
use Rattle.readiness.specs.declared.Status.{Status}
use Rattle.readiness.specs.Status.{down}
use Rattle.demand3.specs.Held.{held}
use Rattle.demand3.specs.Feeding.{feeds}
use Rattle.bench.specs.Entries.{left_by_feed, outcome_is}
use Rattle.example_client.proofs.Firsts.{first_of, one_of, fed_one}
use Rattle.example_client.proofs.feed_once.Goals as goal

pub returns : goal.returns
returns c =
    let a = c.args in
    let fed = c.feed_first-fed.result in
    let new = c.feed_first-fed.new in
    let one : length a.statuses ≡ 1 = search rules in
    let many : length fed.statuses ≡ 32 = search rules in
    ap (λ (ss : List Status). left_by_feed (outcome_is fed) fed.port ss new.live new.cells new.answers) (first_of fed.statuses (omega (arith, many)))
    ∙ fed_one a.setup a.defaults.now a.port (get_or a.statuses 0 down) a.live a.cells a.input.now a.answers.now (outcome_is fed) fed.port fed.statuses new.live new.cells new.answers many c.feed_first-fed.ensures
    ∙ ap (λ (ss : List Status). feeds a.setup a.defaults.now (held a.port ss a.live a.cells) a.input.now a.answers.now) (one_of a.statuses one)
