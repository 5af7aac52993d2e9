-- Two calls on one memory, by the law for two calls.
use Rattle.std.proofs.Common.{ℕ, List}
use Rattle.demand3.specs.Held.{held}
use Rattle.lent_calls.specs.Chain.{LentCall}
use Rattle.two_calls.proofs.Laws.{two_calls}
use Rattle.example_client.specs.declared.Once.{Once}
use Rattle.example_client.proofs.feed_twice.Goals as goal

-- a call, as its caller saw it
abbrev call_of : Once → (input answers answers_left : List ℕ) → LentCall
call_of r input answers left = record { input = input; answers = answers; outcome = r.outcome; port = r.port; statuses = r.statuses; live = r.live; cells = r.cells; answers_left = left }

pub returns : goal.returns
returns c =
    let a = c.args in
    let one = call_of c.feed_once-one.result a.first.now a.first_answers.now c.feed_once-one.new.answers in
    let two = call_of c.feed_once-two.result a.second.now a.second_answers.now c.feed_once-two.new.answers in
    two_calls a.setup a.defaults.now (held a.port a.statuses a.live a.cells) one two (c.feed_once-one.ensures, (c.feed_once-two.ensures, tt)) c.both_with.result c.both_with.ensures
