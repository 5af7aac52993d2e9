-- `replay::replay` meets its contract: the lent statuses as numbers, which replay changes in place.
use native.Mathlib.Omega.{arith}
use mathlib.Core.Path.{◌≡◌, ap, ◌∙◌}
use mathlib.Core.List.{List}
use lib.ListN.{length}
use borrow.Author.Rules.{rules}
use Rattle.readiness.specs.declared.Status.{Status}
use Rattle.readiness.specs.MadeReady.{moments_of}
use Rattle.demand3.specs.Held.{held, lent_of}
use Rattle.set_up.proofs.Lent.{length-lent}
use Prim.Native.Nat.{◌-◌, ◌*◌}
use Rattle.replay_rules.specs.Replaying.{HeldWith, held_with}
use Rattle.replay_rules.specs.KeepingMoments.{HeldNoting, held_noting, replays_noting}
use Rattle.replay.specs.Left.{left_kept}
use Rattle.replay.proofs.Opening.{replays_not, without_moments, stops_many, in_place_lent}
use Rattle.replay.proofs.replay.Goals as goal

pub returns-then-lent-gt32 : goal.returns-then-lent-gt32
returns-then-lent-gt32 c =
    let lent : HeldWith = held_with (held c.args.port (lent_of c.args.lent c.args.statuses) c.args.live.now c.args.cells.now) c.args.state in
    let keeping : List Status → HeldNoting = λ l. held_noting (held c.args.port (lent_of c.args.lent l) c.args.live.now c.args.cells.now) (moments_of c.args.moments) c.args.state in
    let s = c in
    let k = s.args.setup in
    let d = s.args.defaults.now in
    let same =
    replays_not k d (lent) (moments_of s.args.moments) s.args.input.now s.args.answers.now 1
    (stops_many k d (lent) (omega (arith, length-lent s.args.lent s.args.statuses, c.if-lent-gt32.true))) (λ z. omega arith) in
    record { answers_after = without_moments k d (keeping s.args.statuses) s.args.input.now s.args.answers.now _ same; answers_after_2 = same }

pub returns : goal.returns
returns c =
    let keeping : List Status → HeldNoting = λ l. held_noting (held c.args.port (lent_of c.args.lent l) c.args.live.now c.args.cells.now) (moments_of c.args.moments) c.args.state in
    let s = c in
    let a = s.args in
    let k = a.setup in
    let d = a.defaults.now in
    let x = c.replay_in_place-x in
    let numbers = c.in_numbers-phases in
    let n : length numbers.result ≡ 128 = search rules in
    let same =
    ap (λ (l : List Status). left_kept a.lent (record { number = x.result.number; consumed = x.result.consumed; written = x.result.written; port = x.result.port; statuses = l; replay = x.result.replay; moments = x.result.moments }) x.new.live x.new.cells x.new.answers)
    c.in_statuses.ensures
    ∙ in_place_lent k d a.lent (4 * a.lent - 0) numbers.result a.port a.live.now a.cells.now a.state (moments_of a.moments) a.input.now a.answers.now x.result x.new.phases _ _ _ _
    (omega arith) (omega (arith, n, c.if-lent-gt32.false)) (omega (arith, c.phases-2-1.given, c.phases-1.given.2)) x.ensures.answers_after_2
    ∙ ap (λ (l : List Status). replays_noting k d (keeping l) a.input.now a.answers.now) numbers.ensures in
    record { answers_after = without_moments k d (keeping a.statuses) a.input.now a.answers.now _ same; answers_after_2 = same }
