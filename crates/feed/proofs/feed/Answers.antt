-- `feed::feed` meets its contract: the lent statuses as numbers, which feed changes in place.
use Prim.Native.Nat.{◌-◌, ◌*◌}
use native.Mathlib.Omega.{arith}
use mathlib.Core.Path.{◌≡◌, ap, ◌∙◌}
use mathlib.Core.List.{List}
use lib.ListN.{length}
use borrow.Author.Rules.{rules}
use Rattle.trace.proofs.Refusing.{feeds_no}
use Rattle.readiness.specs.declared.Status.{Status}
use Rattle.demand3.specs.Held.{Held, held, lent_of}
use Rattle.demand3.specs.Feeding.{bench, feeds}
use Rattle.feed.specs.Left.{left}
use Rattle.set_up.proofs.Lent.{length-lent}
use Rattle.feed.proofs.Lent.{in_place_lent}
use Rattle.set_up.proofs.Stopping.{too_many, stops_set_up}
use Rattle.feed.proofs.feed.Goals as goal

pub returns-then-lent-gt32 : goal.returns-then-lent-gt32
returns-then-lent-gt32 c =
    let lent : Held = held c.args.port (lent_of c.args.lent c.args.statuses) c.args.live.now c.args.cells.now in
    let s = c in
    let k = s.args.setup in
    let d = s.args.defaults.now in
    feeds_no (bench k d) (lent) s.args.input.now s.args.answers.now 1
    (stops_set_up k d (lent) 1 (too_many k d (lent) (omega (arith, length-lent s.args.lent s.args.statuses, c.if-lent-gt32.true))) (λ z. omega arith)) (λ z. omega arith)

pub returns : goal.returns
returns c =
    let a = c.args in
    let x = c.feed_in_place-fed in
    let numbers = c.in_numbers-phases in
    let n : length numbers.result ≡ 128 = search rules in
    ap (λ (l : List Status). left a.lent (record { number = x.result.number; consumed = x.result.consumed; written = x.result.written; port = x.result.port; statuses = l }) x.new.live x.new.cells x.new.answers)
    c.in_statuses.ensures
    ∙ in_place_lent a.setup a.defaults.now a.lent (4 * a.lent - 0) numbers.result a.port a.live.now a.cells.now a.input.now a.answers.now x.result x.new.phases _ _ _ _
    (omega arith) (omega (arith, n, c.if-lent-gt32.false)) (omega (arith, c.phases-2-1.given, c.phases-1.given.2)) x.ensures
    ∙ ap (λ (l : List Status). feeds a.setup a.defaults.now (held a.port (lent_of a.lent l) a.live.now a.cells.now) a.input.now a.answers.now) numbers.ensures
