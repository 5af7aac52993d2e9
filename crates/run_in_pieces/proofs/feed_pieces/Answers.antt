-- `run_in_pieces::feed_pieces` meets its contract. The loop has made some of the calls; a call that gives 0 consumes something.
use Prim.Native.Nat.{ℕ, ◌+◌, ◌-◌, ◌*◌, ◌<◌}
use mathlib.Core.Path.{◌≡◌, refl, ap, ◌∙◌}
use mathlib.Core.List.{List, ◌++◌}
use native.Mathlib.Omega.{arith}
use borrow.Author.Tests.{eq-eqb}
use lib.ListN.{length, take, drop, length-append, length-drop}
use borrow.Author.Rules.{rules}
use Rattle.trace.specs.Lent.{Left}
use Rattle.readiness.specs.declared.Status.{Status}
use Rattle.readiness.specs.inner.Phases.{statuses_in}
use Rattle.demand3.specs.Held.{Held, held, lent_of}
use Rattle.demand3.specs.Feeding.{feeds}
use Rattle.feed.proofs.Lent.{in_place_lent}
use Rattle.trace_in_pieces.specs.Pieces.{in_pieces}
use Rattle.trace_in_pieces.proofs.Pieces.{starts, ends, turn, piece_bounds, less}
use Rattle.run_in_pieces.proofs.feed_pieces.Goals as goal
use Rattle.run_in_pieces.proofs.feed_pieces.Goals.{then-loop-consumed-test+else-number-eq0, else-loop-consumed-test}

pub overflow_mul-places : goal.overflow_mul-places
overflow_mul-places c = omega (arith, c.requires)

pub loop-consumed-init : goal.loop-consumed-init
loop-consumed-init c =
    let s = c in
    let a = s.args in
    (starts a.setup a.defaults.now a.size a.trace.now _ 0 _ a.answers.now refl, refl, refl, refl, search rules, search rules, search rules)

pub overflow_add-end : goal.overflow_add-end
overflow_add-end c =
    let l = c in
    let a = l.args in
    let some : 0 < length a.trace.now - l.loop-consumed.consumed = omega (arith, c.loop-consumed-test.true) in
    omega (arith, c.next_piece.ensures, (piece_bounds a.size (length a.trace.now - l.loop-consumed.consumed) some).1, l.loop-consumed.invariant.4)

pub slice_bounds-phases-end : goal.slice_bounds-phases-end
slice_bounds-phases-end c = let l = c in omega (arith, l.requires, l.loop-consumed.invariant.6)

pub slice_bounds-feed_lent-end : goal.slice_bounds-feed_lent-end
slice_bounds-feed_lent-end c =
    let l = c in
    let a = l.args in
    let some : 0 < length a.trace.now - l.loop-consumed.consumed = omega (arith, c.loop-consumed-test.true) in
    omega (arith, c.next_piece.ensures, (piece_bounds a.size (length a.trace.now - l.loop-consumed.consumed) some).1)

pub overflow_add-consumed : goal.overflow_add-consumed
overflow_add-consumed c =
    let first : List ℕ = c.in_numbers-phases.result in
    let whole : Left Held =
    let a = c.args in
    in_pieces a.setup a.defaults.now a.size 0 (held a.start (lent_of a.setup.slots (statuses_in (first))) a.live.now a.cells.now) a.trace.now a.answers.now in
    let called : (let l = c in let a = l.args in let x = c.feed_lent-fed in ◌≡◌ {A = Left Held} (record { number = x.result.number; consumed = x.result.consumed; written = x.result.written; held = held x.result.port (lent_of a.setup.slots (statuses_in (x.new.phases ++ drop (4 * a.setup.slots - 0) l.loop-consumed.phases))) x.new.live x.new.cells; answers = x.new.answers }) (feeds a.setup a.defaults.now (held l.loop-consumed.port (lent_of a.setup.slots (statuses_in l.loop-consumed.phases)) l.loop-consumed.live l.loop-consumed.cells) (take (l.loop-consumed.consumed + c.next_piece.result - l.loop-consumed.consumed) (drop l.loop-consumed.consumed a.trace.now)) (take (length l.loop-consumed.answers - l.loop-consumed.written) (drop l.loop-consumed.written l.loop-consumed.answers)))) =
    let l = c in
    let a = l.args in
    let x = c.feed_lent-fed in
    in_place_lent a.setup a.defaults.now a.setup.slots (4 * a.setup.slots - 0) l.loop-consumed.phases l.loop-consumed.port l.loop-consumed.live l.loop-consumed.cells _ _ x.result x.new.phases (drop (4 * a.setup.slots - 0) l.loop-consumed.phases) _ _ _
    (omega arith) (omega (arith, l.loop-consumed.invariant.6, l.requires)) (omega (arith, c.phases-in-loop-consumed-1.given, c.phases-1.given.2)) x.ensures in
    let g = c in
    let f = g in
    let l = f in
    let a = l.args in
    let t =
    turn a.setup a.defaults.now a.size a.trace.now (whole) l.loop-consumed.number l.loop-consumed.consumed l.loop-consumed.written
    (held l.loop-consumed.port (lent_of a.setup.slots (statuses_in l.loop-consumed.phases)) l.loop-consumed.live l.loop-consumed.cells) l.loop-consumed.answers
    l.loop-consumed.invariant.0 (eq-eqb l.loop-consumed.number 0 f.if-number-eq0.true) f.loop-consumed-test.true f.next_piece.result _ f.next_piece.ensures refl _ (called)
    in
    omega (arith, t.consumed, l.loop-consumed.invariant.4)

pub overflow_add-written : goal.overflow_add-written
overflow_add-written c =
    let first : List ℕ = c.in_numbers-phases.result in
    let whole : Left Held =
    let a = c.args in
    in_pieces a.setup a.defaults.now a.size 0 (held a.start (lent_of a.setup.slots (statuses_in (first))) a.live.now a.cells.now) a.trace.now a.answers.now in
    let called : (let l = c in let a = l.args in let x = c.feed_lent-fed in ◌≡◌ {A = Left Held} (record { number = x.result.number; consumed = x.result.consumed; written = x.result.written; held = held x.result.port (lent_of a.setup.slots (statuses_in (x.new.phases ++ drop (4 * a.setup.slots - 0) l.loop-consumed.phases))) x.new.live x.new.cells; answers = x.new.answers }) (feeds a.setup a.defaults.now (held l.loop-consumed.port (lent_of a.setup.slots (statuses_in l.loop-consumed.phases)) l.loop-consumed.live l.loop-consumed.cells) (take (l.loop-consumed.consumed + c.next_piece.result - l.loop-consumed.consumed) (drop l.loop-consumed.consumed a.trace.now)) (take (length l.loop-consumed.answers - l.loop-consumed.written) (drop l.loop-consumed.written l.loop-consumed.answers)))) =
    let l = c in
    let a = l.args in
    let x = c.feed_lent-fed in
    in_place_lent a.setup a.defaults.now a.setup.slots (4 * a.setup.slots - 0) l.loop-consumed.phases l.loop-consumed.port l.loop-consumed.live l.loop-consumed.cells _ _ x.result x.new.phases (drop (4 * a.setup.slots - 0) l.loop-consumed.phases) _ _ _
    (omega arith) (omega (arith, l.loop-consumed.invariant.6, l.requires)) (omega (arith, c.phases-in-loop-consumed-1.given, c.phases-1.given.2)) x.ensures in
    let g = c in
    let f = g in
    let l = f in
    let a = l.args in
    let t =
    turn a.setup a.defaults.now a.size a.trace.now (whole) l.loop-consumed.number l.loop-consumed.consumed l.loop-consumed.written
    (held l.loop-consumed.port (lent_of a.setup.slots (statuses_in l.loop-consumed.phases)) l.loop-consumed.live l.loop-consumed.cells) l.loop-consumed.answers
    l.loop-consumed.invariant.0 (eq-eqb l.loop-consumed.number 0 f.if-number-eq0.true) f.loop-consumed-test.true f.next_piece.result _ f.next_piece.ensures refl _ (called)
    in
    omega (arith, t.written, l.loop-consumed.invariant.3, l.loop-consumed.invariant.5)

pub loop-consumed-smaller : goal.loop-consumed-smaller
loop-consumed-smaller c =
    let first : List ℕ = c.in_numbers-phases.result in
    let whole : Left Held =
    let a = c.args in
    in_pieces a.setup a.defaults.now a.size 0 (held a.start (lent_of a.setup.slots (statuses_in (first))) a.live.now a.cells.now) a.trace.now a.answers.now in
    let called : (let l = c in let a = l.args in let x = c.feed_lent-fed in ◌≡◌ {A = Left Held} (record { number = x.result.number; consumed = x.result.consumed; written = x.result.written; held = held x.result.port (lent_of a.setup.slots (statuses_in (x.new.phases ++ drop (4 * a.setup.slots - 0) l.loop-consumed.phases))) x.new.live x.new.cells; answers = x.new.answers }) (feeds a.setup a.defaults.now (held l.loop-consumed.port (lent_of a.setup.slots (statuses_in l.loop-consumed.phases)) l.loop-consumed.live l.loop-consumed.cells) (take (l.loop-consumed.consumed + c.next_piece.result - l.loop-consumed.consumed) (drop l.loop-consumed.consumed a.trace.now)) (take (length l.loop-consumed.answers - l.loop-consumed.written) (drop l.loop-consumed.written l.loop-consumed.answers)))) =
    let l = c in
    let a = l.args in
    let x = c.feed_lent-fed in
    in_place_lent a.setup a.defaults.now a.setup.slots (4 * a.setup.slots - 0) l.loop-consumed.phases l.loop-consumed.port l.loop-consumed.live l.loop-consumed.cells _ _ x.result x.new.phases (drop (4 * a.setup.slots - 0) l.loop-consumed.phases) _ _ _
    (omega arith) (omega (arith, l.loop-consumed.invariant.6, l.requires)) (omega (arith, c.phases-in-loop-consumed-1.given, c.phases-1.given.2)) x.ensures in
    let g = c in
    let f = g in
    let l = f in
    let a = l.args in
    let t =
    turn a.setup a.defaults.now a.size a.trace.now (whole) l.loop-consumed.number l.loop-consumed.consumed l.loop-consumed.written
    (held l.loop-consumed.port (lent_of a.setup.slots (statuses_in l.loop-consumed.phases)) l.loop-consumed.live l.loop-consumed.cells) l.loop-consumed.answers
    l.loop-consumed.invariant.0 (eq-eqb l.loop-consumed.number 0 f.if-number-eq0.true) f.loop-consumed-test.true f.next_piece.result _ f.next_piece.ensures refl _ (called)
    in
    less l.loop-consumed.number f.feed_lent-fed.result.number l.loop-consumed.consumed (l.loop-consumed.consumed + f.feed_lent-fed.result.consumed) (length a.trace.now) (eq-eqb l.loop-consumed.number 0 f.if-number-eq0.true) f.loop-consumed-test.true (λ q. omega (arith, t.consumes q))

pub loop-consumed-preserved : goal.loop-consumed-preserved
loop-consumed-preserved c =
    let first : List ℕ = c.in_numbers-phases.result in
    let whole : Left Held =
    let a = c.args in
    in_pieces a.setup a.defaults.now a.size 0 (held a.start (lent_of a.setup.slots (statuses_in (first))) a.live.now a.cells.now) a.trace.now a.answers.now in
    let called : (let l = c in let a = l.args in let x = c.feed_lent-fed in ◌≡◌ {A = Left Held} (record { number = x.result.number; consumed = x.result.consumed; written = x.result.written; held = held x.result.port (lent_of a.setup.slots (statuses_in (x.new.phases ++ drop (4 * a.setup.slots - 0) l.loop-consumed.phases))) x.new.live x.new.cells; answers = x.new.answers }) (feeds a.setup a.defaults.now (held l.loop-consumed.port (lent_of a.setup.slots (statuses_in l.loop-consumed.phases)) l.loop-consumed.live l.loop-consumed.cells) (take (l.loop-consumed.consumed + c.next_piece.result - l.loop-consumed.consumed) (drop l.loop-consumed.consumed a.trace.now)) (take (length l.loop-consumed.answers - l.loop-consumed.written) (drop l.loop-consumed.written l.loop-consumed.answers)))) =
    let l = c in
    let a = l.args in
    let x = c.feed_lent-fed in
    in_place_lent a.setup a.defaults.now a.setup.slots (4 * a.setup.slots - 0) l.loop-consumed.phases l.loop-consumed.port l.loop-consumed.live l.loop-consumed.cells _ _ x.result x.new.phases (drop (4 * a.setup.slots - 0) l.loop-consumed.phases) _ _ _
    (omega arith) (omega (arith, l.loop-consumed.invariant.6, l.requires)) (omega (arith, c.phases-in-loop-consumed-1.given, c.phases-1.given.2)) x.ensures in
    let g = c in
    let f = g in
    let l = f in
    let a = l.args in
    let t =
    turn a.setup a.defaults.now a.size a.trace.now (whole) l.loop-consumed.number l.loop-consumed.consumed l.loop-consumed.written
    (held l.loop-consumed.port (lent_of a.setup.slots (statuses_in l.loop-consumed.phases)) l.loop-consumed.live l.loop-consumed.cells) l.loop-consumed.answers
    l.loop-consumed.invariant.0 (eq-eqb l.loop-consumed.number 0 f.if-number-eq0.true) f.loop-consumed-test.true f.next_piece.result _ f.next_piece.ensures refl _ (called)
    in
    let ys = f.feed_lent-fed.new.phases in
    let rest = drop (4 * a.setup.slots - 0) l.loop-consumed.phases in
    let long : length (ys ++ rest) ≡ 128 = omega (arith, length-append ys rest, length-drop (4 * a.setup.slots - 0) l.loop-consumed.phases, g.phases-in-loop-consumed-1.given, g.phases-1.given.2, l.loop-consumed.invariant.6, l.requires) in (
      t.next,
      omega (arith, c.live-1.given, l.loop-consumed.invariant.1),
      omega (arith, c.cells-1.given, l.loop-consumed.invariant.2),
      omega (arith, c.answers-1.given, l.loop-consumed.invariant.3),
      l.loop-consumed.invariant.4,
      l.loop-consumed.invariant.5,
      long,
    )

pub returns : goal.returns
returns c =
    let first : List ℕ = c.in_numbers-phases.result in
    let whole : Left Held =
    let a = c.args in
    in_pieces a.setup a.defaults.now a.size 0 (held a.start (lent_of a.setup.slots (statuses_in (first))) a.live.now a.cells.now) a.trace.now a.answers.now in
    let l = c in
    let a = l.args in
    rw (c.all_fed.ensures, c.in_statuses.ensures)
    (ends a.setup a.defaults.now a.size a.trace.now (whole) l.loop-consumed.number l.loop-consumed.consumed l.loop-consumed.written
    (held l.loop-consumed.port (lent_of a.setup.slots (statuses_in l.loop-consumed.phases)) l.loop-consumed.live l.loop-consumed.cells) l.loop-consumed.answers l.loop-consumed.invariant.0
    (λ q. elim c.loop-consumed-test.branch [
      | then-loop-consumed-test+else-number-eq0 w ↦ absurd (w.if-number-eq0.false q)
      | else-loop-consumed-test w ↦ w.loop-consumed-test.false
    ]))
    ∙ ap (λ (s : List Status). in_pieces a.setup a.defaults.now a.size 0 (held a.start (lent_of a.setup.slots s) a.live.now a.cells.now) a.trace.now a.answers.now) c.in_numbers-phases.ensures
