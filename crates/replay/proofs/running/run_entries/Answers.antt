-- `replay::running::run_entries` meets its contract. The invariant is Looping's `Head`.
use Prim.Native.Nat.{ℕ, ◌+◌, ◌-◌, ◌*◌, ◌≤◌, ◌<◌}
use native.Mathlib.Omega.{arith}
use native.Mathlib.Nat.{sub-zero}
use mathlib.Core.Path.{◌≡◌, refl, sym, ap, ◌∙◌, subst}
use mathlib.Core.Bool.{false}
use mathlib.Core.List.{List, []}
use lib.ListN.{length, take, drop, length-drop, length-replicate}
use lib.Seq.{length-take-le}
use borrow.Author.Rules.{rules}
use Rattle.bits.proofs.Bytes.{bytes_of}
use Rattle.trace.specs.Bench.{Ran}
use Rattle.trace.specs.Lent.{Left, refusal_or31}
use Rattle.trace.specs.Exactly.{joined_up}
use Rattle.trace.proofs.Records.{carrying}
use Rattle.readiness.specs.inner.Phases.{statuses_in, moments_in}
use Rattle.readiness.proofs.PhaseNumbers.{moments_length}
use Rattle.records.specs.State.{State, state}
use Rattle.capture.specs.Lent.{progress_in}
use Rattle.execute.specs.inner.Lent.{state_in}
use Rattle.demand3.specs.Held.{Held, opened, state_of, held_of}
use Rattle.demand3.specs.Feeding.{bench, feeds}
use Rattle.set_up.specs.Lent.{held_in}
use Rattle.feed.specs.Left as feed
use Rattle.feed.proofs.Accepting.{Accepted, accepted}
use Rattle.feed.proofs.Carried.{open_accepted}
use Rattle.replay_state.specs.inner.Moves.{Tidy}
use Rattle.replay_rules.specs.KeepingMoments.{HeldNoting}
use Rattle.replay.specs.declared.Stretch.{Stretch}
use Rattle.replay.specs.declared.ReplayedPort.{ReplayedPort}
use Rattle.replay.specs.inner.Calls.{ends_at}
use Rattle.replay.specs.inner.Stretches.{Stretched}
use Rattle.replay.proofs.Feeding.{fed_wholes}
use Rattle.replay.proofs.Looping.{left_of, Head, starts, step, ends, written, ran, fits, stretched, ended, ended_few}
use Rattle.replay.proofs.running.run_entries.Goals as goal

pub loop-s-init : goal.loop-s-init
loop-s-init c =
    let lent : Held = held_in (opened c.args.start) c.args.phases.now c.args.live.now c.args.cells.now in
    let relies : Accepted c.args.setup c.args.defaults.now (lent) = accepted c.args.setup c.args.defaults.now (lent) c.requires.not_refused (search rules) (search rules) in
    let s = c in
    let a = s.args in (
      starts a.setup a.defaults.now a.input.now a.answers.now (state_in a.start a.phases.now a.live.now a.cells.now) (moments_in a.phases.now) (progress_in a.begun)
          (relies).good (moments_length a.phases.now) (bytes_of a.input.now (λ i h. omega (arith, c.shared_slice_known-2-1.given i))) a.begun s.requires.between refl,
      refl,
      length-replicate {A = ℕ} 4096 0,
    )

pub overflow_sub-answers : goal.overflow_sub-answers
overflow_sub-answers c = let v = c.loop-s.invariant.0 in omega (arith, v.w_in, v.long)

pub slice_bounds-next_stretch-end : goal.slice_bounds-next_stretch-end
slice_bounds-next_stretch-end c = sym c.loop-s.invariant.2

pub next_stretch-requires : goal.next_stretch-requires
next_stretch-requires c = let l = c.loop-s in let v = l.invariant.0 in record { between = v.between; at_in_bounds = (v.at_in, omega (arith, l.invariant.2)) }

pub ending-requires : goal.ending-requires
ending-requires c =
    let h = ends c.loop-s.invariant.0 c.in-Err.end c.in-Err.ensures in
    record { tidy = h.tidy; at_in_bounds = (h.to, h.stamped) }

pub returns-in-Err : goal.returns-in-Err
returns-in-Err c =
    let o = c.loop-s in
    let v = o.invariant.0 in
    let end = c.in-Err.end in
    let over = c.in-Err.ensures in
    let input = c.args.input.now in
    let room = c.args.answers.now in
    record {
      answers_after =
          λ kept. ◌∙◌ {A = Left HeldNoting}
          (ap (λ (x : ReplayedPort). left_of kept x (statuses_in o.phases) (moments_in o.phases) o.live o.cells o.answers) c.ending.ensures)
          (ended v kept end over);
      consumed_in_bounds = subst (λ (x : ReplayedPort). (x.consumed ≤ length input) × (x.written ≤ length room)) (sym c.ending.ensures) (ended_few v end over);
    }

pub overflow_add-end : goal.overflow_add-end
overflow_add-end c =
    let small : length c.args.answers.now < 9223372036854775808 = let g = c.well_formed.1.1.1.1.1.1.1.1 in omega (arith, g.1.0.1) in
    let next : Stretch = c.in-Ok.s in
    let trace : List ℕ = c.next_stretch.new.trace in
    let follows : Stretched c.loop-s.r (length c.loop-s.answers - c.loop-s.w) c.loop-s.at c.args.input.now next trace = c.in-Ok.ensures in
    let some : 0 < (next).answers = follows.some in
    let room : c.loop-s.w + (next).answers ≤ length c.loop-s.answers = fits c.loop-s.invariant.0 (next) (trace) (follows) in
    let e = c in let l = e in omega (arith, small, room, l.loop-s.invariant.0.long)

pub slice_bounds-run_input-end : goal.slice_bounds-run_input-end
slice_bounds-run_input-end c =
    let next : Stretch = c.in-Ok.s in
    let trace : List ℕ = c.next_stretch.new.trace in
    let follows : Stretched c.loop-s.r (length c.loop-s.answers - c.loop-s.w) c.loop-s.at c.args.input.now next trace = c.in-Ok.ensures in
    let few : (next).len ≤ length (trace) = (follows).few in
    few

pub slice_bounds-run_input-end-in-loop-s : goal.slice_bounds-run_input-end-in-loop-s
slice_bounds-run_input-end-in-loop-s c =
    let next : Stretch = c.in-Ok.s in
    let trace : List ℕ = c.next_stretch.new.trace in
    let follows : Stretched c.loop-s.r (length c.loop-s.answers - c.loop-s.w) c.loop-s.at c.args.input.now next trace = c.in-Ok.ensures in
    let some : 0 < (next).answers = follows.some in
    let room : c.loop-s.w + (next).answers ≤ length c.loop-s.answers = fits c.loop-s.invariant.0 (next) (trace) (follows) in
    room

pub run_input-fed-requires : goal.run_input-fed-requires
run_input-fed-requires c =
    let lent : Held = held_in (opened c.args.start) c.args.phases.now c.args.live.now c.args.cells.now in
    let present : State = let o = c.loop-s in state_in o.dev o.phases o.live o.cells in
    let not_refused_lem : refusal_or31 (bench c.args.setup c.args.defaults.now) (held_of (carrying present [])) ≡ 0 =
    let s = c in
    let k = c.loop-s.invariant.0.good.kept in
    open_accepted s.args.setup s.args.defaults.now lent s.requires.not_refused present k.statuses k.live k.cells k.sound in
    record { not_refused = not_refused_lem }

pub loop-s-smaller : goal.loop-s-smaller
loop-s-smaller c =
    let next : Stretch = c.in-Ok.s in
    let trace : List ℕ = c.next_stretch.new.trace in
    let follows : Stretched c.loop-s.r (length c.loop-s.answers - c.loop-s.w) c.loop-s.at c.args.input.now next trace = c.in-Ok.ensures in
    let some : 0 < (next).answers = follows.some in
    let room : c.loop-s.w + (next).answers ≤ length c.loop-s.answers = fits c.loop-s.invariant.0 (next) (trace) (follows) in
    let e = c in let l = e in omega (arith, some, room, l.loop-s.invariant.0.long)

pub loop-s-preserved : goal.loop-s-preserved
loop-s-preserved c =
    let lent : Held = held_in (opened c.args.start) c.args.phases.now c.args.live.now c.args.cells.now in
    let next : Stretch = c.in-Ok.s in
    let trace : List ℕ = c.next_stretch.new.trace in
    let follows : Stretched c.loop-s.r (length c.loop-s.answers - c.loop-s.w) c.loop-s.at c.args.input.now next trace = c.in-Ok.ensures in
    let long : length (trace) ≡ 4096 = omega (arith, c.trace-in-loop-s-1.given, c.loop-s.invariant.2) in
    let some : 0 < (next).answers = follows.some in
    let room : c.loop-s.w + (next).answers ≤ length c.loop-s.answers = fits c.loop-s.invariant.0 (next) (trace) (follows) in
    let present : State = let o = c.loop-s in state_in o.dev o.phases o.live o.cells in
    let not_refused_lem : refusal_or31 (bench c.args.setup c.args.defaults.now) (held_of (carrying present [])) ≡ 0 =
    let s = c in
    let k = c.loop-s.invariant.0.good.kept in
    open_accepted s.args.setup s.args.defaults.now lent s.requires.not_refused present k.statuses k.live k.cells k.sound in
    let given : Left Held = let x = c.run_input-fed in feed.left_in_place x.result x.new.phases x.new.live x.new.cells x.new.answers in
    let all_ran : Ran State = let n = c in ran n.loop-s.invariant.0 (next) (trace) (follows) in
    let records : List (List ℕ) = let n = c in (written n.loop-s.invariant.0 (next) (trace) (follows)).records in
    let part : List ℕ = let n = c in let o = n.loop-s in take (o.w + (next).answers - o.w) (drop o.w o.answers) in
    let room_for : length part ≡ 8 * length records =
    let n = c in
    let o = n.loop-s in
    let v = written o.invariant.0 (next) (trace) (follows) in
    let e : length part ≡ o.w + (next).answers - o.w = length-take-le (o.w + (next).answers - o.w) (drop o.w o.answers) (omega (arith, room, length-drop o.w o.answers)) in
    omega (arith, e, v.eight) in
    let bytes_of_records : take ((next).len - 0) (trace) ≡ joined_up records =
    let n = c in
    ap (λ (m : ℕ). take m (trace)) (sub-zero (next).len) ∙ (written n.loop-s.invariant.0 (next) (trace) (follows)).joined in
    let fed : ◌≡◌ {A = Left Held} given (record { number = 0; consumed = length (joined_up records); written = length part; held = held_of (carrying all_ran.state []); answers = all_ran.answer }) =
    let n = c in
    let o = n.loop-s in
    let a = n.args in
    let v = written o.invariant.0 (next) (trace) (follows) in
    c.run_input-fed.ensures.answers_after
    ∙ ap (λ (bs : List ℕ). feeds a.setup a.defaults.now (held_of (carrying (present) [])) bs part) bytes_of_records
    ∙ fed_wholes a.setup a.defaults.now (present) (not_refused_lem) records v.wholes part room_for in
    let f = c in
    let n = f in
    let o = n.loop-s in (
      stretched o.invariant.0 (next) (trace) (follows) _ _ _ _ _ _ (λ i. record { state = state_of (fed i).held; answer = (fed i).answers })
          (f.run_input-fed.ensures.notes_records (records) (written o.invariant.0 (next) (trace) (follows)).wholes (bytes_of_records) (omega (arith, room_for))),
      omega (arith, c.phases-1.given, o.invariant.1),
      long,
    )
