-- `replay::replay_in_place` meets its contract.
use Rattle.times.specs.declared.Nanos.{Nanos}
use Rattle.std.specs.Prelude.{Option}
use mathlib.Core.Path.{◌≡◌, refl, sym, ap, ◌∙◌, subst}
use borrow.Author.Rules.{rules}
use Rattle.trace.specs.Lent.{Left}
use Rattle.capture.specs.declared.Replay.{Replay}
use Rattle.capture.specs.Lent.{progress_in, stops_first}
use Rattle.demand3.specs.Feeding.{bench}
use Rattle.set_up.specs.Lent.{held_in}
use Rattle.replay.specs.inner.Calls.{Between, comes_to}
use Prim.Native.Nat.{ℕ, ◌<◌}
use native.Mathlib.Omega.{arith}
use mathlib.Core.List.{List}
use lib.ListN.{length}
use Rattle.readiness.specs.declared.Status.{Status}
use Rattle.readiness.specs.MadeReady.{moments_of}
use Rattle.readiness.specs.inner.Phases.{statuses_in, moments_in, moments_with}
use Rattle.readiness.proofs.PhaseNumbers.{statuses_same}
use Rattle.readiness.proofs.KeptMoments.{with_never}
use Rattle.records.specs.State.{state}
use Rattle.demand3.specs.Held.{carried_of}
use Rattle.demand3.specs.Held as port
use Rattle.feed.specs.inner.Calls.{NotRefused}
use Rattle.feed.proofs.Accepting.{accepted}
use Rattle.replay_rules.specs.Replaying.{HeldWith, held_with}
use Rattle.replay_rules.specs.KeepingMoments.{HeldNoting, held_noting}
use Rattle.replay.specs.inner.Noted.{Noted, noted_in}
use Rattle.replay.proofs.Opening.{goes, stands_between, replays-opened, replays_not, without_moments, stamp_fits_lem}
use Rattle.replay.proofs.replay_in_place.Goals as goal

-- any other
pub returns-then-number-ne0 : goal.returns-then-number-ne0
returns-then-number-ne0 c =
    let held : HeldWith = let a = c.args in held_with (held_in a.port a.phases.now a.live.now a.cells.now) a.state in
    let keeping : HeldNoting = held_noting (held).port (moments_of c.args.moments) c.args.state in
    let s = c in
    let a = s.args in
    let same =
    replays_not a.setup a.defaults.now (held) (moments_of a.moments) a.input.now a.answers.now c.stops-number.result (c.stops-number.ensures a.live.now refl) c.if-number-ne0.true in
    record { answers_after = without_moments a.setup a.defaults.now (keeping) a.input.now a.answers.now _ same; answers_after_2 = same }

pub tidy-requires : goal.tidy-requires
tidy-requires c =
    let held : HeldWith = let a = c.args in held_with (held_in a.port a.phases.now a.live.now a.cells.now) a.state in
    let open_call : (let s = c in stops_first (bench s.args.setup s.args.defaults.now) (held) ≡ 0) = sym (c.stops-number.ensures c.args.live.now refl) ∙ c.if-number-ne0.false in
    let e = c in let s = e in stamp_fits_lem s.args.setup s.args.defaults.now (held) (open_call)

pub run_capture-x-requires : goal.run_capture-x-requires
run_capture-x-requires c =
    let held : HeldWith = let a = c.args in held_with (held_in a.port a.phases.now a.live.now a.cells.now) a.state in
    let small : (c.args.setup.bus < 256) × (c.args.setup.port_id < 65536) = (search rules, search rules) in
    let open_call : (let s = c in stops_first (bench s.args.setup s.args.defaults.now) (held) ≡ 0) = sym (c.stops-number.ensures c.args.live.now refl) ∙ c.if-number-ne0.false in
    let e = c in
    let s = e in
    let a = s.args in
    let k = a.setup in
    let d = a.defaults.now in
    let b = small in
    let n = open_call in record { not_refused = subst (λ (l : List Status). NotRefused k d (port.held a.port l a.live.now a.cells.now)) (sym c.forget.ensures.phases_unchanged) (goes k d (held) b.0 b.1 n); between = subst Between (sym c.tidy.ensures) (stands_between k d (held) b.0 b.1 n) }

pub gathered-requires : goal.gathered-requires
gathered-requires c =
    let held : HeldWith = let a = c.args in held_with (held_in a.port a.phases.now a.live.now a.cells.now) a.state in
    let small : (c.args.setup.bus < 256) × (c.args.setup.port_id < 65536) = (search rules, search rules) in
    let open_call : (let s = c in stops_first (bench s.args.setup s.args.defaults.now) (held) ≡ 0) = sym (c.stops-number.ensures c.args.live.now refl) ∙ c.if-number-ne0.false in
    let e = c in
    let s = e in
    let a = s.args in
    let f = accepted a.setup a.defaults.now _ (goes a.setup a.defaults.now (held) (small).0 (small).1 (open_call)) (small).0 (small).1 in
    let last = c.run_capture-x.new.phases in
    let same : length last ≡ length a.phases.now = omega (arith, c.phases-2-1.given, c.phases-1.given) in
    omega (arith, statuses_same last a.phases.now same, f.fits.per_slot, f.good.kept.fits.most)

pub returns : goal.returns
returns c =
    let held : HeldWith = let a = c.args in held_with (held_in a.port a.phases.now a.live.now a.cells.now) a.state in
    let keeping : HeldNoting = held_noting (held).port (moments_of c.args.moments) c.args.state in
    let small : (c.args.setup.bus < 256) × (c.args.setup.port_id < 65536) = (search rules, search rules) in
    let open_call : (let s = c in stops_first (bench s.args.setup s.args.defaults.now) (held) ≡ 0) = sym (c.stops-number.ensures c.args.live.now refl) ∙ c.if-number-ne0.false in
    let forgotten : List ℕ = c.forget.new.phases in
    let e = c in
    let s = e in
    let a = s.args in
    let k = a.setup in
    let d = a.defaults.now in
    let kept = (moments_of a.moments) in
    let x = c.run_capture-x in
    let f = c in
    let phases = x.new.phases in
    let left : List (Option Nanos) → Left HeldNoting = λ l.
    record {
      number = x.result.number;
      consumed = x.result.consumed;
      written = x.result.written;
      held = held_noting (held_in x.result.port phases x.new.live x.new.cells) l x.result.replay;
      answers = x.new.answers;
    } in
    let came : Noted → Replay → Left HeldNoting = λ n r. comes_to k d n (carried_of a.port) (progress_in r) a.input.now a.answers.now in
    let nothing : moments_with kept (moments_in (forgotten)) ≡ kept = ap (moments_with kept) f.forget.ensures.phases_after ∙ with_never kept (length (statuses_in a.phases.now)) in
    let ran : left (moments_with kept (moments_in phases)) ≡ came (noted_in kept a.port.dev (forgotten) a.live.now a.cells.now) c.tidy.result = x.ensures kept in
    let same =
    ap left c.gathered.ensures
    ∙ ran
    ∙ (λ i. came (record { base = state a.port.dev (f.forget.ensures.phases_unchanged i) a.live.now a.cells.now; kept = nothing i }) (c.tidy.ensures i))
    ∙ replays-opened k d (held) (small).0 (small).1 (open_call) kept a.input.now a.answers.now in
    record { answers_after = without_moments k d (keeping) a.input.now a.answers.now _ same; answers_after_2 = same }
