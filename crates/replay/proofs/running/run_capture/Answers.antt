-- `replay::running::run_capture` meets its contract.
use Prim.Native.Nat.{ℕ}
use native.Mathlib.Omega.{arith}
use mathlib.Core.Path.{◌≡◌, refl, sym, ap, ◌∙◌}
use lib.ListN.{length, take}
use lib.Seq.{length-take-le}
use borrow.Author.Rules.{rules}
use Rattle.trace.specs.Lent.{Left}
use Rattle.readiness.specs.inner.Phases.{statuses_in, moments_in}
use Rattle.capture.specs.Lent.{progress_in}
use Rattle.demand3.specs.Held.{carried_of}
use Rattle.execute.specs.inner.Lent.{state_in}
use Rattle.set_up.specs.Lent.{held_in}
use Rattle.feed.proofs.Accepting.{Accepted, accepted}
use Rattle.feed.proofs.Carried.{open_accepted}
use Rattle.replay_rules.specs.KeepingMoments.{HeldNoting}
use Rattle.replay.specs.declared.ReplayedPort.{ReplayedPort}
use Rattle.replay.specs.inner.Noted.{noted_in}
use Rattle.replay.specs.inner.Calls.{comes_to}
use Rattle.replay.proofs.Looping.{left_of}
use Rattle.replay.proofs.Joining.{no_record_yet}
use Rattle.replay.proofs.running.run_capture.Goals as goal

-- ---- with nothing carried
pub run_entries-requires : goal.run_entries-requires
run_entries-requires c =
    let relies : Accepted c.args.setup c.args.defaults.now (held_in c.args.port c.args.phases.now c.args.live.now c.args.cells.now) = accepted c.args.setup c.args.defaults.now _ c.requires.not_refused (search rules) (search rules) in
    let s = c in
    let a = s.args in
    record { not_refused = open_accepted a.setup a.defaults.now _ s.requires.not_refused (state_in a.port.dev a.phases.now a.live.now a.cells.now) refl refl refl (relies).good.kept.sound; between = s.requires.between }

pub returns-then-len-eq0 : goal.returns-then-len-eq0
returns-then-len-eq0 c =
    let a = c.args in
    λ kept. c.run_entries.ensures.answers_after kept
    ∙ ap (λ (n : ℕ). comes_to a.setup a.defaults.now (noted_in kept a.port.dev a.phases.now a.live.now a.cells.now) (take n a.port.carried) (progress_in a.begun) a.input.now a.answers.now)
    (sym c.if-len-eq0.true)

pub whole_size-size-requires : goal.whole_size-size-requires
whole_size-size-requires c =
    let sixteen : length c.args.port.carried ≡ 16 = search rules in
    let relies : Accepted c.args.setup c.args.defaults.now (held_in c.args.port c.args.phases.now c.args.live.now c.args.cells.now) = accepted c.args.setup c.args.defaults.now _ c.requires.not_refused (search rules) (search rules) in
    let s = c in omega (arith, (relies).short, sixteen)

pub carried_on-requires : goal.carried_on-requires
carried_on-requires c =
    let relies : Accepted c.args.setup c.args.defaults.now (held_in c.args.port c.args.phases.now c.args.live.now c.args.cells.now) = accepted c.args.setup c.args.defaults.now _ c.requires.not_refused (search rules) (search rules) in
    (relies).short

-- that complete no record
pub returns-then-size-eq0 : goal.returns-then-size-eq0
returns-then-size-eq0 c =
    let sixteen : length c.args.port.carried ≡ 16 = search rules in
    let relies : Accepted c.args.setup c.args.defaults.now (held_in c.args.port c.args.phases.now c.args.live.now c.args.cells.now) = accepted c.args.setup c.args.defaults.now _ c.requires.not_refused (search rules) (search rules) in
    let long : length (carried_of c.args.port) ≡ c.args.port.carried_len = length-take-le c.args.port.carried_len c.args.port.carried (omega (arith, (relies).short, sixteen)) in
    let s = c in
    let a = s.args in
    λ kept. ◌∙◌ {A = Left HeldNoting}
    (ap (λ (x : ReplayedPort). left_of kept x (statuses_in a.phases.now) (moments_in a.phases.now) a.live.now a.cells.now a.answers.now) c.carried_on.ensures)
    (no_record_yet a.setup a.defaults.now kept a.port (statuses_in a.phases.now) (moments_in a.phases.now) a.live.now a.cells.now a.input.now a.answers.now a.begun
    s.requires.between.tidy (relies).begun (long) (omega (arith, c.if-len-eq0)) (sym c.whole_size-size.ensures ∙ c.if-size-eq0.true))

-- that begin a record, which is whole now
pub run_joined-requires : goal.run_joined-requires
run_joined-requires c =
    let s = c in
    record { not_refused = s.requires.not_refused; between = s.requires.between; carried_len_nonzero = omega (arith, c.if-len-eq0); completes = (omega (arith, c.if-size-eq0), c.whole_size-size.ensures) }
