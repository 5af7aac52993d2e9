-- `replay::stepping::next_step` meets its contract.
use Prim.Native.Nat.{ℕ, ◌+◌, ◌-◌, ◌≤◌, ◌<◌}
use mathlib.Core.Path.{◌≡◌, ◌∙◌}
use mathlib.Core.List.{List}
use native.Mathlib.Omega.{arith}
use lib.ListN.{length, drop, drop_of_length-le}
use borrow.Author.Rules.{rules}
use Rattle.capture.specs.Lent.{progress_in}
use Rattle.replay_state.specs.inner.Moves.{Tidy}
use Rattle.replay.specs.inner.Steps.{step_after_stamp, step_of}
use Rattle.replay.proofs.ByStep.{halted, at_the_end, no_shorter, still_in, still_tidy, stamped, step_after}
use Rattle.replay.proofs.stepping.next_step.Goals as goal

pub returns-then-next-input : goal.returns-then-next-input
returns-then-next-input c =
    let four : length c.args.r.stamp ≡ 4 = search rules in
    let input : List ℕ = c.args.input.now in
    let place : ℕ = c.args.at + (c.with_stamp-t.result.stamp_len - c.args.r.stamp_len) in
    let after : step_after_stamp (progress_in c.with_stamp-t.result) c.args.space place (drop place input) ≡ step_of (progress_in c.args.r) c.args.space c.args.at input = step_after c.args.r input c.args.at (four) c.requires.stamp_len_bound.0 c.requires.stamp_len_bound.1 _ c.with_stamp-t.ensures c.args.space in
    let w = c in
    let e = c.if-next-input.true in
    halted 0 w.with_stamp-t.result place (still_tidy w.args.r input w.args.at four w.requires.stamp_len_bound.0 w.requires.stamp_len_bound.1 _ w.with_stamp-t.ensures)
    ∙ at_the_end (progress_in w.with_stamp-t.result) w.args.space (place) (drop (place) (input)) (drop_of_length-le (input) {i = place} (omega (arith, e)))
    ∙ after

pub returns : goal.returns
returns c =
    let four : length c.args.r.stamp ≡ 4 = search rules in
    let input : List ℕ = c.args.input.now in
    let place : ℕ = c.args.at + (c.with_stamp-t.result.stamp_len - c.args.r.stamp_len) in
    let after : step_after_stamp (progress_in c.with_stamp-t.result) c.args.space place (drop place input) ≡ step_of (progress_in c.args.r) c.args.space c.args.at input = step_after c.args.r input c.args.at (four) c.requires.stamp_len_bound.0 c.requires.stamp_len_bound.1 _ c.with_stamp-t.ensures c.args.space in
    c.kind_step.ensures ∙ after

pub overflow_sub-next : goal.overflow_sub-next
overflow_sub-next c =
    let four : length c.args.r.stamp ≡ 4 = search rules in
    let input : List ℕ = c.args.input.now in
    let longer : c.args.r.stamp_len ≤ c.with_stamp-t.result.stamp_len = no_shorter c.args.r input c.args.at (four) c.requires.stamp_len_bound.0 c.requires.stamp_len_bound.1 _ c.with_stamp-t.ensures in
    longer

pub overflow_add-next : goal.overflow_add-next
overflow_add-next c =
    let four : length c.args.r.stamp ≡ 4 = search rules in
    let input : List ℕ = c.args.input.now in
    let place : ℕ = c.args.at + (c.with_stamp-t.result.stamp_len - c.args.r.stamp_len) in
    let within : place ≤ length input = still_in c.args.r input c.args.at (four) c.requires.stamp_len_bound.0 c.requires.stamp_len_bound.1 _ c.with_stamp-t.ensures in
    let m : length (input) < 9223372036854775808 = search rules in record { fits = omega (arith, m, within) }

pub kind_step-requires : goal.kind_step-requires
kind_step-requires c =
    let four : length c.args.r.stamp ≡ 4 = search rules in
    let input : List ℕ = c.args.input.now in
    let place : ℕ = c.args.at + (c.with_stamp-t.result.stamp_len - c.args.r.stamp_len) in
    let within : place ≤ length input = still_in c.args.r input c.args.at (four) c.requires.stamp_len_bound.0 c.requires.stamp_len_bound.1 _ c.with_stamp-t.ensures in
    let tidied : Tidy c.with_stamp-t.result = still_tidy c.args.r input c.args.at (four) c.requires.stamp_len_bound.0 c.requires.stamp_len_bound.1 _ c.with_stamp-t.ensures in
    let all_four : place < length input → c.with_stamp-t.result.stamp_len ≡ 4 = stamped c.args.r input c.args.at (four) c.requires.stamp_len_bound.0 c.requires.stamp_len_bound.1 _ c.with_stamp-t.ensures in
    let w = c in
    let ne = c.if-next-input.false in
    let h : place < length (input) = omega (arith, within, ne) in
    record { tidy = tidied; stamp_len_value = (all_four h, h) }
