-- `replay::stepping::kind_step` meets its contract.
use Prim.Native.Nat.{ℕ, suc, ◌<◌}
use mathlib.Core.Path.{◌≡◌, ap, sym, ◌∙◌}
use mathlib.Core.List.{List}
use native.Mathlib.Omega.{arith}
use lib.ListN.{length, drop, length-drop}
use Rattle.std.specs.Prelude.{Some, None, Err, slice_get}
use Rattle.times.specs.declared.Nanos.{Nanos}
use Rattle.decode.proofs.Fields.{kind_at_lem}
use Rattle.capture.specs.Advances.{due}
use Rattle.capture.specs.Lent.{progress_in}
use Rattle.replay_state.specs.inner.Moves.{advances_in, checked_at}
use Rattle.replay_state.proofs.Dues.{dues_held}
use Rattle.replay.specs.inner.Steps.{step_at_advances}
use Rattle.replay.proofs.ByStep.{some_left, none_left, no_advance, checked_so}
use Rattle.replay.proofs.stepping.kind_step.Goals as goal

pub returns-in-Some : goal.returns-in-Some
returns-in-Some c =
    let a = c.args in
    let input : List ℕ = a.input.now in
    let rest : List ℕ = drop a.at input in
    let n = c.in-Some.number in
    checked_so (progress_in a.r) a.space a.at rest (Some n) (omega (arith, c.requires.stamp_len_value.1, length-drop a.at input))
    (sym c.in-Some.is ∙ c.checked.ensures ∙ ap (checked_at (progress_in a.r)) (sym (kind_at_lem input a.at)))
    _ (λ i. Err (record { number = n; replay = c.ended_with.ensures i; at = a.at }))

pub returns-in-Some-after : goal.returns-in-Some-after
returns-in-Some-after c =
    let a = c.args in
    let input : List ℕ = a.input.now in
    let rest : List ℕ = drop a.at input in
    let p = progress_in a.r in
    let dues : List Nanos = due p.earlier p.stamp in
    let held : advances_in c.due_of.result ≡ dues = ap advances_in c.due_of.ensures ∙ dues_held p.earlier p.stamp in
    let next_is = some_left dues a.r.answered c.in-Some-after.by
    (ap (λ (ts : List Nanos). slice_get ts a.r.answered) (sym held) ∙ sym c.after.ensures ∙ c.in-Some-after.is) in
    checked_so p a.space a.at rest None (omega (arith, c.requires.stamp_len_value.1, length-drop a.at input))
    (sym c.in_default.is ∙ c.checked.ensures ∙ ap (checked_at p) (sym (kind_at_lem input a.at)))
    c.advance_step.result
    (c.advance_step.ensures (drop (suc a.r.answered) dues) rest ∙ ap (λ (ts : List Nanos). step_at_advances ts p a.space a.at rest) (sym next_is))

pub returns-in-None : goal.returns-in-None
returns-in-None c =
    let a = c.args in
    let input : List ℕ = a.input.now in
    let rest : List ℕ = drop a.at input in
    let p = progress_in a.r in
    let dues : List Nanos = due p.earlier p.stamp in
    let held : advances_in c.due_of.result ≡ dues = ap advances_in c.due_of.ensures ∙ dues_held p.earlier p.stamp in
    let none_is = none_left dues a.r.answered
    (ap (λ (ts : List Nanos). slice_get ts a.r.answered) (sym held) ∙ sym c.after.ensures ∙ c.in-None.is) in
    checked_so p a.space a.at rest None (omega (arith, c.requires.stamp_len_value.1, length-drop a.at input))
    (sym c.in_default.is ∙ c.checked.ensures ∙ ap (checked_at p) (sym (kind_at_lem input a.at)))
    c.record_step.result (no_advance p a.space a.at (drop a.r.answered dues) none_is rest c.record_step.result c.record_step.ensures)
