-- `replay::stepping::record_step` meets its contract.
use Prim.Native.Nat.{ℕ, ◌+◌, ◌-◌, ◌<◌}
use mathlib.Core.Path.{◌≡◌, ap, sym, ◌∙◌}
use mathlib.Core.List.{List}
use native.Mathlib.Omega.{arith}
use lib.ListN.{length, take, drop, length-drop}
use lib.Seq.{take-length}
use borrow.Author.Rules.{rules}
use Rattle.std.specs.Prelude.{Result, Ok}
use Rattle.trace.specs.Format.{next}
use Rattle.trace.specs.inner.Gathered.{whole_size}
use Rattle.capture.specs.Lent.{progress_in}
use Rattle.replay.specs.declared.Run.TheVariants.{Record}
use Rattle.replay.specs.declared.Step.{Step}
use Rattle.replay.specs.declared.End.{End}
use Rattle.replay.proofs.ByStep.{size_there, halted, no_record, a_record}
use Rattle.replay.proofs.stepping.record_step.Goals as goal

pub returns-then-size-eq0 : goal.returns-then-size-eq0
returns-then-size-eq0 c =
    let rest : List ℕ = drop c.args.at c.args.input.now in
    let size_is : c.whole_size-size.result ≡ whole_size c.args.space (next (rest)) =
    let a = c.args in
    c.whole_size-size.ensures
    ∙ ap (λ (l : List ℕ). whole_size a.space (next l)) (ap (λ (n : ℕ). take n (rest)) (sym (length-drop a.at a.input.now)) ∙ take-length (rest)) in
    let w = c in
    let s = w in
    halted 0 s.args.r s.args.at s.requires.tidy ∙ no_record (progress_in s.args.r) s.args.space s.args.at (rest) w.whole_size-size.result (size_is) c.if-size-eq0.true

pub overflow_add-result : goal.overflow_add-result
overflow_add-result c =
    let rest : List ℕ = drop c.args.at c.args.input.now in
    let size_is : c.whole_size-size.result ≡ whole_size c.args.space (next (rest)) =
    let a = c.args in
    c.whole_size-size.ensures
    ∙ ap (λ (l : List ℕ). whole_size a.space (next l)) (ap (λ (n : ℕ). take n (rest)) (sym (length-drop a.at a.input.now)) ∙ take-length (rest)) in
    let w = c in
    let s = w in
    let input = s.args.input.now in
    let m : length input < 9223372036854775808 = search rules in
    record { fits = omega (arith, m, s.requires.stamp_len_value.1, length-drop s.args.at input, size_there s.args.space (rest), size_is) }

pub returns : goal.returns
returns c =
    let rest : List ℕ = drop c.args.at c.args.input.now in
    let size_is : c.whole_size-size.result ≡ whole_size c.args.space (next (rest)) =
    let a = c.args in
    c.whole_size-size.ensures
    ∙ ap (λ (l : List ℕ). whole_size a.space (next l)) (ap (λ (n : ℕ). take n (rest)) (sym (length-drop a.at a.input.now)) ∙ take-length (rest)) in
    let w = c in
    let s = w in
    let size = w.whole_size-size.result in
    ◌∙◌ {A = Result Step End}
    (λ i. Ok (record { run = Record size; replay = c.begin_record.ensures i; at = s.args.at + size }))
    (a_record (progress_in s.args.r) s.args.space s.args.at (rest) size (size_is) c.if-size-eq0.false)
