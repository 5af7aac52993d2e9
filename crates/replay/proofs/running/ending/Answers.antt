-- `replay::running::ending` meets its contract.
use Prim.Native.Nat.{ℕ, ◌+◌, ◌-◌, ◌≤◌, ◌<◌}
use mathlib.Core.Path.{◌≡◌, sym, ap, ◌∙◌}
use mathlib.Core.List.{List}
use native.Mathlib.Omega.{arith}
use lib.ListN.{length, take, drop, length-drop}
use lib.Seq.{take-length}
use lib.Dec.{eqb}
use borrow.Author.Rules.{rules}
use borrow.Author.Tests.{eq-eqb, ne_eqb}
use Rattle.trace.proofs.Tests.{if_true, if_false}
use Rattle.trace.proofs.Loop.{end_few}
use Rattle.capture.specs.declared.Replay.{Replay}
use Rattle.records.specs.declared.Port.{Port}
use Rattle.demand3.specs.Held.{opened}
use Rattle.feed.specs.declared.FedPort.{FedPort}
use Rattle.feed.specs.inner.Calls.{carries_on}
use Rattle.replay.specs.declared.ReplayedPort.{ReplayedPort}
use Rattle.replay.specs.inner.Calls.{took_kind_of}
use Rattle.replay.proofs.running.ending.Goals as goal

pub overflow_add-result : goal.overflow_add-result
overflow_add-result c =
    let left : List ℕ = drop c.args.end.at c.args.input.now in
    let left_is : take (length c.args.input.now - c.args.end.at) (left) ≡ left = ap (λ (n : ℕ). take n (left)) (sym (length-drop c.args.end.at c.args.input.now)) ∙ take-length (left) in
    let carries : c.carry_on-rest.result ≡ carries_on (opened c.args.dev) (left) = c.carry_on-rest.ensures ∙ (λ i. carries_on (c.nothing_carried-2.ensures i) (left_is i)) in
    let few : c.carry_on-rest.result.consumed ≤ length c.args.input.now - c.args.end.at =
    omega (arith, ap (λ (x : FedPort). x.consumed) (carries), (end_few (left)).1, length-drop c.args.end.at c.args.input.now) in
    let s = c in
    let small : length s.args.input.now < 9223372036854775808 = search rules in
    omega (arith, few, s.requires.at_in_bounds.0)

pub took_kind-requires : goal.took_kind-requires
took_kind-requires c =
    let left : List ℕ = drop c.args.end.at c.args.input.now in
    let left_is : take (length c.args.input.now - c.args.end.at) (left) ≡ left = ap (λ (n : ℕ). take n (left)) (sym (length-drop c.args.end.at c.args.input.now)) ∙ take-length (left) in
    let carries : c.carry_on-rest.result ≡ carries_on (opened c.args.dev) (left) = c.carry_on-rest.ensures ∙ (λ i. carries_on (c.nothing_carried-2.ensures i) (left_is i)) in
    let few : c.carry_on-rest.result.consumed ≤ length c.args.input.now - c.args.end.at =
    omega (arith, ap (λ (x : FedPort). x.consumed) (carries), (end_few (left)).1, length-drop c.args.end.at c.args.input.now) in
    let s = c in
    record { tidy = s.requires.tidy; stamp_len_value = λ h. s.requires.at_in_bounds.1 (omega (arith, few, h)) }

pub returns-then-end-ne0 : goal.returns-then-end-ne0
returns-then-end-ne0 c =
    let a = c.args in
    ap {B = ReplayedPort} (λ (p : Port). record { number = a.end.number; consumed = a.end.at; written = a.w; port = p; replay = a.end.replay }) c.nothing_carried.ensures
    ∙ sym (if_false (eqb a.end.number 0) _ _ (ne_eqb a.end.number 0 c.if-end-ne0.true))

pub carry_on-rest-requires : goal.carry_on-rest-requires
carry_on-rest-requires c = omega (arith, ap (λ (p : Port). p.carried_len) c.nothing_carried-2.ensures)

pub returns : goal.returns
returns c =
    let left : List ℕ = drop c.args.end.at c.args.input.now in
    let left_is : take (length c.args.input.now - c.args.end.at) (left) ≡ left = ap (λ (n : ℕ). take n (left)) (sym (length-drop c.args.end.at c.args.input.now)) ∙ take-length (left) in
    let carries : c.carry_on-rest.result ≡ carries_on (opened c.args.dev) (left) = c.carry_on-rest.ensures ∙ (λ i. carries_on (c.nothing_carried-2.ensures i) (left_is i)) in
    let s = c in
    let a = s.args in
    ap {B = ReplayedPort} (λ (t : Replay). record {
      number = c.carry_on-rest.result.number;
      consumed = a.end.at + c.carry_on-rest.result.consumed;
      written = a.w;
      port = c.carry_on-rest.result.port;
      replay = t;
    }) c.took_kind.ensures
    ∙ ap {B = ReplayedPort} (λ (x : FedPort). record { number = x.number; consumed = a.end.at + x.consumed; written = a.w; port = x.port; replay = took_kind_of a.end.replay x.consumed })
    (carries)
    ∙ sym (if_true (eqb a.end.number 0) _ _ (eq-eqb a.end.number 0 (omega (arith, c.if-end-ne0.false))))
