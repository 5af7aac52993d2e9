-- `decode::gathering::ending` meets its contract: the four ways in which a trace ends.
use mathlib.Core.Path.{◌≡◌, ap, sym, ◌∙◌}
use mathlib.Core.List.{List, ◌++◌}
use Prim.Native.Nat.{ℕ, ◌+◌, ◌≤◌}
use native.Mathlib.Omega.{arith}
use lib.ListN.{length, take}
use Rattle.trace.specs.Format.{size_of}
use Rattle.trace.proofs.Lists.{length_joined}
use Rattle.trace.proofs.Gathering.{EndsSo, ends_none, ends_unknown, ends-part, ends_full}
use Rattle.decode.specs.inner.Gathering.{ending_of}
use Rattle.decode.proofs.gathering.ending.Goals as goal

-- the call's trace
abbrev trace : (n : ℕ) (carried input : List ℕ) → List ℕ
trace n carried input = take n carried ++ input

-- how long it is
there : (n : ℕ) (carried input : List ℕ) → n ≤ length carried → length (trace n carried input) ≡ n + length input
there n carried input h = length_joined carried input n h

-- the end, field by field
so : (bs : List ℕ) (n m : ℕ) → EndsSo bs n m → record { number = n; count = m } ≡ ending_of bs
so bs n m e = λ i. record { number = e.number i; count = e.count i }

pub returns-then-there-eq0 : goal.returns-then-there-eq0
returns-then-there-eq0 c = let s = c in so (trace s.args.len s.args.carried.now s.args.input.now) 0 0 (ends_none (trace s.args.len s.args.carried.now s.args.input.now) (there s.args.len s.args.carried.now s.args.input.now (omega arith) ∙ c.if-there-eq0.true))

pub returns-then-size-eq0 : goal.returns-then-size-eq0
returns-then-size-eq0 c =
    let s = c in
    so (trace s.args.len s.args.carried.now s.args.input.now) 31 0 (ends_unknown (trace s.args.len s.args.carried.now s.args.input.now) (omega (arith, there s.args.len s.args.carried.now s.args.input.now (omega arith))) (sym (c.size_of-size.ensures ∙ ap size_of c.trace_byte.ensures) ∙ c.if-size-eq0.true))

pub returns-then-there-size : goal.returns-then-there-size
returns-then-there-size c =
    let s = c in
    so (trace s.args.len s.args.carried.now s.args.input.now) 0 _ (ends-part (trace s.args.len s.args.carried.now s.args.input.now) _ (there s.args.len s.args.carried.now s.args.input.now (omega arith)) (omega (arith, sym (c.size_of-size.ensures ∙ ap size_of c.trace_byte.ensures), c.if-there-size)))

pub returns : goal.returns
returns c =
    let s = c in
    so (trace s.args.len s.args.carried.now s.args.input.now) 30 _ (ends_full (trace s.args.len s.args.carried.now s.args.input.now) _ (sym (c.size_of-size.ensures ∙ ap size_of c.trace_byte.ensures)) (omega (arith, c.if-size-eq0)) (omega (arith, there s.args.len s.args.carried.now s.args.input.now (omega arith), c.if-there-size)))
