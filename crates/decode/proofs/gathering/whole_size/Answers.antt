-- `decode::gathering::whole_size` meets its contract.
use mathlib.Core.Path.{◌≡◌, ap, sym, ◌∙◌}
use mathlib.Core.List.{List, ◌++◌}
use Prim.Native.Nat.{ℕ, ◌+◌, ◌≤◌}
use native.Mathlib.Omega.{arith}
use lib.ListN.{length, take}
use Rattle.trace.specs.Format.{size_of}
use Rattle.trace.proofs.Lists.{length_joined}
use Rattle.trace.proofs.Gathering.{runs-nothing, runs_none, runs-whole}
use Rattle.decode.proofs.gathering.whole_size.Goals as goal

-- the call's trace
abbrev trace : (n : ℕ) (carried input : List ℕ) → List ℕ
trace n carried input = take n carried ++ input

-- how long it is
there : (n : ℕ) (carried input : List ℕ) → n ≤ length carried → length (trace n carried input) ≡ n + length input
there n carried input h = length_joined carried input n h

pub returns-then-there-eq0 : goal.returns-then-there-eq0
returns-then-there-eq0 c = let s = c in runs-nothing s.args.space (trace s.args.len s.args.carried.now s.args.input.now) (there s.args.len s.args.carried.now s.args.input.now (omega arith) ∙ c.if-there-eq0.true)

pub returns-then-there-size : goal.returns-then-there-size
returns-then-there-size c = let s = c in runs_none s.args.space (trace s.args.len s.args.carried.now s.args.input.now) (omega (arith, there s.args.len s.args.carried.now s.args.input.now (omega arith), sym (c.size_of-size.ensures ∙ ap size_of c.trace_byte.ensures), c.if-there-size))

pub returns : goal.returns
returns c =
    let s = c in
    runs-whole s.args.space (trace s.args.len s.args.carried.now s.args.input.now) _ (sym (c.size_of-size.ensures ∙ ap size_of c.trace_byte.ensures)) (omega (arith, there s.args.len s.args.carried.now s.args.input.now (omega arith), c.if-there-size)) c.if-space-lt8.false
