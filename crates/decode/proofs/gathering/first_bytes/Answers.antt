-- `decode::gathering::first_bytes` meets its contract.
use native.Mathlib.Omega.{arith}
use mathlib.Core.Path.{◌≡◌, sym, ap, ap₂, ◌∙◌}
use Prim.Native.Nat.{ℕ}
use native.Mathlib.Nat.{sub-zero}
use lib.ListN.{take, set, replicate}
use mathlib.Core.List.{List, ◌++◌}
use Rattle.trace.specs.Format.{pad}
use Rattle.trace.proofs.Lists.{pad_more, length_joined}
use Rattle.decode.proofs.gathering.first_bytes.Goals as goal

pub loop-j-init : goal.loop-j-init
loop-j-init g c = ap (λ (n : ℕ). replicate n 0) (sym (sub-zero g.row.N))

pub loop-j-preserved : goal.loop-j-preserved
loop-j-preserved g c =
    let l = c.loop-j in
    let a = c.args in
    let bs = take a.len a.carried.now ++ a.input.now in
    ap₂ (λ (o : List ℕ) (b : ℕ). set o l.j b) l.invariant c.trace_byte.ensures
    ∙ pad_more g.row.N bs l.j (omega arith) (omega (arith, length_joined a.carried.now a.input.now a.len (omega arith)))

pub returns : goal.returns
returns g c =
    let l = c.loop-j in
    let a = c.args in
    let e : l.j ≡ a.n = omega arith in
    l.invariant ∙ ap (λ (n : ℕ). pad g.row.N (take n (take a.len a.carried.now ++ a.input.now))) e
