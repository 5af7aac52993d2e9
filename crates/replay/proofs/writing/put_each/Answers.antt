-- `replay::writing::put_each` meets its contract: each turn puts one byte more.
use Prim.Native.Nat.{suc, ◌+◌, ◌<◌, ◌≤◌}
use native.Mathlib.Omega.{arith}
use mathlib.Core.Path.{◌≡◌, refl, sym, ap, ◌∙◌}
use lib.ListN.{length, get_or, drop, set, length-set, length-drop}
use lib.Seq.{get_or-drop, paste, paste-zero, paste-suc}
use Rattle.replay.proofs.writing.put_each.Goals as goal

pub loop-i-init : goal.loop-i-init
loop-i-init c = (refl, paste-zero c.args.trace.now c.args.at (drop c.args.from c.args.input.now))

pub loop-i-preserved : goal.loop-i-preserved
loop-i-preserved c =
    let l = c.loop-i in
    let a = c.args in
    let s = drop a.from a.input.now in
    let one : suc l.i ≡ l.i + 1 = omega arith in (
      length-set l.trace (a.at + l.i) (get_or a.input.now (a.from + l.i) 0) ∙ l.invariant.0,
      (λ k. set (l.invariant.1 k) (a.at + l.i) (sym (get_or-drop a.from a.input.now l.i 0) k))
          ∙ paste-suc a.trace.now a.at s l.i 0 (omega arith) (omega (arith, length-drop a.from a.input.now))
          ∙ ap (paste a.trace.now a.at s) one,
    )

pub returns : goal.returns
returns c =
    let l = c.loop-i in
    let a = c.args in
    let e : l.i ≡ a.size = omega arith in
    l.invariant.1 ∙ ap (paste a.trace.now a.at (drop a.from a.input.now)) e
