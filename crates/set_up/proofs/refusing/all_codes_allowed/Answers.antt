-- `set_up::refusing::all_codes_allowed` meets its contract: the codes of the first i slots are allowed.
use Prim.Native.Nat.{ℕ}
use native.Mathlib.Omega.{arith}
use mathlib.Core.Path.{◌≡◌, sym, ap, ◌∙◌}
use Rattle.readiness.specs.Status.{entry_of}
use Rattle.bits.specs.Every.{every}
use Rattle.bits.proofs.Every.{every_none, every_more, every_not}
use Rattle.demand3.specs.Refusals.{codes_allowed, all_codes_allowed}
use Rattle.set_up.proofs.refusing.all_codes_allowed.Goals as goal

pub loop-i-init : goal.loop-i-init
loop-i-init c = every_none _

pub returns-then-not-codes_allowed : goal.returns-then-not-codes_allowed
unfolding all_codes_allowed
returns-then-not-codes_allowed c =
    let l = c in
    let s = l.args.setup in
    sym (every_not s.slots (λ k. codes_allowed (entry_of s k)) l.loop-i.i (omega arith) (sym c.codes_allowed.ensures ∙ c.if-not-codes_allowed.true))

pub loop-i-preserved : goal.loop-i-preserved
loop-i-preserved c =
    let l = c in
    every_more l.loop-i.i _ l.loop-i.invariant (sym c.codes_allowed.ensures ∙ c.if-not-codes_allowed.false)

pub returns : goal.returns
unfolding all_codes_allowed
returns c =
    let l = c.loop-i in
    let s = c.args.setup in
    let e : l.i ≡ s.slots = omega arith in
    sym (ap (λ (n : ℕ). every n (λ k. codes_allowed (entry_of s k))) (sym e) ∙ l.invariant)
