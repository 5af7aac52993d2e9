-- `registers::held` meets its contract: each return is a case of the rule.
use mathlib.Core.Path.{◌≡◌, refl, sym, ap, ◌∙◌}
use mathlib.Core.Bool.{Bool, true, false, ◌&&◌, cond}
use Prim.Native.Nat.{ℕ}
use lib.Dec.{ltb}
use Rattle.bits.specs.Bits.{word, number}
use Rattle.registers.specs.Words.{stays}
use Rattle.registers.specs.inner.Masks.{held}
use Rattle.registers.proofs.held.Goals as goal

two : (b : Bool) → cond b 3 0 ≡ word (λ k. ltb k 2 && b)
unfolding word number
two true = refl
two false = refl

-- the two bits or none, by the rule
by : (i value : ℕ) (b : Bool) → stays i value ≡ b → cond b 3 0 ≡ held i value
unfolding held
by i value b e = two b ∙ ap (λ (x : Bool). word (λ k. ltb k 2 && x)) (sym e)

pub returns-then-stays : goal.returns-then-stays
returns-then-stays c = by c.args.i c.args.value true (sym c.stays.ensures ∙ c.if-stays.true)

pub returns-else-stays : goal.returns-else-stays
returns-else-stays c = by c.args.i c.args.value false (sym c.stays.ensures ∙ c.if-stays.false)
