-- `config_words::mask_in` meets its contract.
use native.Mathlib.Omega.{arith}
use mathlib.Core.Path.{◌≡◌, refl, sym, ap}
use Prim.Native.Nat.{ℕ}
use borrow.Author.Tests.{ne_eqb}
use Rattle.config_words.specs.declared.ResetMasks.{ResetMasks}
use Rattle.config_words.specs.inner.Resetting.{mask_in}
use Rattle.config_words.proofs.mask_in.Goals as goal

arm : (t : ResetMasks) {i n : ℕ} → i ≡ n → mask_in t n ≡ mask_in t i
arm t e = ap (mask_in t) (sym e)

pub returns-in_default : goal.returns-in_default
unfolding mask_in
returns-in_default c =
    rw (
      ne_eqb c.args.i 1 (λ e. omega arith),
      ne_eqb c.args.i 3 (λ e. omega arith),
      ne_eqb c.args.i 4 (λ e. omega arith),
      ne_eqb c.args.i 15 (λ e. omega arith),
      ne_eqb c.args.i 17 (λ e. omega arith),
      ne_eqb c.args.i 20 (λ e. omega arith),
      ne_eqb c.args.i 21 (λ e. omega arith),
      ne_eqb c.args.i 22 (λ e. omega arith),
      ne_eqb c.args.i 30 (λ e. omega arith),
      ne_eqb c.args.i 32 (λ e. omega arith),
    ) refl

pub returns-in-1 : goal.returns-in-1
unfolding mask_in
returns-in-1 c = arm c.args.reset c.in-1.is

pub returns-in-3 : goal.returns-in-3
unfolding mask_in
returns-in-3 c = arm c.args.reset c.in-3.is

pub returns-in-4 : goal.returns-in-4
unfolding mask_in
returns-in-4 c = arm c.args.reset c.in-4.is

pub returns-in-15 : goal.returns-in-15
unfolding mask_in
returns-in-15 c = arm c.args.reset c.in-15.is

pub returns-in-17 : goal.returns-in-17
unfolding mask_in
returns-in-17 c = arm c.args.reset c.in-17.is

pub returns-in-20 : goal.returns-in-20
unfolding mask_in
returns-in-20 c = arm c.args.reset c.in-20.is

pub returns-in-21 : goal.returns-in-21
unfolding mask_in
returns-in-21 c = arm c.args.reset c.in-21.is

pub returns-in-22 : goal.returns-in-22
unfolding mask_in
returns-in-22 c = arm c.args.reset c.in-22.is

pub returns-in-30 : goal.returns-in-30
unfolding mask_in
returns-in-30 c = arm c.args.reset c.in-30.is

pub returns-in-32 : goal.returns-in-32
unfolding mask_in
returns-in-32 c = arm c.args.reset c.in-32.is
