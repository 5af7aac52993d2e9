-- `config_words::reset_changing` meets its contract.
use mathlib.Core.Path.{ap, ◌∙◌}
use mathlib.Core.List.{List}
use Prim.Native.Nat.{ℕ, ◌+◌, ◌*◌}
use native.Mathlib.Omega.{arith}
use Rattle.config_space.specs.Functions.{reset_where}
use Rattle.config_words.specs.inner.Resetting.{by_mask, changing_between}
use Rattle.config_words.proofs.Changing.{two_changing}
use Rattle.config_words.proofs.reset_changing.Goals as goal

pub returns : goal.returns
returns c =
    let b2 = c in
    let b1 = b2 in
    let a = b1.args in
    let live = a.live.now in
    let defaults = a.defaults.now in
    let start : ℕ = a.slot * 64 in
    let reset = by_mask a.reset in
    b2.reset_high.ensures
    ∙ ap (λ (l : List ℕ). reset_where (changing_between (start + 18) (start + 64)) reset l defaults) b1.reset_low.ensures
    ∙ two_changing reset live defaults start (start + 18) (start + 64) (omega arith) (omega arith)
