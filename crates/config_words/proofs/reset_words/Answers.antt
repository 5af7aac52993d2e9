-- `config_words::reset_words` meets its contract. The loop's invariant: the words from `from` up to n are reset, and the rest are as
-- they were.
use mathlib.Core.Path.{◌≡◌, ap, ap₂, ◌∙◌}
use mathlib.Core.List.{List}
use Prim.Native.Nat.{ℕ, ◌<◌, ◌/◌, ◌%◌}
use native.Mathlib.Omega.{arith}
use lib.ListN.{length, get_or, set}
use Rattle.registers.specs.inner.Masks.{with_defaults}
use Rattle.config_words.specs.inner.Resetting.{by_mask}
use Rattle.config_words.proofs.Spans.{none_yet, not_yet, one_more, all_done}
use Rattle.config_words.proofs.reset_words.Goals as goal

pub loop-n-init : goal.loop-n-init
loop-n-init c = (omega arith, none_yet _ _ _ _)

pub loop-n-preserved : goal.loop-n-preserved
loop-n-preserved c =
    let m = c in
    let b = m in
    let a = b.args in
    let n = b.loop-n.n in
    let reset = by_mask a.reset in
    let live = a.live.now in
    let defaults = a.defaults.now in
    let has : n < length live = omega arith in
    let given : n < length defaults = omega arith in
    let same : get_or b.loop-n.live n 0 ≡ get_or live n 0 = ap (λ (l : List ℕ). get_or l n 0) b.loop-n.invariant.1 ∙ not_yet reset live defaults a.from n in (
      omega arith,
      ap₂ (λ (l : List ℕ) (v : ℕ). set l n v) b.loop-n.invariant.1 (c.with_defaults.ensures
          ∙ ap (λ (t : ℕ). with_defaults t (get_or b.loop-n.live n 0) (get_or defaults n 0)) m.mask_in-mask.ensures
          ∙ ap (λ (v : ℕ). reset (n / 64) (n % 64) v (get_or defaults n 0)) same)
          ∙ one_more reset live defaults a.from n (omega arith) has given,
    )

pub returns : goal.returns
returns c =
    let b = c in
    let a = b.args in
    b.loop-n.invariant.1 ∙ all_done (by_mask a.reset) a.live.now a.defaults.now a.from a.to b.loop-n.n (omega arith) (omega arith)
