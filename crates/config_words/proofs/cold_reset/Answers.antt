-- `config_words::cold_reset` meets its contract: each turn resets one word, and the words past the end stay.
use mathlib.Core.Path.{refl, ap, ◌∙◌}
use mathlib.Core.List.{List}
use Prim.Native.Nat.{ℕ, ◌<◌}
use native.Mathlib.Omega.{arith}
use lib.ListN.{length, get_or, set, length-set}
use Rattle.config_space.specs.Functions.{cold_word, cold_reset}
use Rattle.config_words.proofs.Spans.{none_yet, one_more, all_done, every-word}
use Rattle.config_words.proofs.cold_reset.Goals as goal

pub loop-n-init : goal.loop-n-init
loop-n-init c = (refl, none_yet _ _ _ _)

pub loop-n-preserved : goal.loop-n-preserved
loop-n-preserved c =
    let live = c.args.live.now in
    let defaults = c.args.defaults.now in
    let n = c.loop-n.n in
    let has : n < length live = omega (arith, c.min-n-end.ensures) in
    let given : n < length defaults = omega (arith, c.min-n-end.ensures) in (
      length-set c.loop-n.live n _ ∙ c.loop-n.invariant.0,
      ap (λ (l : List ℕ). set l n (get_or defaults n 0)) c.loop-n.invariant.1 ∙ one_more cold_word live defaults 0 n (omega arith) has given,
    )

pub returns : goal.returns
unfolding cold_reset
returns c =
    let live = c.args.live.now in
    let defaults = c.args.defaults.now in
    c.loop-n.invariant.1
    ∙ all_done cold_word live defaults 0 (length live) c.loop-n.n (omega arith) (omega (arith, c.min-n-end.ensures))
    ∙ every-word cold_word live defaults
