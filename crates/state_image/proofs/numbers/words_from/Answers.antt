-- `state_image::numbers::words_from` meets its contract.
use Prim.Native.Nat.{ℕ, ◌+◌, ◌*◌, ◌-◌, ◌<◌}
use mathlib.Core.Path.{refl, ap, ◌∙◌}
use native.Mathlib.Numerals.{add-one}
use native.Mathlib.Nat.{sub-zero}
use native.Mathlib.Omega.{arith}
use lib.Seq.{sets}
use lib.ListN.{length, drop, set, length-set}
use Rattle.state_layout.proofs.Steps.{words_in_more, words_in_none}
use Rattle.state_layout.proofs.Stores.{store_one, store_none, sets-whole}
use Rattle.state_layout.proofs.Numbers.{length_words_in}
use Rattle.state_layout.specs.Numbers.{words_in, number_at}
use Rattle.state_image.proofs.numbers.words_from.Goals as goal

pub loop-i-init : goal.loop-i-init
loop-i-init c = let a = c.args in (refl, λ i. sets a.words.now 0 (words_in (sub-zero (length a.words.now) i) a.bytes.now))

pub loop-i-preserved : goal.loop-i-preserved
loop-i-preserved c = let l = c in
    let a = l.args in
    let i = l.loop-i.i in
    let n = length a.words.now in
    let b = a.bytes.now in
    let rest = words_in (n - (i + 1)) (drop (4 * (i + 1)) b) in
    let h : i < n = omega (arith, c.loop-i-test.true, l.loop-i.invariant.0) in (
      length-set l.loop-i.words i c.four_at.result ∙ l.loop-i.invariant.0,
      ap (λ (v : ℕ). sets (set l.loop-i.words i v) (i + 1) rest) c.four_at.ensures
          ∙ store_one l.loop-i.words (words_in (n - i) (drop (4 * i) b)) rest i (i + 1) (number_at 4 (4 * i) b) (words_in_more n i b h) (add-one i)
          ∙ l.loop-i.invariant.1,
    )

pub returns : goal.returns
returns c = let l = c in
    let a = l.args in
    let n = length a.words.now in
    store_none l.loop-i.words (words_in (n - l.loop-i.i) (drop (4 * l.loop-i.i) a.bytes.now)) l.loop-i.i (words_in_none n l.loop-i.i (drop (4 * l.loop-i.i) a.bytes.now) (omega (arith, c.loop-i-test.false, l.loop-i.invariant.0)))
    ∙ l.loop-i.invariant.1
    ∙ sets-whole (words_in n a.bytes.now) a.words.now (length_words_in n a.bytes.now)
