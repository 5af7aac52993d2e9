-- `state_image::numbers::put_words_at` meets its contract.
use Prim.Native.Nat.{ℕ, ◌+◌, ◌*◌}
use mathlib.Core.List.{List}
use mathlib.Core.Path.{◌≡◌, refl, ap, ◌∙◌}
use native.Mathlib.Nat.{add-zero}
use native.Mathlib.Omega.{arith}
use lib.Seq.{sets}
use lib.ListN.{length, drop, get_or}
use borrow.Author.Rules.{rules}
use Rattle.state_layout.proofs.Steps.{words_more, words_none}
use Rattle.state_layout.proofs.Stores.{store_many, store_none}
use Rattle.state_layout.proofs.Numbers.{length-low}
use Rattle.state_layout.specs.Numbers.{low_first, word_bytes}
use Rattle.state_image.proofs.numbers.put_words_at.Goals as goal

pub loop-i-init : goal.loop-i-init
loop-i-init c = let a = c.args in (refl, λ t. sets a.bytes.now (add-zero a.at t) (word_bytes a.words.now))

pub loop-i-preserved : goal.loop-i-preserved
loop-i-preserved c = let l = c in
    let a = l.args in
    let i = l.loop-i.i in
    let w = a.words.now in
    let v = get_or w i 0 in
    let rest = word_bytes (drop (i + 1) w) in
    let k : a.at + 4 * (i + 1) ≡ a.at + 4 * i + length (low_first 4 v) = omega (arith, length-low 4 v) in (
      search rules,
      ap (λ (x : List ℕ). sets x (a.at + 4 * (i + 1)) rest) (c.put_four.ensures ∙ ap (λ (x : ℕ). sets l.loop-i.bytes (a.at + 4 * i) (low_first 4 x)) c.from.ensures)
          ∙ store_many l.loop-i.bytes (word_bytes (drop i w)) (low_first 4 v) rest (a.at + 4 * i) (a.at + 4 * (i + 1)) (words_more i w c.loop-i-test.true) k
          ∙ l.loop-i.invariant.1,
    )

pub returns : goal.returns
returns c = let l = c in
    let a = l.args in
    let i = l.loop-i.i in
    store_none l.loop-i.bytes (word_bytes (drop i a.words.now)) (a.at + 4 * i) (words_none i a.words.now c.loop-i-test.false) ∙ l.loop-i.invariant.1
