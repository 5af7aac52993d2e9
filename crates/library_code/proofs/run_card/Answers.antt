-- `library_code::run_card` meets its contract.
use Prim.Native.Nat.{ℕ, ◌*◌, ◌-◌, ◌<◌, ◌≤◌}
use mathlib.Core.Path.{◌≡◌, ap, sym, subst, ◌∙◌}
use mathlib.Core.List.{List}
use lib.ListN.{length, take, replicate}
use borrow.Author.Tests.{lt-ltb, le-ltb}
use native.Mathlib.Omega.{arith}
use native.Mathlib.Nat.{sub-zero}
use Rattle.trace_in_pieces.specs.Pieces.{blank_held}
use Rattle.library_code.specs.Ways.{captured, piece_of}
use Rattle.library_code.proofs.Showing.{take_same}
use Rattle.library_run.specs.Run.{image_size, showing, ran_on, run_on_card}
use Rattle.bits.proofs.Choices.{when_true, when_false}
use Rattle.bits.specs.Widths.{at_most}
use Rattle.library_code.proofs.run_card.Goals as goal

pub returns-then-image-image_bytes : goal.returns-then-image-image_bytes
unfolding run_on_card
returns-then-image-image_bytes c = let a = c.args in
    let size : c.image_bytes.result ≡ image_size (at_most a.card.setup.slots 32) (at_most a.card.queue 4095) = c.image_bytes.ensures ∙ (λ t. image_size (c.min-slots.ensures t) (c.min-queue.ensures t)) in
    sym (when_true _ _ _ (lt-ltb _ _ (subst (λ (n : ℕ). length a.image.now < n) size c.if-image-image_bytes.true)))

pub returns : goal.returns
unfolding run_on_card
returns c =
    let a = c.args in
    let n = c.min-slots.result in
    let q = c.min-queue.result in
    let k = at_most a.card.setup.slots 32 in
    let m = at_most a.card.queue 4095 in
    let en : n ≡ k = c.min-slots.ensures in
    let eq : q ≡ m = c.min-queue.ensures in
    let z₁ : List ℕ = replicate 2048 0 in
    let z₂ : List ℕ = replicate 4095 0 in
    let n₃₂ : 64 * k ≤ 2048 = omega arith in
    let q₄ : m ≤ 4095 = omega arith in
    let words : take (64 * n - 0) a.words.now ≡ take (64 * k) a.words.now = ap (λ (j : ℕ). take j a.words.now) (sub-zero (64 * n) ∙ ap (λ (j : ℕ). 64 * j) en) in
    let live : take (64 * n - 0) z₁ ≡ replicate (64 * k) 0 = ap (λ (j : ℕ). take j z₁) (sub-zero (64 * n) ∙ ap (λ (j : ℕ). 64 * j) en) ∙ take_same (64 * k) 2048 0 n₃₂ in
    let cells : take (q - 0) z₂ ≡ replicate m 0 = ap (λ (j : ℕ). take j z₂) (sub-zero q ∙ eq) ∙ take_same m 4095 0 q₄ in
    let size : c.image_bytes.result ≡ image_size k m = c.image_bytes.ensures ∙ (λ t. image_size (en t) (eq t)) in
    c.run_and_show.ensures
    ∙ (λ t. showing k (ran_on (captured a.way) (piece_of a.way) a.card.setup (words t) (blank_held a.card.setup (live t) (cells t)) a.input.now a.answers.now) a.image.now)
    ∙ sym (when_false _ _ _ (le-ltb _ _ (subst (λ (j : ℕ). j ≤ length a.image.now) size c.if-image-image_bytes.false)))
