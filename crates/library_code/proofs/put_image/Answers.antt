-- `library_code::put_image` meets its contract.
use Prim.Native.Nat.{ℕ, ◌+◌, ◌*◌}
use mathlib.Core.List.{List}
use mathlib.Core.Path.{◌≡◌, ap, ◌∙◌}
use native.Mathlib.Omega.{arith}
use lib.Seq.{sets}
use lib.ListN.{length, take, length-take}
use borrow.Author.Rules.{rules}
use Rattle.library_code.proofs.Showing.{at_most_is, image_stores}
use Rattle.state_layout.specs.Image.{state_bytes}
use Rattle.state_layout.specs.Numbers.{word_bytes}
use Rattle.library_code.proofs.put_image.Goals as goal

pub returns : goal.returns
returns c =
    let long : length c.args.fed.port.carried ≡ 16 = search rules in
    let s = c in
    let a = s.args in
    let f = a.fed in
    let l = take a.slots f.statuses in
    let at = 16 + c.image_size-words.result in
    let place : at ≡ 16 + (46 + 27 * a.slots) = omega (arith, c.image_size-words.ensures.value ∙ ap (λ (k : ℕ). 46 + 27 * k) (at_most_is a.slots 32 s.requires.0)) in
    let all : length l ≡ a.slots = omega (arith, length-take a.slots f.statuses, c.put_state_behind.ensures.statuses_len, s.requires.0) in record {
      image_after = c.put_words_at-2.ensures
          ∙ ap (λ (x : List ℕ). sets x (at + 256 * a.slots) (word_bytes a.cells.now))
          (c.put_words_at.ensures
          ∙ ap (λ (x : List ℕ). sets x at (word_bytes a.live.now))
          (c.put_state_behind.ensures.image_after ∙ ap (λ (x : List ℕ). sets x 16 (state_bytes f.port l)) c.put_counts.ensures))
          ∙ image_stores f.consumed f.written f.port l a.live.now a.cells.now a.slots (long) all s.requires.1 a.image.now at place;
      statuses_len = (c.put_state_behind.ensures.statuses_len, long);
    }
