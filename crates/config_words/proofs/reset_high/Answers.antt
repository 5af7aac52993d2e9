-- `config_words::reset_high` meets its contract. One word after the other, and the words between them need no reset.
use mathlib.Core.Path.{◌∙◌}
use Prim.Native.Nat.{ℕ, ◌+◌, ◌*◌, ◌≤◌}
use native.Mathlib.Omega.{arith}
use lib.ListN.{length}
use Rattle.config_words.specs.inner.Resetting.{mask_in, by_mask}
use Rattle.config_words.proofs.Changing.{no_word, next_word, last_words}
use Rattle.config_words.proofs.reset_high.Goals as goal

pub returns : goal.returns
unfolding mask_in
returns c =
    let b5 = c in
    let b4 = b5 in
    let b3 = b4 in
    let b2 = b3 in
    let b1 = b2 in
    let s = b1 in
    let a = s.args in
    let live = a.live.now in
    let defaults = a.defaults.now in
    let start : ℕ = a.slot * 64 in
    let lives : start + 64 ≤ length live = s.requires.0 in
    let given : start + 64 ≤ length defaults = s.requires.1 in
    let reset = by_mask a.reset in
    let e0 = no_word reset live defaults a.slot lives given (start + 18) 18 (omega arith) in
    let e1 = b1.reset_at.ensures ∙ next_word reset live defaults a.slot lives given (start + 18) 18 20 _ e0 (omega arith) (omega arith) (omega arith) tt tt in
    let e2 = b2.reset_at-2.ensures ∙ next_word reset live defaults a.slot lives given (start + 18) 21 21 _ e1 (omega arith) (omega arith) (omega arith) tt tt in
    let e3 = b3.reset_at-3.ensures ∙ next_word reset live defaults a.slot lives given (start + 18) 22 22 _ e2 (omega arith) (omega arith) (omega arith) tt tt in
    let e4 = b4.reset_at-4.ensures ∙ next_word reset live defaults a.slot lives given (start + 18) 23 30 _ e3 (omega arith) (omega arith) (omega arith) tt tt in
    let e5 = b5.reset_at-5.ensures ∙ next_word reset live defaults a.slot lives given (start + 18) 31 32 _ e4 (omega arith) (omega arith) (omega arith) tt tt in
    e5 ∙ last_words reset live defaults a.slot lives given (start + 18) 33 64 (omega arith) (omega arith) tt
