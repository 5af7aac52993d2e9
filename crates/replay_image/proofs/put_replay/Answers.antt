-- `replay_image::put_replay` meets its contract.
use Prim.Native.Nat.{ℕ, ◌%◌}
use mathlib.Core.Bool.{Bool}
use mathlib.Core.List.{List}
use mathlib.Core.Path.{◌≡◌, ap, ◌∙◌}
use lib.Seq.{sets}
use lib.ListN.{length, set}
use borrow.Author.Rules.{rules}
use Rattle.std.specs.Prelude.{is_some}
use Rattle.bits.specs.Bits.{one}
use Rattle.state_layout.specs.Numbers.{low_first}
use Rattle.replay_image.proofs.ReadBack.{replay_stores}
use Rattle.replay_image.proofs.put_replay.Goals as goal

pub returns : goal.returns
returns c =
    let s = c in
    let r = s.args.r in
    let long : length r.stamp ≡ 4 = search rules in
    c.put-3.ensures
    ∙ ap (λ (l : List ℕ). set l 11 r.ended)
    (c.put-2.ensures
    ∙ ap (λ (l : List ℕ). set l 10 r.answered)
    (c.put_stamp.ensures
    ∙ (λ i. sets ((c.put.ensures
    ∙ ap (λ (l : List ℕ). set l 5 (r.stamp_len % 256))
    (c.put_four.ensures
    ∙ (λ j. sets ((c.put_bool.ensures ∙ ap (λ (b : Bool). set s.args.bytes.now 0 (one b)) (c.is_some.ensures ∙ ap is_some c.before-2.ensures)) j) 1 (low_first 4 (c.earlier_number.ensures j))))) i) 6 (c.up_to.ensures i))))
    ∙ replay_stores s.args.bytes.now r long
