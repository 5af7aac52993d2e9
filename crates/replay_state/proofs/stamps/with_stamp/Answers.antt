-- `replay_state::stamps::with_stamp` meets its contract.
use Prim.Native.Nat.{ℕ, ◌+◌, ◌-◌}
use mathlib.Core.Path.{◌≡◌, ap, sym, ◌∙◌}
use mathlib.Core.List.{List, ◌++◌}
use native.Mathlib.Omega.{arith}
use lib.ListN.{length, take, drop, length-append, length-drop}
use lib.Seq.{length-take-le}
use borrow.Author.Rules.{rules}
use Rattle.trace.specs.Format.{pad}
use Rattle.capture.specs.declared.Replay.{Replay}
use Rattle.replay_state.proofs.Moves.{bytes_join, bytes_taken, stamped_so, bytes_there}
use Rattle.replay_state.proofs.stamps.with_stamp.Goals as goal

pub returns : goal.returns
returns c =
    let r = c.args.r in
    let n = r.stamp_len in
    let input = c.args.input.now in
    let at = c.args.at in
    let l : length r.stamp ≡ 4 = search rules in
    let x = c.copy_from_slice.new.self in
    let bytes = take (4 - n) (drop at input) in
    let more = c.min-more in
    let many : n + more.result - n ≡ more.result = omega arith in
    let long : length x ≡ n + more.result - n =
    c.copy_from_slice.ensures.len ∙ length-take-le (n + more.result - n) (drop n r.stamp) (omega (arith, length-drop n r.stamp, more.ensures)) in
    let taken : x ≡ bytes =
    c.copy_from_slice.ensures.after
    ∙ ap (λ (m : ℕ). take m (drop at input)) (omega (arith, more.ensures))
    ∙ bytes_taken input at (4 - n) in
    stamped_so r bytes _ _ c.requires.tidy
    (omega (arith, long, ap length taken, length-append (take n r.stamp) bytes, bytes_there r l c.requires.stamp_len_bound.0))
    (ap (λ (m : ℕ). take n r.stamp ++ (x ++ drop m (drop n r.stamp))) (sym long)
    ∙ bytes_join r.stamp x n l (ap (λ (q : Replay). q.stamp) c.requires.tidy) (omega (arith, long, more.ensures))
    ∙ ap (λ (b : List ℕ). pad 4 (take n r.stamp ++ b)) taken)
