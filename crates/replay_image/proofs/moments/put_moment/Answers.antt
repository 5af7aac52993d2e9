-- `replay_image::moments::put_moment` meets its contract.
use Prim.Native.Nat.{ℕ, suc, ◌+◌}
use native.Mathlib.Omega.{arith}
use mathlib.Core.Path.{◌≡◌, ap, ◌∙◌}
use mathlib.Core.List.{List}
use lib.Seq.{sets}
use Rattle.state_layout.specs.Numbers.{low_first}
use Rattle.state_layout.proofs.Stores.{store_one}
use Rattle.replay_image.specs.Moments.{moment_bytes}
use Rattle.replay_image.proofs.moments.put_moment.Goals as goal

pub returns-in-None : goal.returns-in-None
unfolding moment_bytes
returns-in-None c =
    let told = c in
    let a = told.args in
    let bytes = a.bytes.now in
    let k : a.at + 1 ≡ suc a.at = omega arith in
    c.put_eight.ensures
    ∙ ap (λ (l : List ℕ). sets l (a.at + 1) (low_first 8 0)) c.put.ensures
    ∙ store_one bytes (moment_bytes a.moment) (low_first 8 0) a.at (a.at + 1) 0 (ap moment_bytes told.in-None.is) k

pub returns-in-Some : goal.returns-in-Some
unfolding moment_bytes
returns-in-Some c =
    let number = c in
    let told = number in
    let a = told.args in
    let bytes = a.bytes.now in
    let t = told.in-Some.time.0 in
    let k : a.at + 1 ≡ suc a.at = omega arith in
    c.put_eight-in-Some.ensures
    ∙ (λ i. sets (number.put-in-Some.ensures i) (a.at + 1) (low_first 8 (number.nanos_number.ensures i)))
    ∙ store_one bytes (moment_bytes a.moment) (low_first 8 t) a.at (a.at + 1) 1 (ap moment_bytes told.in-Some.is) k
