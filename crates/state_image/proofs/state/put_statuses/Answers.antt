-- `state_image::state::put_statuses` meets its contract.
use Prim.Native.Nat.{ℕ, ◌+◌, ◌*◌, ◌<◌, ◌≤◌}
use Prim.Native.Nat.{◌+◌, ◌*◌, ◌≤◌}
use mathlib.Core.List.{List, ◌++◌}
use mathlib.Core.Path.{◌≡◌, refl, ap, ◌∙◌}
use mathlib.Core.Path.{◌≡◌, refl, ◌∙◌}
use native.Mathlib.Omega.{arith}
use lib.Seq.{sets, get_or-take}
use lib.ListN.{length, take, drop, get_or, length-take}
use lib.Seq.{sets}
use lib.ListN.{length, take, drop, length-take}
use borrow.Author.Rules.{rules}
use Rattle.state_layout.proofs.Steps.{statuses_more, statuses_none}
use Rattle.state_layout.proofs.Stores.{store_many, store_none}
use Rattle.state_layout.proofs.ReadBack.{length_status}
use Rattle.state_layout.specs.Image.{status_bytes, statuses_bytes}
use Rattle.readiness.specs.Status.{down}
use Rattle.readiness.specs.declared.Status.{Status}
use Rattle.state_layout.proofs.Steps.{statuses_none}
use Rattle.state_layout.proofs.Stores.{store_none}
use Rattle.state_layout.specs.Image.{statuses_bytes}
use Rattle.state_image.proofs.state.put_statuses.Goals as goal

pub loop-i-init : goal.loop-i-init
loop-i-init c = (c.requires, refl, refl)

pub loop-i-preserved : goal.loop-i-preserved
loop-i-preserved c = let l = c in
    let a = l.args in
    let i = l.loop-i.i in
    let s = take a.lent a.statuses in
    let v = get_or a.statuses i down in
    let rest = statuses_bytes (drop (i + 1) s) in
    let long : length a.statuses ≡ 32 = search rules in
    let h : i < length s = omega (arith, length-take a.lent a.statuses, long, c.loop-i-test.true, l.loop-i.invariant.0) in
    let k : 46 + 27 * (i + 1) ≡ 46 + 27 * i + length (status_bytes v) = omega (arith, length_status v) in (
      l.loop-i.invariant.0,
      search rules,
      ap (λ (x : List ℕ). sets x (46 + 27 * (i + 1)) rest) c.put_status.ensures
          ∙ store_many l.loop-i.bytes (statuses_bytes (drop i s)) (status_bytes v) rest (46 + 27 * i) (46 + 27 * (i + 1)) (statuses_more i s down h ∙ ap (λ (x : Status). status_bytes x ++ rest) (get_or-take a.lent a.statuses i down c.loop-i-test.true)) k
          ∙ l.loop-i.invariant.2,
    )

pub returns : goal.returns
returns c = let l = c in
    let a = l.args in
    let i = l.loop-i.i in
    let short : length (take a.lent a.statuses) ≤ i = omega (arith, length-take a.lent a.statuses, c.loop-i-test.false) in
    store_none l.loop-i.bytes (statuses_bytes (drop i (take a.lent a.statuses))) (46 + 27 * i) (statuses_none i (take a.lent a.statuses) short) ∙ l.loop-i.invariant.2
