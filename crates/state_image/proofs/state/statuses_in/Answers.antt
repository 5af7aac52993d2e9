-- `state_image::state::statuses_in` meets its contract.
use Prim.Native.Nat.{◌+◌, ◌*◌, ◌-◌}
use mathlib.Core.List.{List}
use mathlib.Core.Path.{◌≡◌, ap, sym, ◌∙◌}
use native.Mathlib.Numerals.{add-one}
use native.Mathlib.Omega.{arith}
use lib.Seq.{sets}
use lib.ListN.{length, drop, set, length-set}
use Rattle.state_layout.proofs.Steps.{statuses_in_more, statuses_in_none, length_statuses_in}
use Rattle.state_layout.proofs.Stores.{store_one, store_none, sets-whole}
use Rattle.state_layout.specs.Reading.{status_in, statuses_in_bytes}
use Rattle.readiness.specs.declared.Status.{Status}
use Rattle.state_image.proofs.state.statuses_in.Goals as goal

pub loop-i-init : goal.loop-i-init
loop-i-init c = let e : length c.all_down-statuses.result ≡ 32 = ap (λ (s : List Status). length s) c.all_down-statuses.ensures in
    let b = c.args.bytes.now in
    (e, sets-whole (statuses_in_bytes 32 (drop 46 b)) c.all_down-statuses.result (length_statuses_in 32 (drop 46 b) ∙ sym e))

pub loop-i-preserved : goal.loop-i-preserved
loop-i-preserved c = let l = c in
    let b = l.args.bytes.now in
    let i = l.loop-i.i in
    let s = l.loop-i.statuses in
    let rest = statuses_in_bytes (32 - (i + 1)) (drop (46 + 27 * (i + 1)) b) in (
      length-set s i c.status_in.result ∙ l.loop-i.invariant.0,
      ap (λ (v : Status). sets (set s i v) (i + 1) rest) c.status_in.ensures
          ∙ store_one s (statuses_in_bytes (32 - i) (drop (46 + 27 * i) b)) rest i (i + 1) (status_in (drop (46 + 27 * i) b)) (statuses_in_more 32 i b c.loop-i-test.true) (add-one i)
          ∙ l.loop-i.invariant.1,
    )

pub returns : goal.returns
returns c = let l = c in
    let b = l.args.bytes.now in
    let i = l.loop-i.i in
    store_none l.loop-i.statuses (statuses_in_bytes (32 - i) (drop (46 + 27 * i) b)) i (statuses_in_none 32 i (drop (46 + 27 * i) b) c.loop-i-test.false) ∙ l.loop-i.invariant.1
