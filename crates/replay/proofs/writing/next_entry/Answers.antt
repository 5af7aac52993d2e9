-- `replay::writing::next_entry` meets its contract.
use Prim.Native.Nat.{◌+◌, ◌≤◌}
use native.Mathlib.Omega.{arith}
use mathlib.Core.Path.{◌≡◌, refl, sym, ap, ◌∙◌}
use mathlib.Core.Bool.{false}
use lib.ListN.{length, take, drop, length-drop}
use lib.Seq.{length-take-le}
use borrow.Author.Rules.{rules}
use Rattle.std.specs.Prelude.{Some}
use Rattle.times.specs.declared.Nanos.{Nanos}
use Rattle.ticks.specs.Ticks.{difference, went_back, in_nanos}
use Rattle.capture.specs.Advances.{stamp_in, advances}
use Rattle.replay_state.specs.inner.Moves.{due_of}
use Rattle.replay_state.proofs.Dues.{later_went, gone_on}
use Rattle.replay.proofs.writing.next_entry.Goals as goal

pub returns : goal.returns
returns c =
    let a = c.args in
    let at_stamp = c.stamp_at-stamp in
    let d = c.difference-d in
    let input = a.input.now in
    let bytes = take 4 (drop a.at input) in
    let there : a.at + 21 ≤ length input = omega (arith, c.if-input-at-lt-WHOLE) in
    let four : length bytes ≡ 4 = length-take-le 4 (drop a.at input) (omega (arith, length-drop a.at input)) in
    let is : d.result ≡ difference a.before (stamp_in bytes) = d.ensures ∙ ap (difference a.before) at_stamp.ensures in
    let forward : went_back (difference a.before (stamp_in bytes)) ≡ false =
    ap went_back (sym is) ∙ sym c.went_back.ensures ∙ c.if-went_back.false in
    record {
      there = there;
      stamp = at_stamp.ensures;
      forward = later_went (Some a.before) a.before (stamp_in bytes) refl ∙ forward;
      size = c.size_in_entry-size.ensures;
      some = omega arith;
      due =
          c.advances_of-due.ensures
          ∙ ap (λ (t : Nanos). due_of (advances t)) (c.in_nanos.ensures ∙ ap in_nanos is)
          ∙ ap due_of (sym (gone_on (Some a.before) a.before bytes four refl forward));
      answers = c.if-space-lt-ANSWERS.false;
      bytes = c.if-room-lt-BYTES.false;
    }
