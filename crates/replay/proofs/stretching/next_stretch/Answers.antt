-- `replay::stretching::next_stretch` meets its contract: OneMore has one part behind the other.
use Prim.Native.Nat.{ℕ, ◌+◌, ◌-◌, ◌≤◌, ◌<◌}
use native.Mathlib.Omega.{arith}
use mathlib.Core.Path.{◌≡◌, sym, ap, ◌∙◌, subst}
use mathlib.Core.List.{List, ◌++◌}
use lib.ListN.{length, take, drop, length-append, length-drop}
use lib.Seq.{length-take-le, take_at, take-append-add, take-append-le}
use borrow.Author.Rules.{rules}
use Rattle.capture.specs.Lent.{progress_in}
use Rattle.replay.specs.declared.Stretch.{Stretch}
use Rattle.replay.specs.inner.Stretches.{WrittenOut, Stretched}
use Rattle.replay.proofs.OneMore.{written_append}
use Rattle.replay.proofs.stretching.next_stretch.Goals as goal

-- what is lent of the trace, and the trace with a part put there
part_long : (trace : List ℕ) (len : ℕ) → length (take (length trace - len) (drop len trace)) ≡ length trace - len
part_long trace len = length-take-le (length trace - len) (drop len trace) (omega (arith, length-drop len trace))

abbrev after : (trace part : List ℕ) (len : ℕ) → List ℕ
after trace part len = take len trace ++ (part ++ drop (length trace - len) (drop len trace))

module _ (trace part : List ℕ) (len : ℕ) (h : len ≤ length trace) where
  front_long : length (take len trace) ≡ len
  front_long = length-take-le len trace h

  long : length part ≡ length trace - len → length (after trace part len) ≡ length trace
  long p =
      let rest = drop (length trace - len) (drop len trace) in
      omega (arith, p, length-append (take len trace) (part ++ rest), length-append part rest, front_long, length-drop (length trace - len) (drop len trace), length-drop len trace, h)

  front_kept : take len (after trace part len) ≡ take len trace
  front_kept = take_at (take len trace) (part ++ drop (length trace - len) (drop len trace)) len front_long

  both_there : (n : ℕ) → n ≤ length part → take (len + n) (after trace part len) ≡ take len trace ++ take n part
  both_there n k =
      let rest = drop (length trace - len) (drop len trace) in
      ap (λ (m : ℕ). take (m + n) (after trace part len)) (sym front_long)
      ∙ take-append-add (take len trace) (part ++ rest) n
      ∙ ap (λ (l : List ℕ). take len trace ++ l) (take-append-le n part rest k)

pub loop-trace-init : goal.loop-trace-init
loop-trace-init c = c.in_ok-s.ensures

pub overflow_sub-trace : goal.overflow_sub-trace
overflow_sub-trace c = c.loop-trace.invariant.few

pub overflow_sub-space : goal.overflow_sub-space
overflow_sub-space c = c.loop-trace.invariant.written.room

pub next_part-requires-in-loop-trace : goal.next_part-requires-in-loop-trace
next_part-requires-in-loop-trace c =
    let l = c.loop-trace in
    let v = l.invariant in
    record { between = v.between; at_in_bounds = (v.written.to, omega (arith, part_long l.trace l.s.len, c.loop-trace-test)) }

pub returns-after-loop-trace : goal.returns-after-loop-trace
returns-after-loop-trace c = c.loop-trace.invariant

pub returns-in-Err : goal.returns-in-Err
returns-in-Err c =
    let a = c.args in
    let s : Stretch = c.loop-trace.s in
    let v = c.loop-trace.invariant in
    let trace : List ℕ = c.loop-trace.trace in
    let part : List ℕ = c.next_part-in-loop-trace.new.trace in
    let p : length part ≡ length trace - s.len = omega (arith, part_long trace s.len) in
    record {
      few = omega (arith, v.few, long trace part s.len v.few p);
      some = v.some;
      between = v.between;
      written =
          subst (WrittenOut (progress_in a.r) a.space a.at a.input.now (progress_in s.replay) s.at s.answers) (sym (front_kept trace part s.len v.few)) v.written;
    }

pub loop-trace-preserved : goal.loop-trace-preserved
loop-trace-preserved c =
    let a = c.args in
    let s : Stretch = c.loop-trace.s in
    let v = c.loop-trace.invariant in
    let trace : List ℕ = c.loop-trace.trace in
    let part : List ℕ = c.next_part-in-loop-trace.new.trace in
    let more : Stretch = c.in-Ok.more in
    let follows : Stretched s.replay (a.space - s.answers) s.at a.input.now more part = c.in-Ok.ensures in
    let p : length part ≡ length trace - s.len = omega (arith, part_long trace s.len) in
    rw c.joined-s.ensures (record {
      few = omega (arith, follows.few, v.few, p, long trace part s.len v.few p);
      some = omega (arith, follows.some);
      between = follows.between;
      written =
          subst (WrittenOut (progress_in a.r) a.space a.at a.input.now (progress_in more.replay) more.at (s.answers + more.answers))
          (sym (both_there trace part s.len v.few more.len follows.few))
          (written_append v.written follows.written);
    })
