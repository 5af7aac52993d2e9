-- `replay::writing::write_entries` meets its contract: OneMore has an entry, Pasting its bytes.
use Prim.Native.Nat.{ℕ, ◌+◌, ◌-◌, ◌*◌, ◌≤◌, ◌<◌}
use native.Mathlib.Omega.{arith}
use mathlib.Core.Path.{◌≡◌, refl, sym, ap, ◌∙◌, subst}
use mathlib.Core.List.{List, [], ◌++◌}
use lib.ListN.{length, take, drop, length-drop}
use lib.Seq.{paste}
use borrow.Author.Rules.{rules}
use Rattle.bits.proofs.Bytes.{bytes_of}
use Rattle.times.specs.declared.Nanos.{Nanos}
use Rattle.capture.specs.Advances.{advance_bytes}
use Rattle.capture.specs.Replay.{after_entry}
use Rattle.replay_state.specs.inner.Moves.{advances_in}
use Rattle.replay.specs.declared.Entry.{Entry}
use Rattle.replay.specs.inner.Stretches.{StandsNext, WrittenOut}
use Rattle.replay.proofs.OneMore.{none_yet, ts, bytes, few, short, held, count, one_more}
use Rattle.replay.proofs.Pasting.{entry_put}
use Rattle.replay.proofs.writing.write_entries.Goals as goal

pub loop-e-init : goal.loop-e-init
loop-e-init c =
    let a = c.args in
    let z : 0 ≡ a.space - a.space = omega arith in (
      subst (λ (n : ℕ). WrittenOut (after_entry a.earlier) a.space a.from a.input.now (after_entry a.earlier) a.from n []) z
          (none_yet (after_entry a.earlier) a.space a.from a.input.now c.requires),
      omega arith,
      omega arith,
      refl,
    )

pub overflow_add-at-in-Some-2 : goal.overflow_add-at-in-Some-2
overflow_add-at-in-Some-2 c =
    let o = c.loop-e in
    let input : List ℕ = c.args.input.now in
    let found : Entry = c.in-Some.e in
    let next : StandsNext o.before input o.at o.left (length o.trace - o.len) found = c.in-Some.ensures in
    let small : length input < 9223372036854775808 = search rules in
    omega (arith, small, next.there, short next next.some)

pub overflow_add-len : goal.overflow_add-len
overflow_add-len c =
    let o = c.loop-e in
    let found : Entry = c.in-Some.e in
    let next : StandsNext o.before c.args.input.now o.at o.left (length o.trace - o.len) found = c.in-Some.ensures in
    let many : length o.trace < 9223372036854775808 = search rules in
    let end_is : c.put_advances-end.result ≡ o.len + 5 * length (ts next next.some) =
    c.put_advances-end.ensures.value ∙ ap (λ (l : List Nanos). o.len + 5 * length l) (held next next.some) in
    omega (arith, end_is, few next next.some, next.bytes, o.invariant.2, many, short next next.some)

pub loop-e-preserved : goal.loop-e-preserved
loop-e-preserved c =
    let a = c.args in
    let o = c.loop-e in
    let input : List ℕ = a.input.now in
    let found : Entry = c.in-Some.e in
    let n : StandsNext o.before input o.at o.left (length o.trace - o.len) found = c.in-Some.ensures in
    let s = n.some in
    let l = drop (o.at + 4) input in
    let long : o.len + 27 ≤ length o.trace = omega (arith, n.bytes, o.invariant.2) in
    let first = c.put_advances-end in
    let second = c.put_bytes in
    let end_is : first.result ≡ o.len + 5 * length (ts n s) = first.ensures.value ∙ ap (λ (xs : List Nanos). o.len + 5 * length xs) (held n s) in
    let left_there : 17 ≤ length l = omega (arith, length-drop (o.at + 4) input, n.there) in
    let advanced : c.from.result ≡ length (advances_in found.due) = c.from.ensures ∙ c.count.ensures in
    let trace₁ : first.new.trace ≡ paste o.trace o.len (advance_bytes (ts n s)) (5 * length (ts n s)) =
    first.ensures.trace_after ∙ ap (λ (xs : List Nanos). paste o.trace o.len (advance_bytes xs) (5 * length xs)) (held n s) in
    let trace₂ : second.new.trace ≡ paste first.new.trace (o.len + 5 * length (ts n s)) l 17 =
    second.ensures ∙ ap (λ (m : ℕ). paste first.new.trace m l 17) end_is in
    let front : take (first.result + found.size) second.new.trace ≡ take o.len o.trace ++ (advance_bytes (ts n s) ++ bytes n s) =
    ap (λ (m : ℕ). take (m + found.size) second.new.trace) end_is
    ∙ entry_put o.trace o.len (ts n s) l found.size first.new.trace second.new.trace trace₁ trace₂ (short n s) left_there (omega (arith, few n s, long)) in
    let more = one_more n s (bytes_of input (λ i h. omega (arith, c.type_inv.input i))) o.invariant.1 o.invariant.0 in (
      subst (λ (m : ℕ). WrittenOut (after_entry a.earlier) a.space a.from input (after_entry found.stamp) (o.at + 4 + found.size) (a.space - (o.left - 8 * m - 8)) (take (first.result + found.size) second.new.trace))
          (sym advanced)
          (subst (WrittenOut (after_entry a.earlier) a.space a.from input (after_entry found.stamp) (o.at + 4 + found.size) (a.space - (o.left - 8 * length (advances_in found.due) - 8))) (sym front) more),
      omega (arith, o.invariant.1),
      omega (arith, end_is, few n s, long, short n s),
      omega (arith, o.invariant.3),
    )
