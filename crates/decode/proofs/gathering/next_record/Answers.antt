-- `decode::gathering::next_record` meets its contract.
use borrow.Author.Rules.{rules}
use native.Mathlib.Omega.{arith}
use mathlib.Core.Path.{◌≡◌, sym, ap, ◌∙◌}
use Prim.Native.Nat.{ℕ, ◌<◌}
use mathlib.Core.List.{List}
use lib.ListN.{length, get_or, drop, length-drop}
use Rattle.trace.specs.Format.{size_of}
use Rattle.trace.proofs.Gathering.{size-within, runs-nothing, runs_none, runs_not, runs-whole}
use Rattle.decode.proofs.Fields.{kind_at_lem}
use Rattle.decode.proofs.gathering.next_record.Goals as goal
use Rattle.decode.proofs.gathering.next_record.Goals.{then-input-at-2-via-then-input-at-2, then-input-at-2-via-else-input-at-2+then-space-lt8, then-input-at-2-via-else-input-at-2+else-space-lt8+then-size-eq0}

-- the size of the record at `at`, by its first byte
sized : (input : List ℕ) (at size : ℕ) → size ≡ size_of (get_or input at 0) → size_of (get_or (drop at input) 0 0) ≡ size
sized input at size e = sym (e ∙ ap size_of (sym (kind_at_lem input at)))

pub returns-then-input-at : goal.returns-then-input-at
returns-then-input-at c =
    let a = c.args in
    sym (runs-nothing a.space (drop a.at a.input.now) (omega (arith, length-drop a.at a.input.now, c.if-input-at)))

pub overflow_add-at : goal.overflow_add-at
overflow_add-at c =
    let a = c.args in
    let m : length a.input.now < 9223372036854775808 = search rules in
    omega (arith, c.requires, m, size-within (get_or a.input.now a.at 0), c.size_of-size.ensures)

pub returns-then-input-at-2 : goal.returns-then-input-at-2
returns-then-input-at-2 c =
    let a = c.args in
    let bs = drop a.at a.input.now in
    let size = sized a.input.now a.at _ c.size_of-size.ensures in
    elim c.then-input-at-2.branch [
      | then-input-at-2-via-then-input-at-2 w ↦ sym (runs_none a.space bs (omega (arith, length-drop a.at a.input.now, size, w.if-input-at-2.true)))
      | then-input-at-2-via-else-input-at-2+then-space-lt8 w ↦ sym (runs_not a.space bs w.if-space-lt8.true)
      | then-input-at-2-via-else-input-at-2+else-space-lt8+then-size-eq0 w ↦ sym (runs-whole a.space bs 0 (size ∙ w.if-size-eq0.true) (omega arith) w.if-space-lt8.false)
    ]

pub returns : goal.returns
returns c =
    let a = c.args in
    record {
      size = runs-whole a.space (drop a.at a.input.now) _ (sized a.input.now a.at _ c.size_of-size.ensures) (omega (arith, length-drop a.at a.input.now, c.if-input-at-2)) c.if-space-lt8.false;
      some = omega (arith, c.if-size-eq0.false);
      of_bytes = c.decode_at.ensures;
    }
