-- `replay::writing::put_advances` meets its contract.
use Prim.Native.Nat.{ℕ, ◌+◌, ◌*◌, ◌≤◌}
use native.Mathlib.Omega.{arith}
use mathlib.Core.Path.{◌≡◌, refl, sym, ap, ◌∙◌}
use mathlib.Core.List.{List, [], ◌∷◌, ◌++◌, append-nil}
use lib.ListN.{length}
use lib.Seq.{paste, paste-zero}
use Rattle.times.specs.declared.Nanos.{Nanos}
use Rattle.capture.specs.Advances.{advance, advance_bytes}
use Rattle.replay_state.specs.declared.Due.{Due}
use Rattle.replay_state.specs.inner.Moves.{advances_in}
use Rattle.replay.proofs.Pasting.{paste_more}
use Rattle.replay.proofs.writing.put_advances.Goals as goal

five : (t : Nanos) → length (advance t) ≡ 5
unfolding advance
five t = refl

put_for : (trace : List ℕ) (at : ℕ) (d e : Due) → d ≡ e
    → paste trace at (advance_bytes (advances_in e)) (5 * length (advances_in e)) ≡ paste trace at (advance_bytes (advances_in d)) (5 * length (advances_in d))
put_for trace at d e q = ap (λ (x : Due). paste trace at (advance_bytes (advances_in x)) (5 * length (advances_in x))) (sym q)

put_none : (trace : List ℕ) (at : ℕ) → trace ≡ paste trace at [] (5 * 0)
put_none trace at = let e : 0 ≡ 5 * 0 = omega arith in paste-zero trace at [] ∙ ap (paste trace at []) e

put_one : (trace : List ℕ) (at : ℕ) (t : Nanos) → paste trace at (advance t) 5 ≡ paste trace at (advance_bytes (t ∷ [])) (5 * 1)
put_one trace at t = ap (λ (l : List ℕ). paste trace at l 5) (sym (append-nil (advance t)))

put_two : (trace : List ℕ) (at : ℕ) (t u : Nanos) → at ≤ length trace → paste (paste trace at (advance t) 5) (at + 5) (advance u) 5 ≡ paste trace at (advance_bytes (t ∷ u ∷ [])) (5 * 2)
put_two trace at t u h =
    paste_more trace at (advance t) 5 (advance u) 5 (five t) h ∙ ap (λ (l : List ℕ). paste trace at (advance t ++ l) 10) (sym (append-nil (advance u)))

pub returns-in-Nothing : goal.returns-in-Nothing
returns-in-Nothing c =
    let a = c.args in
    record {
      value = omega (arith, ap (λ (d : Due). length (advances_in d)) c.in-Nothing.is);
      trace_after = put_none a.trace.now a.at ∙ put_for a.trace.now a.at a.due _ c.in-Nothing.is;
    }

pub returns-in-One : goal.returns-in-One
returns-in-One c =
    let a = c.args in
    record {
      value = omega (arith, ap (λ (d : Due). length (advances_in d)) c.in-One.is);
      trace_after = c.put_advance.ensures ∙ put_one a.trace.now a.at c.in-One.first ∙ put_for a.trace.now a.at a.due _ c.in-One.is;
    }

pub returns-in-Two : goal.returns-in-Two
returns-in-Two c =
    let a = c.args in
    let t = c.in-Two in
    record {
      value = omega (arith, ap (λ (d : Due). length (advances_in d)) t.is);
      trace_after =
          c.put_advance-in-Two-2.ensures
          ∙ ap (λ (l : List ℕ). paste l (a.at + 5) (advance t.second) 5) c.put_advance-in-Two.ensures
          ∙ put_two a.trace.now a.at t.first t.second (omega arith)
          ∙ put_for a.trace.now a.at a.due _ t.is;
    }
