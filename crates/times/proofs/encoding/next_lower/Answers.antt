-- `times::next_lower` meets its contract: each return is a case of the definition.
use mathlib.Core.Path.{◌≡◌, refl, sym, ap, ◌∙◌}
use mathlib.Core.Bool.{true, false}
use Prim.Native.Nat.{ℕ, ◌-◌, ◌<◌}
use lib.Dec.{eqb, ltb}
use borrow.Author.Rules.{rules}
use borrow.Author.Tests.{eq-eqb, ne_eqb, ltb-true}
use Rattle.bits.proofs.Tests.{both_right}
use Rattle.times.specs.declared.Code.{Code}
use Rattle.std.specs.Prelude.{Some, None}
use Rattle.times.specs.Codes.{value_of, scale_of}
use Rattle.times.specs.Encoder.{code_of, starts_scale, next_lower}
use Rattle.times.proofs.encoding.next_lower.Goals as goal

above_0 : (value scale : ℕ) → starts_scale value scale ≡ true → 0 < scale
unfolding starts_scale
above_0 value scale e = ltb-true 0 scale (both_right (eqb value 16) (ltb 0 scale) e)

module _ (k : Code) where
  at_zero : value_of k ≡ 0 → next_lower k ≡ None
  unfolding next_lower
  at_zero e = rw (eq-eqb (value_of k) 0 e) refl

  at_start : (value_of k ≡ 0 → ⊥) → starts_scale (value_of k) (scale_of k) ≡ true → next_lower k ≡ Some (code_of 511 (scale_of k - 1))
  unfolding next_lower
  at_start n e = rw (ne_eqb (value_of k) 0 n, e) refl

  in_scale : (value_of k ≡ 0 → ⊥) → starts_scale (value_of k) (scale_of k) ≡ false → next_lower k ≡ Some (code_of (value_of k - 1) (scale_of k))
  unfolding next_lower
  in_scale n e = rw (ne_eqb (value_of k) 0 n, e) refl

pub returns-then-value-eq0 : goal.returns-then-value-eq0
returns-then-value-eq0 c = sym (at_zero c.args.c c.if-value-eq0.true)

pub overflow_sub-scale : goal.overflow_sub-scale
overflow_sub-scale c =
    let s = c.starts_scale in
    let p : 0 < scale_of c.args.c = above_0 _ _ (sym s.ensures ∙ c.if-starts_scale.true) in
    search rules

pub returns-then-starts_scale : goal.returns-then-starts_scale
returns-then-starts_scale c =
    let b = c in
    ap Some c.code_at.ensures
    ∙ sym (at_start b.args.c b.if-value-eq0.false (sym b.starts_scale.ensures ∙ c.if-starts_scale.true))

pub returns-else-starts_scale : goal.returns-else-starts_scale
returns-else-starts_scale c =
    let b = c in
    ap Some c.code_at-else-starts_scale.ensures
    ∙ sym (in_scale b.args.c b.if-value-eq0.false (sym b.starts_scale.ensures ∙ c.if-starts_scale.false))
