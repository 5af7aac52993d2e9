-- `text_fields::number_of` meets its contract.
use Rattle.std.proofs.Common.{◌≡◌, ℕ, ◌+◌, ◌*◌, ◌<◌, length, true, arith, sym, ◌∙◌}
use Rattle.std.specs.Prelude.{Some, slice_index}
use Rattle.text_fields.specs.Text.{digit_of, width_allowed, number_of}
use Rattle.text_fields.proofs.Numbers.{value_passes, value_ends, number_more, power_more, some_small, width_most}
use Rattle.text_fields.proofs.number_of.Goals as goal

pub loop-b-init : goal.loop-b-init
unfolding number_of
loop-b-init c =
    let wide : width_allowed c.args.form (length c.args.s.now) ≡ true = sym c.width_allowed.ensures ∙ c.if-not-width_allowed.false in
    record { wide = width_most c.args.form (length c.args.s.now) wide; base_is = c.base_of-base.ensures; small = omega arith; rest = simp wide }

pub overflow_add-value : goal.overflow_add-value
overflow_add-value c =
    let digit : ℕ = c.in_ok-digit.digit in
    let l = c.loop-b in
    let small : digit < 16 = some_small c.args.form.base (slice_index c.args.s.now l.b-index) (sym c.in_ok-digit.ensures) in
    let fits : l.value * c.base_of-base.result + c.from.result < 4294967296 =
    rw (l.invariant.base_is, c.from.ensures) (number_more c.args.form.base l.value l.b-index digit l.invariant.small (omega arith) small) in
    omega arith

pub loop-b-preserved : goal.loop-b-preserved
loop-b-preserved c =
    let digit : ℕ = c.in_ok-digit.digit in
    let base = c.args.form.base in
    let l = c.loop-b in
    let is : digit_of base (slice_index c.args.s.now l.b-index) ≡ Some digit = sym c.in_ok-digit.ensures in
    record {
      wide = l.invariant.wide;
      base_is = l.invariant.base_is;
      small = rw (l.invariant.base_is, c.from.ensures) (power_more base l.value l.b-index digit l.invariant.small (some_small base (slice_index c.args.s.now l.b-index) is));
      rest = rw (l.invariant.base_is, c.from.ensures) (sym (value_passes base l.value c.args.s.now l.b-index c.loop-b-test.true is) ∙ l.invariant.rest);
    }

pub returns : goal.returns
returns c = sym (value_ends c.args.form.base c.loop-b.value c.args.s.now c.loop-b.b-index c.loop-b-test.false) ∙ c.loop-b.invariant.rest
