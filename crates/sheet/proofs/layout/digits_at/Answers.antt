-- `sheet::layout::digits_at` meets its contract.
use Rattle.std.proofs.Common.{◌≡◌, ℕ, ◌+◌, ◌*◌, ◌<◌, arith, sym, ◌∙◌}
use Rattle.std.specs.Prelude.{Some, slice_index}
use Rattle.text_fields.specs.declared.Base.TheVariants.{Decimal}
use Rattle.text_fields.specs.Text.{digit_of}
use Rattle.text_fields.proofs.Numbers.{some_small}
use Rattle.sheet.proofs.Numbers.{digit_passes, digit_stops, digits_full, digits_end, number-room, number_more}
use Rattle.sheet.proofs.layout.digits_at.Goals as goal

pub overflow_mul-number : goal.overflow_mul-number
overflow_mul-number c =
    let l = c.loop-i in
    let room : l.number * 10 + 0 < 1000000000000000000 = number-room l.number l.count 0 l.invariant.below (omega arith) (omega arith) in
    omega arith

pub overflow_add-number : goal.overflow_add-number
overflow_add-number c =
    let l = c.loop-i in
    let d : ℕ = c.in-Some.digit in
    let small : d < 16 = some_small Decimal (slice_index c.args.s.now l.i) (sym c.digit_of.ensures ∙ c.in-Some.is) in
    let room : l.number * 10 + d < 1000000000000000000 = number-room l.number l.count d l.invariant.below (omega arith) small in
    omega arith

pub returns-in_default : goal.returns-in_default
returns-in_default c = let l = c.loop-i in digits_full c.args.s.now c.args.most l.i l.count l.number c.if-count-most.false ∙ l.invariant.rest

pub returns-in_default-2 : goal.returns-in_default-2
returns-in_default-2 c =
    let l = c.loop-i in
    digit_stops c.args.s.now c.args.most l.i l.count l.number c.loop-i-test.true (sym c.digit_of.ensures ∙ c.in_default.is) ∙ l.invariant.rest

pub loop-i-preserved : goal.loop-i-preserved
loop-i-preserved c =
    let l = c.loop-i in
    let s = c.args.s.now in
    let d : ℕ = c.in-Some.digit in
    let is : digit_of Decimal (slice_index s l.i) ≡ Some d = sym c.digit_of.ensures ∙ c.in-Some.is in
    record {
      short = omega arith;
      below = rw c.from.ensures (number_more l.number l.count d l.invariant.below (some_small Decimal (slice_index s l.i) is));
      rest = rw c.from.ensures (sym (digit_passes s c.args.most l.i l.count l.number c.loop-i-test.true c.if-count-most.true is) ∙ l.invariant.rest);
    }

pub returns : goal.returns
returns c = let l = c.loop-i in digits_end c.args.s.now c.args.most l.i l.count l.number c.loop-i-test.false ∙ l.invariant.rest
