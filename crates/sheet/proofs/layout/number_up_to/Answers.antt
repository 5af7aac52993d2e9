-- `sheet::layout::number_up_to` meets its contract.
use mathlib.Core.Path.{ap}
use Prim.Native.Nat.{◌+◌, ◌≤◌, ◌<◌}
use native.Mathlib.Omega.{arith}
use lib.ListN.{length}
use Rattle.sheet_grammar.specs.declared.Digits.{Digits}
use Rattle.sheet.proofs.Numbers.{digits_within, number_fits_lem, number_departs, space_below}
use borrow.Author.Rules.{rules}
use Rattle.sheet.proofs.layout.number_up_to.Goals as goal

pub digits_at-d-requires : goal.digits_at-d-requires
digits_at-d-requires c = c.requires

pub overflow_add-end : goal.overflow_add-end
overflow_add-end c =
    let most : length c.args.s.now ≤ 18446744073709551615 = search rules in
    let r : c.args.at + c.digits_at-d.result.count ≤ 18446744073709551615 =
    omega (arith, ap (λ (d : Digits). d.count) c.digits_at-d.ensures, digits_within c.args.most 18446744073709551615 c.args.at c.args.s.now (omega arith) most) in
    search rules

pub overflow_add-result : goal.overflow_add-result
overflow_add-result c =
    let d = c in
    let args = d.args in
    let h : args.at + d.digits_at-d.result.count < length args.s.now =
    space_below args.most args.at args.s.now d.digits_at-d.result d.digits_at-d.ensures c.byte_at.ensures c.number_fits.ensures c.if-number_fits.true in
    search rules

pub returns-then-number_fits : goal.returns-then-number_fits
returns-then-number_fits c =
    let d = c in
    let args = d.args in
    number_fits_lem args.most args.at args.s.now d.digits_at-d.result d.digits_at-d.ensures c.byte_at.ensures c.number_fits.ensures c.if-number_fits.true

pub first_wrong-next-requires : goal.first_wrong-next-requires
first_wrong-next-requires c =
    let most : length c.args.s.now ≤ 18446744073709551615 = search rules in
    let r : c.args.at + c.digits_at-d.result.count ≤ 18446744073709551615 =
    omega (arith, ap (λ (d : Digits). d.count) c.digits_at-d.ensures, digits_within c.args.most 18446744073709551615 c.args.at c.args.s.now (omega arith) most) in
    r

pub returns : goal.returns
returns c =
    let e = c in
    let d = e in
    let args = d.args in
    number_departs args.most args.at args.s.now d.digits_at-d.result d.digits_at-d.ensures e.byte_at.ensures e.number_fits.ensures e.if-number_fits.false
    c.first_wrong-next.ensures
