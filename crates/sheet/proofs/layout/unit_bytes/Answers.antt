-- `sheet::layout::unit_bytes` meets its contract. A byte other than 0 stands in the text, so that there is a place after it.
use mathlib.Core.Path.{sym, ap, ◌∙◌}
use Rattle.sheet_grammar.specs.Layout.{is_unit_letter}
use Rattle.sheet.proofs.Units.{no_letter, one_byte, two_bytes, three_bytes_lem}
use Rattle.sheet.proofs.layout.unit_bytes.Goals as goal

pub returns-then-not-is_unit_letter : goal.returns-then-not-is_unit_letter
returns-then-not-is_unit_letter c =
    let b = c.byte_at in
    let args = c.args in
    no_letter args.at args.s.now (ap is_unit_letter (sym b.ensures) ∙ sym c.is_unit_letter.ensures ∙ c.if-not-is_unit_letter.true)

pub returns-then-byte_at-ne115 : goal.returns-then-byte_at-ne115
returns-then-byte_at-ne115 c =
    let e = c in
    let args = e.args in
    one_byte args.at args.s.now (ap is_unit_letter (sym c.byte_at.ensures) ∙ sym c.is_unit_letter.ensures ∙ c.if-not-is_unit_letter.false) (λ f. c.if-byte_at-ne115.true (c.byte_at-2.ensures ∙ f))

pub returns-then-byte_at-eq10 : goal.returns-then-byte_at-eq10
returns-then-byte_at-eq10 c =
    let f = c in
    let e = f in
    let args = e.args in
    three_bytes_lem args.at args.s.now (ap is_unit_letter (sym c.byte_at.ensures) ∙ sym c.is_unit_letter.ensures ∙ c.if-not-is_unit_letter.false) (sym c.byte_at-2.ensures ∙ c.if-byte_at-ne115.false) (sym c.byte_at-3.ensures ∙ c.if-byte_at-eq10.true)

pub returns-else-byte_at-eq10 : goal.returns-else-byte_at-eq10
returns-else-byte_at-eq10 c =
    let f = c in
    let e = f in
    let args = e.args in
    two_bytes args.at args.s.now (ap is_unit_letter (sym c.byte_at.ensures) ∙ sym c.is_unit_letter.ensures ∙ c.if-not-is_unit_letter.false) (sym c.byte_at-2.ensures ∙ c.if-byte_at-ne115.false) (λ g. c.if-byte_at-eq10.false (c.byte_at-3.ensures ∙ g))
