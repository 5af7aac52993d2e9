-- `describe_sheet::refusals::put_layout` meets its contract.
use borrow.Author.Tests.{le-ltb, lt-ltb}
use Rattle.text_line.proofs.Putting.{then}
use Rattle.describe_sheet.specs.Refusals.{layout_text}
use Rattle.describe_sheet.proofs.refusals.put_layout.Goals as goal

pub returns-then-field-lt5 : goal.returns-then-field-lt5
unfolding layout_text
returns-then-field-lt5 c =
    simp (lt-ltb _ _ c.if-field-lt5.true)
    (simp c.column_at.ensures at (then _ _ _ (then _ _ _ c.put_named.ensures c.put_text.ensures) c.put_field_name.ensures))

pub returns-else-field-lt5 : goal.returns-else-field-lt5
unfolding layout_text
returns-else-field-lt5 c =
    simp (le-ltb _ _ c.if-field-lt5.false)
    (simp c.column_at.ensures at (then _ _ _ c.put_named.ensures c.put_text-else-field-lt5.ensures))
