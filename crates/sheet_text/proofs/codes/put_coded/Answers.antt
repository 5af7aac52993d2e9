-- `sheet_text::codes::put_coded` meets its contract.
use Rattle.sheet_text.specs.CodeLines.{lines_of_code}
use Rattle.text_line.proofs.Putting.{then}
use Rattle.sheet_text.proofs.codes.put_coded.Goals as goal

pub returns : goal.returns
unfolding lines_of_code
returns c =
    then _ _ _
    (then _ _ _ (then _ _ _ c.put_claimed.ensures c.put_byte.ensures) (then _ _ _ c.put_given.ensures c.put_byte-2.ensures))
    c.put_lower_line.ensures
