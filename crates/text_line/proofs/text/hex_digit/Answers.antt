-- `text_line::text::hex_digit` meets its contract.
use Rattle.text_line.proofs.Numerals.{shifted, none_above}
use Rattle.text_line.proofs.text.hex_digit.Goals as goal

pub returns-then-place-lt16 : goal.returns-then-place-lt16
returns-then-place-lt16 c = shifted c.args.n c.args.place

pub returns-else-place-lt16 : goal.returns-else-place-lt16
returns-else-place-lt16 c = none_above c.args.n c.args.place c.ranges.n.fits c.if-place-lt16.false
