-- `text_line::text::glyph` meets its contract.
use borrow.Author.Tests.{lt-ltb, le-ltb}
use Rattle.text_line.specs.Text.{glyph_of}
use Rattle.text_line.proofs.text.glyph.Goals as goal

pub returns-then-n-lt10 : goal.returns-then-n-lt10
unfolding glyph_of
returns-then-n-lt10 c = simp (lt-ltb _ _ c.if-n-lt10.true)

pub returns-then-n-lt16 : goal.returns-then-n-lt16
unfolding glyph_of
returns-then-n-lt16 c = simp (le-ltb _ _ c.if-n-lt10.false, lt-ltb _ _ c.if-n-lt16.true)

pub returns-else-n-lt16 : goal.returns-else-n-lt16
unfolding glyph_of
returns-else-n-lt16 c = simp (le-ltb _ _ c.if-n-lt10.false, le-ltb _ _ c.if-n-lt16.false)
