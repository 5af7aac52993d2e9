-- `text_line::text::Page::put_byte` meets its contract.
use mathlib.Core.Path.{ap}
use Rattle.text_line.specs.Page.{with_lined, put}
use Rattle.text_line.proofs.Putting.{byte_put, byte_past}
use Rattle.text_line.proofs.text.Page.put_byte.Goals as goal

pub returns-then-self : goal.returns-then-self
unfolding put
returns-then-self c = ap (with_lined c.args.self.now) (byte_put c.args.b c.args.self.now.line.now c.args.self.now.at c.if-self.true)

pub returns-else-self : goal.returns-else-self
unfolding put
returns-else-self c = ap (with_lined c.args.self.now) (byte_past c.args.b c.args.self.now.line.now c.args.self.now.at c.if-self.false)
