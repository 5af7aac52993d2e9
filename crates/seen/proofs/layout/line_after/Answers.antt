-- `seen::layout::line_after` meets its contract.
use Rattle.seen.proofs.Sizes.{after_line, after_text}
use Rattle.seen.proofs.layout.line_after.Goals as goal

pub returns-then-end-text : goal.returns-then-end-text
returns-then-end-text c = let l = c in after_line l.args.text.now l.args.at l.line_end-end.result l.line_end-end.ensures c.if-end-text.true

pub returns-else-end-text : goal.returns-else-end-text
returns-else-end-text c = let l = c in after_text l.args.text.now l.args.at l.line_end-end.result l.line_end-end.ensures c.if-end-text.false
