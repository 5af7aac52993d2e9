-- `decode::gathering::put_answer` meets its contract.
use borrow.Author.Rules.{rules}
use mathlib.Core.Path.{sym}
use Rattle.std.proofs.lemmas.List.Edits.{paste_all}
use Rattle.std.proofs.lemmas.Slice.{overwrites}
use Rattle.decode.proofs.gathering.put_answer.Goals as goal

pub returns : goal.returns
returns c = let h = c.copy_from_slice.ensures.after in search (rules, overwrites, paste_all)
