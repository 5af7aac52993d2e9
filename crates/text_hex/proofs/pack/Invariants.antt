-- `text_hex::pack` meets its contract: the loop has packed the text so far, and the rest of the room is as it was.
use Rattle.text_hex.proofs.Loop.{Inv}
use Rattle.text_hex.proofs.pack.Given as goal

abbrev pub invariant-loop-i : goal.invariant-loop-i
invariant-loop-i l = Inv l.initial.p l.text l.initial.room l.room l.p l.i l.w
