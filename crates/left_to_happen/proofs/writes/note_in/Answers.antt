use Rattle.left_to_happen.proofs.writes.note_in.Goals as goal

pub returns : goal.returns
returns c = cc
