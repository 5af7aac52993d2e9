-- `replay::writing::put_advance` meets its contract.
use Prim.Native.Nat.{ℕ, ◌/◌, ◌%◌}
use mathlib.Core.Path.{ap, ◌∙◌}
use mathlib.Core.List.{List, [], ◌∷◌}
use lib.ListN.{get_or}
use lib.Seq.{paste}
use borrow.Author.Rules.{rules}
use Rattle.capture.specs.Advances.{advance}
use Rattle.replay.proofs.writing.put_advance.Goals as goal

pub returns : goal.returns
unfolding advance
returns c =
    let a = c.args in
    c.put_bytes.ensures
    ∙ ap (λ (l : List ℕ). paste a.trace.now a.at (1 ∷ get_or l 0 0 ∷ get_or l 1 0 ∷ get_or l 2 0 ∷ get_or l 3 0 ∷ []) 5) c.to_le_bytes.ensures
    ∙ ap (λ (n : ℕ). paste a.trace.now a.at (1 ∷ n % 256 ∷ n / 256 % 256 ∷ n / 65536 % 256 ∷ n / 16777216 % 256 ∷ []) 5) c.nanos_number.ensures
