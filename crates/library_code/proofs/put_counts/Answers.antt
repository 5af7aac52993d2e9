-- `library_code::put_counts` meets its contract.
use mathlib.Core.Path.{refl, ◌∙◌}
use lib.Seq.{sets}
use Rattle.state_layout.proofs.Stores.{sets-next}
use Rattle.state_layout.specs.Numbers.{low_first}
use Rattle.library_code.proofs.put_counts.Goals as goal

pub returns : goal.returns
unfolding low_first
returns c = let a = c.args in
    c.put_eight-2.ensures
    ∙ (λ t. sets (c.put_eight.ensures t) 8 (low_first 8 a.written))
    ∙ sets-next (low_first 8 a.consumed) (low_first 8 a.written) a.image.now 0 8 refl
