-- `registers::attributes` meets its contract: the const table has the masks of the definition, one by one.
use mathlib.Core.Path.{refl}
use Rattle.registers.specs.Rows.{masks}
use Rattle.registers.proofs.attributes.Goals as goal

pub invariant_of-result : goal.invariant_of-result
unfolding masks
invariant_of-result c = record { given = refl }

pub returns : goal.returns
unfolding masks
returns c = refl
