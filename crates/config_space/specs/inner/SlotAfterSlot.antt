-- How the code goes about link down of all slots: one slot after the other.
use Rattle.std.specs.Prelude.{ℕ, zero, suc, List}
use Rattle.registers.specs.declared.Kind.{Kind}
use Rattle.config_space.specs.Functions.{link_reset_slot}

-- link down in the slots below a number, one after the other
unfoldable pub link_reset_below : (kind_at : ℕ → Kind) (slots : ℕ) (live defaults : List ℕ) → List ℕ
link_reset_below kind_at zero live defaults = live
link_reset_below kind_at (suc slot) live defaults = link_reset_slot (kind_at slot) slot (link_reset_below kind_at slot live defaults) defaults
