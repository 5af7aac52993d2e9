-- `set_up::refusing::all_defaults_allowed` meets its contract: the defaults of the first i slots are allowed.
use Prim.Native.Nat.{ℕ}
use mathlib.Core.Path.{◌≡◌}
use mathlib.Core.Bool.{Bool, true}
use mathlib.Core.List.{List}
use Rattle.bits.specs.Every.{every}
use Rattle.registers.specs.Rows.{checked_words}
use Rattle.readiness.specs.declared.Setup.{Setup}
use Rattle.records.specs.State.{slot_kind}
use Rattle.demand3.specs.Refusals.{words_allowed}
use Rattle.set_up.proofs.refusing.all_defaults_allowed.Given as goal

-- slot k's
abbrev pub slot_allowed : Setup → List ℕ → (slot : ℕ) → Bool
slot_allowed setup defaults k = words_allowed (slot_kind setup k) defaults k (checked_words (slot_kind setup k))

abbrev pub invariant-loop-i : goal.invariant-loop-i
invariant-loop-i l = every l.i (slot_allowed l.setup l.defaults) ≡ true
