-- `execute::soundness::sound_cells` meets its contract.
use mathlib.Core.Path.{◌≡◌}
use mathlib.Core.Bool.{true}
use Prim.Native.Nat.{◌≤◌}
use lib.ListN.{length, get_or}
use Rattle.bits.specs.Every.{every}
use Rattle.frs_queue.specs.Queue.{place_of}
use Rattle.records.specs.Sound.{sound_cell}
use Rattle.execute.proofs.soundness.sound_cells.Given as goal

abbrev pub invariant-loop-k : goal.invariant-loop-k
invariant-loop-k l = (l.k ≤ l.depth) × (every l.k (λ k. sound_cell (get_or l.cells (place_of (length l.cells) l.start k) 0)) ≡ true)
