-- `execute::soundness::sound_cells` meets its contract.
use native.Mathlib.Omega.{arith}
use mathlib.Core.Path.{◌≡◌, sym, ap, ◌∙◌}
use mathlib.Core.Bool.{Bool}
use mathlib.Core.List.{List}
use Prim.Native.Nat.{ℕ}
use lib.ListN.{length, get_or}
use Rattle.bits.specs.Every.{every}
use Rattle.bits.proofs.Every.{every_none, every_more, every_not}
use Rattle.frs_queue.specs.Queue.{place_of}
use Rattle.records.specs.Sound.{sound_cell}
use Rattle.execute.proofs.soundness.sound_cells.Goals as goal

-- the test of the cell of the message that stands k places behind the oldest
abbrev cell_sound : List ℕ → ℕ → ℕ → Bool
cell_sound cells start k = sound_cell (get_or cells (place_of (length cells) start k) 0)

pub loop-k-init : goal.loop-k-init
loop-k-init c = (omega arith, every_none _)

pub loop-k-preserved : goal.loop-k-preserved
loop-k-preserved c = (omega arith, every_more _ _ c.loop-k.invariant.1 (ap sound_cell (sym c.cell_at.ensures) ∙ sym c.sound_cell.ensures ∙ c.if-not-sound_cell.false))

pub returns-then-not-sound_cell : goal.returns-then-not-sound_cell
returns-then-not-sound_cell c =
    let l = c in
    let a = l.args in
    sym (every_not a.depth (cell_sound a.cells.now a.start) l.loop-k.k (omega arith) (ap sound_cell (sym c.cell_at.ensures) ∙ sym c.sound_cell.ensures ∙ c.if-not-sound_cell.true))

pub returns : goal.returns
returns c =
    let a = c.args in
    let e : a.depth ≡ c.loop-k.k = omega arith in
    sym (ap (λ (n : ℕ). every n (cell_sound a.cells.now a.start)) e ∙ c.loop-k.invariant.1)
