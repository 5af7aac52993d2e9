-- `describe_capture::stamp_words::advance_at` meets its contract.
use mathlib.Core.Path.{◌∙◌, ap}
use Prim.Native.Nat.{ℕ}
use Rattle.capture_lines.specs.Stamps.{advance_at}
use Rattle.describe_capture.proofs.stamp_words.advance_at.Goals as goal

pub returns : goal.returns
unfolding advance_at
returns c = c.nanos_of.ensures ∙ ap (λ (n : ℕ). record { 0 = n }) (simp (c.in_nanos.ensures, c.nanos_number.ensures) at c.part_of.ensures)
