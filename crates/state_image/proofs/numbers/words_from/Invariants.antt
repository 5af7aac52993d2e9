-- `state_image::numbers::words_from` meets its contract.
use Prim.Native.Nat.{◌*◌, ◌-◌, ◌≤◌}
use mathlib.Core.Path.{◌≡◌}
use lib.Seq.{sets}
use lib.ListN.{length, drop}
use Rattle.state_layout.specs.Numbers.{words_in}
use Rattle.state_image.proofs.numbers.words_from.Given as goal

abbrev pub invariant-loop-i : goal.invariant-loop-i
invariant-loop-i l = (length l.words ≡ length l.initial.words) × (sets l.words l.i (words_in (length l.initial.words - l.i) (drop (4 * l.i) l.bytes)) ≡ sets l.initial.words 0 (words_in (length l.initial.words) l.bytes))
