-- `state_image::numbers::put_words_at` meets its contract.
use Prim.Native.Nat.{◌+◌, ◌*◌, ◌-◌, ◌≤◌}
use mathlib.Core.Path.{◌≡◌}
use lib.Seq.{sets}
use lib.ListN.{length, drop}
use Rattle.state_layout.specs.Numbers.{word_bytes}
use Rattle.state_image.proofs.numbers.put_words_at.Given as goal

abbrev pub invariant-loop-i : goal.invariant-loop-i
invariant-loop-i l = (length l.bytes ≡ length l.initial.bytes) × (sets l.bytes (l.at + 4 * l.i) (word_bytes (drop l.i l.words)) ≡ sets l.initial.bytes l.at (word_bytes l.words))
