-- `text_line::text::Page::put_hex` meets its contract: the highest digits were put.
use Prim.Native.Nat.{◌-◌, ◌/◌, ◌^◌}
use mathlib.Core.Path.{◌≡◌}
use Rattle.text_line.specs.Page.{put}
use Rattle.text_line.specs.Text.{hex_of}
use Rattle.text_line.proofs.text.Page.put_hex.Given as goal

abbrev pub invariant-loop-i : goal.invariant-loop-i
invariant-loop-i l = l.self ≡ put (hex_of l.i (l.n / 16 ^ (l.k - l.i))) l.initial.self
