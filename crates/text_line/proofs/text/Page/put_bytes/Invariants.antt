-- `text_line::text::Page::put_bytes` meets its contract: what was looked at was put.
use mathlib.Core.Path.{◌≡◌}
use lib.ListN.{take}
use Rattle.text_line.specs.Page.{put}
use Rattle.text_line.specs.Text.{bytes_of}
use Rattle.text_line.proofs.text.Page.put_bytes.Given as goal

abbrev pub invariant-loop-i : goal.invariant-loop-i
invariant-loop-i l = l.self ≡ put (bytes_of (take l.i l.bytes)) l.initial.self
