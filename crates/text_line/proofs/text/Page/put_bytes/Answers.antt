-- `text_line::text::Page::put_bytes` meets its contract.
use mathlib.Core.Path.{◌∙◌, ap, sym}
use lib.Dec.{ltb}
use lib.ListN.{get_or}
use Rattle.text_line.specs.Page.{put}
use Rattle.text_line.specs.Text.{spaced_of, bytes_from}
use Rattle.text_line.proofs.Putting.{put_nothing, bytes_step}
use Rattle.text_line.proofs.text.Page.put_bytes.Goals as goal

pub loop-i-init : goal.loop-i-init
unfolding bytes_from
loop-i-init c = sym (put_nothing c.args.self.now)

pub loop-i-preserved : goal.loop-i-preserved
loop-i-preserved c =
    c.put_spaced.ensures
    ∙ ap (put (spaced_of (ltb 0 c.loop-i.i) (get_or c.args.bytes.now c.loop-i.i 0))) c.loop-i.invariant
    ∙ bytes_step c.args.bytes.now c.args.self.now c.loop-i.i c.loop-i-test.true
