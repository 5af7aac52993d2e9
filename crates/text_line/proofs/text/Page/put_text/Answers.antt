-- `text_line::text::Page::put_text` meets its contract.
use mathlib.Core.Path.{◌≡◌, ◌∙◌, refl, ap}
use mathlib.Core.List.{[], ◌∷◌}
use lib.ListN.{get_or}
use lib.Seq.{take_all}
use Rattle.text_line.specs.Line.{lined, puts}
use Rattle.text_line.specs.Page.{with_lined, lined_on, put}
use Rattle.text_line.proofs.Putting.{byte_put, byte_past, put_step}
use Rattle.text_line.proofs.text.Page.put_text.Goals.{then-at-line, else-at-line}
use Rattle.text_line.proofs.text.Page.put_text.Goals as goal

pub loop-b-init : goal.loop-b-init
unfolding puts
loop-b-init c = refl

pub loop-b-preserved : goal.loop-b-preserved
loop-b-preserved c =
    let b = get_or c.args.text.now c.loop-b.b-index 0 in
    let one : lined c.if-at-line.at c.if-at-line.line ≡ puts (b ∷ []) (lined c.loop-b.at c.loop-b.line) =
    elim c.if-at-line.branch [
      | then-at-line w ↦ rw (w.at-is, w.line-is) (byte_put b c.loop-b.line c.loop-b.at w.if-at-line.true)
      | else-at-line w ↦ rw (w.at-is, w.line-is) (byte_past b c.loop-b.line c.loop-b.at w.if-at-line.false)
    ] in
    one ∙ ap (puts (b ∷ [])) c.loop-b.invariant ∙ put_step c.args.text.now (lined_on c.args.self.now) c.loop-b.b-index c.loop-b-test.true

pub returns : goal.returns
unfolding put
returns c = ap (with_lined c.args.self.now) (rw (take_all c.loop-b.b-index c.args.text.now c.loop-b-test.false) at c.loop-b.invariant)
