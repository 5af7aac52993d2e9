-- `text_line::text::Page::put_hex` meets its contract.
use Prim.Native.Nat.{ℕ, ◌-◌, ◌/◌, ◌%◌, ◌^◌}
use mathlib.Core.Path.{◌∙◌, ap, sym}
use mathlib.Core.List.{List, [], ◌∷◌}
use Rattle.text_line.specs.Page.{put}
use Rattle.text_line.specs.Text.{glyph_of, hex_of}
use Rattle.text_line.proofs.Putting.{put_nothing, put_joined}
use Rattle.text_line.proofs.Numerals.{next_digit}
use Rattle.text_line.proofs.text.Page.put_hex.Goals as goal

pub loop-i-init : goal.loop-i-init
unfolding hex_of
loop-i-init c = sym (put_nothing c.args.self.now)

pub loop-i-preserved : goal.loop-i-preserved
loop-i-preserved c =
    let k = c.args.k in
    let n = c.args.n in
    let i = c.loop-i.i in
    let digit = glyph_of (n / 16 ^ (k - 1 - i) % 16) ∷ [] in
    c.put_byte.ensures
    ∙ ap (λ (b : ℕ). put (b ∷ []) c.loop-i.self) (c.glyph.ensures ∙ ap glyph_of c.hex_digit.ensures)
    ∙ ap (put digit) c.loop-i.invariant
    ∙ put_joined (hex_of i (n / 16 ^ (k - i))) digit c.args.self.now
    ∙ ap (λ (text : List ℕ). put text c.args.self.now) (next_digit k n i c.loop-i-test.true)
