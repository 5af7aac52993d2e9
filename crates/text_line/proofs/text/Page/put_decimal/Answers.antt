-- `text_line::text::Page::put_decimal` meets its contract: the fewest digits are the decimal form.
use borrow.Author.Rules.{rules}
use mathlib.Core.Path.{◌∙◌, ap}
use mathlib.Core.List.{List}
use Prim.Native.Nat.{ℕ, ◌<◌, ◌^◌}
use Rattle.text_line.specs.Page.{put}
use Rattle.text_line.proofs.Numerals.{digits_decimal, at_most_20}
use Rattle.text_line.proofs.text.Page.put_decimal.Goals as goal

pub returns : goal.returns
returns c =
    let d = c.decimal-k in
    let n = c.args.n in
    let h : n < 2 ^ 64 = search rules in
    c.put_text.ensures
    ∙ ap (λ (text : List ℕ). put text c.args.self.now)
    (d.ensures.digits ∙ digits_decimal d.result 20 n (at_most_20 n d.result h d.ensures.len) d.ensures.len)
