-- `replay_image::up_to` meets its contract.
use mathlib.Core.List.{[], ◌∷◌}
use mathlib.Core.Path.{◌≡◌, ◌∙◌}
use lib.ListN.{length}
use borrow.Author.Rules.{rules}
use Rattle.replay_image.proofs.Stamps.{four-shown}
use Rattle.replay_image.proofs.up_to.Goals as goal

pub returns : goal.returns
returns c =
    let a = c.args in
    let e : length a.stamp ≡ 4 = search rules in
    (λ i. c.shown.ensures i ∷ c.shown-2.ensures i ∷ c.shown-3.ensures i ∷ c.shown-4.ensures i ∷ [])
    ∙ four-shown a.count a.stamp e
