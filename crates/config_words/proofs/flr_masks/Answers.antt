-- `config_words::flr_masks` meets its contract: each call of the closure gives the mask of the word.
use Rattle.std.proofs.Common.{rules}
use Rattle.registers.specs.inner.Masks.{flr_mask}
use Rattle.config_words.proofs.flr_masks.Goals as goal

pub returns : goal.returns
returns c = c.each_mask.ensures (flr_mask c.args.kind) (λ i x p. search rules)
