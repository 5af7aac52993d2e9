-- `card_text::so_far::entries_from` meets its contract.
use Rattle.std.proofs.Common.{rules}
use Rattle.std.specs.Prelude.{None, unwrap_or}
use Rattle.readiness.specs.Blank.{blank_slot}
use Rattle.card_grammar.specs.SoFar.{entries_from}
use Rattle.card_text.proofs.Maps.{mapped}
use Rattle.card_text.proofs.so_far.entries_from.Goals as goal

pub returns : goal.returns
unfolding entries_from
returns c = mapped _ _ (λ e. unwrap_or e blank_slot) None c.args.entries.now _ _ c.told-entries c.map.ensures.items (λ p q x y k. search rules)
