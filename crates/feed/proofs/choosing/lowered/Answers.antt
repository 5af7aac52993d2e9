-- `feed::choosing::lowered` meets its contract.
use mathlib.Core.Logic.{inl, inr}
use mathlib.Core.Path.{◌∙◌}
use Rattle.feed.proofs.Direct.{bound_down, bound_brought, bound_started}
use Rattle.times.proofs.Moments.{min_least}
use Rattle.feed.proofs.choosing.lowered.Goals as goal

pub returns-in-Down : goal.returns-in-Down
returns-in-Down c = let a = c.args in elim c.in-Down.is [ inl e ↦ bound_down a.earliest a.status e | inr e ↦ bound_brought a.earliest a.status e ]

pub returns-in-Pending : goal.returns-in-Pending
returns-in-Pending c = let a = c.args in bound_started a.earliest a.status _ _ _ c.in-Pending.is (c.min.ensures ∙ min_least _ _)
