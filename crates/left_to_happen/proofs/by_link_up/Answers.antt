use Rattle.readiness.specs.inner.Phases.{statuses_in}
use Rattle.left_to_happen.proofs.Laws.{left-nothing, left-settling, link_up_done, link_up_not}
use Rattle.left_to_happen.specs.declared.LeftToHappen.{LeftToHappen}
use lib.ListN.{take}
use mathlib.Core.Path.{sym, ap, ◌∙◌}
use Rattle.left_to_happen.proofs.by_link_up.Goals as goal

pub returns-then-dev : goal.returns-then-dev
returns-then-dev c =
    let a = c.args in record {
      note_value = c.nothing.ensures.note_value;
      link_up_value = λ most defaults live cells.
          link_up_not a.setup defaults a.dev (take a.setup.slots a.statuses) live cells c.if-dev.true
          ∙ sym (left-nothing a.setup cells _ c.nothing.ensures.left_value);
    }

pub returns-then-setup-le32 : goal.returns-then-setup-le32
returns-then-setup-le32 c =
    let a = c.args in
    let made = c.settling.ensures in record {
      note_value = ap (λ (x : LeftToHappen). x.note) made;
      link_up_value = λ most defaults live cells.
          link_up_done a.setup defaults a.dev (take a.setup.slots a.statuses) live cells c.if-dev.false
          ∙ sym (left-settling a.setup cells _ _ _ (ap (λ (x : LeftToHappen). x.left) made) (ap (λ (x : LeftToHappen). x.dev) made ∙ c.after_link_up.ensures)
          (ap (λ (x : LeftToHappen). take a.setup.slots (statuses_in x.phases)) made ∙ c.started-phases.ensures));
    }
