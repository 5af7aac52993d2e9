use Rattle.happenings.specs.inner.Started.{started_by}
use Rattle.readiness.specs.inner.Phases.{statuses_in}
use Rattle.readiness.specs.declared.Status.{Status}
use lib.ListN.{set}
use Rattle.left_to_happen.specs.declared.LeftToHappen.{LeftToHappen}
use mathlib.Core.Bool.{true≢false}
use mathlib.Core.Path.{sym, ap, ◌∙◌}
use Rattle.left_to_happen.proofs.by_write_done.Goals as goal

pub returns-then-is_start : goal.returns-then-is_start
returns-then-is_start c =
    let a = c.args in
    let made = c.settling.ensures in record {
      note_value = ap (λ (x : LeftToHappen). x.note) made;
      left_value = λ e. absurd (true≢false (sym c.if-is_start.true ∙ c.is_start.ensures ∙ e));
      left_value_2 = λ e. (
        ap (λ (x : LeftToHappen). x.left) made,
        ap (λ (x : LeftToHappen). x.dev) made,
        ap (λ (x : LeftToHappen). statuses_in x.phases) made ∙ c.with_status.ensures
            ∙ ap (λ (s : Status). set a.statuses a.slot s) (c.status_by-after.ensures ∙ ap (λ (s : Status). started_by a.note a.dev.clock a.entry s) c.status_in-status.ensures),
      );
    }

pub returns : goal.returns
returns c =
    record { note_value = c.nothing.ensures.note_value; left_value = λ e. c.nothing.ensures.left_value; left_value_2 = λ e. absurd (true≢false (sym e ∙ sym c.is_start.ensures ∙ c.if-is_start.false)) }
