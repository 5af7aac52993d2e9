use mathlib.Core.List.{[]}
use Rattle.left_to_happen.proofs.Writing.{no_access, route_by, note_by, refused_note, refused-happens, done_note, done-happens}
use Rattle.left_to_happen.proofs.Laws.{left-nothing}
use mathlib.Core.Path.{sym, ◌∙◌}
use Rattle.left_to_happen.proofs.by_write.Goals as goal

pub returns-then-setup-slot : goal.returns-then-setup-slot
returns-then-setup-slot c =
    let a = c.args in
    let no = no_access a.setup.slots _ a.dev _ a.q c.if-setup-slot.true in record { note_value = λ most cells. c.nothing.ensures.note_value ∙ sym (refused_note a.setup a.defaults.now a.dev a.statuses a.live.now cells a.q a.value no); by_index = λ cells sound fits. refused-happens a.setup a.defaults.now a.dev a.statuses a.live.now cells a.q a.value no ∙ sym (left-nothing a.setup cells c.nothing.result c.nothing.ensures.left_value) }

pub returns-then-is_access : goal.returns-then-is_access
returns-then-is_access c =
    let a = c.args in
    let below = c.if-setup-slot.false in
    let kind = c.kind_of_entry-kind.ensures in
    let done = route_by a.setup a.defaults.now a.dev a.statuses a.live.now [] a.q a.value _ _ _ _ kind c.status_in-status.ensures
    c.route_of-route.ensures.value c.is_access.ensures below
    ∙ c.if-is_access.true in
    let note = note_by a.setup a.defaults.now a.dev a.statuses a.live.now [] a.q a.value _ _ _ _ _ kind
    c.word_at-old.ensures c.flr_capability_word.ensures.0 c.word_at-capabilities.ensures c.note_in-note.ensures in record {
      note_value = λ most cells. c.by_write_done.ensures.note_value ∙ note ∙ sym (done_note a.setup a.defaults.now a.dev a.statuses a.live.now cells a.q a.value done);
      by_index = λ cells sound fits.
          done-happens a.setup a.defaults.now a.dev a.statuses a.live.now cells a.q a.value c.by_write_done.result done below _ note
          c.by_write_done.ensures.left_value c.by_write_done.ensures.left_value_2 sound fits;
    }

pub returns : goal.returns
returns c =
    let a = c.args in
    let below = c.if-setup-slot.false in
    let no = route_by a.setup a.defaults.now a.dev a.statuses a.live.now [] a.q a.value _ _ _ _ c.kind_of_entry-kind.ensures c.status_in-status.ensures
    c.route_of-route.ensures.value c.is_access.ensures below
    ∙ c.if-is_access.false in record { note_value = λ most cells. c.nothing-2.ensures.note_value ∙ sym (refused_note a.setup a.defaults.now a.dev a.statuses a.live.now cells a.q a.value no); by_index = λ cells sound fits. refused-happens a.setup a.defaults.now a.dev a.statuses a.live.now cells a.q a.value no ∙ sym (left-nothing a.setup cells c.nothing-2.result c.nothing-2.ensures.left_value) }
