use Rattle.records.specs.State.{state}
use Rattle.left_to_happen.proofs.Laws.{left-nothing, left_arriving}
use Rattle.happenings.proofs.Quiet.{nothing-happens, message_happens}
use lib.ListN.{take}
use mathlib.Core.Path.{refl, sym, ◌∙◌}
use Rattle.left_to_happen.proofs.left_by.Goals as goal

pub returns-in-Message : goal.returns-in-Message
returns-in-Message c =
    let a = c.args in
    rw c.in-Message.is
    (record {
      note_value = λ most cells. c.by_message.ensures.note_value;
      by_index = λ cells sound fits.
          message_happens a.setup a.defaults.now (state a.dev (take a.setup.slots a.statuses) a.live.now cells) sound fits _
          ∙ sym (left_arriving a.setup cells c.by_message.result a.dev.link _ a.dev (take a.setup.slots a.statuses) a.live.now c.by_message.ensures.left_value c.by_message.ensures.dev_value);
    })

pub returns-in-LinkDown : goal.returns-in-LinkDown
returns-in-LinkDown c =
    let a = c.args in
    rw c.in-LinkDown.is
    (record {
      note_value = λ most cells. c.nothing.ensures.note_value;
      by_index = λ cells sound fits. nothing-happens a.setup a.defaults.now (state a.dev (take a.setup.slots a.statuses) a.live.now cells) sound fits _ refl refl ∙ sym (left-nothing a.setup cells c.nothing.result c.nothing.ensures.left_value);
    })

pub returns-in-ColdReset : goal.returns-in-ColdReset
returns-in-ColdReset c =
    let a = c.args in
    rw c.in-ColdReset.is
    (record {
      note_value = λ most cells. c.nothing-in-ColdReset.ensures.note_value;
      by_index = λ cells sound fits. nothing-happens a.setup a.defaults.now (state a.dev (take a.setup.slots a.statuses) a.live.now cells) sound fits _ refl refl ∙ sym (left-nothing a.setup cells c.nothing-in-ColdReset.result c.nothing-in-ColdReset.ensures.left_value);
    })

pub returns-in-Read : goal.returns-in-Read
returns-in-Read c =
    let a = c.args in
    rw c.in-Read.is
    (record {
      note_value = λ most cells. c.nothing-in-Read.ensures.note_value;
      by_index = λ cells sound fits. nothing-happens a.setup a.defaults.now (state a.dev (take a.setup.slots a.statuses) a.live.now cells) sound fits _ refl refl ∙ sym (left-nothing a.setup cells c.nothing-in-Read.result c.nothing-in-Read.ensures.left_value);
    })

pub returns-in-HardwareSet : goal.returns-in-HardwareSet
returns-in-HardwareSet c =
    let a = c.args in
    rw c.in-HardwareSet.is
    (record {
      note_value = λ most cells. c.nothing-in-HardwareSet.ensures.note_value;
      by_index = λ cells sound fits. nothing-happens a.setup a.defaults.now (state a.dev (take a.setup.slots a.statuses) a.live.now cells) sound fits _ refl refl ∙ sym (left-nothing a.setup cells c.nothing-in-HardwareSet.result c.nothing-in-HardwareSet.ensures.left_value);
    })

pub returns-in-ReadQueue : goal.returns-in-ReadQueue
returns-in-ReadQueue c =
    let a = c.args in
    rw c.in-ReadQueue.is
    (record {
      note_value = λ most cells. c.nothing-in-ReadQueue.ensures.note_value;
      by_index = λ cells sound fits. nothing-happens a.setup a.defaults.now (state a.dev (take a.setup.slots a.statuses) a.live.now cells) sound fits _ refl refl ∙ sym (left-nothing a.setup cells c.nothing-in-ReadQueue.result c.nothing-in-ReadQueue.ensures.left_value);
    })

pub returns-in-RemoveOldest : goal.returns-in-RemoveOldest
returns-in-RemoveOldest c =
    let a = c.args in
    rw c.in-RemoveOldest.is
    (record {
      note_value = λ most cells. c.nothing-in-RemoveOldest.ensures.note_value;
      by_index = λ cells sound fits. nothing-happens a.setup a.defaults.now (state a.dev (take a.setup.slots a.statuses) a.live.now cells) sound fits _ refl refl ∙ sym (left-nothing a.setup cells c.nothing-in-RemoveOldest.result c.nothing-in-RemoveOldest.ensures.left_value);
    })

pub returns-in-ClearBits : goal.returns-in-ClearBits
returns-in-ClearBits c =
    let a = c.args in
    rw c.in-ClearBits.is
    (record {
      note_value = λ most cells. c.nothing-in-ClearBits.ensures.note_value;
      by_index = λ cells sound fits. nothing-happens a.setup a.defaults.now (state a.dev (take a.setup.slots a.statuses) a.live.now cells) sound fits _ refl refl ∙ sym (left-nothing a.setup cells c.nothing-in-ClearBits.result c.nothing-in-ClearBits.ensures.left_value);
    })

pub returns-in-Control : goal.returns-in-Control
returns-in-Control c =
    let a = c.args in
    rw c.in-Control.is
    (record {
      note_value = λ most cells. c.nothing-in-Control.ensures.note_value;
      by_index = λ cells sound fits. nothing-happens a.setup a.defaults.now (state a.dev (take a.setup.slots a.statuses) a.live.now cells) sound fits _ refl refl ∙ sym (left-nothing a.setup cells c.nothing-in-Control.result c.nothing-in-Control.ensures.left_value);
    })

pub returns-in-ReadBits : goal.returns-in-ReadBits
returns-in-ReadBits c =
    let a = c.args in
    rw c.in-ReadBits.is
    (record {
      note_value = λ most cells. c.nothing-in-ReadBits.ensures.note_value;
      by_index = λ cells sound fits. nothing-happens a.setup a.defaults.now (state a.dev (take a.setup.slots a.statuses) a.live.now cells) sound fits _ refl refl ∙ sym (left-nothing a.setup cells c.nothing-in-ReadBits.result c.nothing-in-ReadBits.ensures.left_value);
    })

pub returns-in-NoKind : goal.returns-in-NoKind
returns-in-NoKind c =
    let a = c.args in
    rw c.in-NoKind.is
    (record {
      note_value = λ most cells. c.nothing-in-NoKind.ensures.note_value;
      by_index = λ cells sound fits. nothing-happens a.setup a.defaults.now (state a.dev (take a.setup.slots a.statuses) a.live.now cells) sound fits _ refl refl ∙ sym (left-nothing a.setup cells c.nothing-in-NoKind.result c.nothing-in-NoKind.ensures.left_value);
    })

pub returns-in-Advance : goal.returns-in-Advance
returns-in-Advance c =
    let a = c.args in
    rw c.in-Advance.is
    (record {
      note_value = λ most cells. c.by_advance.ensures.note_value;
      by_index = λ cells sound fits. c.by_advance.ensures.by_value a.setup a.defaults.now a.live.now cells;
    })

pub returns-in-Write : goal.returns-in-Write
returns-in-Write c = rw c.in-Write.is c.by_write.ensures

pub returns-in-LinkUp : goal.returns-in-LinkUp
returns-in-LinkUp c =
    let a = c.args in
    rw c.in-LinkUp.is
    (record {
      note_value = λ most cells. c.by_link_up.ensures.note_value;
      by_index = λ cells sound fits. c.by_link_up.ensures.link_up_value fits.most a.defaults.now a.live.now cells;
    })
