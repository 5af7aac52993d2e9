-- A card as a CARD file, with comments on the times of a sheet.
use Rattle.std.specs.Prelude.{ℕ, suc, not, cond, List, [], ◌∷◌, ◌++◌, eqb, ltb}
use Rattle.readiness.specs.declared.Slot.{Slot}
use Rattle.readiness.specs.declared.Setup.{Setup}
use Rattle.bits.specs.Text.{chars}
use Rattle.text_line.specs.Text.{text_if}
use Rattle.sheet_grammar.specs.declared.SheetLine.{SheetLine}
use Rattle.sheet_grammar.specs.declared.LineRead.{LineRead}
use Rattle.sheet_grammar.specs.Reading.{lines_of, line_naming}
use Rattle.describe_sheet.specs.Facts.{slots_fact, queue_fact, bus_fact, port_fact, slot_fact, word_fact}
use Rattle.describe_sheet.specs.Comments.{time_comment, unnamed_comment}
use Rattle.sheet_text.specs.Lines.{ended}

-- the comment in front; slots, queue, bus and port
unfoldable pub front_text : Setup → (queue : ℕ) → List ℕ
front_text setup queue =
    ended (chars "# The times of a sheet, on a card.")
    ++ ended (slots_fact setup.slots)
    ++ ended (queue_fact queue)
    ++ ended (bus_fact setup.bus)
    ++ ended (port_fact setup.port_id)

-- ---- slots

-- a comment for each time of a line, with the code that the slot has
unfoldable pub times_text : (slot : ℕ) → SheetLine → Slot → List ℕ
times_text slot l s =
    ended (time_comment slot 0 l.reset s.reset)
    ++ ended (time_comment slot 1 l.dl_up s.dl_up)
    ++ ended (time_comment slot 2 l.flr s.flr)
    ++ ended (time_comment slot 3 l.d3hot s.d3hot)

-- the comments of a slot: its times, where a line names it
unfoldable pub comments_text : (slot : ℕ) → LineRead → Slot → List ℕ
comments_text slot l s = cond l.fits (times_text slot l.line s) (ended (unnamed_comment slot))

-- a slot: its comments, and its line
unfoldable pub slot_text : (slot : ℕ) (lines : List (List ℕ)) → Slot → List ℕ
slot_text slot lines s = comments_text slot (line_naming slot lines) s ++ ended (slot_fact slot s)

-- the slots below the count, from this one on
unfoldable pub slots_from : (slot slots : ℕ) (lines : List (List ℕ)) → List Slot → List ℕ
slots_from slot slots lines [] = []
slots_from slot slots lines (s ∷ entries) = text_if (ltb slot slots) (slot_text slot lines s) ++ slots_from (suc slot) slots lines entries

-- ---- default words

-- a default word, where it isn't 0
unfoldable pub word_text : (index word : ℕ) → List ℕ
word_text index word = text_if (not (eqb word 0)) (ended (word_fact index word))

-- the words from this index on
unfoldable pub words_from : (index : ℕ) → List ℕ → List ℕ
words_from index [] = []
words_from index (word ∷ words) = word_text index word ++ words_from (suc index) words

-- ---- the card

-- a set-up, its queue and its default words, after the sheet whose text this is
unfoldable pub card_text : Setup → (queue : ℕ) → (words text : List ℕ) → List ℕ
card_text setup queue words text =
    front_text setup queue ++ slots_from 0 setup.slots (lines_of text) setup.entries ++ words_from 0 words
