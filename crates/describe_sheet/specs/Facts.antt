-- The lines of a card file, each without its end.
use Rattle.std.specs.Prelude.{ℕ, ◌*◌, ◌/◌, ◌%◌, cond, List, ◌++◌}
use Rattle.bits.specs.Text.{chars}
use Rattle.readiness.specs.declared.Slot.{Slot}
use Rattle.text_line.specs.Text.{hex_of, named}
use Rattle.describe_sheet.specs.Parts.{code_text}

unfoldable pub slots_fact : (slots : ℕ) → List ℕ
slots_fact slots = named (chars "slots ") slots

unfoldable pub queue_fact : (queue : ℕ) → List ℕ
queue_fact queue = named (chars "queue ") queue

unfoldable pub bus_fact : (bus : ℕ) → List ℕ
bus_fact bus = chars "bus " ++ hex_of 2 bus

unfoldable pub port_fact : (id : ℕ) → List ℕ
port_fact id = chars "port " ++ hex_of 4 id

-- a slot's four codes, and whether it sends FRS
unfoldable pub slot_fact : ℕ → Slot → List ℕ
slot_fact slot entry =
    named (chars "slot ") slot
    ++ code_text (chars " reset ") entry.reset
    ++ code_text (chars " dlup ") entry.dl_up
    ++ code_text (chars " flr ") entry.flr
    ++ code_text (chars " d3hot ") entry.d3hot
    ++ cond entry.sends_frs (chars " frs yes") (chars " frs no")

-- the default word at an index among all slots' words, 64 per slot
unfoldable pub word_fact : (index word : ℕ) → List ℕ
word_fact index word =
    named (chars "word ") (index / 64) ++ chars " " ++ hex_of 2 (index % 64 * 4) ++ chars " " ++ hex_of 8 word
