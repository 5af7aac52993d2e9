-- A card in words, with each code and its time.
use Rattle.std.specs.Prelude.{ℕ, ◌*◌, ◌/◌, ◌%◌, not, cond, List, ◌++◌}
use Rattle.times.specs.declared.Code.{Code}
use Rattle.times.specs.Codes.{allowed, nanos_of}
use Rattle.readiness.specs.declared.Slot.{Slot}
use Rattle.bits.specs.Text.{chars}
use Rattle.text_line.specs.Text.{hex_of, named, text_if}
use Rattle.describe_times.specs.Times.{time_text}
use Rattle.describe_records.specs.Records.{id_text, word_text}

-- slots, queue, bus number and the port's ID
unfoldable pub front_text : (slots queue bus port : ℕ) → List ℕ
front_text slots queue bus port =
    named (chars "slots ") slots
    ++ named (chars ", queue ") queue
    ++ chars ", bus "
    ++ hex_of 2 bus
    ++ chars "h, port "
    ++ id_text port

-- a code after its name, with its time
unfoldable pub code_text : List ℕ → Code → List ℕ
code_text name code =
    name
    ++ hex_of 3 code.0
    ++ chars "h = "
    ++ time_text (nanos_of code)
    ++ text_if (not (allowed code)) (chars " (above A1Eh: refused)")

-- a slot's four codes, and whether it sends FRS
unfoldable pub entry_text : ℕ → Slot → List ℕ
entry_text slot entry =
    named (chars "slot ") slot
    ++ code_text (chars ": Reset ") entry.reset
    ++ code_text (chars ", DL Up ") entry.dl_up
    ++ code_text (chars ", FLR ") entry.flr
    ++ code_text (chars ", D3hot to D0 ") entry.d3hot
    ++ cond entry.sends_frs (chars ", sends FRS") (chars ", no FRS")

-- the default word at an index among all slots' words, 64 per slot
unfoldable pub default_text : (index word : ℕ) → List ℕ
default_text index word =
    named (chars "slot ") (index / 64) ++ chars " default at " ++ hex_of 2 (index % 64 * 4) ++ chars "h: " ++ word_text word
