-- Answers in words, as antt computes them.
use mathlib.Core.Path.{◌≡◌, refl}
use mathlib.Core.List.{[], ◌∷◌}
use Rattle.std.specs.Prelude.{Some}
use Rattle.messages.specs.declared.Message.TheVariants.{Frs}
use Rattle.records.specs.declared.Record.TheVariants.{Message, LinkUp}
use Rattle.bits.specs.Text.{chars}
use Rattle.text_line.specs.Text.{glyph_of, hex_of, decimal_from, text_if}
use Rattle.describe_records.specs.Records.{listed_text, kind_of}
use Rattle.describe_records.proofs.Examples.{first_read}
use Rattle.describe_trace.specs.Answers.{wrong_state_text, status_text, interrupts_text, count_text, data_of, reads_of, data_text, answer_text}

crs_shown : answer_text first_read (0x10 ∷ 0 ∷ 0 ∷ 0 ∷ 0x01 ∷ 0x00 ∷ 0xFF ∷ 0xFF ∷ []) ≡ chars " -> 16 CRS shown; data FFFF0001h"
unfolding answer_text kind_of status_text interrupts_text count_text data_of reads_of data_text listed_text text_if hex_of decimal_from glyph_of
crs_shown = refl

up_twice : answer_text LinkUp (23 ∷ 0 ∷ 0 ∷ 0 ∷ 0 ∷ 0 ∷ 0 ∷ 0 ∷ []) ≡ chars " -> 23 link is up"
unfolding answer_text kind_of status_text wrong_state_text interrupts_text count_text data_of reads_of data_text listed_text text_if hex_of decimal_from glyph_of
up_twice = refl

frs-came : answer_text (Message (Some (Frs 0x0100 3))) (0 ∷ 1 ∷ 1 ∷ 0 ∷ 0 ∷ 0 ∷ 0 ∷ 0 ∷ []) ≡ chars " -> 0 done; interrupts Received; FRS queued 1"
unfolding answer_text kind_of status_text interrupts_text count_text data_of reads_of data_text listed_text text_if hex_of decimal_from glyph_of
frs-came = refl
