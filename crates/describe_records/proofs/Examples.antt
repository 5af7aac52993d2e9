-- Records in words, as antt computes them.
use mathlib.Core.Path.{◌≡◌, refl}
use Rattle.std.specs.Prelude.{Some}
use Rattle.messages.specs.declared.Message.TheVariants.{Frs}
use Rattle.records.specs.declared.Record.{Record}
use Rattle.records.specs.declared.Record.TheVariants.{Read, Message, ClearBits, Control}
use Rattle.bits.specs.Text.{chars}
use Rattle.text_line.specs.Text.{glyph_of, hex_of, decimal_from, text_if}
use Rattle.describe_records.specs.Records.{id_text, offset_of, offset_text, place_text, enables_text, switch_text, signalling_meaning, signalling_text, reason_meaning, frs_text, message_text, request_text, message_record_text, listed_text, bits_text, clear_text, control_text, record_text}

-- word 0 of slot 0, all bytes
abbrev pub first_read : Record
first_read = Read (record { slot = 0; word = 0; enables = 15 })

a_read : record_text first_read ≡ chars "configuration read slot 0 offset 00h enables Fh"
unfolding record_text request_text place_text offset_text offset_of enables_text hex_of decimal_from glyph_of
a_read = refl

an_frs : record_text (Message (Some (Frs 0x0100 3))) ≡ chars "message: FRS from 0100h, reason 3 (FLR completed)"
unfolding record_text message_record_text message_text frs_text id_text reason_meaning hex_of decimal_from glyph_of
an_frs = refl

bits_cleared : record_text (ClearBits 0xFE) ≡ chars "clear status bits: Overflow, DRS Received"
unfolding record_text clear_text bits_text listed_text text_if
bits_cleared = refl

control_3 : record_text (Control 3) ≡ chars "control 03h: CRS visibility on, FRS interrupt on, DRS signalling 0 (none)"
unfolding record_text control_text switch_text signalling_text signalling_meaning hex_of decimal_from glyph_of
control_3 = refl
