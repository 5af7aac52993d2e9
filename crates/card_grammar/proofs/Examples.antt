-- Cards by their text, as antt computes them.
use mathlib.Core.Path.{◌≡◌, refl}
use mathlib.Core.Bool.{Bool, true, false}
use mathlib.Core.List.{List, [], ◌∷◌}
use Prim.Native.Nat.{ℕ}
use Prim.Native.String.{String}
use lib.ListN.{get_or, replicate}
use Rattle.readiness.specs.declared.Slot.{Slot}
use Rattle.std.specs.Prelude.{Result, Ok, Err}
use Rattle.card_grammar.specs.declared.Reason.{Reason}
use Rattle.card_grammar.specs.declared.Reason.TheVariants.{UnknownWord, BadNumber, LineTooShort, LineTooLong, OutOfRange, SlotsFirst, NamedTwice, Missing, NoRoom}
use Rattle.card_grammar.specs.declared.Card.{Card}
use Rattle.card_grammar.specs.declared.CardError.{CardError}
use Rattle.card_grammar.specs.Grammar.{unfit, word_wanted, number_wanted, end_wanted, number_fact, enter_slots, enter_queue, enter_bus, enter_port, place_wanted, enter_word, yes_no_wanted, code_wanted, entry_wanted, enter_slot, enter_line, read_lines}
use Rattle.card_grammar.specs.SoFar.{entries_from, setup_from}
use Rattle.card_grammar.specs.Card.{words_from, card_from, card_of}
use Rattle.bits.specs.Text.{chars}
use Rattle.text_fields.specs.Text.{in_line, lines_of, is_blank, in_field, run, field_start, no_field, digit_of, value_from, width_allowed, number_of}

-- ---- whole texts, with 2,048 words lent

abbrev reading : String → Result Card CardError
reading text = (card_of (chars text) (replicate 2048 0)).read

-- marked case 10
abbrev case10 : String
case10 = "# marked case 10\nslots 1\nqueue 1\nbus 01\nport 0008\nslot 0 reset 000 dlup 00A flr 005 d3hot 000 frs yes\nword 0 00 56781234 # vendor and device\nword 0 74 10000000 # FLR capable\n"

abbrev slot : (reset dl_up flr d3hot : ℕ) → Bool → Slot
slot reset dl_up flr d3hot frs = record { reset = record { 0 = reset }; dl_up = record { 0 = dl_up }; flr = record { 0 = flr }; d3hot = record { 0 = d3hot }; sends_frs = frs }

case_10 : reading case10
    ≡ Ok (record {
      lines = 8;
      setup = record { slots = 1; entries = slot 0x000 0x00A 0x005 0x000 true ∷ replicate 31 (slot 0 0 0 0 false); bus = 0x01; port_id = 0x0008 };
      queue = 1;
    })
unfolding lines_of in_line field_start run is_blank in_field no_field digit_of value_from width_allowed number_of unfit word_wanted number_wanted end_wanted number_fact enter_slots enter_queue enter_bus enter_port place_wanted enter_word yes_no_wanted code_wanted entry_wanted enter_slot enter_line read_lines card_from card_of entries_from words_from
case_10 = refl

-- the first default word
case_10_words : get_or (card_of (chars case10) (replicate 2048 0xEEEEEEEE)).words 0x00 0 ≡ 0x56781234
unfolding lines_of in_line field_start run is_blank in_field no_field digit_of value_from width_allowed number_of unfit word_wanted number_wanted end_wanted number_fact enter_slots enter_queue enter_bus enter_port place_wanted enter_word yes_no_wanted code_wanted entry_wanted enter_slot enter_line read_lines card_from card_of words_from
case_10_words = refl

-- how many lines a card has, or the line that is refused and the reason
abbrev verdict : Result Card CardError → Result ℕ (ℕ × Reason)
verdict (Ok card) = Ok card.lines
verdict (Err e) = Err (e.line, e.reason)

abbrev verdicts : List String → List (Result ℕ (ℕ × Reason))
verdicts [] = []
verdicts (text ∷ more) = verdict (reading text) ∷ verdicts more

-- a word that is no fact, or not the one wanted there
unknown_words : verdicts
    ("slits 2"
    ∷ "slots 2\nqueue 4\nbus 01\nport 0008\nslot 0 rest 000 dlup 00A flr 005 d3hot 000 frs yes"
    ∷ "slots 2\nqueue 4\nbus 01\nport 0008\nslot 0 reset 000 dlup 00A flr 005 d3hot 000 frs maybe"
    ∷ "Slots 2"
    ∷ [])
    ≡ Err (1, UnknownWord) ∷ Err (5, UnknownWord) ∷ Err (5, UnknownWord) ∷ Err (1, UnknownWord) ∷ []
unfolding lines_of in_line field_start run is_blank in_field no_field digit_of value_from width_allowed number_of unfit word_wanted number_wanted end_wanted number_fact enter_slots enter_queue enter_bus enter_port place_wanted enter_word yes_no_wanted code_wanted entry_wanted enter_slot enter_line read_lines card_from card_of
unknown_words = refl

-- no number, or one of another width
bad_numbers : verdicts
    ("slots two"
    ∷ "slots 123456789"
    ∷ "# bus\n\nbus 1"
    ∷ "port 00080"
    ∷ "bus 0G"
    ∷ "slots 2\nqueue 4\nbus 01\nport 0008\nslot 0 reset A1 dlup 00A flr 005 d3hot 000 frs yes"
    ∷ [])
    ≡ Err (1, BadNumber) ∷ Err (1, BadNumber) ∷ Err (3, BadNumber) ∷ Err (1, BadNumber) ∷ Err (1, BadNumber) ∷ Err (5, BadNumber) ∷ []
unfolding lines_of in_line field_start run is_blank in_field no_field digit_of value_from width_allowed number_of unfit word_wanted number_wanted end_wanted number_fact enter_slots enter_queue enter_bus enter_port place_wanted enter_word yes_no_wanted code_wanted entry_wanted enter_slot enter_line read_lines card_from card_of
bad_numbers = refl

-- the line ends too early, or goes on
line_ends : verdicts
    ("slots # 2"
    ∷ "slots 2\nqueue 4\nbus 01\nport 0008\nslot 0 reset 000"
    ∷ "slots 2 3"
    ∷ "slots 2\nqueue 4\nbus 01\nport 0008\nslot 0 reset 000 dlup 00A flr 005 d3hot 000 frs yes no"
    ∷ [])
    ≡ Err (1, LineTooShort) ∷ Err (5, LineTooShort) ∷ Err (1, LineTooLong) ∷ Err (5, LineTooLong) ∷ []
unfolding lines_of in_line field_start run is_blank in_field no_field digit_of value_from width_allowed number_of unfit word_wanted number_wanted end_wanted number_fact enter_slots enter_queue enter_bus enter_port place_wanted enter_word yes_no_wanted code_wanted entry_wanted enter_slot enter_line read_lines card_from card_of
line_ends = refl

-- a number that isn't allowed there
ranges : verdicts
    ("slots 0"
    ∷ "slots 33"
    ∷ "queue 0"
    ∷ "queue 4096"
    ∷ "slots 2\nqueue 4\nbus 01\nport 0008\nslot 2 reset 000 dlup 00A flr 005 d3hot 000 frs no"
    ∷ "slots 2\nqueue 4\nbus 01\nport 0008\nword 0 02 1"
    ∷ "slots 2\nqueue 4\nbus 01\nport 0008\nword 0 100 1"
    ∷ [])
    ≡ Err (1, OutOfRange) ∷ Err (1, OutOfRange) ∷ Err (1, OutOfRange) ∷ Err (1, OutOfRange) ∷ Err (5, OutOfRange) ∷ Err (5, OutOfRange) ∷ Err (5, OutOfRange) ∷ []
unfolding lines_of in_line field_start run is_blank in_field no_field digit_of value_from width_allowed number_of unfit word_wanted number_wanted end_wanted number_fact enter_slots enter_queue enter_bus enter_port place_wanted enter_word yes_no_wanted code_wanted entry_wanted enter_slot enter_line read_lines card_from card_of
ranges = refl

-- slots come first
slots_first : verdicts
    ("slot 0 reset 000 dlup 00A flr 005 d3hot 000 frs no\nslots 1"
    ∷ "queue 1\nword 0 00 1\nslots 1"
    ∷ [])
    ≡ Err (1, SlotsFirst) ∷ Err (2, SlotsFirst) ∷ []
unfolding lines_of in_line field_start run is_blank in_field no_field digit_of value_from width_allowed number_of unfit word_wanted number_wanted end_wanted number_fact enter_slots enter_queue enter_bus enter_port place_wanted enter_word yes_no_wanted code_wanted entry_wanted enter_slot enter_line read_lines card_from card_of
slots_first = refl

-- nothing is named twice
named_twice : verdicts
    ("slots 2\nslots 2"
    ∷ "slots 2\nqueue 4\nbus 01\nport 0008\nslot 1 reset 000 dlup 00A flr 005 d3hot 000 frs no\n\nslot 1 reset 000 dlup 00A flr 005 d3hot 000 frs no"
    ∷ "slots 2\nqueue 4\nbus 01\nport 0008\nword 1 44 0\nword 1 48 0\nword 1 44 0"
    ∷ [])
    ≡ Err (2, NamedTwice) ∷ Err (7, NamedTwice) ∷ Err (7, NamedTwice) ∷ []
unfolding lines_of in_line field_start run is_blank in_field no_field digit_of value_from width_allowed number_of unfit word_wanted number_wanted end_wanted number_fact enter_slots enter_queue enter_bus enter_port place_wanted enter_word yes_no_wanted code_wanted entry_wanted enter_slot enter_line read_lines card_from card_of
named_twice = refl

-- at the end: the last line's number
all_named : verdicts
    (""
    ∷ "slots 2\nqueue 4\nport 0008\n"
    ∷ [])
    ≡ Err (0, Missing) ∷ Err (3, Missing) ∷ []
unfolding lines_of in_line field_start run is_blank in_field no_field digit_of value_from width_allowed number_of unfit word_wanted number_wanted end_wanted number_fact enter_slots enter_queue enter_bus enter_port place_wanted enter_word yes_no_wanted code_wanted entry_wanted enter_slot enter_line read_lines card_from card_of
all_named = refl

-- the least cards, of 4 lines each
least_cards : verdicts
    ("slots 2\nqueue 4\nbus 01\nport 0008\n"
    ∷ "\tport 0008 # the root port\r\nbus 01\nqueue 4095\nslots 32"
    ∷ [])
    ≡ Ok 4 ∷ Ok 4 ∷ []
unfolding lines_of in_line field_start run is_blank in_field no_field digit_of value_from width_allowed number_of unfit word_wanted number_wanted end_wanted number_fact enter_slots enter_queue enter_bus enter_port place_wanted enter_word yes_no_wanted code_wanted entry_wanted enter_slot enter_line read_lines card_from card_of
least_cards = refl

-- 2,048 words must be lent
too_few_words : verdict (card_of (chars case10) (replicate 2047 0)).read ≡ Err (8, NoRoom)
unfolding lines_of in_line field_start run is_blank in_field no_field digit_of value_from width_allowed number_of unfit word_wanted number_wanted end_wanted number_fact enter_slots enter_queue enter_bus enter_port place_wanted enter_word yes_no_wanted code_wanted entry_wanted enter_slot enter_line read_lines card_from card_of
too_few_words = refl

-- a text that is refused: the set-up and the queue length of the lines before the one that is
refused_so_far : reading "slots 2\nqueue 4\nbus 1F\nport 0008\nslot 1 reset 000 dlup 00A flr 005 d3hot 000 frs yes\nslots 3\nqueue 5"
    ≡ Err (record {
      line = 6;
      reason = NamedTwice;
      setup = record { slots = 2; entries = slot 0 0 0 0 false ∷ slot 0x000 0x00A 0x005 0x000 true ∷ replicate 30 (slot 0 0 0 0 false); bus = 0x1F; port_id = 0x0008 };
      queue = 4;
    })
unfolding lines_of in_line field_start run is_blank in_field no_field digit_of value_from width_allowed number_of unfit word_wanted number_wanted end_wanted number_fact enter_slots enter_queue enter_bus enter_port place_wanted enter_word yes_no_wanted code_wanted entry_wanted enter_slot enter_line read_lines card_from card_of entries_from setup_from
refused_so_far = refl

-- what isn't named is 0
missing_so_far : reading "queue 7\nport 0102"
    ≡ Err (record { line = 2; reason = Missing; setup = record { slots = 0; entries = replicate 32 (slot 0 0 0 0 false); bus = 0; port_id = 0x0102 }; queue = 7 })
unfolding lines_of in_line field_start run is_blank in_field no_field digit_of value_from width_allowed number_of unfit word_wanted number_wanted end_wanted number_fact enter_slots enter_queue enter_bus enter_port place_wanted enter_word yes_no_wanted code_wanted entry_wanted enter_slot enter_line read_lines card_from card_of entries_from setup_from
missing_so_far = refl
