-- What the lines of a card name, fact by fact, and why a line is refused. The grammar of a card:
--
--   text     lines, each ended by 0Ah; the last may lack it
--   line     nothing or a fact, then nothing or a comment; blanks may stand before and after each
--   comment  '#' and all that follows it in the line
--   blanks   spaces, tabs and carriage returns
--   fact     one of these, with one or more blanks between its fields:
--     slots N                  N from 1 to 32
--     queue N                  N from 1 to 4,095
--     bus HH
--     port HHHH
--     slot N reset HHH dlup HHH flr HHH d3hot HHH frs yes|no
--                              N below slots
--     word N OFFSET VALUE      N below slots, OFFSET a multiple of 4 below 100h
--
-- N is decimal, OFFSET and VALUE are hex, each of 1 to 8 digits; HH, HHH and HHHH are hex of just so many digits. Hex digits may
-- be small or capital letters; the words are small letters. slots, queue, bus and port stand once each, a slot and a word of a
-- slot at most once; slots stands before every slot and word, and else the order is free.
use Rattle.std.specs.Prelude.{ℕ, suc, ◌+◌, ◌*◌, ◌/◌, ◌%◌, Bool, true, false, ◌&&◌, not, cond, List, [], ◌∷◌, eqb, leb, ltb, get_or, set, Option, Some, None, is_some, Result, Ok, Err}
use Rattle.std.specs.Option.{ok_or}
use Rattle.times.specs.declared.Code.{Code}
use Rattle.readiness.specs.declared.Slot.{Slot}
use Rattle.text_fields.specs.declared.Base.TheVariants.{Decimal, Hex}
use Rattle.text_fields.specs.declared.Numeral.{Numeral}
use Rattle.text_fields.specs.Text.{field, no_field, same, number_at}
use Rattle.card_grammar.specs.Names.{name_slots, name_queue, name_bus, name_port, name_slot, name_word, name_reset, name_dl_up, name_flr, name_d3hot, name_frs, name_yes, name_no}
use Rattle.card_grammar.specs.declared.Reason.{Reason}
use Rattle.card_grammar.specs.declared.Reason.TheVariants.{UnknownWord, BadNumber, LineTooShort, LineTooLong, OutOfRange, SlotsFirst, NamedTwice}
use Rattle.card_grammar.specs.declared.Fact.{Fact}
use Rattle.card_grammar.specs.declared.Named.{Named}
use Rattle.card_grammar.specs.declared.CardError.{CardError}
use Rattle.card_grammar.specs.SoFar.{refusal}

-- ---- reasons

-- what goes on with a value; an error ends it
abbrev pub and_then : {A B E : Type 0} → Result A E → (A → Result B E) → Result B E
and_then (Ok a) f = f a
and_then (Err e) f = Err e

-- an error unless the test holds
abbrev pub unless : Bool → Reason → Result (Unit {0}) Reason
unless true why = Ok tt
unless false why = Err why

-- a field that isn't what is wanted: the line is too short where there is none
unfoldable pub unfit : Reason → ℕ → List ℕ → Reason
unfit why k line = cond (no_field k line) LineTooShort why

-- field k must be this word
unfoldable pub word_wanted : List ℕ → ℕ → List ℕ → Result (Unit {0}) Reason
word_wanted word k line = unless (same (field k line) word) (unfit UnknownWord k line)

-- field k must be a number of this form
unfoldable pub number_wanted : Numeral → ℕ → List ℕ → Result ℕ Reason
number_wanted form k line = ok_or (number_at form k line) (unfit BadNumber k line)

-- no field k may follow
unfoldable pub end_wanted : ℕ → List ℕ → Result (Unit {0}) Reason
end_wanted k line = unless (no_field k line) LineTooLong

-- nothing is named twice
abbrev pub fresh : (named : Bool) → Result (Unit {0}) Reason
fresh named = unless (not named) NamedTwice

-- ---- numbers

-- decimal and hex numbers of 1 to 8 digits, and hex numbers of just so many
abbrev pub decimal : Numeral
decimal = record { base = Decimal; least = 1; most = 8 }

abbrev pub hex : Numeral
hex = record { base = Hex; least = 1; most = 8 }

abbrev pub hex_of : ℕ → Numeral
hex_of n = record { base = Hex; least = n; most = n }

-- ---- NAME NUMBER, for slots, queue, bus and port

abbrev pub slots_fact : Fact
slots_fact = record { form = decimal; low = 1; high = 32 }

abbrev pub queue_fact : Fact
queue_fact = record { form = decimal; low = 1; high = 4095 }

abbrev pub bus_fact : Fact
bus_fact = record { form = hex_of 2; low = 0; high = 0xFF }

abbrev pub port_fact : Fact
port_fact = record { form = hex_of 4; low = 0; high = 0xFFFF }

abbrev pub in_range : Fact → ℕ → Result (Unit {0}) Reason
in_range fact n = unless (leb fact.low n && leb n fact.high) OutOfRange

-- the number, where the fact isn't named yet
unfoldable pub number_fact : Fact → (named : Bool) → List ℕ → Result ℕ Reason
number_fact fact named line =
    and_then (number_wanted fact.form 1 line) λ n.
    and_then (end_wanted 2 line) λ _.
    and_then (in_range fact n) λ _.
    and_then (fresh named) λ _. Ok n

unfoldable pub enter_slots : List ℕ → Named → Result Named Reason
enter_slots line named = and_then (number_fact slots_fact (is_some named.slots) line) λ n. Ok (record named { slots = Some n })

unfoldable pub enter_queue : List ℕ → Named → Result Named Reason
enter_queue line named = and_then (number_fact queue_fact (is_some named.queue) line) λ n. Ok (record named { queue = Some n })

unfoldable pub enter_bus : List ℕ → Named → Result Named Reason
enter_bus line named = and_then (number_fact bus_fact (is_some named.bus) line) λ n. Ok (record named { bus = Some n })

unfoldable pub enter_port : List ℕ → Named → Result Named Reason
enter_port line named = and_then (number_fact port_fact (is_some named.port) line) λ n. Ok (record named { port = Some n })

-- ---- a slot's facts

-- slots must be named before a slot is, and the slot must be one of them, which are at most 32
abbrev pub slot_allowed : (slots : Option ℕ) → (n : ℕ) → Result (Unit {0}) Reason
slot_allowed None n = Err SlotsFirst
slot_allowed (Some slots) n = unless (ltb n slots && ltb n 32) OutOfRange

-- a word, and a code of three hex digits after it
unfoldable pub code_wanted : List ℕ → (k : ℕ) → List ℕ → Result Code Reason
code_wanted name k line =
    and_then (word_wanted name k line) λ _.
    and_then (number_wanted (hex_of 3) (suc k) line) λ n. Ok (record { 0 = n })

-- yes or no
abbrev pub is_yes : ℕ → List ℕ → Bool
is_yes k line = same (field k line) name_yes

unfoldable pub yes_no_wanted : ℕ → List ℕ → Result Bool Reason
yes_no_wanted k line = cond (is_yes k line) (Ok true) (and_then (word_wanted name_no k line) λ _. Ok false)

-- reset HHH dlup HHH flr HHH d3hot HHH frs yes|no
unfoldable pub entry_wanted : List ℕ → Result Slot Reason
entry_wanted line =
    and_then (code_wanted name_reset 2 line) λ reset.
    and_then (code_wanted name_dl_up 4 line) λ dl_up.
    and_then (code_wanted name_flr 6 line) λ flr.
    and_then (code_wanted name_d3hot 8 line) λ d3hot.
    and_then (word_wanted name_frs 10 line) λ _.
    and_then (yes_no_wanted 11 line) λ sends_frs.
    and_then (end_wanted 12 line) λ _.
    Ok (record { reset = reset; dl_up = dl_up; flr = flr; d3hot = d3hot; sends_frs = sends_frs })

-- slot N reset HHH dlup HHH flr HHH d3hot HHH frs yes|no
unfoldable pub enter_slot : List ℕ → Named → Result Named Reason
enter_slot line named =
    and_then (number_wanted decimal 1 line) λ n.
    and_then (entry_wanted line) λ entry.
    and_then (slot_allowed named.slots n) λ _.
    and_then (fresh (is_some (get_or named.entries n None))) λ _.
    Ok (record named { entries = set named.entries n (Some entry) })

-- a byte offset of a register: a multiple of 4 below 100h
abbrev pub offset_allowed : ℕ → Result (Unit {0}) Reason
offset_allowed offset = unless (ltb offset 0x100 && eqb (offset % 4) 0) OutOfRange

-- the default word of slot n at a byte offset
abbrev pub default_place : (n offset : ℕ) → ℕ
default_place n offset = n * 64 + offset / 4

-- word N OFFSET VALUE
unfoldable pub place_wanted : List ℕ → (slots : Option ℕ) → Result (ℕ × ℕ) Reason
place_wanted line slots =
    and_then (number_wanted decimal 1 line) λ n.
    and_then (number_wanted hex 2 line) λ offset.
    and_then (number_wanted hex 3 line) λ value.
    and_then (end_wanted 4 line) λ _.
    and_then (slot_allowed slots n) λ _.
    and_then (offset_allowed offset) λ _. Ok (default_place n offset, value)

unfoldable pub enter_word : List ℕ → Named → Result Named Reason
enter_word line named =
    and_then (place_wanted line named.slots) λ w.
    and_then (fresh (is_some (get_or named.words w.0 None))) λ _.
    Ok (record named { words = set named.words w.0 (Some w.1) })

-- ---- lines

-- the first field of the line is this word
abbrev pub is_fact : List ℕ → List ℕ → Bool
is_fact name line = same (field 0 line) name

-- a line: nothing but blanks and a comment, or a fact
unfoldable pub enter_line : List ℕ → Named → Result Named Reason
enter_line line named =
    cond (no_field 0 line) (Ok named)
    (cond (is_fact name_slots line) (enter_slots line named)
    (cond (is_fact name_queue line) (enter_queue line named)
    (cond (is_fact name_bus line) (enter_bus line named)
    (cond (is_fact name_port line) (enter_port line named)
    (cond (is_fact name_slot line) (enter_slot line named)
    (cond (is_fact name_word line) (enter_word line named) (Err UnknownWord)))))))

-- what a call leaves that enters a line
abbrev pub entered : Result (Unit {0}) Reason → Named → Result Named Reason
entered (Ok done) named = Ok named
entered (Err why) named = Err why

-- what lines leave: how many they are, and what they have named
pub record Told : Type 0 where
  pub lines : ℕ
  pub named : Named

-- a reason, at its line, with what was named before it
abbrev pub at_line : {A : Type 0} → ℕ → Named → Result A Reason → Result A CardError
at_line n named (Ok a) = Ok a
at_line n named (Err why) = Err (refusal n why named)

-- lines are read in turn, up to the first that is refused
unfoldable pub read_lines : ℕ → List (List ℕ) → Named → Result Told CardError
read_lines n [] named = Ok (record { lines = n; named = named })
read_lines n (line ∷ lines) named = and_then (at_line (suc n) named (enter_line line named)) λ after. read_lines (suc n) lines after

-- what a call leaves that reads lines
abbrev pub told : Result ℕ CardError → Named → Result Told CardError
told (Ok n) named = Ok (record { lines = n; named = named })
told (Err e) named = Err e

-- what is named once a line and those behind it were read: a line that is refused leaves what was named, and none is read behind it
abbrev pub go_on : Result Named Reason → (before : Named) → (Named → Named) → Named
go_on (Ok after) before rest = rest after
go_on (Err why) before rest = before

-- what is named after a line
abbrev pub named_after : (line : List ℕ) → Named → Named
named_after line named = go_on (enter_line line named) named λ after. after

-- what is named after lines, up to the first that is refused
unfoldable pub named_until : List (List ℕ) → Named → Named
named_until [] named = named
named_until (line ∷ lines) named = go_on (enter_line line named) named λ after. named_until lines after
