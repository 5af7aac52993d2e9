-- The card that a text is, or why it is none.
use Rattle.std.specs.Prelude.{ℕ, List, map, eqb, length, replicate, Option, None, unwrap_or, Result, Ok, Err}
use Rattle.std.specs.Option.{ok_or}
use Rattle.readiness.specs.declared.Setup.{Setup}
use Rattle.text_fields.specs.Text.{lines_of}
use Rattle.card_grammar.specs.SoFar.{entries_from}
use Rattle.card_grammar.specs.Grammar.{and_then, unless, Told, at_line, read_lines, named_until}
use Rattle.card_grammar.specs.declared.Reason.{Reason}
use Rattle.card_grammar.specs.declared.Reason.TheVariants.{Missing, NoRoom}
use Rattle.card_grammar.specs.declared.Named.{Named}
use Rattle.card_grammar.specs.declared.Card.{Card}
use Rattle.card_grammar.specs.declared.CardError.{CardError}

-- nothing is named
abbrev pub nothing_named : Named
nothing_named = record { slots = None; queue = None; bus = None; port = None; entries = replicate 32 None; words = replicate 2048 None }

-- a word not named is 0
unfoldable pub words_from : List (Option ℕ) → List ℕ
words_from words = map (λ w. unwrap_or w 0) words

-- the card that so many lines have named: slots, queue, bus and port must be, and 2,048 words must be lent for the default words
unfoldable pub card_from : (lines : ℕ) → Named → (lent : ℕ) → Result Card Reason
card_from lines named lent =
    and_then (ok_or named.slots Missing) λ slots.
    and_then (ok_or named.queue Missing) λ queue.
    and_then (ok_or named.bus Missing) λ bus.
    and_then (ok_or named.port Missing) λ port.
    and_then (unless (eqb lent 2048) NoRoom) λ _.
    Ok (record { lines = lines; setup = record { slots = slots; entries = entries_from named.entries; bus = bus; port_id = port }; queue = queue })

-- what a reading leaves: the reading itself, and the words lent for the default words
pub record Outcome : Type 0 where
  pub read : Result Card CardError
  pub words : List ℕ

abbrev pub outcome : Result Card CardError → List ℕ → Outcome
outcome read words = record { read = read; words = words }

-- the words lent take the default words where there is a card, and else are as they were
abbrev pub stored : Result Card CardError → Named → (words : List ℕ) → Outcome
stored (Ok card) named words = outcome (Ok card) (words_from named.words)
stored (Err e) named words = outcome (Err e) words

abbrev pub outcome_from : Result Told CardError → (words : List ℕ) → Outcome
outcome_from (Ok t) words = stored (at_line t.lines t.named (card_from t.lines t.named (length words))) t.named words
outcome_from (Err e) words = outcome (Err e) words

-- the card that a text is: how many lines it has, its set-up, its queue length and its default words; or the line that is refused, and why, and
-- the set-up and the queue length as far as they were read, with the words as they were
unfoldable pub card_of : (text words : List ℕ) → Outcome
card_of text words = outcome_from (read_lines 0 (lines_of text) nothing_named) words

-- what a text names, up to the line that is refused
abbrev pub named_of : (text : List ℕ) → Named
named_of text = named_until (lines_of text) nothing_named

-- the set-up and the queue length of a reading: a card's, or as far as they were read
abbrev pub setup_of : Result Card CardError → Setup
setup_of (Ok card) = card.setup
setup_of (Err e) = e.setup

abbrev pub queue_of : Result Card CardError → ℕ
queue_of (Ok card) = card.queue
queue_of (Err e) = e.queue
