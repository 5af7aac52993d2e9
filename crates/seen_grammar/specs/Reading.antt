-- What a file of seen times gives (02, Q-7).
use Rattle.std.specs.Prelude.{ℕ, suc, Bool, true, false, ◌&&◌, not, cond, List, [], ◌∷◌, eqb, ltb, length, get_or, set, replicate, Some, Result, Ok, Err}
use Rattle.times.specs.declared.ClaimedTime.{ClaimedTime}
use Rattle.times.specs.Claims.{claimed_nanos}
use Rattle.readiness.specs.declared.Moments.{Moments}
use Rattle.readiness.specs.MadeReady.{no_moments, with_moment}
use Rattle.sheet_grammar.specs.Layout.{number_at, number_up_to, unit_at, claim}
use Rattle.sheet_grammar.specs.Reading.{lines_of}
use Rattle.seen_grammar.specs.declared.SeenLine.{SeenLine}
use Rattle.seen_grammar.specs.declared.NoLine.{NoLine}
use Rattle.seen_grammar.specs.declared.SeenRefusal.{SeenRefusal}
use Rattle.seen_grammar.specs.declared.SeenRefusal.TheVariants.{NoRefusal, Layout, NoSlot, NamedBefore, TooLong}
use Rattle.seen_grammar.specs.declared.SeenRead.{SeenRead}
use Rattle.seen_grammar.specs.Grammar.{most_time_digits}

-- ---- lines

-- the three fields one after the other, and nothing after them; else what was read of them
unfoldable pub line_of : List ℕ → Result SeenLine NoLine
line_of s =
    let slot = number_at 0 s in
    let time = number_up_to most_time_digits slot.next s in
    let u = unit_at time.next s in
    let said : SeenLine = record { slot = slot.number; time = claim time.number u.unit } in
    cond (slot.fits && time.fits && u.fits && eqb u.next (length s)) (Ok said) (Err (record { so_far = said }))

-- ---- refusals

-- the card has no such slot
unfoldable pub is_slot : (slots slot : ℕ) → Bool
is_slot slots slot = ltb slot slots && ltb slot 32

-- which slots were named before
abbrev pub is_named : List Bool → (slot : ℕ) → Bool
is_named named slot = get_or named slot false

-- above 2 · 10^15 ns no difference to a moment of the bench's clock is within 10^15 ns
abbrev pub longest_seen : ℕ
longest_seen = 2000000000000000

unfoldable pub is_too_long : ClaimedTime → Bool
is_too_long c = ltb longest_seen (claimed_nanos c).0

-- the first that applies to a line, or the line
unfoldable pub refusal_of : (slots : ℕ) (named : List Bool) → Result SeenLine NoLine → Result SeenLine SeenRefusal
refusal_of slots named (Err e) = Err Layout
refusal_of slots named (Ok l) =
    cond (not (is_slot slots l.slot)) (Err NoSlot)
    (cond (is_named named l.slot) (Err NamedBefore) (cond (is_too_long l.time) (Err TooLong) (Ok l)))

-- ---- times

-- the seen times with that of a line
unfoldable pub with_time : SeenLine → Moments → Moments
with_time l m = with_moment l.slot (claimed_nanos l.time) m

-- ---- files

abbrev pub accepts : Moments → SeenRead
accepts m = record { refusal = NoRefusal; line = 0; times = m }

abbrev pub refuses : SeenRefusal → (line : ℕ) → SeenRead
refuses refusal line = record { refusal = refusal; line = line; times = no_moments }

-- after line n + 1 the reading goes on, or the line refuses the file
abbrev pub read_on : (n : ℕ) → Result SeenLine SeenRefusal → (SeenLine → SeenRead) → SeenRead
read_on n (Ok l) rest = rest l
read_on n (Err why) rest = refuses why (suc n)

-- lines are read in turn, after n others; the earliest bad one refuses the file
unfoldable pub read_lines : (slots n : ℕ) → List (List ℕ) → (named : List Bool) → Moments → SeenRead
read_lines slots n [] named m = accepts m
read_lines slots n (line ∷ lines) named m =
    read_on n (refusal_of slots named (line_of line)) λ l. read_lines slots (suc n) lines (set named l.slot true) (with_time l m)

-- what a file gives for a card of so many slots
unfoldable pub seen_of : (text : List ℕ) → (slots : ℕ) → SeenRead
seen_of text slots = read_lines slots 0 (lines_of text) (replicate 32 false) no_moments
