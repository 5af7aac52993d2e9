-- What a run of a card's text and a trace or a capture gives.
use Rattle.std.specs.Prelude.{ℕ, ◌+◌, ◌*◌, Bool, true, false, cond, List, ◌++◌, ltb, length, take, drop, replicate, Result, Ok, Err}
use Rattle.bits.specs.Widths.{at_most}
use Rattle.trace.specs.Lent.{Left}
use Rattle.readiness.specs.declared.Setup.{Setup}
use Rattle.readiness.specs.declared.Status.{Status}
use Rattle.records.specs.declared.Port.{Port}
use Rattle.demand3.specs.Held.{Held}
use Rattle.trace_in_pieces.specs.Pieces.{blank_held, runs_on}
use Rattle.trace_in_pieces.specs.Captures.{replays_on}
use Rattle.state_layout.specs.Numbers.{low_first, word_bytes}
use Rattle.state_layout.specs.Image.{state_bytes}
use Rattle.card_grammar.specs.declared.Card.{Card}
use Rattle.card_grammar.specs.declared.CardError.{CardError}
use Rattle.card_grammar.specs.Card.{card_of}

-- the result, and the lent answers and image afterwards
pub record Shown : Type 0 where
  pub number : ℕ
  pub answers : List ℕ
  pub image : List ℕ

abbrev pub shown : ℕ → (answers image : List ℕ) → Shown
shown number answers image = record { number = number; answers = answers; image = image }

-- THE IMAGE: bytes consumed; bytes written; the state; the live words; the cells
unfoldable pub image_of : (consumed written : ℕ) → Port → List Status → (live cells : List ℕ) → List ℕ
image_of consumed written port statuses live cells =
    low_first 8 consumed
    ++ low_first 8 written
    ++ state_bytes port statuses
    ++ word_bytes live
    ++ word_bytes cells

-- of what a run leaves, with the statuses of the card's slots
abbrev pub image_bytes : (slots : ℕ) → Left Held → List ℕ
image_bytes slots x = image_of x.consumed x.written x.held.port (take slots x.held.statuses) x.held.live x.held.cells

-- how many bytes it has
abbrev pub image_size : (slots cells : ℕ) → ℕ
image_size slots cells = 16 + (46 + 27 * slots) + 256 * slots + 4 * cells

-- the number and the answers as the run leaves them, and the image over the front of the lent one
unfoldable pub showing : (slots : ℕ) → Left Held → (image : List ℕ) → Shown
showing slots x image = shown x.number x.answers (image_bytes slots x ++ drop (length (image_bytes slots x)) image)

-- a blank port, every slot Down, and memory of zeros
abbrev pub fresh_for : Setup → (slots cells : ℕ) → Held
fresh_for setup slots cells = blank_held setup (replicate (64 * slots) 0) (replicate cells 0)

-- set-up, and then what is run: a capture, in one call, or a trace, in pieces of this size
abbrev pub ran_on : (captured : Bool) (piece : ℕ) → Setup → (defaults : List ℕ) → Held → (input answers : List ℕ) → Left Held
ran_on true piece setup defaults h input answers = replays_on setup defaults h input answers
ran_on false piece setup defaults h input answers = runs_on setup defaults piece h input answers

-- on a card that was read: 101 where the image is too short
unfoldable pub run_on_card : (captured : Bool) (piece : ℕ) → Card → (words input answers image : List ℕ) → Shown
run_on_card captured piece card words input answers image =
    let slots = at_most card.setup.slots 32 in
    let cells = at_most card.queue 4095 in
    cond (ltb (length image) (image_size slots cells))
    (shown 101 answers image)
    (showing slots (ran_on captured piece card.setup (take (64 * slots) words) (fresh_for card.setup slots cells) input answers) image)

-- on what a card's text was read as: 100 where it is refused
abbrev pub run_on_read : (captured : Bool) (piece : ℕ) → Result Card CardError → (words input answers image : List ℕ) → Shown
run_on_read captured piece (Ok card) words input answers image = run_on_card captured piece card words input answers image
run_on_read captured piece (Err e) words input answers image = shown 100 answers image

-- on a card's text
unfoldable pub run_on_text : (captured : Bool) (piece : ℕ) → (text input answers image : List ℕ) → Shown
run_on_text captured piece text input answers image =
    let left = card_of text (replicate 2048 0) in run_on_read captured piece left.read left.words input answers image

-- THE RUN of a trace, in pieces of this size
abbrev pub run_of : (text trace : List ℕ) (piece : ℕ) (answers image : List ℕ) → Shown
run_of text trace piece answers image = run_on_text false piece text trace answers image

-- THE REPLAY of a capture
abbrev pub replay_of : (text capture answers image : List ℕ) → Shown
replay_of text capture answers image = run_on_text true 0 text capture answers image
