-- What a run leaves: the image part by part, and the numbers for no.
use Prim.Native.Nat.{ℕ, ◌+◌, ◌*◌, ◌<◌}
use mathlib.Core.Path.{◌≡◌, refl, ap, ◌∙◌}
use mathlib.Core.Bool.{Bool, false}
use mathlib.Core.List.{List, ◌++◌, append_assoc}
use native.Mathlib.Omega.{arith}
use lib.ListN.{length, take, drop, replicate, length-append}
use lib.Seq.{take_at, drop_at}
use borrow.Author.Tests.{lt-ltb}
use Rattle.bits.specs.Widths.{at_most}
use Rattle.bits.proofs.Choices.{when_true, when_false}
use Rattle.trace.specs.Lent.{Left}
use Rattle.readiness.specs.declared.Status.{Status}
use Rattle.records.specs.declared.Port.{Port}
use Rattle.demand3.specs.Held.{Held}
use Rattle.state_layout.specs.Numbers.{low_first, word_bytes}
use Rattle.state_layout.specs.Image.{state_bytes}
use Rattle.state_layout.proofs.Numbers.{length-low, length_words}
use Rattle.state_layout.proofs.Steps.{length-state}
use Rattle.std.specs.Prelude.{Result, Err}
use Rattle.card_grammar.specs.declared.Card.{Card}
use Rattle.card_grammar.specs.declared.CardError.{CardError}
use Rattle.card_grammar.specs.Card.{card_of}
use Rattle.library_run.specs.Run.{shown, image_of, image_bytes, image_size, showing, run_on_card, run_on_read, run_on_text}

-- ---- The image
module _ (consumed written : ℕ) (port : Port) (s : List Status) (live cells : List ℕ) where
  abbrev counts : List ℕ
  counts = low_first 8 consumed ++ low_first 8 written

  abbrev image : List ℕ
  image = image_of consumed written port s live cells

  image_is : image ≡ counts ++ (state_bytes port s ++ (word_bytes live ++ word_bytes cells))
  unfolding image_of
  image_is =
      ap (λ (l : List ℕ). l ++ word_bytes cells) (append_assoc counts (state_bytes port s) (word_bytes live))
      ∙ append_assoc counts (state_bytes port s ++ word_bytes live) (word_bytes cells)
      ∙ ap (λ (l : List ℕ). counts ++ l) (append_assoc (state_bytes port s) (word_bytes live) (word_bytes cells))

  module _ (slots : ℕ) (long : length port.carried ≡ 16) (all : length s ≡ slots) (words : length live ≡ 64 * slots) where
    -- how far each part reaches
    pub record Lengths : Type 0 where
      pub to_counts : length counts ≡ 16
      pub to_state : length (counts ++ state_bytes port s) ≡ 16 + (46 + 27 * slots)
      pub to_live : length (counts ++ state_bytes port s ++ word_bytes live) ≡ 16 + (46 + 27 * slots) + 256 * slots
      -- THE IMAGE HAS AS MANY BYTES AS ARE ASKED FOR
      pub whole : length image ≡ image_size slots (length cells)

    pub lengths : Lengths
    unfolding image_of
    lengths =
        let c : length counts ≡ 16 = length-append (low_first 8 consumed) (low_first 8 written) ∙ omega (arith, length-low 8 consumed, length-low 8 written) in
        let t : length (counts ++ state_bytes port s) ≡ 16 + (46 + 27 * slots) = length-append counts (state_bytes port s) ∙ omega (arith, c, length-state port s long, all) in
        let l : length (counts ++ state_bytes port s ++ word_bytes live) ≡ 16 + (46 + 27 * slots) + 256 * slots =
        length-append (counts ++ state_bytes port s) (word_bytes live) ∙ omega (arith, t, length_words live, words) in
        record { to_counts = c; to_state = t; to_live = l; whole = length-append (counts ++ state_bytes port s ++ word_bytes live) (word_bytes cells) ∙ omega (arith, l, length_words cells) }

    -- THE COUNTS: bytes consumed, then bytes written, eight bytes each
    pub counts_first : take 16 image ≡ low_first 8 consumed ++ low_first 8 written
    counts_first = ap (take 16) image_is ∙ take_at counts (state_bytes port s ++ (word_bytes live ++ word_bytes cells)) 16 lengths.to_counts

    -- THE STATE after them
    pub state-next : take (46 + 27 * slots) (drop 16 image) ≡ state_bytes port s
    state-next =
        let n : length (state_bytes port s) ≡ 46 + 27 * slots = omega (arith, length-state port s long, all) in
        ap (λ (l : List ℕ). take (46 + 27 * slots) (drop 16 l)) image_is
        ∙ ap (take (46 + 27 * slots)) (drop_at counts (state_bytes port s ++ (word_bytes live ++ word_bytes cells)) 16 lengths.to_counts)
        ∙ take_at (state_bytes port s) (word_bytes live ++ word_bytes cells) (46 + 27 * slots) n

    -- THE LIVE WORDS AND THE CELLS last
    pub words_last : drop (16 + (46 + 27 * slots)) image ≡ word_bytes live ++ word_bytes cells
    unfolding image_of
    words_last =
        ap (drop (16 + (46 + 27 * slots))) (append_assoc (counts ++ state_bytes port s) (word_bytes live) (word_bytes cells))
        ∙ drop_at (counts ++ state_bytes port s) (word_bytes live ++ word_bytes cells) (16 + (46 + 27 * slots)) lengths.to_state

-- PAST THE IMAGE the lent bytes stay, and the number and the answers are those of the run
pub record Showed (slots : ℕ) (x : Left Held) (lent : List ℕ) : Type 0 where
  pub number : (showing slots x lent).number ≡ x.number
  pub answers : (showing slots x lent).answers ≡ x.answers
  pub rest : drop (length (image_bytes slots x)) (showing slots x lent).image ≡ drop (length (image_bytes slots x)) lent

pub showed : (slots : ℕ) (x : Left Held) (lent : List ℕ) → Showed slots x lent
unfolding showing
showed slots x lent =
    record { number = refl; answers = refl; rest = drop_at (image_bytes slots x) (drop (length (image_bytes slots x)) lent) (length (image_bytes slots x)) refl }

-- ---- The numbers for no
-- 101 WHERE THE IMAGE IS TOO SHORT: nothing changes
pub short_image : (captured : Bool) (piece : ℕ) (card : Card) (words input answers lent : List ℕ)
    → length lent < image_size (at_most card.setup.slots 32) (at_most card.queue 4095)
    → run_on_card captured piece card words input answers lent ≡ shown 101 answers lent
unfolding run_on_card
short_image captured piece card words input answers lent h = when_true _ _ _ (lt-ltb _ _ h)

-- 100 WHERE THE TEXT IS NO CARD: nothing changes
pub no_card : (captured : Bool) (piece : ℕ) (text input answers lent : List ℕ) (e : CardError) → (card_of text (replicate 2048 0)).read ≡ Err e
    → run_on_text captured piece text input answers lent ≡ shown 100 answers lent
unfolding run_on_text
no_card captured piece text input answers lent e h =
    ap (λ (r : Result Card CardError). run_on_read captured piece r (card_of text (replicate 2048 0)).words input answers lent) h
