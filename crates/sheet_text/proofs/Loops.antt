-- Texts put piece by piece.
use Prim.Native.Nat.{ℕ, ◌+◌, ◌≤◌, ◌<◌}
use mathlib.Core.Path.{◌≡◌, refl, ap, sym, ◌∙◌}
use mathlib.Core.List.{List, [], ◌++◌}
use native.Mathlib.Numerals.{add-one}
use lib.Dec.{ltb}
use lib.ListN.{length, get_or, drop, drop_of_length-le}
use lib.Seq.{drop-cons}
use Rattle.readiness.specs.declared.Slot.{Slot}
use Rattle.readiness.specs.Blank.{blank_slot}
use Rattle.text_line.specs.declared.text.Page.{Page}
use Rattle.text_line.specs.Page.{put}
use Rattle.text_line.specs.Text.{text_if}
use Rattle.text_line.proofs.Putting.{put_append, put_nothing}
use Rattle.sheet_grammar.specs.Reading.{line_naming}
use Rattle.sheet_text.specs.Cards.{slot_text, slots_from, word_text, words_from}
use Rattle.sheet_text.specs.Doubts.{slot_doubts, doubts_from}

-- ---- any text

pub nothing : (page : Page) → page ≡ put [] page
nothing page = sym (put_nothing page)

pub record Left (whole : List ℕ) (before : Page) (rest : List ℕ) (page : Page) : Type 0 where
  pub so_far : put whole before ≡ put rest page

pub starts : {whole : List ℕ} {page : Page} → Left whole page whole page
starts = record { so_far = refl }

-- a piece more
pub turns : {whole rest : List ℕ} {before page after : Page} (piece less : List ℕ) → Left whole before rest page
    → rest ≡ piece ++ less → after ≡ put piece page → Left whole before less after
turns {page = page} piece less h e p =
    record { so_far = h.so_far ∙ ap (λ (t : List ℕ). put t page) e ∙ put_append piece less page ∙ ap (put less) (sym p) }

pub ends : {whole rest : List ℕ} {before page : Page} → Left whole before rest page → rest ≡ [] → page ≡ put whole before
ends {page = page} h e = sym (h.so_far ∙ ap (λ (t : List ℕ). put t page) e ∙ put_nothing page)

-- ---- words

pub words_more : (i : ℕ) (words : List ℕ) → i < length words
    → words_from i (drop i words) ≡ word_text i (get_or words i 0) ++ words_from (i + 1) (drop (i + 1) words)
unfolding words_from
words_more i words h = rw (add-one i, drop-cons words i 0 h)

pub words_none : (i : ℕ) (words : List ℕ) → length words ≤ i → words_from i (drop i words) ≡ []
unfolding words_from
words_none i words h = rw (drop_of_length-le words h)

-- ---- slots

pub slots_more : (i slots : ℕ) (lines : List (List ℕ)) (entries : List Slot) → i < length entries
    → slots_from i slots lines (drop i entries) ≡ text_if (ltb i slots) (slot_text i lines (get_or entries i blank_slot)) ++ slots_from (i + 1) slots lines (drop (i + 1) entries)
unfolding slots_from
slots_more i slots lines entries h = rw (add-one i, drop-cons entries i blank_slot h)

pub slots_none : (i slots : ℕ) (lines : List (List ℕ)) (entries : List Slot) → length entries ≤ i → slots_from i slots lines (drop i entries) ≡ []
unfolding slots_from
slots_none i slots lines entries h = rw (drop_of_length-le entries h)

-- ---- doubts

pub doubts_more : (name : List ℕ) (i : ℕ) (lines : List (List ℕ)) (before after : List Slot) → i < length before → i < length after
    → doubts_from name i lines (drop i before) (drop i after) ≡ slot_doubts name i (line_naming i lines) (get_or before i blank_slot) (get_or after i blank_slot) ++ doubts_from name (i + 1) lines (drop (i + 1) before) (drop (i + 1) after)
unfolding doubts_from
doubts_more name i lines before after h k = rw (add-one i, drop-cons before i blank_slot h, drop-cons after i blank_slot k)

pub doubts_none : (name : List ℕ) (i : ℕ) (lines : List (List ℕ)) (before after : List Slot) → length before ≤ i
    → doubts_from name i lines (drop i before) (drop i after) ≡ []
unfolding doubts_from
doubts_none name i lines before after h = rw (drop_of_length-le before h)
