-- What holds of every reading.
use mathlib.Core.Path.{◌≡◌, refl, sym, ap, subst, ◌∙◌}
use mathlib.Core.List.{List, [], ◌∷◌, ◌++◌}
use mathlib.Core.Logic.{◌⊎◌}
use Prim.Native.Nat.{ℕ, suc, ◌≤◌, ◌<◌}
use native.Mathlib.Omega.{arith}
use lib.Dec.{eqb}
use lib.ListN.{length, get_or, get_or-map}
use borrow.Author.Tests.{eqb-true}
use Rattle.std.specs.Prelude.{Option, Some, None, unwrap_or, Result, Ok, Err}
use Rattle.std.specs.Option.{IfSome, ok_or}
use Rattle.std.specs.Result.{IfOk, IfErr}
use Rattle.std.proofs.Common.{inl, inr}
use Rattle.readiness.specs.declared.Slot.{Slot}
use Rattle.readiness.specs.declared.Setup.{Setup}
use Rattle.readiness.specs.Blank.{blank_slot}
use Rattle.text_fields.specs.Text.{lines_of}
use Rattle.card_grammar.specs.declared.Reason.{Reason}
use Rattle.card_grammar.specs.declared.Reason.TheVariants.{Missing, NoRoom}
use Rattle.card_grammar.specs.declared.Named.{Named}
use Rattle.card_grammar.specs.declared.Card.{Card}
use Rattle.card_grammar.specs.declared.CardError.{CardError}
use Rattle.card_grammar.specs.SoFar.{entries_from, setup_from, queue_from}
use Rattle.card_grammar.specs.Grammar.{and_then, unless, slots_fact, queue_fact, default_place, enter_line, Told, at_line, read_lines, go_on, named_after, named_until}
use Rattle.card_grammar.specs.Card.{nothing_named, words_from, card_from, stored, outcome_from, card_of, named_of, setup_of, queue_of}
use Rattle.card_grammar.proofs.Comments.{comment_line}
use Rattle.card_grammar.proofs.Kept.{then_ok, if_ok, passed, was_some, at_line_ok, Within, Small, Kept, kept_nothing, kept_lines, KeptTold}

-- where a text is refused, the words lent are as they were
pub refused_keeps : (text words : List ℕ) (e : CardError) → (card_of text words).read ≡ Err e → (card_of text words).words ≡ words
unfolding card_of
refused_keeps text words e h = told (read_lines 0 (lines_of text) nothing_named) h
  where
    kept : (r : Result Card CardError) (named : Named) → (stored r named words).read ≡ Err e → (stored r named words).words ≡ words
    kept (Ok card) named h = cc
    kept (Err x) named h = refl

    told : (r : Result Told CardError) → (outcome_from r words).read ≡ Err e → (outcome_from r words).words ≡ words
    told (Ok t) h = kept (at_line t.lines t.named (card_from t.lines t.named (length words))) t.named h
    told (Err x) h = refl

-- a text is a card, or there is a line and a reason
pub ok_is_fine : (text words : List ℕ) → ((card : Card) × ((card_of text words).read ≡ Ok card)) ⊎ ((e : CardError) × ((card_of text words).read ≡ Err e))
ok_is_fine text words = by (card_of text words).read refl
  where
    by : (r : Result Card CardError) → (card_of text words).read ≡ r → ((card : Card) × ((card_of text words).read ≡ Ok card)) ⊎ ((e : CardError) × ((card_of text words).read ≡ Err e))
    by (Ok card) h = inl (card, h)
    by (Err e) h = inr (e, h)

-- what lines that are all entered have named
told_until : (lines : List (List ℕ)) (n : ℕ) (named : Named) → IfOk (read_lines n lines named) (λ t. t.named ≡ named_until lines named)
unfolding read_lines named_until
told_until [] n named = refl
told_until (line ∷ lines) n named = by (enter_line line named) (λ after. told_until lines (suc n) after)
  where
    by : (r : Result Named Reason) → ((after : Named) → IfOk (read_lines (suc n) lines after) (λ t. t.named ≡ named_until lines after))
        → IfOk (and_then (at_line (suc n) named r) λ (after : Named). read_lines (suc n) lines after) (λ t. t.named ≡ go_on r named λ (after : Named). named_until lines after)
    by (Ok after) h = h after
    by (Err why) h = tt

-- what the lines of a card have named
pub record Named_by (text words : List ℕ) (card : Card) : Type 0 where
  pub told : Told
  pub lines : read_lines 0 (lines_of text) nothing_named ≡ Ok told
  pub all : told.named ≡ named_of text
  pub given : card_from told.lines told.named (length words) ≡ Ok card
  pub words_are : (card_of text words).words ≡ words_from told.named.words

stored_ok : (r : Result Card CardError) (named : Named) (words : List ℕ) {card : Card} → (stored r named words).read ≡ Ok card
    → (r ≡ Ok card) × ((stored r named words).words ≡ words_from named.words)
stored_ok (Ok c) named words h = (h, refl)
stored_ok (Err e) named words h = cc

pub named_by : (text words : List ℕ) (card : Card) → (card_of text words).read ≡ Ok card → Named_by text words card
unfolding card_of
named_by text words card h = by (read_lines 0 (lines_of text) nothing_named) refl h
  where
    by : (r : Result Told CardError) → read_lines 0 (lines_of text) nothing_named ≡ r → (outcome_from r words).read ≡ Ok card → Named_by text words card
    by (Ok t) e h =
        let both = stored_ok (at_line t.lines t.named (card_from t.lines t.named (length words))) t.named words h in
        record {
          told = t;
          lines = e;
          all = if_ok (λ t. t.named ≡ named_of text) e (told_until (lines_of text) 0 nothing_named);
          given = at_line_ok t.lines t.named (card_from t.lines t.named (length words)) both.0;
          words_are = ap (λ (r : Result Told CardError). (outcome_from r words).words) e ∙ both.1;
        }
    by (Err x) e h = cc

-- a card has 1 to 32 slots and a queue of 1 to 4,095, 2,048 words are lent, and what its lines name of slots, queue, bus and
-- port is what the set-up has
pub record Accepted (text words : List ℕ) (card : Card) : Type 0 where
  pub by : Named_by text words card
  pub lines : card.lines ≡ by.told.lines
  pub slots : (1 ≤ card.setup.slots) × (card.setup.slots ≤ 32)
  pub queue : (1 ≤ card.queue) × (card.queue ≤ 4095)
  pub lent : length words ≡ 2048
  pub slots_named : by.told.named.slots ≡ Some card.setup.slots
  pub queue_named : by.told.named.queue ≡ Some card.queue
  pub bus_named : by.told.named.bus ≡ Some card.setup.bus
  pub port_named : by.told.named.port ≡ Some card.setup.port_id
  pub entries_named : card.setup.entries ≡ entries_from by.told.named.entries

-- what a card has of what was named
pub record Parts (count : ℕ) (named : Named) (lent : ℕ) (card : Card) : Type 0 where
  pub lines : card.lines ≡ count
  pub slots : named.slots ≡ Some card.setup.slots
  pub queue : named.queue ≡ Some card.queue
  pub bus : named.bus ≡ Some card.setup.bus
  pub port : named.port ≡ Some card.setup.port_id
  pub entries : card.setup.entries ≡ entries_from named.entries
  pub room : lent ≡ 2048

pub parts : (count : ℕ) (named : Named) (lent : ℕ) → IfOk (card_from count named lent) (Parts count named lent)
unfolding card_from
parts count named lent =
    then_ok (Parts count named lent) (ok_or named.slots Missing) _ λ slots e.
    then_ok (Parts count named lent) (ok_or named.queue Missing) _ λ queue f.
    then_ok (Parts count named lent) (ok_or named.bus Missing) _ λ bus g.
    then_ok (Parts count named lent) (ok_or named.port Missing) _ λ port h.
    then_ok (Parts count named lent) (unless (eqb lent 2048) NoRoom) _ λ u i.
    record {
      lines = refl;
      slots = was_some named.slots Missing e;
      queue = was_some named.queue Missing f;
      bus = was_some named.bus Missing g;
      port = was_some named.port Missing h;
      entries = refl;
      room = eqb-true lent 2048 (passed (eqb lent 2048) NoRoom i);
    }

at_some : {A : Type 0} (P : A → Type 0) {o : Option A} {a : A} → o ≡ Some a → IfSome o P → P a
at_some P e h = subst (λ o. IfSome o P) e h

kept_of : (text words : List ℕ) (card : Card) (n : Named_by text words card) → Kept n.told.named
kept_of text words card n = if_ok KeptTold n.lines (kept_lines (lines_of text) 0 nothing_named kept_nothing).0

pub accepted : (text words : List ℕ) (card : Card) → (card_of text words).read ≡ Ok card → Accepted text words card
accepted text words card h =
    let n = named_by text words card h in
    let k = kept_of text words card n in
    let p = if_ok (Parts n.told.lines n.told.named (length words)) n.given (parts n.told.lines n.told.named (length words)) in
    record {
      by = n;
      lines = p.lines;
      slots = at_some (Within slots_fact) p.slots k.slots;
      queue = at_some (Within queue_fact) p.queue k.queue;
      lent = p.room;
      slots_named = p.slots;
      queue_named = p.queue;
      bus_named = p.bus;
      port_named = p.port;
      entries_named = p.entries;
    }

-- ---- every text, a card or refused

-- an error has what was named before it
abbrev SoFar : Named → CardError → Type 0
SoFar named e = (e.setup ≡ setup_from named) × (e.queue ≡ queue_from named)

error_until : (lines : List (List ℕ)) (n : ℕ) (named : Named) → IfErr (read_lines n lines named) (SoFar (named_until lines named))
unfolding read_lines named_until
error_until [] n named = tt
error_until (line ∷ lines) n named = by (enter_line line named) (λ after. error_until lines (suc n) after)
  where
    by : (r : Result Named Reason) → ((after : Named) → IfErr (read_lines (suc n) lines after) (SoFar (named_until lines after)))
        → IfErr (and_then (at_line (suc n) named r) λ (after : Named). read_lines (suc n) lines after) (SoFar (go_on r named λ (after : Named). named_until lines after))
    by (Ok after) h = h after
    by (Err why) h = (refl, refl)

-- a card has what was named
card_so_far : (count : ℕ) (named : Named) (lent : ℕ) (card : Card) → Parts count named lent card → (card.setup ≡ setup_from named) × (card.queue ≡ queue_from named)
unfolding setup_from
card_so_far count named lent card p = (
  sym (λ i. record { slots = unwrap_or (p.slots i) 0; entries = sym p.entries i; bus = unwrap_or (p.bus i) 0; port_id = unwrap_or (p.port i) 0 }),
  sym (ap (λ (o : Option ℕ). unwrap_or o 0) p.queue),
)

abbrev Reads : Result Card CardError → Named → Type 0
Reads r named = (setup_of r ≡ setup_from named) × (queue_of r ≡ queue_from named)

-- the set-up and the queue length of a reading are what the text names, up to the line that is refused
pub read_so_far : (text words : List ℕ) → (setup_of (card_of text words).read ≡ setup_from (named_of text)) × (queue_of (card_of text words).read ≡ queue_from (named_of text))
unfolding card_of
read_so_far text words = by (read_lines 0 (lines_of text) nothing_named) (told_until (lines_of text) 0 nothing_named) (error_until (lines_of text) 0 nothing_named)
  where
    whole : (r : Result Card Reason) (lines : ℕ) (named : Named) → IfOk r (Parts lines named (length words)) → Reads (stored (at_line lines named r) named words).read named
    whole (Ok card) lines named p = card_so_far lines named (length words) card p
    whole (Err why) lines named p = (refl, refl)

    by : (r : Result Told CardError) → IfOk r (λ t. t.named ≡ named_of text) → IfErr r (SoFar (named_of text)) → Reads (outcome_from r words).read (named_of text)
    by (Ok t) e f =
        subst (λ (named : Named). Reads (outcome_from (Ok t) words).read named) e
        (whole (card_from t.lines t.named (length words)) t.lines t.named (parts t.lines t.named (length words)))
    by (Err x) e f = f

kept_all : (text : List ℕ) → Kept (named_of text)
kept_all text = (kept_lines (lines_of text) 0 nothing_named kept_nothing).1

-- no default word and no code that a text names is cut, and none before the line that is refused: a word is what was named, or 0,
-- and below 2^32; a slot's entry is what was named, or has no times, and its codes are below 1000h; and what a reading gives is that
pub words_whole : (text : List ℕ) (n offset : ℕ)
    → let w : ℕ = unwrap_or (get_or (named_of text).words (default_place n offset) None) 0 in
    (get_or (words_from (named_of text).words) (default_place n offset) 0 ≡ w)
    × (w < 4294967296)
    × ((words : List ℕ) (card : Card) → (card_of text words).read ≡ Ok card → get_or (card_of text words).words (default_place n offset) 0 ≡ w)
unfolding words_from
words_whole text n offset =
    let place : ℕ = default_place n offset in
    let named : Named = named_of text in
    let is : get_or (words_from named.words) place 0 ≡ unwrap_or (get_or named.words place None) 0 = get_or-map (λ (w : Option ℕ). unwrap_or w 0) named.words place None in (
      is,
      small (get_or named.words place None) ((kept_all text).words place),
      λ words card h. let by = named_by text words card h in
          ap (λ (l : List ℕ). get_or l place 0) by.words_are ∙ ap (λ (m : Named). get_or (words_from m.words) place 0) by.all ∙ is,
    )
  where
    small : (o : Option ℕ) → IfSome o (λ w. w < 4294967296) → unwrap_or o 0 < 4294967296
    small None k = omega arith
    small (Some w) k = k

pub codes_whole : (text : List ℕ) (n : ℕ)
    → let s : Slot = unwrap_or (get_or (named_of text).entries n None) blank_slot in
    (get_or (entries_from (named_of text).entries) n blank_slot ≡ s)
    × Small s
    × ((words : List ℕ) (card : Card) → (card_of text words).read ≡ Ok card → get_or card.setup.entries n blank_slot ≡ s)
    × ((words : List ℕ) (e : CardError) → (card_of text words).read ≡ Err e → get_or e.setup.entries n blank_slot ≡ s)
unfolding setup_from entries_from
codes_whole text n =
    let named : Named = named_of text in
    let is : get_or (entries_from named.entries) n blank_slot ≡ unwrap_or (get_or named.entries n None) blank_slot = get_or-map (λ (s : Option Slot). unwrap_or s blank_slot) named.entries n None in
    let read : (words : List ℕ) → get_or (setup_of (card_of text words).read).entries n blank_slot ≡ unwrap_or (get_or named.entries n None) blank_slot =
    λ words. ap (λ (s : Setup). get_or s.entries n blank_slot) (read_so_far text words).0 ∙ is in (
      is,
      small (get_or named.entries n None) ((kept_all text).entries n),
      λ words card h. ap (λ (r : Result Card CardError). get_or (setup_of r).entries n blank_slot) (sym h) ∙ read words,
      λ words e h. ap (λ (r : Result Card CardError). get_or (setup_of r).entries n blank_slot) (sym h) ∙ read words,
    )
  where
    small : (o : Option Slot) → IfSome o Small → Small (unwrap_or o blank_slot)
    small None k = record { reset = omega arith; dl_up = omega arith; flr = omega arith; d3hot = omega arith }
    small (Some s) k = k

-- a comment behind a line changes nothing, neither what is named nor why the line is refused
pub comment_ignored : (line comment : List ℕ) (named : Named)
    → (enter_line (line ++ 0x23 ∷ comment) named ≡ enter_line line named) × (named_after (line ++ 0x23 ∷ comment) named ≡ named_after line named)
comment_ignored line comment named =
    let same = comment_line line comment named in
    (same, ap (λ (r : Result Named Reason). go_on r named λ (after : Named). after) same)
