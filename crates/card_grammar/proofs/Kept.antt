-- What lines leave named: each number within its limits.
use mathlib.Core.Path.{◌≡◌, refl, subst}
use mathlib.Core.Bool.{Bool, true, false, ◌&&◌, cond}
use mathlib.Core.List.{List, [], ◌∷◌}
use Prim.Native.Nat.{ℕ, zero, suc, ◌≤◌, ◌<◌}
use lib.Dec.{leb, ltb}
use lib.ListN.{get_or, set, replicate}
use borrow.Author.Tests.{leb-true, ltb-true}
use Rattle.std.specs.Prelude.{Option, Some, None, is_some, Result, Ok, Err}
use Rattle.std.specs.Option.{IfSome, ok_or}
use Rattle.std.specs.Result.{IfOk}
use Rattle.bits.proofs.Tests.{both_left, both_right}
use Rattle.times.specs.declared.Code.{Code}
use Rattle.readiness.specs.declared.Slot.{Slot}
use Rattle.text_fields.specs.declared.Base.TheVariants.{Hex}
use Rattle.text_fields.specs.declared.Numeral.{Numeral}
use Rattle.text_fields.specs.Text.{number_at, field, no_field}
use Rattle.text_fields.proofs.Numbers.{number_small, code_small}
use Rattle.card_grammar.specs.declared.Reason.{Reason}
use Rattle.card_grammar.specs.declared.Reason.TheVariants.{OutOfRange}
use Rattle.card_grammar.specs.declared.Fact.{Fact}
use Rattle.card_grammar.specs.declared.Named.{Named}
use Rattle.card_grammar.specs.Names.{name_slots, name_queue, name_bus, name_port, name_slot, name_word, name_reset, name_dl_up, name_flr, name_d3hot, name_frs}
use Rattle.card_grammar.specs.Grammar.{and_then, unless, word_wanted, number_wanted, end_wanted, fresh, decimal, hex, hex_of, slots_fact, queue_fact, bus_fact, port_fact, in_range, number_fact, enter_slots, enter_queue, enter_bus, enter_port, slot_allowed, code_wanted, yes_no_wanted, entry_wanted, enter_slot, offset_allowed, place_wanted, enter_word, is_fact, enter_line, Told, at_line, read_lines, go_on, named_until}
use Rattle.card_grammar.specs.Card.{nothing_named}

-- ---- results

-- what holds of each value that goes on holds of the value at the end
pub then_ok : {A B E : Type 0} (P : B → Type 0) (r : Result A E) (f : A → Result B E) → ((a : A) → r ≡ Ok a → IfOk (f a) P) → IfOk (and_then r f) P
then_ok P (Ok a) f h = h a refl
then_ok P (Err e) f h = tt

pub if_ok : {A E : Type 0} (P : A → Type 0) {r : Result A E} {a : A} → r ≡ Ok a → IfOk r P → P a
if_ok P e h = subst (λ r. IfOk r P) e h

pub passed : (t : Bool) (why : Reason) {u : Unit {0}} → unless t why ≡ Ok u → t ≡ true
passed true why e = refl
passed false why e = cc

pub was_some : {A : Type 0} (o : Option A) (why : Reason) {a : A} → ok_or o why ≡ Ok a → o ≡ Some a
was_some (Some b) why e = cc
was_some None why e = cc

pub at_line_ok : {A : Type 0} (n : ℕ) (named : Named) (r : Result A Reason) {a : A} → at_line n named r ≡ Ok a → r ≡ Ok a
at_line_ok n named (Ok b) e = cc
at_line_ok n named (Err why) e = cc

-- ---- numbers

is_number : (form : Numeral) (k : ℕ) (line : List ℕ) {n : ℕ} → number_wanted form k line ≡ Ok n → number_at form k line ≡ Some n
unfolding number_wanted
is_number form k line e = was_some (number_at form k line) _ e

pub number_fits : (form : Numeral) (k : ℕ) (line : List ℕ) {n : ℕ} → number_wanted form k line ≡ Ok n → n < 4294967296
number_fits form k line e = number_small form (field k line) (is_number form k line e)

pub code_fits : (k : ℕ) (line : List ℕ) {n : ℕ} → number_wanted (hex_of 3) k line ≡ Ok n → n < 4096
code_fits k line e = code_small Hex (field k line) (is_number (hex_of 3) k line e)

abbrev pub Within : Fact → ℕ → Type 0
Within fact n = (fact.low ≤ n) × (n ≤ fact.high)

pub fact_within : (fact : Fact) (named : Bool) (line : List ℕ) → IfOk (number_fact fact named line) (Within fact)
unfolding number_fact
fact_within fact named line =
    then_ok (Within fact) (number_wanted fact.form 1 line) _ λ n e.
    then_ok (Within fact) (end_wanted 2 line) _ λ u f.
    then_ok (Within fact) (in_range fact n) _ λ v g.
    then_ok (Within fact) (fresh named) _ λ w h.
    let both : (leb fact.low n && leb n fact.high) ≡ true = passed (leb fact.low n && leb n fact.high) OutOfRange g in
    (leb-true fact.low n (both_left (leb fact.low n) (leb n fact.high) both), leb-true n fact.high (both_right (leb fact.low n) (leb n fact.high) both))

pub slot_below : (slots : Option ℕ) (n : ℕ) {u : Unit {0}} → slot_allowed slots n ≡ Ok u → n < 32
slot_below None n e = cc
slot_below (Some slots) n e = ltb-true n 32 (both_right (ltb n slots) (ltb n 32) (passed (ltb n slots && ltb n 32) OutOfRange e))

-- ---- what has been named

-- a code has three digits
pub record Small (s : Slot) : Type 0 where
  pub reset : s.reset.0 < 4096
  pub dl_up : s.dl_up.0 < 4096
  pub flr : s.flr.0 < 4096
  pub d3hot : s.d3hot.0 < 4096

pub record Kept (named : Named) : Type 0 where
  pub slots : IfSome named.slots (Within slots_fact)
  pub queue : IfSome named.queue (Within queue_fact)
  pub bus : IfSome named.bus (Within bus_fact)
  pub port : IfSome named.port (Within port_fact)
  pub entries : (n : ℕ) → IfSome (get_or named.entries n None) Small
  pub words : (place : ℕ) → IfSome (get_or named.words place None) (λ w. w < 4294967296)

none_at : {A : Type 0} (P : Option A → Type 0) (n i : ℕ) → P None → P (get_or (replicate n None) i None)
none_at P zero i p = p
none_at P (suc n) zero p = p
none_at P (suc n) (suc i) p = none_at P n i p

pub kept_nothing : Kept nothing_named
kept_nothing =
    record {
      slots = tt;
      queue = tt;
      bus = tt;
      port = tt;
      entries = λ n. none_at (λ o. IfSome o Small) 32 n tt;
      words = λ n. none_at (λ o. IfSome o (λ w. w < 4294967296)) 2048 n tt;
    }

-- one more in a list
set_at : {A : Type 0} (P : Option A → Type 0) (l : List (Option A)) (n : ℕ) (a : A) → P (Some a) → ((m : ℕ) → P (get_or l m None)) → (m : ℕ)
    → P (get_or (set l n (Some a)) m None)
set_at P [] n a p k m = k m
set_at P (x ∷ l) zero a p k zero = p
set_at P (x ∷ l) zero a p k (suc m) = k (suc m)
set_at P (x ∷ l) (suc n) a p k zero = k zero
set_at P (x ∷ l) (suc n) a p k (suc m) = set_at P l n a p (λ j. k (suc j)) m

-- ---- a line

module _ (line : List ℕ) (named : Named) (k : Kept named) where
  kept_slots : IfOk (enter_slots line named) Kept
  unfolding enter_slots
  kept_slots =
      then_ok Kept (number_fact slots_fact (is_some named.slots) line) _ λ n e.
      record { slots = if_ok (Within slots_fact) e (fact_within slots_fact (is_some named.slots) line); queue = k.queue; bus = k.bus; port = k.port; entries = k.entries; words = k.words }

  kept_queue : IfOk (enter_queue line named) Kept
  unfolding enter_queue
  kept_queue =
      then_ok Kept (number_fact queue_fact (is_some named.queue) line) _ λ n e.
      record { slots = k.slots; queue = if_ok (Within queue_fact) e (fact_within queue_fact (is_some named.queue) line); bus = k.bus; port = k.port; entries = k.entries; words = k.words }

  kept_bus : IfOk (enter_bus line named) Kept
  unfolding enter_bus
  kept_bus =
      then_ok Kept (number_fact bus_fact (is_some named.bus) line) _ λ n e.
      record { slots = k.slots; queue = k.queue; bus = if_ok (Within bus_fact) e (fact_within bus_fact (is_some named.bus) line); port = k.port; entries = k.entries; words = k.words }

  kept_port : IfOk (enter_port line named) Kept
  unfolding enter_port
  kept_port =
      then_ok Kept (number_fact port_fact (is_some named.port) line) _ λ n e.
      record { slots = k.slots; queue = k.queue; bus = k.bus; port = if_ok (Within port_fact) e (fact_within port_fact (is_some named.port) line); entries = k.entries; words = k.words }

  abbrev Digits3 : Code → Type 0
  Digits3 c = c.0 < 4096

  codes : (name : List ℕ) (j : ℕ) → IfOk (code_wanted name j line) Digits3
  unfolding code_wanted
  codes name j =
      then_ok Digits3 (word_wanted name j line) _ λ u f.
      then_ok Digits3 (number_wanted (hex_of 3) (suc j) line) _ λ n g. code_fits (suc j) line g

  code : (name : List ℕ) (j : ℕ) {c : Code} → code_wanted name j line ≡ Ok c → c.0 < 4096
  code name j e = if_ok Digits3 e (codes name j)

  small : IfOk (entry_wanted line) Small
  unfolding entry_wanted
  small =
      then_ok Small (code_wanted name_reset 2 line) _ λ reset e.
      then_ok Small (code_wanted name_dl_up 4 line) _ λ dl_up f.
      then_ok Small (code_wanted name_flr 6 line) _ λ flr g.
      then_ok Small (code_wanted name_d3hot 8 line) _ λ d3hot h.
      then_ok Small (word_wanted name_frs 10 line) _ λ u i.
      then_ok Small (yes_no_wanted 11 line) _ λ v j.
      then_ok Small (end_wanted 12 line) _ λ w l.
      record { reset = code name_reset 2 e; dl_up = code name_dl_up 4 f; flr = code name_flr 6 g; d3hot = code name_d3hot 8 h }

  kept_slot : IfOk (enter_slot line named) Kept
  unfolding enter_slot
  kept_slot =
      then_ok Kept (number_wanted decimal 1 line) _ λ n e.
      then_ok Kept (entry_wanted line) _ λ entry f.
      then_ok Kept (slot_allowed named.slots n) _ λ u g.
      then_ok Kept (fresh (is_some (get_or named.entries n None))) _ λ v h.
      record {
        slots = k.slots;
        queue = k.queue;
        bus = k.bus;
        port = k.port;
        entries = set_at (λ o. IfSome o Small) named.entries n entry (if_ok Small f small) k.entries;
        words = k.words;
      }

  abbrev Word : (ℕ × ℕ) → Type 0
  Word w = w.1 < 4294967296

  word : IfOk (place_wanted line named.slots) Word
  unfolding place_wanted
  word =
      then_ok Word (number_wanted decimal 1 line) _ λ n e.
      then_ok Word (number_wanted hex 2 line) _ λ o f.
      then_ok Word (number_wanted hex 3 line) _ λ v g.
      then_ok Word (end_wanted 4 line) _ λ t h.
      then_ok Word (slot_allowed named.slots n) _ λ u i.
      then_ok Word (offset_allowed o) _ λ w j. number_fits hex 3 line g

  kept_word : IfOk (enter_word line named) Kept
  unfolding enter_word
  kept_word =
      then_ok Kept (place_wanted line named.slots) _ λ w e.
      then_ok Kept (fresh (is_some (get_or named.words w.0 None))) _ λ u f.
      record {
        slots = k.slots;
        queue = k.queue;
        bus = k.bus;
        port = k.port;
        entries = k.entries;
        words = set_at (λ o. IfSome o (λ n. n < 4294967296)) named.words w.0 w.1 (if_ok Word e word) k.words;
      }

  either : (t : Bool) (a b : Result Named Reason) → IfOk a Kept → IfOk b Kept → IfOk (cond t a b) Kept
  either true a b p q = p
  either false a b p q = q

  pub kept_line : IfOk (enter_line line named) Kept
  unfolding enter_line
  kept_line =
      either (no_field 0 line) _ _ k
      (either (is_fact name_slots line) _ _ kept_slots
      (either (is_fact name_queue line) _ _ kept_queue
      (either (is_fact name_bus line) _ _ kept_bus
      (either (is_fact name_port line) _ _ kept_port
      (either (is_fact name_slot line) _ _ kept_slot
      (either (is_fact name_word line) _ _ kept_word tt))))))

-- ---- all lines

abbrev pub KeptTold : Told → Type 0
KeptTold t = Kept t.named

kept_told : (lines : List (List ℕ)) (n : ℕ) (named : Named) → Kept named → IfOk (read_lines n lines named) KeptTold
unfolding read_lines
kept_told [] n named k = k
kept_told (line ∷ lines) n named k =
    then_ok KeptTold (at_line (suc n) named (enter_line line named)) _ λ after e.
    kept_told lines (suc n) after (if_ok Kept (at_line_ok (suc n) named (enter_line line named) e) (kept_line line named k))

kept_on : (r : Result Named Reason) (before : Named) (rest : Named → Named) → Kept before → ((after : Named) → r ≡ Ok after → Kept (rest after)) → Kept (go_on r before rest)
kept_on (Ok after) before rest k h = h after refl
kept_on (Err why) before rest k h = k

kept_until : (lines : List (List ℕ)) (named : Named) → Kept named → Kept (named_until lines named)
unfolding named_until
kept_until [] named k = k
kept_until (line ∷ lines) named k =
    kept_on (enter_line line named) named _ k λ after e. kept_until lines after (if_ok Kept e (kept_line line named k))

-- of lines that are all entered, and of lines up to one that is refused
pub kept_lines : (lines : List (List ℕ)) (n : ℕ) (named : Named) → Kept named → IfOk (read_lines n lines named) KeptTold × Kept (named_until lines named)
kept_lines lines n named k = (kept_told lines n named k, kept_until lines named k)
