-- A comment is not read.
use mathlib.Core.Path.{◌≡◌, refl, ap, ap₂, ◌∙◌}
use mathlib.Core.Bool.{Bool, true, false, cond}
use mathlib.Core.List.{List, [], ◌∷◌, ◌++◌}
use Prim.Native.Nat.{ℕ, zero, suc, ◌+◌, ◌-◌, ◌≤◌}
use native.Mathlib.Omega.{arith}
use lib.Dec.{eqb}
use lib.ListN.{length, take, drop, length-drop}
use lib.Seq.{drop-append-le, take-append-le}
use Rattle.std.specs.Prelude.{Option, Result, Ok}
use Rattle.std.specs.Option.{ok_or}
use Rattle.text_fields.specs.declared.Numeral.{Numeral}
use Rattle.text_fields.specs.Text.{number_at, is_blank, in_field, run, run_end, field_start, field_end, field, no_field, same, number_of}
use Rattle.card_grammar.specs.declared.Reason.{Reason}
use Rattle.card_grammar.specs.declared.Reason.TheVariants.{UnknownWord, BadNumber, LineTooShort, LineTooLong}
use Rattle.card_grammar.specs.declared.Fact.{Fact}
use Rattle.card_grammar.specs.declared.Named.{Named}
use Rattle.card_grammar.specs.Names.{name_slots, name_queue, name_bus, name_port, name_slot, name_word, name_reset, name_dl_up, name_flr, name_d3hot, name_frs, name_yes, name_no}
use Rattle.card_grammar.specs.Grammar.{and_then, unless, unfit, word_wanted, number_wanted, end_wanted, decimal, hex, hex_of, number_fact, enter_slots, enter_queue, enter_bus, enter_port, code_wanted, yes_no_wanted, entry_wanted, enter_slot, place_wanted, enter_word, is_fact, enter_line}
use Rattle.text_fields.proofs.Runs.{start_most, end_most}

-- a run ends at the latest where a byte stands that doesn't pass
run_append : (p : ℕ → Bool) (s t : List ℕ) (b : ℕ) → p b ≡ false → run p (s ++ b ∷ t) ≡ run p s
unfolding run
run_append p [] t b e = ap (λ (x : Bool). cond x (suc (run p t)) 0) e
run_append p (x ∷ s) t b e = ap (λ (n : ℕ). cond (p x) (suc n) 0) (run_append p s t b e)

run_end_append : (p : ℕ → Bool) (at : ℕ) (s t : List ℕ) (b : ℕ) → p b ≡ false → at ≤ length s → run_end p at (s ++ b ∷ t) ≡ run_end p at s
run_end_append p at s t b e h = ap (λ (l : List ℕ). at + run p l) (drop-append-le at s (b ∷ t) h) ∙ ap (λ (n : ℕ). at + n) (run_append p (drop at s) t b e)

-- a line with a comment behind it
module _ (s t : List ℕ) where
  abbrev more : List ℕ
  more = s ++ 0x23 ∷ t

  no_blank : is_blank 0x23 ≡ false
  unfolding is_blank
  no_blank = refl

  no_field_byte : in_field 0x23 ≡ false
  unfolding in_field is_blank
  no_field_byte = refl

  start_same : (k : ℕ) → field_start k more ≡ field_start k s
  unfolding field_start
  start_same zero = run_end_append is_blank 0 s t 0x23 no_blank (omega arith)
  start_same (suc k) = ap (λ (n : ℕ). run_end is_blank n more) (ap (λ (n : ℕ). run_end in_field n more) (start_same k) ∙ run_end_append in_field (field_start k s) s t 0x23 no_field_byte (start_most k s)) ∙ run_end_append is_blank (field_end k s) s t 0x23 no_blank (end_most k s)

  end_same : (k : ℕ) → field_end k more ≡ field_end k s
  end_same k = ap (λ (n : ℕ). run_end in_field n more) (start_same k) ∙ run_end_append in_field (field_start k s) s t 0x23 no_field_byte (start_most k s)

  field_same : (k : ℕ) → field k more ≡ field k s
  field_same k =
      let from : ℕ = field_start k s in
      let n : ℕ = field_end k s - from in
      let fits : n ≤ length (drop from s) = omega (arith, end_most k s, length-drop from s) in
      ap₂ (λ (f e : ℕ). take (e - f) (drop f more)) (start_same k) (end_same k)
      ∙ ap (take n) (drop-append-le from s (0x23 ∷ t) (start_most k s))
      ∙ take-append-le n (drop from s) (0x23 ∷ t) fits

  none_same : (k : ℕ) → no_field k more ≡ no_field k s
  unfolding no_field
  none_same k = ap₂ eqb (start_same k) (end_same k)

  number_same : (form : Numeral) (k : ℕ) → number_at form k more ≡ number_at form k s
  number_same form k = ap (number_of form) (field_same k)

  words : (name : List ℕ) (k : ℕ) → word_wanted name k more ≡ word_wanted name k s
  unfolding word_wanted unfit
  words name k = ap₂ (λ (f : List ℕ) (x : Bool). unless (same f name) (cond x LineTooShort UnknownWord)) (field_same k) (none_same k)

  numbers : (form : Numeral) (k : ℕ) → number_wanted form k more ≡ number_wanted form k s
  unfolding number_wanted unfit
  numbers form k = ap₂ (λ (n : Option ℕ) (x : Bool). ok_or n (cond x LineTooShort BadNumber)) (number_same form k) (none_same k)

  ends : (k : ℕ) → end_wanted k more ≡ end_wanted k s
  unfolding end_wanted
  ends k = ap (λ (x : Bool). unless x LineTooLong) (none_same k)

  facts : (fact : Fact) (named : Bool) → number_fact fact named more ≡ number_fact fact named s
  unfolding number_fact
  facts fact named = simp (numbers fact.form 1, ends 2)

  codes : (name : List ℕ) (k : ℕ) → code_wanted name k more ≡ code_wanted name k s
  unfolding code_wanted
  codes name k = simp (words name k, numbers (hex_of 3) (suc k))

  yes_no : (k : ℕ) → yes_no_wanted k more ≡ yes_no_wanted k s
  unfolding yes_no_wanted
  yes_no k =
      ap₂ (λ (f : List ℕ) (r : Result (Unit {0}) Reason). cond (same f name_yes) (Ok true) (and_then r (λ (u : Unit {0}). Ok false))) (field_same k) (words name_no k)

  entries : entry_wanted more ≡ entry_wanted s
  unfolding entry_wanted
  entries = simp (codes name_reset 2, codes name_dl_up 4, codes name_flr 6, codes name_d3hot 8, words name_frs 10, yes_no 11, ends 12)

  places : (slots : Option ℕ) → place_wanted more slots ≡ place_wanted s slots
  unfolding place_wanted
  places slots = simp (numbers decimal 1, numbers hex 2, numbers hex 3, ends 4)

  fact_same : (name : List ℕ) → is_fact name more ≡ is_fact name s
  fact_same name = ap (λ (f : List ℕ). same f name) (field_same 0)

  pub comment_line : (named : Named) → enter_line more named ≡ enter_line s named
  unfolding enter_line enter_slots enter_queue enter_bus enter_port enter_slot enter_word
  comment_line named =
      simp (none_same 0, fact_same name_slots, fact_same name_queue, fact_same name_bus, fact_same name_port, fact_same name_slot, fact_same name_word, facts, numbers decimal 1, entries, places)
