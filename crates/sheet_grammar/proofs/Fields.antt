-- The fields of a line: numbers and units at a place of a text, as they are read and as the grammar has them.
use mathlib.Core.Path.{◌≡◌, refl, sym, ap, ap₂, subst, ◌∙◌}
use mathlib.Core.Bool.{Bool, true, false, ◌&&◌, ◌||◌, cond, true≢false}
use mathlib.Core.List.{List, [], ◌∷◌, ◌++◌, append_assoc}
use Prim.Native.Nat.{ℕ, zero, suc, ◌+◌, ◌*◌, ◌≤◌}
use native.Mathlib.Omega.{arith}
use lib.Dec.{eqb, leb}
use lib.ListN.{length, get_or, drop, length-append}
use lib.Seq.{drop-drop, drop-append_seam, get_or-drop}
use borrow.Author.Tests.{eqb-true, eq-eqb, leb-true, le-leb}
use Rattle.bits.proofs.Choices.{when_true, either_way}
use Rattle.bits.proofs.Tests.{both, both_left, both_right, split, not_both}
use Rattle.times.specs.declared.Unit.{Unit}
use Rattle.times.specs.declared.Unit.TheVariants.{Ns, Us, Ms}
use Rattle.text_fields.specs.Text.{digit_of}
use Rattle.sheet_grammar.specs.declared.Digits.{Digits}
use Rattle.sheet_grammar.specs.declared.NumberRead.{NumberRead}
use Rattle.sheet_grammar.specs.declared.UnitRead.{UnitRead}
use Rattle.sheet_grammar.specs.Layout.{is_digit, digit_value, space, line_end, byte_at, digits_from, digits_at, number_fits, next_place, number_up_to, is_unit_letter, unit_of, unit_bytes, unit_at}
use Rattle.sheet_grammar.specs.Grammar.{Decimal, NumberUpTo, UnitName}
use Rattle.sheet_grammar.specs.Grammar.Decimal.{done, digit}
use Rattle.sheet_grammar.specs.Grammar.UnitName.{ns, us, ms}

-- ---- a piece of a text

-- a piece stands from one place up to another
pub record Stands (from to : ℕ) (s piece : List ℕ) : Type 0 where
  pub whole : drop from s ≡ piece ++ drop to s
  pub end : to ≡ from + length piece

-- what is in front of the bytes at a place stands there
pub stands : {from : ℕ} {s : List ℕ} (piece rest : List ℕ) → drop from s ≡ piece ++ rest → Stands from (from + length piece) s piece
stands {from} {s} piece rest e =
    let next : drop (from + length piece) s ≡ rest = sym (drop-drop (length piece) from s) ∙ ap (drop (length piece)) e ∙ drop-append_seam piece rest in
    record { whole = e ∙ ap (λ (r : List ℕ). piece ++ r) (sym next); end = refl }

-- two pieces in one, with a byte between them
regrouped : (text : List ℕ) (b : ℕ) (more rest : List ℕ) → (text ++ (b ∷ [])) ++ (more ++ rest) ≡ (text ++ (b ∷ more)) ++ rest
regrouped text b more rest = append_assoc text (b ∷ []) (more ++ rest) ∙ sym (append_assoc text (b ∷ more) rest)

-- where the first of them ends
abbrev pub after : (from : ℕ) (text : List ℕ) (b : ℕ) → ℕ
after from text b = from + length (text ++ (b ∷ []))

module _ {from to : ℕ} {s : List ℕ} (text : List ℕ) (b : ℕ) (more : List ℕ) where
  -- one piece and then another are a piece
  pub joined : {at : ℕ} → Stands from at s (text ++ (b ∷ [])) → Stands at to s more → Stands from to s (text ++ (b ∷ more))
  joined first next =
      record {
        whole = first.whole ∙ ap (λ (r : List ℕ). (text ++ (b ∷ [])) ++ r) next.whole ∙ regrouped text b more (drop to s);
        end = omega (arith, first.end, next.end, length-append text (b ∷ []), length-append text (b ∷ more));
      }

  -- and a piece is one and then another
  pub first_part : Stands from to s (text ++ (b ∷ more)) → Stands from (after from text b) s (text ++ (b ∷ []))
  first_part all = stands (text ++ (b ∷ [])) (more ++ drop to s) (all.whole ∙ sym (regrouped text b more (drop to s)))

  pub second_part : Stands from to s (text ++ (b ∷ more)) → Stands (after from text b) to s more
  second_part all =
      let n : ℕ = length (text ++ (b ∷ [])) in
      record {
        whole =
            sym (drop-drop n from s) ∙ ap (drop n) (all.whole ∙ sym (regrouped text b more (drop to s)))
            ∙ drop-append_seam (text ++ (b ∷ [])) (more ++ drop to s);
        end = omega (arith, all.end, length-append text (b ∷ []), length-append text (b ∷ more));
      }

-- a field that ends with a byte stands from one place up to another
pub record FieldFound (Is : List ℕ → Type 0) (end from to : ℕ) (s : List ℕ) : Type 0 where
  pub text : List ℕ
  pub is : Is text
  pub here : Stands from to s (text ++ (end ∷ []))

-- ---- digits

-- so many digits, which are such a number
abbrev counted : (count number : ℕ) → Digits
counted count number = record { count = count; number = number }

-- so many digits, after others, in front of a text
record Digital (count before : ℕ) (s : List ℕ) (d : Digits) : Type 0 where
  text : List ℕ
  rest : List ℕ
  is : Decimal before text d.number
  whole : s ≡ text ++ rest
  size : d.count ≡ count + length text

-- none
no_more : (count before : ℕ) (s : List ℕ) → Digital count before s (counted count before)
no_more count before s = record { text = []; rest = s; is = done; whole = refl; size = omega arith }

-- one more in front
one_more : {count before b : ℕ} {s : List ℕ} {d : Digits} → is_digit b ≡ true → Digital (suc count) (before * 10 + digit_value b) s d → Digital count before (b ∷ s) d
one_more {b} e r = record { text = b ∷ r.text; rest = r.rest; is = digit e r.is; whole = ap (λ (t : List ℕ). b ∷ t) r.whole; size = omega (arith, r.size) }

-- what is read as digits is digits
digits_found : (more count before : ℕ) (s : List ℕ) → Digital count before s (digits_from more count before s)
unfolding digits_from
digits_found zero count before s = no_more count before s
digits_found (suc more) count before [] = no_more count before []
digits_found (suc more) count before (b ∷ s) =
    either_way (Digital count before (b ∷ s)) (is_digit b) _ _ (λ e. one_more e (digits_found more (suc count) (before * 10 + digit_value b) s)) (λ e. no_more count before (b ∷ s))

-- digits and a space after them are read as the number that they are
digits_read : {before n : ℕ} {text : List ℕ} (more count : ℕ) (rest : List ℕ) → Decimal before text n → length text ≤ more
    → digits_from more count before (text ++ (space ∷ rest)) ≡ counted (count + length text) n
unfolding digits_from digit_of
digits_read zero count rest (done {n = m}) h = ap (λ (c : ℕ). counted c m) (omega arith)
digits_read (suc more) count rest (done {n = m}) h = ap (λ (c : ℕ). counted c m) (omega arith)
digits_read zero count rest (digit e d) h = absurd (omega arith)
digits_read {before = before} (suc more) count rest (digit {n = m} {b = b} e d) h =
    when_true (is_digit b) _ _ e ∙ digits_read {before = before * 10 + digit_value b} more (suc count) rest d (omega arith) ∙ ap (λ (c : ℕ). counted c m) (omega arith)

-- ---- numbers

-- the byte after a text that stands at a place
byte_after : (at : ℕ) (s text rest : List ℕ) → drop at s ≡ text ++ rest → byte_at (at + length text) s ≡ get_or rest 0 0
byte_after at s text rest e = sym (get_or-drop at s (length text) 0) ∙ ap (λ (t : List ℕ). get_or t (length text) 0) e ∙ ends text
  where
    ends : (text : List ℕ) → get_or (text ++ rest) (length text) 0 ≡ get_or rest 0 0
    ends [] = refl
    ends (b ∷ text) = ends text

-- a text that starts with a byte other than 0
starts : (b : ℕ) (s : List ℕ) → 1 ≤ b → get_or s 0 0 ≡ b → s ≡ b ∷ drop 1 s
starts b [] h e = absurd (omega arith)
starts b (c ∷ s) h e = ap (λ (d : ℕ). d ∷ s) e

-- a number that fits
abbrev number_read : (number next : ℕ) → NumberRead
number_read number next = record { fits = true; number = number; next = next }

-- a number by the digits at its place
number_by : (most at : ℕ) (s : List ℕ) → Digits → NumberRead
number_by most at s d =
    let fits = number_fits most d.count (byte_at (at + d.count) s) in
    record { fits = fits; number = d.number; next = next_place most at d.count fits }

-- a number of the grammar and a space after it are read as that number
pub number_read_lem : {most at next n : ℕ} {s text : List ℕ} → NumberUpTo most text n → Stands at next s (text ++ (space ∷ [])) → number_up_to most at s ≡ number_read n next
unfolding number_up_to number_by number_fits next_place
number_read_lem {most} {at} {next} {n} {s} {text} is here =
    let size : ℕ = length text in
    let e : drop at s ≡ text ++ (space ∷ drop next s) = here.whole ∙ append_assoc text (space ∷ []) (drop next s) in
    let d : digits_at most at s ≡ counted size n =
    ap (digits_from (suc most) 0 0) e ∙ digits_read (suc most) 0 (drop next s) is.digits (omega (arith, is.most))
    ∙ ap (λ (c : ℕ). counted c n) (omega arith) in
    let fits : number_fits most size (byte_at (at + size) s) ≡ true =
    both (leb 1 size && leb size most) (eqb (byte_at (at + size) s) space)
    (both (leb 1 size) (leb size most) (le-leb 1 size is.some) (le-leb size most is.most))
    (eq-eqb (byte_at (at + size) s) space (byte_after at s text (space ∷ drop next s) e)) in
    let end : suc (at + size) ≡ next = omega (arith, here.end, length-append text (space ∷ [])) in
    ap (number_by most at s) d
    ∙ ap (λ (t : Bool). record { fits = t; number = n; next = next_place most at size t }) fits
    ∙ ap (number_read n) end

-- what is read as a number is one of the grammar, with a space after it
pub number_found : (limit at : ℕ) (s : List ℕ) → (number_up_to limit at s).fits ≡ true → FieldFound (λ t. NumberUpTo limit t (number_up_to limit at s).number) space at (number_up_to limit at s).next s
unfolding number_up_to number_fits next_place
number_found limit at s fits =
    let d : Digits = digits_at limit at s in
    let r : Digital 0 0 (drop at s) d = digits_found (suc limit) 0 0 (drop at s) in
    let size : d.count ≡ length r.text = omega (arith, r.size) in
    let many = leb 1 d.count && leb d.count limit in
    let ends = eqb (byte_at (at + d.count) s) space in
    let some : 1 ≤ d.count = leb-true 1 d.count (both_left (leb 1 d.count) (leb d.count limit) (both_left many ends fits)) in
    let most : d.count ≤ limit = leb-true d.count limit (both_right (leb 1 d.count) (leb d.count limit) (both_left many ends fits)) in
    let byte : get_or r.rest 0 0 ≡ space =
    sym (byte_after at s r.text r.rest r.whole) ∙ ap (λ (n : ℕ). byte_at (at + n) s) (sym size)
    ∙ eqb-true (byte_at (at + d.count) s) space (both_right many ends fits) in
    let e : drop at s ≡ (r.text ++ (space ∷ [])) ++ drop 1 r.rest =
    r.whole ∙ ap (λ (t : List ℕ). r.text ++ t) (starts space r.rest (omega arith) byte) ∙ sym (append_assoc r.text (space ∷ []) (drop 1 r.rest)) in
    let next : at + length (r.text ++ (space ∷ [])) ≡ suc (at + d.count) = omega (arith, size, length-append r.text (space ∷ [])) in
    record {
      text = r.text;
      is = record { digits = r.is; some = omega arith; most = omega arith };
      here =
          subst (λ (n : ℕ). Stands at n s (r.text ++ (space ∷ []))) (next ∙ sym (when_true (many && ends) _ _ fits))
          (stands (r.text ++ (space ∷ [])) (drop 1 r.rest) e);
    }

-- ---- units

-- how many of three bytes fit, up to the first that doesn't
three_bytes : (x y z : Bool) → ℕ
three_bytes x y z = cond x (cond y (cond z 3 2) 1) 0

-- a unit by three bytes
unit_by : (at a b c : ℕ) → UnitRead
unit_by at a b c =
    let n = three_bytes (is_unit_letter a) (eqb b 0x73) (eqb c line_end) in
    record { fits = eqb n 3; unit = unit_of a; next = at + n }

-- a unit is read from the bytes at its place
unit_by_lem : (at : ℕ) (s : List ℕ) {t : List ℕ} → drop at s ≡ t → unit_at at s ≡ unit_by at (get_or t 0 0) (get_or t 1 0) (get_or t 2 0)
unfolding unit_at unit_bytes unit_by three_bytes
unit_by_lem at s e =
    let first : byte_at at s ≡ get_or (drop at s) 0 0 = ap (λ (n : ℕ). byte_at n s) (omega arith) ∙ sym (get_or-drop at s 0 0) in
    ap (λ (a : ℕ). unit_by at a (byte_at (at + 1) s) (byte_at (at + 2) s)) first
    ∙ ap₂ (unit_by at (get_or (drop at s) 0 0)) (sym (get_or-drop at s 1 0)) (sym (get_or-drop at s 2 0))
    ∙ ap (λ (t : List ℕ). unit_by at (get_or t 0 0) (get_or t 1 0) (get_or t 2 0)) e

-- a unit that fits
abbrev unit_read : (unit : Unit) (next : ℕ) → UnitRead
unit_read unit next = record { fits = true; unit = unit; next = next }

-- a unit of the grammar and 0Ah after it are read as that unit
pub unit_read_lem : {at next : ℕ} {s text : List ℕ} {u : Unit} → UnitName text u → Stands at next s (text ++ (line_end ∷ [])) → unit_at at s ≡ unit_read u next
unfolding unit_by three_bytes
unit_read_lem {at} {next} {s} ns here = unit_by_lem at s here.whole ∙ ap (unit_read Ns) (sym here.end)
unit_read_lem {at} {next} {s} us here = unit_by_lem at s here.whole ∙ ap (unit_read Us) (sym here.end)
unit_read_lem {at} {next} {s} ms here = unit_by_lem at s here.whole ∙ ap (unit_read Ms) (sym here.end)

-- three bytes fit if each does
all_three : (x y z : Bool) → eqb (three_bytes x y z) 3 ≡ true → (x ≡ true) × (y ≡ true) × (z ≡ true)
unfolding three_bytes
all_three true true true e = (refl, refl, refl)
all_three true true false e = absurd (true≢false (sym e))
all_three true false z e = absurd (true≢false (sym e))
all_three false y z e = absurd (true≢false (sym e))

-- each letter with an 's' is the name of its unit
unit_name : (a : ℕ) → is_unit_letter a ≡ true → UnitName (a ∷ 0x73 ∷ []) (unit_of a)
unit_name a e =
    split (eqb a 0x6E) (λ n. is 0x6E n ns)
    (λ n. split (eqb a 0x75) (λ u. is 0x75 u us)
    (λ u. split (eqb a 0x6D) (λ m. is 0x6D m ms) (λ m. not_both e (ap₂ ◌||◌ (ap₂ ◌||◌ n u) m))))
  where
    is : (b : ℕ) → eqb a b ≡ true → UnitName (b ∷ 0x73 ∷ []) (unit_of b) → UnitName (a ∷ 0x73 ∷ []) (unit_of a)
    is b e = subst (λ (c : ℕ). UnitName (c ∷ 0x73 ∷ []) (unit_of c)) (sym (eqb-true a b e))

-- three bytes by the last two, which aren't 0
three_bytes_lem : (t : List ℕ) → get_or t 1 0 ≡ 0x73 → get_or t 2 0 ≡ line_end → t ≡ get_or t 0 0 ∷ 0x73 ∷ line_end ∷ drop 3 t
three_bytes_lem [] b c = absurd (omega arith)
three_bytes_lem (x ∷ []) b c = absurd (omega arith)
three_bytes_lem (x ∷ y ∷ []) b c = absurd (omega arith)
three_bytes_lem (x ∷ y ∷ z ∷ t) b c = ap₂ (λ (d e : ℕ). x ∷ d ∷ e ∷ t) b c

-- what is read as a unit is one of the grammar, with 0Ah after it
pub unit_found : (at : ℕ) (s : List ℕ) → (unit_at at s).fits ≡ true → FieldFound (λ t. UnitName t (unit_at at s).unit) line_end at (unit_at at s).next s
unfolding unit_by
unit_found at s fits =
    let t : List ℕ = drop at s in
    let a : ℕ = get_or t 0 0 in
    let by : unit_at at s ≡ unit_by at a (get_or t 1 0) (get_or t 2 0) = unit_by_lem at s refl in
    let n : ℕ = three_bytes (is_unit_letter a) (eqb (get_or t 1 0) 0x73) (eqb (get_or t 2 0) line_end) in
    let e : eqb n 3 ≡ true = ap (λ (r : UnitRead). r.fits) (sym by) ∙ fits in
    let each = all_three (is_unit_letter a) (eqb (get_or t 1 0) 0x73) (eqb (get_or t 2 0) line_end) e in
    let whole : t ≡ a ∷ 0x73 ∷ line_end ∷ drop 3 t = three_bytes_lem t (eqb-true (get_or t 1 0) 0x73 each.1) (eqb-true (get_or t 2 0) line_end each.2) in
    subst (λ (r : UnitRead). FieldFound (λ t. UnitName t r.unit) line_end at r.next s) (sym by)
    (record {
      text = a ∷ 0x73 ∷ [];
      is = unit_name a each.0;
      here = subst (λ (n : ℕ). Stands at (at + n) s (a ∷ 0x73 ∷ line_end ∷ [])) (sym (eqb-true n 3 e)) (stands (a ∷ 0x73 ∷ line_end ∷ []) (drop 3 t) whole);
    })
