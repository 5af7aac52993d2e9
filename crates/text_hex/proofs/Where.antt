-- The line and the column that the packing counts are those of the next character.
use Rattle.std.proofs.Common.{◌≡◌, ℕ, zero, suc, ◌+◌, ◌^◌, ◌<◌, ◌≤◌, Bool, true, false, cond, not, List, [], ◌∷◌, length, take, sym, refl, ap, ◌∙◌, mod-eq_of_lt, one-add, arith}
use borrow.Author.Tests.{not-true}
use Rattle.bits.proofs.Tests.{both_left, both_right}
use Rattle.text_hex.specs.declared.Within.{Within}
use Rattle.text_hex.specs.declared.Within.TheVariants.{Gap}
use Rattle.text_hex.specs.declared.Turn.{Turn}
use Rattle.text_hex.specs.declared.Turn.TheVariants.{Goes, Completes, Bad}
use Rattle.text_hex.specs.declared.Packing.{Packing}
use Rattle.text_fields.specs.Text.{is_line_end}
use Rattle.text_hex.specs.Text.{turn_of}
use Rattle.text_hex.specs.Packing.{start, one_more, past, spoiled, packs}
use Rattle.text_hex.specs.Grammar.{in_one_line}
use Rattle.text_hex.specs.Places.{line_ends, last_line, line_after, column_after}
use Rattle.text_hex.proofs.Turns.{by_goes, by_completes, by_full, by_bad}

counts_on : (n : ℕ) → n + 1 < 2 ^ 64 → one_more n ≡ n + 1
counts_on n h = mod-eq_of_lt h

-- the column after s, where the line before it has so many characters already
abbrev column_on : ℕ → List ℕ → ℕ
column_on column s = cond (in_one_line s) (column + length s) (column_after s)

-- the place p, and then q after s
record Moved (p q : Packing) (s : List ℕ) : Type 0 where
  line : q.line ≡ p.line + line_ends s
  column : q.column ≡ column_on p.column s

stays : (p q : Packing) → q.line ≡ p.line → q.column ≡ p.column → Moved p q []
stays p q l c = record { line = omega arith; column = omega arith }

new_line : (s : List ℕ) (t : Bool) → in_one_line s ≡ t → cond t (1 + length s) (column_after s) ≡ suc (length (cond t s (last_line s)))
new_line s true e = one-add (length s)
new_line s false e = refl

same_line : (c n : ℕ) (s : List ℕ) (t : Bool) → in_one_line s ≡ t
    → cond t (n + 1 + length s) (column_after s) ≡ cond t (n + suc (length s)) (suc (length (cond t (c ∷ s) (last_line s))))
same_line c n s true e = omega arith
same_line c n s false e = refl

-- past one character more, by whether it ends the line
module _ (c : ℕ) (v : Within) (p : Packing) (q : Packing) (s : List ℕ) (l : p.line + 1 < 2 ^ 64) (k : p.column + 1 < 2 ^ 64) where
  by_line_end : (t : Bool) → is_line_end c ≡ t → Moved (past c v p) q s → Moved p q (c ∷ s)
  unfolding past
  by_line_end true e h =
      record {
        line = h.line ∙ simp (e, counts_on p.line l) (omega arith);
        column = h.column ∙ simp e (new_line s (in_one_line s) refl);
      }
  by_line_end false e h =
      record {
        line = h.line ∙ simp e;
        column = h.column ∙ simp (e, counts_on p.column k) (same_line c p.column s (in_one_line s) refl);
      }

  -- the counts do not wrap where the text is short enough
  line_on : (t : Bool) → is_line_end c ≡ t → (past c v p).line ≤ p.line + 1
  unfolding past
  line_on true e = simp (e, counts_on p.line l) (omega arith)
  line_on false e = simp e (omega arith)

  column_on_lem : (t : Bool) → is_line_end c ≡ t → (past c v p).column ≤ p.column + 1
  unfolding past
  column_on_lem true e = simp e (omega arith)
  column_on_lem false e = simp (e, counts_on p.column k) (omega arith)

record Short (p : Packing) (text : List ℕ) : Type 0 where
  line : p.line + length text < 2 ^ 64
  column : p.column + length text < 2 ^ 64

shorter : (c : ℕ) (v : Within) (p : Packing) (text : List ℕ) → Short p (c ∷ text) → Short (past c v p) text
shorter c v p text h =
    let l : p.line + 1 < 2 ^ 64 = omega (arith, h.line) in
    let k : p.column + 1 < 2 ^ 64 = omega (arith, h.column) in
    record {
      line = omega (arith, h.line, line_on c v p p [] l k (is_line_end c) refl);
      column = omega (arith, h.column, column_on_lem c v p p [] l k (is_line_end c) refl);
    }

abbrev Counted : List ℕ → Type 0
Counted text = (p : Packing) → p.bad ≡ false → (room : ℕ) → Short p text → Moved p (packs p text room).after (take (packs p text room).consumed text)

counted_turn : (p : Packing) → p.bad ≡ false → (c : ℕ) (text : List ℕ) → Counted text
    → (t : Turn) (room : ℕ) → turn_of p.within c ≡ t → Short p (c ∷ text)
    → Moved p (packs p (c ∷ text) room).after (take (packs p (c ∷ text) room).consumed (c ∷ text))
unfolding past spoiled
counted_turn p o c text f (Goes v) room e h =
    rw (by_goes p o c text room v e, one-add)
    (by_line_end c v p _ _ (omega (arith, h.line)) (omega (arith, h.column)) (is_line_end c) refl
    (f (past c v p) refl room (shorter c v p text h)))
counted_turn p o c text f (Completes b) zero e h = rw (by_full p o c text b e) (stays p p refl refl)
counted_turn p o c text f (Completes b) (suc room) e h =
    rw (by_completes p o c text room b e, one-add)
    (by_line_end c Gap p _ _ (omega (arith, h.line)) (omega (arith, h.column)) (is_line_end c) refl
    (f (past c Gap p) refl room (shorter c Gap p text h)))
counted_turn p o c text f Bad room e h = rw (by_bad p o c text room e) (stays p (spoiled p) refl refl)

counted : (text : List ℕ) → Counted text
unfolding packs
counted [] p o room h = stays p p refl refl
counted (c ∷ text) p o room h = counted_turn p o c text (counted text) (turn_of p.within c) room refl h

-- a text of one line is its own last line
one_line : (c : ℕ) (s : List ℕ) → in_one_line (c ∷ s) ≡ true → length (last_line (c ∷ s)) ≡ suc (length s)
one_line c s e =
    let l : is_line_end c ≡ false = not-true (is_line_end c) (both_left (not (is_line_end c)) (in_one_line s) e) in
    simp (both_right (not (is_line_end c)) (in_one_line s) e, l)

from_one : (s : List ℕ) (t : Bool) → in_one_line s ≡ t → cond t (1 + length s) (column_after s) ≡ column_after s
from_one [] true e = refl
from_one (c ∷ s) true e = one-add (suc (length s)) ∙ ap suc (sym (one_line c s e))
from_one s false e = refl

-- the line and the column of the character where the packing stopped, in a text of fewer than 2^64 - 1 characters
pub line_counted : (text : List ℕ) (room : ℕ) → length text + 1 < 2 ^ 64
    → (packs start text room).after.line ≡ line_after (take (packs start text room).consumed text)
line_counted text room h = (counted text start refl room (record { line = omega arith; column = omega arith })).line ∙ one-add _

pub column-counted : (text : List ℕ) (room : ℕ) → length text + 1 < 2 ^ 64
    → (packs start text room).after.column ≡ column_after (take (packs start text room).consumed text)
column-counted text room h =
    let s : List ℕ = take (packs start text room).consumed text in
    (counted text start refl room (record { line = omega arith; column = omega arith })).column ∙ from_one s (in_one_line s) refl
