-- What holds of every text that is put, and of numbers as digits.
use Prim.Native.Nat.{ℕ, zero, suc, ◌+◌, ◌-◌, ◌*◌, ◌/◌, ◌%◌, ◌^◌, ◌≤◌, ◌<◌, min}
use mathlib.Core.Path.{◌≡◌, refl, ap, sym, subst, ◌∙◌}
use mathlib.Core.Bool.{Bool, true, false, ◌&&◌, cond}
use mathlib.Core.List.{List, [], ◌∷◌, ◌++◌, append-nil}
use native.Mathlib.Omega.{arith}
use native.Mathlib.Nat.{mod-lt, div-lt_iff_lt-mul, pow-suc, div-add-mod'}
use native.Mathlib.Numerals.{add-one}
use borrow.Author.Tests.{ltb-true, ltb-false, lt-ltb, le-ltb, eqb-true}
use lib.Dec.{ltb, eqb}
use lib.ListN.{length, take, drop, set, length-set, take-append-drop, drop_of_length-le}
use lib.Seq.{take_all, take-nil, take-append_seam, append_snoc, take-suc-set, drop-set-lt}
use Rattle.std.specs.Prelude.{Option, Some, None, is_some, unwrap_or}
use Rattle.std.proofs.lemmas.Option.{same_Some}
use Rattle.text_fields.specs.declared.Base.{Base}
use Rattle.text_fields.specs.declared.Base.TheVariants.{Decimal, Hex}
use Rattle.text_fields.specs.Text.{base_of, digit_of, is_digit, digit_value, value_from}
use Rattle.std.proofs.Common.{length-append}
use Rattle.std.proofs.lemmas.List.{length-take, length-take-le}
use Rattle.std.specs.Borrow.{MutBor}
use Rattle.text_line.specs.Line.{Lined, lined, put_byte, puts, Put}
use Rattle.text_line.specs.declared.text.Page.{Page}
use Rattle.text_line.specs.Page.{page_over, lined_on, put, written}
use Rattle.text_line.specs.Text.{glyph_of, hex_of, decimal_from}
use Rattle.bits.proofs.Tests.{all_at, is_true}

-- ---- the line

-- the line after a text was put: up to the index as it was, then the text as far as there is room, then as it was
abbrev pub line_after : List ℕ → ℕ → List ℕ → List ℕ
line_after text at line = take at line ++ take (length line - at) text ++ drop (at + length text) line

-- the index after it
abbrev pub index_after : List ℕ → ℕ → List ℕ → ℕ
index_after text at line = at + min (length text) (length line - at)

one_put : (b : ℕ) (line : List ℕ) (at : ℕ) → at < length line → put_byte b (lined at line) ≡ lined (at + 1) (set line at b)
unfolding put_byte
one_put b line at h = simp (lt-ltb at (length line) h)

none_put : (b : ℕ) (line : List ℕ) (at : ℕ) → length line ≤ at → put_byte b (lined at line) ≡ lined at line
unfolding put_byte
none_put b line at h = simp (le-ltb at (length line) h)

no_room : (text line : List ℕ) (at : ℕ) → length line ≤ at → puts text (lined at line) ≡ lined at line
unfolding puts
no_room [] line at h = refl
no_room (b ∷ text) line at h = ap (puts text) (none_put b line at h) ∙ no_room text line at h

full : (text line : List ℕ) (at : ℕ) → length line ≤ at → lined at line ≡ lined (index_after text at line) (line_after text at line)
full text line at h =
    let r : length line - at ≡ 0 = omega arith in
    let i : at + min (length text) 0 ≡ at = omega arith in
    let d : length line ≤ at + length text = omega arith in
    rw (r, i, take_all at line h, drop_of_length-le line d, append-nil, append-nil)

room_index : (b : ℕ) (text line : List ℕ) (at : ℕ) → at < length line → index_after text (at + 1) (set line at b) ≡ index_after (b ∷ text) at line
room_index b text line at h = rw length-set (omega arith)

room_line : (b : ℕ) (text line : List ℕ) (at : ℕ) → at < length line → line_after text (at + 1) (set line at b) ≡ line_after (b ∷ text) at line
room_line b text line at h =
    let m : length line - at ≡ suc (length line - (at + 1)) = omega arith in
    let d : at + 1 + length text ≡ at + suc (length text) = omega arith in
    let g : at < at + suc (length text) = omega arith in
    rw (length-set line at b, m, d, drop-set-lt (at + suc (length text)) line at b g, add-one at, take-suc-set line at b h, append_snoc (take at line) b)

by_room : (b : ℕ) (text line : List ℕ) (at : ℕ) (t : Bool) → ltb at (length line) ≡ t
    → ((l : List ℕ) (k : ℕ) → puts text (lined k l) ≡ lined (index_after text k l) (line_after text k l))
    → puts (b ∷ text) (lined at line) ≡ lined (index_after (b ∷ text) at line) (line_after (b ∷ text) at line)
unfolding puts
by_room b text line at false e f = let h : length line ≤ at = ltb-false at (length line) e in no_room (b ∷ text) line at h ∙ full (b ∷ text) line at h
by_room b text line at true e f =
    let h : at < length line = ltb-true at (length line) e in
    let i = room_index b text line at h in
    let l = room_line b text line at h in
    ap (puts text) (one_put b line at h) ∙ f (set line at b) (at + 1) ∙ (λ k. lined (i k) (l k))

-- a text that was put
pub puts_means : (text line : List ℕ) (at : ℕ) → puts text (lined at line) ≡ lined (index_after text at line) (line_after text at line)
unfolding puts
puts_means [] line at =
    let i : at + min 0 (length line - at) ≡ at = omega arith in
    let z : at + 0 ≡ at = omega arith in
    rw (i, take-nil (length line - at), append-nil, z, take-append-drop)
puts_means (b ∷ text) line at = by_room b text line at (ltb at (length line)) refl (puts_means text)

-- where there is room for the whole text
pub whole : {text before after : List ℕ} {at next : ℕ} → Put text at before next after → at + length text ≤ length before
    → lined next after ≡ lined (at + length text) (take at before ++ text ++ drop (at + length text) before)
whole {text} {before} {at = at} p h =
    let i : at + min (length text) (length before - at) ≡ at + length text = omega arith in
    p.so ∙ puts_means text before at ∙ rw (i, take_all (length before - at) text (omega arith))

-- ---- the page

put_line : (text : List ℕ) (page : Page) → lined_on (put text page) ≡ puts text (lined_on page)
unfolding put
put_line text page = refl

put_loan : (text : List ℕ) (page : Page) → (put text page).line.ghost_name ≡ page.line.ghost_name
unfolding put
put_loan text page = refl

-- a text put on the page over a line: the page is over the same loan,
pub same_loan : (text : List ℕ) {line : MutBor (List ℕ)} {at : ℕ} {over page : Page} → over ≡ page_over line at → page ≡ put text over
    → line.ghost_name ≡ page.line.ghost_name
same_loan text {over = over} e f =
    let loan = λ (p : Page). p.line.ghost_name in
    sym (ap loan f ∙ put_loan text over ∙ ap loan e)

-- and what it is closed with is the text in that line at that index
pub put_over : (text : List ℕ) {after : List ℕ} {line : MutBor (List ℕ)} {at next : ℕ} {over page : Page} → over ≡ page_over line at → page ≡ put text over
    → after ≡ page.line.now → next ≡ page.at → Put text at line.now next after
put_over text {over = over} e f g h =
    record { so = (λ i. lined (h i) (g i)) ∙ ap lined_on f ∙ put_line text over ∙ ap (λ (p : Page). puts text (lined_on p)) e }

by_front : (text line : List ℕ) (at : ℕ) (t : Bool) → ltb at (length line) ≡ t
    → take (index_after text at line) (line_after text at line) ≡ take at line ++ take (length line - length (take at line)) text
by_front text line at true e =
    let h : at < length line = ltb-true at (length line) e in
    let front : length (take at line) ≡ at = length-take-le at line (omega arith) in
    let room = length line - at in
    let both = take at line ++ take room text in
    let m : length (take room text) ≡ min room (length text) = length-take room text in
    let i : index_after text at line ≡ length both = rw (length-append (take at line) (take room text)) (omega (arith, front, m)) in
    ap (λ (k : ℕ). take k (line_after text at line)) i ∙ take-append_seam both (drop (at + length text) line) ∙ rw front refl
by_front text line at false e =
    let h : length line ≤ at = ltb-false at (length line) e in
    let all : take at line ≡ line = take_all at line h in
    let z : length line - length line ≡ 0 = omega arith in
    ap (λ (x : Lined). take x.at x.line) (sym (full text line at h)) ∙ rw (all, z, append-nil) refl

-- what stands on a page from its front: behind what stood there, as far as there is room
pub page_means : (text : List ℕ) (page : Page) → written (put text page) ≡ written page ++ take (length page.line.now - length (written page)) text
page_means text page =
    ap (λ (x : Lined). take x.at x.line) (put_line text page ∙ puts_means text page.line.now page.at)
    ∙ by_front text page.line.now page.at (ltb page.at (length page.line.now)) refl

-- where there is room for the whole text
pub page_whole : (text : List ℕ) (page : Page) → length (written page) + length text ≤ length page.line.now → written (put text page) ≡ written page ++ text
page_whole text page h = page_means text page ∙ rw (take_all (length page.line.now - length (written page)) text (omega arith)) refl

-- ---- digits, as the reader of numbers has them

some_digit : (o : Option ℕ) (d : ℕ) → (is_some o && eqb (unwrap_or o 0) d) ≡ true → o ≡ Some d
some_digit None d e = cc
some_digit (Some n) d e = ap Some (eqb-true n d e)

glyph_digit : (base : Base) (d : ℕ) → d < base_of base → digit_of base (glyph_of d) ≡ Some d
unfolding glyph_of digit_of
glyph_digit Hex d h = some_digit (digit_of Hex (glyph_of d)) d (is_true _ (all_at 16 (λ k. is_some (digit_of Hex (glyph_of k)) && eqb (unwrap_or (digit_of Hex (glyph_of k)) 0) k) tt d h))
glyph_digit Decimal d h = some_digit (digit_of Decimal (glyph_of d)) d (is_true _ (all_at 10 (λ k. is_some (digit_of Decimal (glyph_of k)) && eqb (unwrap_or (digit_of Decimal (glyph_of k)) 0) k) tt d h))

either_some : (t : Bool) {o p : Option ℕ} {m r : ℕ} → (o ≡ Some m → p ≡ Some r) → cond t o None ≡ Some m → cond t p None ≡ Some r
either_some true f e = f e
either_some false f e = cc

-- a digit behind a number
value_end : (base : Base) (n : ℕ) (l : List ℕ) (c m d : ℕ) → value_from base n l ≡ Some m → digit_of base c ≡ Some d
    → value_from base n (l ++ (c ∷ [])) ≡ Some (m * base_of base + d)
unfolding value_from
value_end base n [] c m d e h = rw h (ap (λ (k : ℕ). Some (k * base_of base + d)) (same_Some n m e))
value_end base n (x ∷ l) c m d e h = either_some (is_digit base x) (λ k. value_end base (n * base_of base + digit_value base x) l c m d k h) e

-- what a text is read as
abbrev Reads : Base → List ℕ → ℕ → Type 0
Reads base text n = value_from base 0 text ≡ Some n

-- a digit below the base, put behind a number
read_on : (base : Base) (text : List ℕ) (n d : ℕ) → Reads base text n → d < base_of base → Reads base (text ++ (glyph_of d ∷ [])) (n * base_of base + d)
read_on base text n d r h = value_end base 0 text (glyph_of d) n d r (glyph_digit base d h)

reads_hex : (k n : ℕ) → n < 16 ^ k → Reads Hex (hex_of k n) n
unfolding hex_of value_from
reads_hex zero n h = let z : 0 ≡ n = omega arith in ap Some z
reads_hex (suc k) n h =
    let g : n < 16 ^ k * 16 = rw (pow-suc 16 k) at h in
    let r = reads_hex k (n / 16) ((div-lt_iff_lt-mul {k = 16} {x = n} {y = 16 ^ k} (omega arith)).1 g) in
    subst (Reads Hex (hex_of k (n / 16) ++ (glyph_of (n % 16) ∷ []))) (div-add-mod' n 16) (read_on Hex (hex_of k (n / 16)) (n / 16) (n % 16) r (mod-lt n (omega arith)))

-- k hex digits are read as the number, where it has no more
pub hex_value : (k n : ℕ) → n < 16 ^ k → value_from Hex 0 (hex_of k n) ≡ Some n
hex_value k n h = reads_hex k n h

reads_one : (n : ℕ) → n < 10 → Reads Decimal (glyph_of n ∷ []) n
unfolding value_from
reads_one n h = rw (glyph_digit Decimal n h) (ap Some (omega arith))

by_ten : (most n : ℕ) (t : Bool) → ltb n 10 ≡ t → (ltb n 10 ≡ false → Reads Decimal (decimal_from most (n / 10)) (n / 10))
    → Reads Decimal (cond t (glyph_of n ∷ []) (decimal_from most (n / 10) ++ (glyph_of (n % 10) ∷ []))) n
by_ten most n true e f = reads_one n (ltb-true n 10 e)
by_ten most n false e f =
    subst (Reads Decimal (decimal_from most (n / 10) ++ (glyph_of (n % 10) ∷ []))) (div-add-mod' n 10) (read_on Decimal (decimal_from most (n / 10)) (n / 10) (n % 10) (f e) (mod-lt n (omega arith)))

reads_decimal : (most n : ℕ) → n < 10 ^ most → Reads Decimal (decimal_from most n) n
unfolding decimal_from value_from
reads_decimal zero n h = let z : 0 ≡ n = omega arith in ap Some z
reads_decimal (suc most) n h =
    let g : n < 10 ^ most * 10 = rw (pow-suc 10 most) at h in
    by_ten most n (ltb n 10) refl
    (λ e. reads_decimal most (n / 10) ((div-lt_iff_lt-mul {k = 10} {x = n} {y = 10 ^ most} (omega arith)).1 g))

-- and so is the decimal form
pub decimal_value : (most n : ℕ) → n < 10 ^ most → value_from Decimal 0 (decimal_from most n) ≡ Some n
decimal_value most n h = reads_decimal most n h
