-- Hex text, character by character.
use Rattle.std.proofs.Common.{◌≡◌, ℕ, ◌+◌, ◌*◌, ◌%◌, Bool, true, false, cond, not, ◌||◌, eqb, List, [], ◌∷◌, ◌++◌, sym, refl, ap, ◌∙◌, subst, mod-eq_of_lt, eqb-true}
use borrow.Author.Tests.{not-true}
use Rattle.bits.proofs.Tests.{both_left, both_right, both}
use Rattle.text_hex.specs.declared.Within.{Within}
use Rattle.text_hex.specs.declared.Within.TheVariants.{Gap, Byte, Comment}
use Rattle.text_hex.specs.declared.Turn.{Turn}
use Rattle.text_hex.specs.declared.Turn.TheVariants.{Goes, Completes, Bad}
use Rattle.text_fields.specs.Text.{is_blank, is_line_end, starts_comment, digit_of}
use Rattle.text_hex.specs.Text.{is_digit, digit_value, separates, byte_of, in_gap, in_byte, in_comment, turn_of}
use Rattle.text_fields.specs.declared.Base.TheVariants.{Hex}
use Rattle.text_fields.proofs.Numbers.{digit_small as value_small}
use Rattle.text_hex.specs.Grammar.{in_one_line, HexText}
use Rattle.text_hex.specs.Grammar.HexText.{nothing, blank, byte, comment, last}

-- the rest of a text that goes on in this, and its bytes
pub data From : Within → (text bytes : List ℕ) → Type 0 where
  ends_gap : From Gap [] []
  ends_comment : From Comment [] []
  goes : {w v : Within} {c : ℕ} {text bytes : List ℕ} → turn_of w c ≡ Goes v → From v text bytes → From w (c ∷ text) bytes
  completes : {w : Within} {c b : ℕ} {text bytes : List ℕ} → turn_of w c ≡ Completes b → From Gap text bytes → From w (c ∷ text) (b ∷ bytes)

-- ---- characters

either : {P : Type 0} (a b : Bool) → (a ≡ true → P) → (b ≡ true → P) → (a || b) ≡ true → P
either true b f g e = f refl
either false b f g e = g e

same_digit : (c n : ℕ) → is_digit n ≡ false → eqb c n ≡ true → is_digit c ≡ false
same_digit c n f e = ap is_digit (eqb-true c n e) ∙ f

-- a blank or a line end is no digit
separator_no_digit : (c : ℕ) → separates c ≡ true → is_digit c ≡ false
unfolding separates is_blank digit_of
separator_no_digit c h =
    either (eqb c 0x20 || eqb c 0x09 || eqb c 0x0D) (eqb c 0x0A)
    (either (eqb c 0x20 || eqb c 0x09) (eqb c 0x0D)
    (either (eqb c 0x20) (eqb c 0x09) (same_digit c 0x20 refl) (same_digit c 0x09 refl))
    (same_digit c 0x0D refl))
    (same_digit c 0x0A refl)
    h

digit_small : (c : ℕ) → is_digit c ≡ true → digit_value c % 16 ≡ digit_value c
digit_small c h = mod-eq_of_lt (value_small Hex c)

-- ---- what each character does

pub separator_goes : (c : ℕ) → separates c ≡ true → turn_of Gap c ≡ Goes Gap
unfolding turn_of in_gap
separator_goes c h = simp (separator_no_digit c h, h)

pub digit_goes : (c : ℕ) → is_digit c ≡ true → turn_of Gap c ≡ Goes (Byte (digit_value c))
unfolding turn_of in_gap
digit_goes c h = simp h

pub hash_goes : turn_of Gap 0x23 ≡ Goes Comment
unfolding turn_of in_gap separates is_blank digit_of
hash_goes = refl

pub low_completes : (h c : ℕ) → is_digit c ≡ true → turn_of (Byte h) c ≡ Completes (byte_of h (digit_value c))
unfolding turn_of in_byte
low_completes h c e = simp e

plain_byte : (high low : ℕ) → is_digit high ≡ true → is_digit low ≡ true → byte_of (digit_value high) (digit_value low) ≡ digit_value high * 16 + digit_value low
plain_byte high low h l = rw (digit_small high h, digit_small low l)

pair_completes : (high low : ℕ) → is_digit high ≡ true → is_digit low ≡ true → turn_of (Byte (digit_value high)) low ≡ Completes (digit_value high * 16 + digit_value low)
pair_completes high low h l = low_completes (digit_value high) low l ∙ ap Completes (plain_byte high low h l)

pub line_end_goes : turn_of Comment 0x0A ≡ Goes Gap
unfolding turn_of in_comment
line_end_goes = refl

pub in_line_goes : (c : ℕ) → is_line_end c ≡ false → turn_of Comment c ≡ Goes Comment
unfolding turn_of in_comment
in_line_goes c h = simp h

-- ---- hex text is walked

in_comment_lem : (line : List ℕ) {text bytes : List ℕ} → in_one_line line ≡ true → From Gap text bytes → From Comment (line ++ 0x0A ∷ text) bytes
in_comment_lem [] h f = goes line_end_goes f
in_comment_lem (c ∷ line) h f =
    goes (in_line_goes c (not-true (is_line_end c) (both_left (not (is_line_end c)) (in_one_line line) h)))
    (in_comment_lem line (both_right (not (is_line_end c)) (in_one_line line) h) f)

in_last : (line : List ℕ) → in_one_line line ≡ true → From Comment line []
in_last [] h = ends_comment
in_last (c ∷ line) h =
    goes (in_line_goes c (not-true (is_line_end c) (both_left (not (is_line_end c)) (in_one_line line) h)))
    (in_last line (both_right (not (is_line_end c)) (in_one_line line) h))

pub walked : {text bytes : List ℕ} → HexText text bytes → From Gap text bytes
walked nothing = ends_gap
walked (blank {c} h r) = goes (separator_goes c h) (walked r)
walked (byte {high} {low} {text} {bytes} h l r) =
    goes (digit_goes high h)
    (completes (pair_completes high low h l) (walked r))
walked (comment line h r) = goes hash_goes (in_comment_lem line h (walked r))
walked (last {line} h) = goes hash_goes (in_last line h)

-- ---- what is walked is hex text

-- what a character does, and why
pub data Does : Within → ℕ → Turn → Type 0 where
  digit : {c : ℕ} → is_digit c ≡ true → Does Gap c (Goes (Byte (digit_value c)))
  space : {c : ℕ} → separates c ≡ true → Does Gap c (Goes Gap)
  hash : {c : ℕ} → starts_comment c ≡ true → Does Gap c (Goes Comment)
  low : {h c : ℕ} → is_digit c ≡ true → Does (Byte h) c (Completes (byte_of h (digit_value c)))
  line_end : {c : ℕ} → is_line_end c ≡ true → Does Comment c (Goes Gap)
  in_line_lem : {c : ℕ} → is_line_end c ≡ false → Does Comment c (Goes Comment)
  none : {w : Within} {c : ℕ} → Does w c Bad

gap_does : (c : ℕ) (d b s : Bool) → is_digit c ≡ d → separates c ≡ b → starts_comment c ≡ s
    → Does Gap c (cond d (Goes (Byte (digit_value c))) (cond b (Goes Gap) (cond s (Goes Comment) Bad)))
gap_does c true b s e f g = digit e
gap_does c false true s e f g = space f
gap_does c false false true e f g = hash g
gap_does c false false false e f g = none

byte_does : (h c : ℕ) (d : Bool) → is_digit c ≡ d → Does (Byte h) c (cond d (Completes (byte_of h (digit_value c))) Bad)
byte_does h c true e = low e
byte_does h c false e = none

comment_does : (c : ℕ) (l : Bool) → is_line_end c ≡ l → Does Comment c (cond l (Goes Gap) (Goes Comment))
comment_does c true e = line_end e
comment_does c false e = in_line_lem e

pub does : (w : Within) (c : ℕ) → Does w c (turn_of w c)
unfolding turn_of in_gap in_byte in_comment
does Gap c = gap_does c (is_digit c) (separates c) (starts_comment c) refl refl refl
does (Byte h) c = byte_does h c (is_digit c) refl
does Comment c = comment_does c (is_line_end c) refl

-- the rest of a text, in the grammar's terms
data Rest : Within → (text bytes : List ℕ) → Type 0 where
  at_gap : {text bytes : List ℕ} → HexText text bytes → Rest Gap text bytes
  at_low : {h l : ℕ} {text bytes : List ℕ} → is_digit l ≡ true → HexText text bytes → Rest (Byte h) (l ∷ text) (byte_of h (digit_value l) ∷ bytes)
  at_line : (line : List ℕ) {text bytes : List ℕ} → in_one_line line ≡ true → HexText text bytes → Rest Comment (line ++ 0x0A ∷ text) bytes
  at_last : {line : List ℕ} → in_one_line line ≡ true → Rest Comment line []

back_digit : (c : ℕ) {text bytes : List ℕ} → is_digit c ≡ true → Rest (Byte (digit_value c)) text bytes → HexText (c ∷ text) bytes
back_digit c e (at_low {l = l} {text = text} {bytes = bytes} f r) =
    subst (λ (b : ℕ). HexText (c ∷ l ∷ text) (b ∷ bytes)) (sym (plain_byte c l e f)) (byte e f r)

back_hash : (c : ℕ) {text bytes : List ℕ} → starts_comment c ≡ true → Rest Comment text bytes → HexText (c ∷ text) bytes
back_hash c e (at_line line {text} {bytes} h r) = subst (λ (d : ℕ). HexText (d ∷ line ++ 0x0A ∷ text) bytes) (sym (eqb-true c 0x23 e)) (comment line h r)
back_hash c e (at_last {line} h) = subst (λ (d : ℕ). HexText (d ∷ line) []) (sym (eqb-true c 0x23 e)) (last h)

back_line_end : (c : ℕ) {text bytes : List ℕ} → is_line_end c ≡ true → HexText text bytes → Rest Comment (c ∷ text) bytes
back_line_end c {text} {bytes} e r = subst (λ (d : ℕ). Rest Comment (d ∷ text) bytes) (sym (eqb-true c 0x0A e)) (at_line [] refl r)

back_in_line : (c : ℕ) {text bytes : List ℕ} → is_line_end c ≡ false → Rest Comment text bytes → Rest Comment (c ∷ text) bytes
back_in_line c e (at_line line h r) = at_line (c ∷ line) (both (not (is_line_end c)) (in_one_line line) (ap not e) h) r
back_in_line c e (at_last {line} h) = at_last (both (not (is_line_end c)) (in_one_line line) (ap not e) h)

hex_of : {text bytes : List ℕ} → Rest Gap text bytes → HexText text bytes
hex_of (at_gap r) = r

back_goes : {w : Within} {c : ℕ} {v : Within} {text bytes : List ℕ} → Does w c (Goes v) → Rest v text bytes → Rest w (c ∷ text) bytes
back_goes {c = c} (digit e) r = at_gap (back_digit c e r)
back_goes (space e) r = at_gap (blank e (hex_of r))
back_goes {c = c} (hash e) r = at_gap (back_hash c e r)
back_goes {c = c} (line_end e) r = back_line_end c e (hex_of r)
back_goes {c = c} (in_line_lem e) r = back_in_line c e r

back_completes : {w : Within} {c b : ℕ} {text bytes : List ℕ} → Does w c (Completes b) → HexText text bytes → Rest w (c ∷ text) (b ∷ bytes)
back_completes (low e) r = at_low e r

back : {w : Within} {text bytes : List ℕ} → From w text bytes → Rest w text bytes
back ends_gap = at_gap nothing
back ends_comment = at_last refl
back (goes {w} {v} {c} e f) = back_goes (subst (λ (t : Turn). Does w c t) e (does w c)) (back f)
back (completes {w} {c} e f) = back_completes (subst (λ (t : Turn). Does w c t) e (does w c)) (hex_of (back f))

pub is_hex : {text bytes : List ℕ} → From Gap text bytes → HexText text bytes
is_hex f = hex_of (back f)
