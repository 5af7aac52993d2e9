-- The first bad character: what stands before it starts some hex text, and with it no hex text starts.
use Rattle.std.proofs.Common.{◌≡◌, ℕ, zero, suc, ◌<◌, true, false, List, [], ◌∷◌, ◌++◌, length, take, sym, refl, ◌∙◌, subst, one-add, arith}
use Rattle.bits.proofs.Tests.{not_both}
use Rattle.text_hex.specs.declared.Within.{Within}
use Rattle.text_hex.specs.declared.Within.TheVariants.{Gap, Byte, Comment}
use Rattle.text_hex.specs.declared.Turn.{Turn}
use Rattle.text_hex.specs.declared.Turn.TheVariants.{Goes, Completes, Bad}
use Rattle.text_hex.specs.declared.Packing.{Packing}
use Rattle.text_fields.specs.Text.{digit_of}
use Rattle.text_hex.specs.Text.{turn_of, byte_of}
use Rattle.text_hex.specs.Packing.{start, past, packs}
use Rattle.text_hex.specs.Grammar.{Starts}
use Rattle.text_hex.proofs.Turns.{by_goes, by_completes, by_full, by_bad}
use Rattle.text_hex.proofs.Walk.{From, low_completes, walked, is_hex}
use Rattle.text_hex.proofs.Walk.From.{ends_gap, ends_comment, goes, completes}

-- ---- what was consumed starts some hex text

record Onward (w : Within) (text : List ℕ) : Type 0 where
  rest : List ℕ
  bytes : List ℕ
  from : From w (text ++ rest) bytes

at_once_lem : (w : Within) → Onward w []
unfolding digit_of
at_once_lem Gap = record { rest = []; bytes = []; from = ends_gap }
at_once_lem (Byte h) = record { rest = 0x30 ∷ []; bytes = byte_of h 0 ∷ []; from = completes (low_completes h 0x30 refl) ends_gap }
at_once_lem Comment = record { rest = []; bytes = []; from = ends_comment }

by_one : {w v : Within} (c : ℕ) (text : List ℕ) → turn_of w c ≡ Goes v → Onward v text → Onward w (c ∷ text)
by_one c text e o = record { rest = o.rest; bytes = o.bytes; from = goes e o.from }

by_low : {w : Within} (c b : ℕ) (text : List ℕ) → turn_of w c ≡ Completes b → Onward Gap text → Onward w (c ∷ text)
by_low c b text e o = record { rest = o.rest; bytes = b ∷ o.bytes; from = completes e o.from }

abbrev Consumed : List ℕ → Type 0
Consumed text = (p : Packing) → p.bad ≡ false → (room : ℕ) → Onward p.within (take (packs p text room).consumed text)

consumed_turn : (p : Packing) → p.bad ≡ false → (c : ℕ) (text : List ℕ) → Consumed text
    → (t : Turn) (room : ℕ) → turn_of p.within c ≡ t → Onward p.within (take (packs p (c ∷ text) room).consumed (c ∷ text))
unfolding past
consumed_turn p o c text f (Goes v) room e =
    rw (by_goes p o c text room v e, one-add)
    (by_one c _ e (f (past c v p) refl room))
consumed_turn p o c text f (Completes b) zero e = rw (by_full p o c text b e) (at_once_lem p.within)
consumed_turn p o c text f (Completes b) (suc room) e =
    rw (by_completes p o c text room b e, one-add)
    (by_low c b _ e (f (past c Gap p) refl room))
consumed_turn p o c text f Bad room e = rw (by_bad p o c text room e) (at_once_lem p.within)

consumed : (text : List ℕ) → Consumed text
unfolding packs
consumed [] p o room = at_once_lem p.within
consumed (c ∷ text) p o room = consumed_turn p o c text (consumed text) (turn_of p.within c) room refl

-- the characters consumed start some hex text
pub consumed_starts : (text : List ℕ) (room : ℕ) → Starts (take (packs start text room).consumed text)
consumed_starts text room =
    let o = consumed text start refl room in record { rest = o.rest; bytes = o.bytes; hex = is_hex o.from }

-- ---- and with a bad one none does

-- a bad character stands at the place where the packing stopped, and nothing goes on with it
record NoneWith (w : Within) (n : ℕ) (text : List ℕ) : Type 0 where
  stands : n < length text
  none : (rest bytes : List ℕ) → From w (take (suc n) text ++ rest) bytes → ⊥

apart : (v w : Within) → Goes v ≡ Goes w → v ≡ w
apart v w e = cc

-- the rest goes on as its first character says
on_goes : {w v : Within} {c : ℕ} {text bytes : List ℕ} → turn_of w c ≡ Goes v → From w (c ∷ text) bytes → From v text bytes
on_goes {w} {v} {c} {text} {bytes} e (goes {v = u} t f) = subst (λ (x : Within). From x text bytes) (apart u v (sym t ∙ e)) f
on_goes e (completes t f) = let z : ◌≡◌ {A = ℕ} 0 1 = cc in absurd (omega arith)

record Shorter (text bytes : List ℕ) : Type 0 where
  others : List ℕ
  from : From Gap text others

on_completes : {w : Within} {c b : ℕ} {text bytes : List ℕ} → turn_of w c ≡ Completes b → From w (c ∷ text) bytes → Shorter text bytes
on_completes e (goes t f) = let z : ◌≡◌ {A = ℕ} 0 1 = cc in absurd (omega arith)
on_completes e (completes {bytes = others} t f) = record { others = others; from = f }

on_bad : {w : Within} {c : ℕ} {text bytes : List ℕ} → turn_of w c ≡ Bad → From w (c ∷ text) bytes → ⊥
on_bad e (goes t f) = let z : ◌≡◌ {A = ℕ} 0 1 = cc in omega arith
on_bad e (completes t f) = let z : ◌≡◌ {A = ℕ} 0 1 = cc in omega arith

abbrev Nones : List ℕ → Type 0
Nones text =
    (p : Packing) → p.bad ≡ false → (room : ℕ) → (packs p text room).after.bad ≡ true → NoneWith p.within (packs p text room).consumed text

later_goes : {w v : Within} (c n : ℕ) (text : List ℕ) → turn_of w c ≡ Goes v → NoneWith v n text → NoneWith w (suc n) (c ∷ text)
later_goes c n text e h = record { stands = omega (arith, h.stands); none = λ rest bytes f. h.none rest bytes (on_goes e f) }

later_completes : {w : Within} (c b n : ℕ) (text : List ℕ) → turn_of w c ≡ Completes b → NoneWith Gap n text → NoneWith w (suc n) (c ∷ text)
later_completes c b n text e h =
    record { stands = omega (arith, h.stands); none = λ rest bytes f. let s = on_completes e f in h.none rest s.others s.from }

none_turn : (p : Packing) → p.bad ≡ false → (c : ℕ) (text : List ℕ) → Nones text
    → (t : Turn) (room : ℕ) → turn_of p.within c ≡ t → (packs p (c ∷ text) room).after.bad ≡ true
    → NoneWith p.within (packs p (c ∷ text) room).consumed (c ∷ text)
unfolding past
none_turn p o c text f (Goes v) room e =
    rw (by_goes p o c text room v e, one-add)
    (λ b. later_goes c _ text e (f (past c v p) refl room b))
none_turn p o c text f (Completes b) zero e = rw (by_full p o c text b e) (λ x. not_both x o)
none_turn p o c text f (Completes b) (suc room) e =
    rw (by_completes p o c text room b e, one-add)
    (λ x. later_completes c b _ text e (f (past c Gap p) refl room x))
none_turn p o c text f Bad room e =
    rw (by_bad p o c text room e) (λ x. record { stands = omega arith; none = λ rest bytes h. on_bad e h })

nones : (text : List ℕ) → Nones text
unfolding packs
nones [] p o room b = not_both b o
nones (c ∷ text) p o room b = none_turn p o c text (nones text) (turn_of p.within c) room refl b

-- where a bad character is found, it stands in the text where the packing stopped
pub bad_stands : (text : List ℕ) (room : ℕ) → (packs start text room).after.bad ≡ true → (packs start text room).consumed < length text
bad_stands text room b = (nones text start refl room b).stands

-- and no hex text starts with what stands up to and with it
pub bad_none : (text : List ℕ) (room : ℕ) → (packs start text room).after.bad ≡ true → Starts (take (suc (packs start text room).consumed) text) → ⊥
bad_none text room b s = (nones text start refl room b).none s.rest s.bytes (walked s.hex)
