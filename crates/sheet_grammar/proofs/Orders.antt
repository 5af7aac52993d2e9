-- Lines that fit, in another order: they fit too, and give the same set-up.
use Prim.Native.Nat.{ℕ}
use mathlib.Core.Path.{◌≡◌, refl, sym, ap, ap₂, ◌∙◌}
use mathlib.Core.Bool.{Bool, true, false, ◌||◌, true≢false}
use mathlib.Core.List.{List, ◌∷◌}
use lib.Dec.{eqb}
use lib.ListN.{get_or, set}
use lib.Seq.{get_or-set_other, set_comm}
use borrow.Author.Tests.{eqb-false, ne_eqb}
use Rattle.bits.specs.Orders.{Reordered}
use Rattle.readiness.specs.declared.Slot.{Slot}
use Rattle.readiness.specs.declared.Setup.{Setup}
use Rattle.readiness.specs.Blank.{blank_slot}
use Rattle.sheet_grammar.specs.declared.SheetLine.{SheetLine}
use Rattle.sheet_grammar.specs.Reading.{with_times, with_line}
use Rattle.sheet_grammar.specs.Exactly.{named_by, AllFit, with_lines}
use Rattle.sheet_grammar.proofs.Exactly.{SameNames}

-- neither of two tests
pub or_neither : (a b : Bool) → (a || b) ≡ false → (a ≡ false) × (b ≡ false)
or_neither true b e = absurd (true≢false e)
or_neither false b e = (refl, e)

-- a slot that lines don't name is named by none of them
pub unnamed : (l : SheetLine) (ls : List SheetLine) (slot : ℕ) → named_by (l ∷ ls) slot ≡ false → (l.slot ≡ slot → ⊥) × (named_by ls slot ≡ false)
unfolding named_by
unnamed l ls slot e = let n = or_neither (eqb l.slot slot) (named_by ls slot) e in (eqb-false l.slot slot n.0, n.1)

-- and the other way round
named_none : (l : SheetLine) (ls : List SheetLine) (slot : ℕ) → (l.slot ≡ slot → ⊥) → named_by ls slot ≡ false → named_by (l ∷ ls) slot ≡ false
unfolding named_by
named_none l ls slot d e = ap₂ ◌||◌ (ne_eqb l.slot slot d) e

-- ---- the lines before

-- one line more before both
names_more : (l : SheetLine) (ps qs : List SheetLine) → SameNames ps qs → SameNames (l ∷ ps) (l ∷ qs)
unfolding named_by
names_more l ps qs e slot = ap (λ (t : Bool). eqb l.slot slot || t) (e slot)

-- two of them in the other order
names_swap : (k l : SheetLine) (ps : List SheetLine) → SameNames (k ∷ l ∷ ps) (l ∷ k ∷ ps)
unfolding named_by
names_swap k l ps slot = swap (eqb k.slot slot) (eqb l.slot slot) (named_by ps slot)
  where
    swap : (a b c : Bool) → (a || (b || c)) ≡ (b || (a || c))
    swap true true c = refl
    swap true false c = refl
    swap false b c = refl

-- it only matters which slots they name
fit_same : {setup : Setup} {ps qs ls : List SheetLine} → SameNames ps qs → AllFit setup ps ls → AllFit setup qs ls
fit_same e AllFit.none = AllFit.none
fit_same {ps = ps} {qs = qs} e (AllFit.more {l = l} f a) =
    AllFit.more (record { there = f.there; fresh = sym (e l.slot) ∙ f.fresh; short = f.short }) (fit_same (names_more l ps qs e) a)

-- ---- another order

-- the lines fit too
pub fit_reordered : {setup : Setup} {before ls ms : List SheetLine} → Reordered ls ms → AllFit setup before ls → AllFit setup before ms
fit_reordered Reordered.none a = a
fit_reordered (Reordered.keep r) (AllFit.more f a) = AllFit.more f (fit_reordered r a)
fit_reordered {before = before} Reordered.swap (AllFit.more {l = k} f (AllFit.more {l = l} g a)) =
    let n = unnamed k before l.slot g.fresh in
    AllFit.more (record { there = g.there; fresh = n.1; short = g.short })
    (AllFit.more (record { there = f.there; fresh = named_none l before k.slot (λ d. n.0 (sym d)) f.fresh; short = f.short })
    (fit_same (names_swap l k before) a))
fit_reordered (Reordered.again r q) a = fit_reordered q (fit_reordered r a)

-- two lines for different slots, either first
line_swap : (k l : SheetLine) (setup : Setup) → (k.slot ≡ l.slot → ⊥) → with_line l (with_line k setup) ≡ with_line k (with_line l setup)
unfolding with_line
line_swap k l setup d =
    let es = setup.entries in
    let new : SheetLine → Slot = λ j. with_times j (get_or es j.slot blank_slot) in
    let entries : (with_line l (with_line k setup)).entries ≡ (with_line k (with_line l setup)).entries =
    ap (λ (s : Slot). set (set es k.slot (new k)) l.slot (with_times l s)) (get_or-set_other es k.slot l.slot (new k) blank_slot (λ e. d (sym e)))
    ∙ set_comm es k.slot l.slot (new k) (new l) d
    ∙ ap (λ (s : Slot). set (set es l.slot (new l)) k.slot (with_times k s)) (sym (get_or-set_other es l.slot k.slot (new l) blank_slot d)) in
    λ i. record { slots = setup.slots; entries = entries i; bus = setup.bus; port_id = setup.port_id }

-- the lines give the same set-up
pub with_reordered : {setup : Setup} {before ls ms : List SheetLine} (now : Setup) → Reordered ls ms → AllFit setup before ls → with_lines ls now ≡ with_lines ms now
unfolding with_lines
with_reordered now Reordered.none a = refl
with_reordered now (Reordered.keep {a = l} r) (AllFit.more f a) = with_reordered (with_line l now) r a
with_reordered {before = before} now (Reordered.swap {l = ls}) (AllFit.more {l = k} f (AllFit.more {l = l} g a)) =
    ap (with_lines ls) (line_swap k l now (unnamed k before l.slot g.fresh).0)
with_reordered now (Reordered.again r q) a = with_reordered now r a ∙ with_reordered now q (fit_reordered r a)
