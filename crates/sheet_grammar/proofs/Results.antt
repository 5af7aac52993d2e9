-- What an accepted sheet leaves.
use Prim.Native.Nat.{ℕ, ◌<◌}
use mathlib.Core.Path.{◌≡◌, refl, sym, ap, ap₂, subst, ◌∙◌}
use mathlib.Core.Bool.{Bool, true, false, ◌||◌, true≢false}
use mathlib.Core.List.{List, [], ◌∷◌}
use native.Mathlib.Omega.{arith}
use lib.Dec.{eqb}
use lib.ListN.{length, length-set}
use lib.Seq.{get_or-set_same, get_or-set_other}
use borrow.Author.Tests.{ltb-false, eq-eqb, ne_eqb}
use Rattle.bits.proofs.Tests.{or_last}
use Rattle.bits.specs.Orders.{Among}
use Rattle.times.specs.declared.Code.{Code}
use Rattle.times.specs.declared.ClaimedTime.{ClaimedTime}
use Rattle.std.specs.Prelude.{Some}
use Rattle.times.specs.Codes.{nanos_of, allowed, greatest_time}
use Rattle.times.specs.Claims.{claimed_nanos}
use Rattle.times.specs.Encoder.{encoded}
use Rattle.times.specs.Encodes.{LeastCovering}
use Rattle.times.proofs.Encodes.{encodes}
use Rattle.readiness.specs.declared.Slot.{Slot}
use Rattle.readiness.specs.declared.Setup.{Setup}
use Rattle.readiness.specs.Blank.{blank_slot}
use Rattle.sheet_grammar.specs.declared.SheetLine.{SheetLine}
use Rattle.sheet_grammar.specs.declared.SheetRead.{SheetRead}
use Rattle.sheet_grammar.specs.Grammar.{Sheet}
use Rattle.sheet_grammar.specs.Reading.{is_too_long, has_too_long, code_or, code_for, with_times, with_line, gives, sheet_of}
use Rattle.sheet_grammar.specs.Exactly.{named_by, Fits, AllFit, with_lines, Outcome}
use Rattle.sheet_grammar.specs.Results.{entry_of, Coded, SameBut, Writes, Allowed, SameTimes, Accepts}
use Rattle.sheet_grammar.proofs.Exactly.{slot_below, exactly}
use Rattle.sheet_grammar.proofs.Orders.{or_neither, unnamed, fit_reordered, with_reordered}

-- an accepted text gives the set-up with the codes of its lines
sheet_given : {text : List ℕ} {ls : List SheetLine} {setup : Setup} → Sheet text ls → AllFit setup [] ls → sheet_of text setup ≡ gives 0 0 (with_lines ls setup)
sheet_given {text} {ls} {setup} s a = exactly.only text setup (gives 0 0 (with_lines ls setup)) (Outcome.accepted s a)

-- ---- entries

-- a line leaves the entries of other slots
entry_other : (l : SheetLine) (setup : Setup) (slot : ℕ) → (l.slot ≡ slot → ⊥) → entry_of (with_line l setup) slot ≡ entry_of setup slot
unfolding with_line
entry_other l setup slot d = get_or-set_other setup.entries l.slot slot _ blank_slot (λ e. d (sym e))

-- and changes that of its own
entry_same : (l : SheetLine) (setup : Setup) → l.slot < length setup.entries → entry_of (with_line l setup) l.slot ≡ with_times l (entry_of setup l.slot)
unfolding with_line
entry_same l setup h = get_or-set_same setup.entries l.slot _ blank_slot h

-- lines leave the entries of slots that they don't name
entry_kept : (ls : List SheetLine) (setup : Setup) (slot : ℕ) → named_by ls slot ≡ false → entry_of (with_lines ls setup) slot ≡ entry_of setup slot
unfolding with_lines
entry_kept [] setup slot e = refl
entry_kept (l ∷ ls) setup slot e =
    let n = unnamed l ls slot e in
    entry_kept ls (with_line l setup) slot n.1 ∙ entry_other l setup slot n.0

-- and what isn't an entry
same_but : (ls : List SheetLine) (setup : Setup) → SameBut setup (with_lines ls setup)
unfolding with_lines with_line
same_but [] setup = record { slots = refl; bus = refl; port = refl; entries = refl }
same_but (l ∷ ls) setup =
    let s = same_but ls (with_line l setup) in
    record { slots = s.slots; bus = s.bus; port = s.port; entries = s.entries ∙ length-set setup.entries l.slot _ }

-- ---- the line that names a slot

-- a line among some that fit fits
among_fits : {setup : Setup} (l : SheetLine) {before ls : List SheetLine} → Among l ls → AllFit setup before ls → (others : List SheetLine) × Fits setup others l
among_fits l {before = before} Among.here (AllFit.more f a) = (before, f)
among_fits l (Among.there i) (AllFit.more f a) = among_fits l i a

-- it is named by them
among_named : (l : SheetLine) {ls : List SheetLine} → Among l ls → named_by ls l.slot ≡ true
unfolding named_by
among_named l (Among.here {l = ls}) = ap (λ (t : Bool). t || named_by ls l.slot) (eq-eqb l.slot l.slot refl)
among_named l (Among.there {b = k} {l = ls} i) = or_last (eqb k.slot l.slot) (named_by ls l.slot) (among_named l i)

-- no slot is named twice
not_again : {setup : Setup} {before ls : List SheetLine} (slot : ℕ) → AllFit setup before ls → named_by before slot ≡ true → named_by ls slot ≡ false
unfolding named_by
not_again slot AllFit.none e = refl
not_again slot (AllFit.more {before} {l = l} f a) e =
    let other : l.slot ≡ slot → ⊥ = λ d. true≢false (sym e ∙ ap (named_by before) (sym d) ∙ f.fresh) in
    ap₂ ◌||◌ (ne_eqb l.slot slot other) (not_again slot a (or_last (eqb l.slot slot) (named_by before slot) e))

-- its slot has the codes of its times
entry_named : {setup : Setup} (l : SheetLine) {before ls : List SheetLine} (now : Setup) → Among l ls → AllFit setup before ls → length now.entries ≡ 32
    → entry_of (with_lines ls now) l.slot ≡ with_times l (entry_of now l.slot)
unfolding with_lines
entry_named {setup} l {before} now (Among.here {l = ls}) (AllFit.more f a) n =
    entry_kept ls (with_line l now) l.slot (not_again l.slot a (among_named l {ls = l ∷ before} Among.here))
    ∙ entry_same l now (omega (arith, slot_below setup.slots l f.there))
entry_named l {before = before} now (Among.there {b = k} {l = ls} i) (AllFit.more f a) n =
    let other : k.slot ≡ l.slot → ⊥ =
    λ d. true≢false (sym (among_named l i) ∙ not_again l.slot a (ap (named_by (k ∷ before)) (sym d) ∙ among_named k {ls = k ∷ before} Among.here)) in
    entry_named l (with_line k now) i a ((same_but (k ∷ []) now).entries ∙ n)
    ∙ ap (with_times l) (entry_other k now l.slot other)

-- ---- codes

-- four times that aren't too long
record EachShort (l : SheetLine) : Type 0 where
  reset : is_too_long l.reset ≡ false
  dl_up : is_too_long l.dl_up ≡ false
  flr : is_too_long l.flr ≡ false
  d3hot : is_too_long l.d3hot ≡ false

-- those of a line without one that is
each_short : (l : SheetLine) → has_too_long l ≡ false → EachShort l
unfolding has_too_long
each_short l e =
    let reset = is_too_long l.reset in
    let dl_up = is_too_long l.dl_up in
    let flr = is_too_long l.flr in
    let three = or_neither (reset || dl_up || flr) (is_too_long l.d3hot) e in
    let two = or_neither (reset || dl_up) flr three.0 in
    let one = or_neither reset dl_up two.0 in
    record { reset = one.0; dl_up = one.1; flr = two.1; d3hot = three.1 }

-- a claim that isn't too long has a code
code_for_lem : (old : Code) (c : ClaimedTime) → is_too_long c ≡ false → encoded (claimed_nanos c) ≡ Some (code_for old c)
unfolding is_too_long
code_for_lem old c t =
    let s = encodes.some (claimed_nanos c) (ltb-false greatest_time (claimed_nanos c).0 t) in
    s.1 ∙ ap Some (sym (ap (code_or old) s.1))

-- which is the one asked for
covers : (old : Code) (c : ClaimedTime) → is_too_long c ≡ false → LeastCovering (claimed_nanos c) (code_for old c)
covers old c t = encodes.given (claimed_nanos c) (code_for old c) (code_for_lem old c t)

-- and has the time of a code that is claimed exactly
exact : (old : Code) (c : ClaimedTime) (d : Code) → is_too_long c ≡ false → allowed d ≡ true → claimed_nanos c ≡ nanos_of d → nanos_of (code_for old c) ≡ nanos_of d
exact old c d t a w =
    let same : (nanos_of (code_for old c)).0 ≡ (nanos_of d).0 = encodes.comes_back d (code_for old c) a (ap encoded (sym w) ∙ code_for_lem old c t) in
    λ i. record { 0 = same i }

-- an entry with the codes of a line
with_codes : (l : SheetLine) (s : Slot) → EachShort l → Coded l s (with_times l s)
unfolding with_times
with_codes l s h =
    record {
      reset = covers s.reset l.reset h.reset;
      dl_up = covers s.dl_up l.dl_up h.dl_up;
      flr = covers s.flr l.flr h.flr;
      d3hot = covers s.d3hot l.d3hot h.d3hot;
      frs = refl;
    }

-- an entry whose codes' times are claimed exactly comes back
same_times : (l : SheetLine) (old s : Slot) → EachShort l → Allowed s → Writes l s → SameTimes (with_times l old) s
unfolding with_times
same_times l old s h a w =
    record {
      reset = exact old.reset l.reset s.reset h.reset a.reset w.reset;
      dl_up = exact old.dl_up l.dl_up s.dl_up h.dl_up a.dl_up w.dl_up;
      flr = exact old.flr l.flr s.flr h.flr a.flr w.flr;
      d3hot = exact old.d3hot l.d3hot s.d3hot h.d3hot a.d3hot w.d3hot;
    }

-- the theorem
pub accepts : Accepts
accepts text ls setup sheet fit n =
    let after = (sheet_of text setup).setup in
    let is : after ≡ with_lines ls setup = ap (λ (r : SheetRead). r.setup) (sheet_given sheet fit) in
    let entry : (l : SheetLine) → Among l ls → with_times l (entry_of setup l.slot) ≡ entry_of after l.slot =
    λ l i. sym (ap (λ (s : Setup). entry_of s l.slot) is ∙ entry_named l setup i fit n) in
    let small : (l : SheetLine) → Among l ls → EachShort l = λ l i. each_short l (among_fits l i fit).1.short in
    record {
      named = λ l i. subst (Coded l (entry_of setup l.slot)) (entry l i) (with_codes l (entry_of setup l.slot) (small l i));
      kept = λ slot h. ap (λ (s : Setup). entry_of s slot) is ∙ entry_kept ls setup slot h;
      others = subst (SameBut setup) (sym is) (same_but ls setup);
      comes_back = λ l s i a w. subst (λ (t : Slot). SameTimes t s) (entry l i) (same_times l (entry_of setup l.slot) s (small l i) a w);
      any_order = λ other ms s r. sheet_given s (fit_reordered r fit) ∙ ap (gives 0 0) (sym (with_reordered setup r fit)) ∙ sym (sheet_given sheet fit);
    }
