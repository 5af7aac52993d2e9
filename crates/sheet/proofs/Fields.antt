-- The six fields of a line, read one after the other.
use mathlib.Core.Path.{◌≡◌, sym, ap, ◌∙◌}
use mathlib.Core.Bool.{Bool, true, false, ◌&&◌, cond}
use mathlib.Core.List.{List}
use Prim.Native.Nat.{ℕ}
use Rattle.bits.proofs.Choices.{when_true, when_false}
use Rattle.times.specs.declared.ClaimedTime.{ClaimedTime}
use Rattle.sheet_grammar.specs.declared.NumberRead.{NumberRead}
use Rattle.sheet_grammar.specs.declared.UnitRead.{UnitRead}
use Rattle.sheet_grammar.specs.declared.LineRead.{LineRead}
use Rattle.sheet_grammar.specs.declared.Fault.{Fault}
use Rattle.sheet_grammar.specs.Layout.{number_at, unit_at, claim, no_line, line_from, fault_in}

-- ---- what is read as a line

-- whether all fields fit
abbrev pub all_fit : (slot reset dl_up flr d3hot : NumberRead) → UnitRead → Bool
all_fit slot reset dl_up flr d3hot u = slot.fits && reset.fits && dl_up.fits && flr.fits && d3hot.fits && u.fits

-- the line of its fields
abbrev pub line_of : (slot reset dl_up flr d3hot : NumberRead) → UnitRead → LineRead
line_of slot reset dl_up flr d3hot u =
    record {
      fits = true;
      line =
          record {
            slot = slot.number;
            reset = claim reset.number u.unit;
            dl_up = claim dl_up.number u.unit;
            flr = claim flr.number u.unit;
            d3hot = claim d3hot.number u.unit;
          };
      size = u.next;
    }

six : (slot reset dl_up flr d3hot : NumberRead) → UnitRead → LineRead
six slot reset dl_up flr d3hot u = cond (all_fit slot reset dl_up flr d3hot u) (line_of slot reset dl_up flr d3hot u) no_line

module _ (s : List ℕ) where
  five : (slot reset dl_up flr d3hot : NumberRead) → LineRead
  five slot reset dl_up flr d3hot = six slot reset dl_up flr d3hot (unit_at d3hot.next s)

  four : (slot reset dl_up flr : NumberRead) → LineRead
  four slot reset dl_up flr = five slot reset dl_up flr (number_at flr.next s)

  three : (slot reset dl_up : NumberRead) → LineRead
  three slot reset dl_up = four slot reset dl_up (number_at dl_up.next s)

  two : (slot reset : NumberRead) → LineRead
  two slot reset = three slot reset (number_at reset.next s)

  one : (slot : NumberRead) → LineRead
  one slot = two slot (number_at slot.next s)

-- ---- what is wrong

abbrev wrong : (field place : ℕ) → Fault
wrong field place = record { field = field; place = place }

module _ (s : List ℕ) where
  fault₅ : (d3hot : NumberRead) → Fault
  fault₅ d3hot = cond d3hot.fits (wrong 5 (unit_at d3hot.next s).next) (wrong 4 d3hot.next)

  fault₄ : (flr : NumberRead) → Fault
  fault₄ flr = cond flr.fits (fault₅ (number_at flr.next s)) (wrong 3 flr.next)

  fault₃ : (dl_up : NumberRead) → Fault
  fault₃ dl_up = cond dl_up.fits (fault₄ (number_at dl_up.next s)) (wrong 2 dl_up.next)

  fault₂ : (reset : NumberRead) → Fault
  fault₂ reset = cond reset.fits (fault₃ (number_at reset.next s)) (wrong 1 reset.next)

  fault₁ : (slot : NumberRead) → Fault
  fault₁ slot = cond slot.fits (fault₂ (number_at slot.next s)) (wrong 0 slot.next)

-- ---- field by field

module _ (s : List ℕ) {slot : NumberRead} (e₁ : slot ≡ number_at 0 s) where
  first : fault_in s ≡ fault₁ s slot
  unfolding fault_in fault₁ fault₂ fault₃ fault₄ fault₅
  first = ap (fault₁ s) (sym e₁)

  pub slot_wrong : slot.fits ≡ false → fault_in s ≡ wrong 0 slot.next
  unfolding fault₁
  slot_wrong f = first ∙ when_false slot.fits _ _ f

  module _ {reset : NumberRead} (f₁ : slot.fits ≡ true) (e₂ : reset ≡ number_at slot.next s) where
    second : fault_in s ≡ fault₂ s reset
    unfolding fault₁
    second = first ∙ when_true slot.fits _ _ f₁ ∙ ap (fault₂ s) (sym e₂)

    pub reset_wrong : reset.fits ≡ false → fault_in s ≡ wrong 1 reset.next
    unfolding fault₂
    reset_wrong f = second ∙ when_false reset.fits _ _ f

    module _ {dl_up : NumberRead} (f₂ : reset.fits ≡ true) (e₃ : dl_up ≡ number_at reset.next s) where
      third : fault_in s ≡ fault₃ s dl_up
      unfolding fault₂
      third = second ∙ when_true reset.fits _ _ f₂ ∙ ap (fault₃ s) (sym e₃)

      pub dl_up_wrong : dl_up.fits ≡ false → fault_in s ≡ wrong 2 dl_up.next
      unfolding fault₃
      dl_up_wrong f = third ∙ when_false dl_up.fits _ _ f

      module _ {flr : NumberRead} (f₃ : dl_up.fits ≡ true) (e₄ : flr ≡ number_at dl_up.next s) where
        fourth : fault_in s ≡ fault₄ s flr
        unfolding fault₃
        fourth = third ∙ when_true dl_up.fits _ _ f₃ ∙ ap (fault₄ s) (sym e₄)

        pub flr_wrong : flr.fits ≡ false → fault_in s ≡ wrong 3 flr.next
        unfolding fault₄
        flr_wrong f = fourth ∙ when_false flr.fits _ _ f

        module _ {d3hot : NumberRead} (f₄ : flr.fits ≡ true) (e₅ : d3hot ≡ number_at flr.next s) where
          fifth : fault_in s ≡ fault₅ s d3hot
          unfolding fault₄
          fifth = fourth ∙ when_true flr.fits _ _ f₄ ∙ ap (fault₅ s) (sym e₅)

          pub d3hot_wrong : d3hot.fits ≡ false → fault_in s ≡ wrong 4 d3hot.next
          unfolding fault₅
          d3hot_wrong f = fifth ∙ when_false d3hot.fits _ _ f

          pub unit_wrong : {u : UnitRead} → d3hot.fits ≡ true → u ≡ unit_at d3hot.next s → fault_in s ≡ wrong 5 u.next
          unfolding fault₅
          unit_wrong f e = fifth ∙ when_true d3hot.fits _ _ f ∙ ap (λ (u : UnitRead). wrong 5 u.next) (sym e)

module _ (s : List ℕ) {slot reset dl_up flr d3hot : NumberRead} {u : UnitRead} (e₁ : slot ≡ number_at 0 s) (e₂ : reset ≡ number_at slot.next s)
    (e₃ : dl_up ≡ number_at reset.next s) (e₄ : flr ≡ number_at dl_up.next s) (e₅ : d3hot ≡ number_at flr.next s) (e₆ : u ≡ unit_at d3hot.next s) where
  by_fields : line_from s ≡ six slot reset dl_up flr d3hot u
  unfolding line_from one two three four five six
  by_fields =
      ap (one s) (sym e₁) ∙ ap (two s slot) (sym e₂) ∙ ap (three s slot reset) (sym e₃) ∙ ap (four s slot reset dl_up) (sym e₄)
      ∙ ap (five s slot reset dl_up flr) (sym e₅) ∙ ap (six slot reset dl_up flr d3hot) (sym e₆)

  pub line_fits : {r l f d : ClaimedTime} → all_fit slot reset dl_up flr d3hot u ≡ true → r ≡ claim reset.number u.unit → l ≡ claim dl_up.number u.unit
      → f ≡ claim flr.number u.unit → d ≡ claim d3hot.number u.unit
      → ◌≡◌ {A = LineRead} (record { fits = true; line = record { slot = slot.number; reset = r; dl_up = l; flr = f; d3hot = d }; size = u.next }) (line_from s)
  unfolding six
  line_fits {r} {l} {f} {d} fits a b c e =
      let claims : ◌≡◌ {A = LineRead} (record { fits = true; line = record { slot = slot.number; reset = r; dl_up = l; flr = f; d3hot = d }; size = u.next }) (line_of slot reset dl_up flr d3hot u) =
      λ i. record { fits = true; line = record { slot = slot.number; reset = a i; dl_up = b i; flr = c i; d3hot = e i }; size = u.next } in
      claims ∙ sym (by_fields ∙ when_true (all_fit slot reset dl_up flr d3hot u) _ _ fits)

  pub line_departs : all_fit slot reset dl_up flr d3hot u ≡ false → line_from s ≡ no_line
  unfolding six
  line_departs f = by_fields ∙ when_false (all_fit slot reset dl_up flr d3hot u) _ _ f
