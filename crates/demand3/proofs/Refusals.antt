-- Laws of refusals 1 to 4: tests at every slot, and the first test that fails.
use Prim.Native.Nat.{ℕ, ◌*◌}
use mathlib.Core.Path.{◌≡◌, refl, ap, sym}
use mathlib.Core.Bool.{Bool, true, false, ◌&&◌, cond}
use mathlib.Core.List.{List}
use native.Mathlib.Omega.{arith}
use lib.ListN.{length, get_or}
use lib.Dec.{leb, ltb, eqb}
use borrow.Author.Tests.{ltb-true, leb-true, eqb-true}
use Rattle.bits.proofs.Tests.{both_left, both_right}
use Rattle.registers.specs.declared.Kind.{Kind}
use Rattle.registers.specs.declared.Kind.TheVariants.{Endpoint}
use Rattle.registers.specs.Rows.{checked_words, default_allowed}
use Rattle.readiness.specs.declared.Setup.{Setup}
use Rattle.records.specs.Requests.{word_at}
use Rattle.demand3.specs.Held.{Held}
use Rattle.demand3.specs.GivenForNo.{Fits}
use Rattle.demand3.specs.Refusals.{lengths_fit, queue_fits, all_codes_allowed, words_allowed, all_defaults_allowed, first_failed, set_up_tests, set_up_refusal}

-- the words of a slot whose defaults are looked at: of each kind, two
abbrev pub word_allowed : Kind → (defaults : List ℕ) → (slot word : ℕ) → Bool
word_allowed kind defaults slot word = default_allowed kind word (word_at defaults slot word)

pub words_checked : (kind : Kind) (defaults : List ℕ) (slot : ℕ) (words : List ℕ) → words ≡ checked_words kind
    → words_allowed kind defaults slot (checked_words kind) ≡ (word_allowed kind defaults slot (get_or words 0 0) && (word_allowed kind defaults slot (get_or words 1 0) && true))
unfolding words_allowed
words_checked Endpoint defaults slot words e =
    ap (λ (l : List ℕ). word_allowed Endpoint defaults slot (get_or l 0 0) && (word_allowed Endpoint defaults slot (get_or l 1 0) && true)) (sym e)

-- ---- lengths that fit
pub fits_of : (slots statuses live defaults : ℕ) → lengths_fit slots statuses live defaults ≡ true → Fits slots statuses live defaults
unfolding lengths_fit
fits_of slots statuses live defaults e =
    let a = ltb 0 slots in
    let b = leb slots 32 in
    let c = eqb statuses slots in
    let d = eqb live (64 * slots) in
    let e1 = both_left (a && b && c && d) (eqb defaults (64 * slots)) e in
    let e2 = both_left (a && b && c) d e1 in
    let e3 = both_left (a && b) c e2 in
    record {
      some = ltb-true 0 slots (both_left a b e3);
      most = leb-true slots 32 (both_right a b e3);
      per_slot = eqb-true statuses slots (both_right (a && b) c e2);
      words = eqb-true live (64 * slots) (both_right (a && b && c) d e1);
      default_words = eqb-true defaults (64 * slots) (both_right (a && b && c && d) (eqb defaults (64 * slots)) e);
    }

-- ---- the first test that fails
module _ (setup : Setup) (defaults : List ℕ) (statuses live cells : ℕ) where
  abbrev pub number : ℕ
  number = first_failed (set_up_tests setup defaults statuses live cells)

  -- what a set-up that is not refused fulfils
  pub record SetUpFits : Type 0 where
    pub lengths : lengths_fit setup.slots statuses live (length defaults) ≡ true
    pub queue : queue_fits cells ≡ true
    pub codes : all_codes_allowed setup ≡ true
    pub defaults_fit : all_defaults_allowed setup defaults ≡ true

  -- by the four tests
  pub refused_1 : lengths_fit setup.slots statuses live (length defaults) ≡ false → 1 ≡ number
  unfolding first_failed set_up_tests
  refused_1 a = rw a

  pub refused_2 : lengths_fit setup.slots statuses live (length defaults) ≡ true → queue_fits cells ≡ false → 2 ≡ number
  unfolding first_failed set_up_tests
  refused_2 a b = rw (a, b)

  pub refused_3 : lengths_fit setup.slots statuses live (length defaults) ≡ true → queue_fits cells ≡ true → all_codes_allowed setup ≡ false → 3 ≡ number
  unfolding first_failed set_up_tests
  refused_3 a b c = rw (a, b, c)

  pub refused_4 : lengths_fit setup.slots statuses live (length defaults) ≡ true → queue_fits cells ≡ true → all_codes_allowed setup ≡ true → all_defaults_allowed setup defaults ≡ false → 4 ≡ number
  unfolding first_failed set_up_tests
  refused_4 a b c d = rw (a, b, c, d)

  pub refused_not : SetUpFits → 0 ≡ number
  unfolding first_failed set_up_tests
  refused_not f = rw (f.lengths, f.queue, f.codes, f.defaults_fit)

  pub set_up_fits : number ≡ 0 → SetUpFits
  unfolding first_failed set_up_tests
  set_up_fits e = go _ _ _ _ refl refl refl refl e
    where
      go : (x y z w : Bool) → lengths_fit setup.slots statuses live (length defaults) ≡ x → queue_fits cells ≡ y → all_codes_allowed setup ≡ z → all_defaults_allowed setup defaults ≡ w
          → ◌≡◌ {A = ℕ} (cond x (cond y (cond z (cond w 0 4) 3) 2) 1) 0 → SetUpFits
      go true true true true a b c d q = record { lengths = a; queue = b; codes = c; defaults_fit = d }
      go true true true false a b c d q = absurd (omega arith)
      go true true false w a b c d q = absurd (omega arith)
      go true false z w a b c d q = absurd (omega arith)
      go false y z w a b c d q = absurd (omega arith)

-- the refusal of what is held, by the lengths lent
pub refusal_held : (setup : Setup) (defaults : List ℕ) (h : Held) (statuses live cells : ℕ)
    → length h.statuses ≡ statuses → length h.live ≡ live → length h.cells ≡ cells
    → number setup defaults statuses live cells ≡ set_up_refusal setup defaults h
unfolding set_up_refusal
refusal_held setup defaults h statuses live cells a b c = rw (a, b, c)
