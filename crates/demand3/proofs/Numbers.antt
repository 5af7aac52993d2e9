-- Refusals 1 to 5: each test holds exactly if what it is about holds, and the first of 1 to 4 that applies.
use Prim.Native.Nat.{ℕ, ◌*◌, ◌<◌}
use mathlib.Core.Path.{◌≡◌, refl, ap, sym, ◌∙◌}
use mathlib.Core.Bool.{Bool, true, false, not, ◌&&◌, ◌||◌, cond, true≢false, and-false}
use mathlib.Core.List.{List, [], ◌∷◌}
use native.Mathlib.Omega.{arith}
use lib.ListN.{length}
use lib.Dec.{T, eqb, leb, ltb}
use borrow.Author.Tests.{leb-true, le-leb, ltb-true, lt-ltb, eqb-true, eq-eqb}
use Rattle.bits.specs.Bits.{bit, word}
use Rattle.bits.proofs.Bits.{bit_word, bit_none, word_none}
use Rattle.bits.specs.Every.{every}
use Rattle.bits.proofs.Every.{every_at, every_of}
use Rattle.bits.proofs.Tests.{all, all_at, both, both_left, both_right, untrue, split, not_both}
use Rattle.times.specs.Codes.{allowed}
use Rattle.registers.specs.Rows.{pmcsr, device_control, checked_words, default_must_be_zero, default_allowed}
use Rattle.readiness.specs.declared.Slot.{Slot}
use Rattle.readiness.specs.declared.Setup.{Setup}
use Rattle.readiness.specs.Status.{entry_of}
use Rattle.trace.specs.Format.{begun}
use Rattle.trace.proofs.Laws.{begun_is, incomplete_begun}
use Rattle.records.specs.State.{kind_of_entry, slot_kind}
use Rattle.records.specs.Requests.{word_at}
use Rattle.records.specs.Sound.{sound}
use Rattle.records.proofs.SoundFacts.{sound_facts, facts_sound}
use Rattle.records.proofs.Routes.{Reason, because}
use Rattle.demand3.specs.Held.{Held, state_of, carried_of}
use Rattle.demand3.specs.Refusals.{lengths_fit, queue_fits, codes_allowed, all_codes_allowed, words_allowed, all_defaults_allowed, set_up_refusal, sound_carried, sound_held}
use Rattle.demand3.specs.GivenForNo.{Fits, QueueFits, CodesFit, AllCodesFit, DefaultsFit, AllDefaultsFit, HeldSound, LengthsFit, SetUpFacts}
use Rattle.demand3.proofs.Refusals.{fits_of, words_checked, refused_1, refused_2, refused_3, refused_4, refused_not}

-- ---- a test that says whether a fact holds
pub record Says (test : Bool) (fact : Type 0) : Type 0 where
  pub holds : test ≡ true → fact
  pub tested : fact → test ≡ true

pub fails : {test : Bool} {fact : Type 0} → Says test fact → (fact → ⊥) → test ≡ false
fails {test} s f = untrue test (λ e. f (s.holds e))

every-says : (n : ℕ) (p : ℕ → Bool) (P : ℕ → Type 0) → ((i : ℕ) → Says (p i) (P i)) → Says (every n p) ((i : ℕ) → i < n → P i)
every-says n p P s = record { holds = λ e i l. (s i).holds (every_at n p e i l); tested = λ f. every_of n p (λ i l. (s i).tested (f i l)) }

-- ---- 1: slots 1 to 32, one status per slot, 64 live and 64 default registers per slot (`Fits`)
pub lengths_say_lem : (slots statuses live defaults : ℕ) → Says (lengths_fit slots statuses live defaults) (Fits slots statuses live defaults)
unfolding lengths_fit
lengths_say_lem slots statuses live defaults =
    record {
      holds = fits_of slots statuses live defaults;
      tested = λ f.
          both _ _
          (both _ _ (both _ _ (both _ _ (lt-ltb 0 slots f.some) (le-leb slots 32 f.most)) (eq-eqb statuses slots f.per_slot)) (eq-eqb live (64 * slots) f.words))
          (eq-eqb defaults (64 * slots) f.default_words);
    }

-- ---- 2: queue length 1 to 4,095
pub queue_says : (cells : ℕ) → Says (queue_fits cells) (QueueFits cells)
unfolding queue_fits
queue_says cells =
    record {
      holds = λ e. record { some = ltb-true 0 cells (both_left (ltb 0 cells) (leb cells 4095) e); most = leb-true cells 4095 (both_right (ltb 0 cells) (leb cells 4095) e) };
      tested = λ f. both _ _ (lt-ltb 0 cells f.some) (le-leb cells 4095 f.most);
    }

-- ---- 3: no code above A1Eh
pub codes_say : (e : Slot) → Says (codes_allowed e) (CodesFit e)
unfolding codes_allowed allowed
codes_say e =
    let a = leb e.reset.0 0xA1E in
    let b = leb e.dl_up.0 0xA1E in
    let c = leb e.flr.0 0xA1E in
    let d = leb e.d3hot.0 0xA1E in
    record {
      holds = λ t.
          let u = both_left (a && b && c) d t in
          let v = both_left (a && b) c u in
          record {
            reset = leb-true e.reset.0 0xA1E (both_left a b v);
            dl_up = leb-true e.dl_up.0 0xA1E (both_right a b v);
            flr = leb-true e.flr.0 0xA1E (both_right (a && b) c u);
            d3hot = leb-true e.d3hot.0 0xA1E (both_right (a && b && c) d t);
          };
      tested = λ f.
          both _ _ (both _ _ (both _ _ (le-leb e.reset.0 0xA1E f.reset) (le-leb e.dl_up.0 0xA1E f.dl_up)) (le-leb e.flr.0 0xA1E f.flr))
          (le-leb e.d3hot.0 0xA1E f.d3hot);
    }

pub all_codes_say : (setup : Setup) → Says (all_codes_allowed setup) (AllCodesFit setup)
unfolding all_codes_allowed
all_codes_say setup = every-says setup.slots (λ i. codes_allowed (entry_of setup i)) (λ i. CodesFit (entry_of setup i)) (λ i. codes_say (entry_of setup i))

-- ---- 4: no default with bit 15 or 21 of 78h or bits 1:0 of 44h set
-- two bits of a word are 0 where the word has none of a mask of these two
module _ (d mask i j : ℕ) where
  abbrev masked : ℕ → Bool
  masked k = bit d k && bit mask k

  abbrev others : ℕ → Bool
  others k = not (bit mask k) || eqb k i || eqb k j

  none_set : bit d i ≡ false → bit d j ≡ false → T (all 32 others) → word masked ≡ 0
  none_set p q t = word_none λ k l. by k (all_at 32 others t k l) (bit mask k) refl (eqb k i) refl (eqb k j) refl
    where
      off : (b c : Bool) → b ≡ false → (b && c) ≡ false
      off true c e = absurd (true≢false e)
      off false c e = refl

      by : (k : ℕ) → T (others k) → (m : Bool) → bit mask k ≡ m → (x : Bool) → eqb k i ≡ x → (y : Bool) → eqb k j ≡ y → masked k ≡ false
      by k t false e x f y g = rw e (and-false (bit d k))
      by k t true e true f y g = off (bit d k) (bit mask k) (ap (bit d) (eqb-true k i f) ∙ p)
      by k t true e false f true g = off (bit d k) (bit mask k) (ap (bit d) (eqb-true k j g) ∙ q)
      by k t true e false f false g = absurd (rw (e, f, g) at t)

  bit_of : (k : ℕ) → k < 32 → bit mask k ≡ true → word masked ≡ 0 → bit d k ≡ false
  bit_of k l e z = by (bit d k) (sym (bit_word masked k l) ∙ ap (λ (n : ℕ). bit n k) z ∙ bit_none k)
    where
      by : (b : Bool) → (b && bit mask k) ≡ false → b ≡ false
      by true f = absurd (true≢false (sym e ∙ f))
      by false f = refl

words_say : (setup : Setup) (defaults : List ℕ) (slot : ℕ) → Says (words_allowed (slot_kind setup slot) defaults slot (checked_words (slot_kind setup slot))) (DefaultsFit defaults slot)
unfolding kind_of_entry default_allowed default_must_be_zero bit
words_say setup defaults slot =
    let kind = slot_kind setup slot in
    let p = word_at defaults slot pmcsr in
    let d = word_at defaults slot device_control in
    let a = default_allowed kind pmcsr p in
    let b = default_allowed kind device_control d in
    let c = words_checked kind defaults slot (checked_words kind) refl in
    record {
      holds = λ e.
          let t : (a && (b && true)) ≡ true = sym c ∙ e in
          let u = eqb-true (word (masked p 3 0 1)) 0 (both_left a (b && true) t) in
          let v = eqb-true (word (masked d 0x208000 15 21)) 0 (both_left b true (both_right a (b && true) t)) in
          record {
            initiate_flr = bit_of d 0x208000 15 21 15 (omega arith) refl v;
            transactions_pending = bit_of d 0x208000 15 21 21 (omega arith) refl v;
            power_state0 = bit_of p 3 0 1 0 (omega arith) refl u;
            power_state1 = bit_of p 3 0 1 1 (omega arith) refl u;
          };
      tested = λ f.
          c
          ∙ both a (b && true) (eq-eqb (word (masked p 3 0 1)) 0 (none_set p 3 0 1 f.power_state0 f.power_state1 tt))
          (both b true (eq-eqb (word (masked d 0x208000 15 21)) 0 (none_set d 0x208000 15 21 f.initiate_flr f.transactions_pending tt)) refl);
    }

pub all_defaults_say : (setup : Setup) (defaults : List ℕ) → Says (all_defaults_allowed setup defaults) (AllDefaultsFit setup defaults)
unfolding all_defaults_allowed
all_defaults_say setup defaults =
    every-says setup.slots (λ i. words_allowed (slot_kind setup i) defaults i (checked_words (slot_kind setup i))) (DefaultsFit defaults) (words_say setup defaults)

-- ---- 5: the port and the statuses are sound, and the carried bytes, at most 16, are the start of one incomplete record, or none
pub sound-says : (setup : Setup) (h : Held) → Says (sound_held setup h) (HeldSound setup h)
unfolding sound_held sound_carried
sound-says setup h =
    let a = leb h.port.carried_len 16 in
    let b = begun (carried_of h.port) in
    let c = sound setup (state_of h) in
    record {
      holds = λ e.
          let f = both_left (a && b) c e in
          record {
            state = sound_facts setup (state_of h) (both_right (a && b) c e);
            count = leb-true h.port.carried_len 16 (both_left a b f);
            carried = begun_is (carried_of h.port) (both_right a b f);
          };
      tested = λ f.
          both (a && b) c (both a b (le-leb h.port.carried_len 16 f.count) (incomplete_begun (carried_of h.port) f.carried))
          (facts_sound setup (state_of h) f.state);
    }

-- ---- the first of 1 to 4 that applies
pub denies : {test : Bool} {fact : Type 0} → Says test fact → test ≡ false → fact → ⊥
denies s e p = not_both (s.tested p) e

module _ (setup : Setup) (defaults : List ℕ) (h : Held) where
  abbrev cells : ℕ
  cells = length h.cells

  abbrev Not2 : Type 0
  Not2 = LengthsFit setup defaults h × (QueueFits cells → ⊥)

  abbrev Not3 : Type 0
  Not3 = LengthsFit setup defaults h × QueueFits cells × (AllCodesFit setup → ⊥)

  abbrev Not4 : Type 0
  Not4 = LengthsFit setup defaults h × QueueFits cells × AllCodesFit setup × (AllDefaultsFit setup defaults → ⊥)

  lengths_say : Says (lengths_fit setup.slots (length h.statuses) (length h.live) (length defaults)) (LengthsFit setup defaults h)
  lengths_say = lengths_say_lem setup.slots (length h.statuses) (length h.live) (length defaults)

  -- one of them, or none
  pub set_up_cases : {P : Type 0} → ((LengthsFit setup defaults h → ⊥) → P) → (Not2 → P) → (Not3 → P) → (Not4 → P) → (SetUpFacts setup defaults h → P) → P
  set_up_cases one two three four none =
      let l = lengths_say in
      let q = queue_says cells in
      let c = all_codes_say setup in
      let d = all_defaults_say setup defaults in
      split (lengths_fit setup.slots (length h.statuses) (length h.live) (length defaults))
      (λ a.
      split (queue_fits cells)
      (λ b.
      split (all_codes_allowed setup)
      (λ e.
      split (all_defaults_allowed setup defaults)
      (λ f. none (record { lengths = l.holds a; queue = q.holds b; codes = c.holds e; default_bits = d.holds f }))
      (λ f. four (l.holds a, q.holds b, c.holds e, denies d f)))
      (λ e. three (l.holds a, q.holds b, denies c e)))
      (λ b. two (l.holds a, denies q b)))
      (λ a. one (denies l a))

  pub given_1 : (LengthsFit setup defaults h → ⊥) → set_up_refusal setup defaults h ≡ 1
  unfolding set_up_refusal
  given_1 n = sym (refused_1 setup defaults (length h.statuses) (length h.live) cells (fails lengths_say n))

  pub given_2 : Not2 → set_up_refusal setup defaults h ≡ 2
  unfolding set_up_refusal
  given_2 n = sym (refused_2 setup defaults (length h.statuses) (length h.live) cells (lengths_say.tested n.0) (fails (queue_says cells) n.1))

  pub given_3 : Not3 → set_up_refusal setup defaults h ≡ 3
  unfolding set_up_refusal
  given_3 n =
      sym (refused_3 setup defaults (length h.statuses) (length h.live) cells (lengths_say.tested n.0) ((queue_says cells).tested n.1) (fails (all_codes_say setup) n.2))

  pub given_4 : Not4 → set_up_refusal setup defaults h ≡ 4
  unfolding set_up_refusal
  given_4 n =
      sym
      (refused_4 setup defaults (length h.statuses) (length h.live) cells (lengths_say.tested n.0) ((queue_says cells).tested n.1) ((all_codes_say setup).tested n.2)
      (fails (all_defaults_say setup defaults) n.3))

  pub given_0 : SetUpFacts setup defaults h → set_up_refusal setup defaults h ≡ 0
  unfolding set_up_refusal
  given_0 f =
      sym
      (refused_not setup defaults (length h.statuses) (length h.live) cells
      (record {
        lengths = lengths_say.tested f.lengths;
        queue = (queue_says cells).tested f.queue;
        codes = (all_codes_say setup).tested f.codes;
        defaults_fit = (all_defaults_say setup defaults).tested f.default_bits;
      }))

  -- what each number says
  abbrev SetUpBecause : ℕ → Type 0
  SetUpBecause n =
      cond (eqb n 1) (LengthsFit setup defaults h → ⊥) (cond (eqb n 2) Not2 (cond (eqb n 3) Not3 (cond (eqb n 4) Not4 (cond (eqb n 0) (SetUpFacts setup defaults h) ⊥))))

  pub set_up_reason : Reason (0 ∷ 1 ∷ 2 ∷ 3 ∷ 4 ∷ []) SetUpBecause (set_up_refusal setup defaults h)
  set_up_reason =
      set_up_cases (λ n. record { number = 1; why = n; listed = tt; given = given_1 n }) (λ n. record { number = 2; why = n; listed = tt; given = given_2 n })
      (λ n. record { number = 3; why = n; listed = tt; given = given_3 n }) (λ n. record { number = 4; why = n; listed = tt; given = given_4 n })
      (λ f. record { number = 0; why = f; listed = tt; given = given_0 f })

  -- a set-up that isn't refused fulfils all four
  pub set_up_facts : set_up_refusal setup defaults h ≡ 0 → SetUpFacts setup defaults h
  set_up_facts e = because set_up_reason 0 e
