-- The moments that an accepted file gives, slot by slot.
use Rattle.times.specs.declared.Nanos.{Nanos}
use Rattle.std.specs.Prelude.{Option, None, Some}
use Prim.Native.Nat.{ℕ, ◌*◌, ◌<◌, min}
use mathlib.Core.Path.{◌≡◌, refl, sym, ap, ◌∙◌}
use mathlib.Core.Bool.{Bool, true, false, cond}
use mathlib.Core.List.{List}
use native.Mathlib.Omega.{arith}
use lib.Dec.{eqb}
use lib.ListN.{length, get_or, set, length-set, length-replicate}
use lib.Seq.{get_or-set_same, get_or-set_other}
use borrow.Author.Tests.{eqb-true, eqb-false, ltb-true, ltb-false, lt-ltb}
use Rattle.bits.proofs.Bits.{bit_none}
use Rattle.bits.proofs.Tests.{split}
use Rattle.times.specs.declared.ClaimedTime.{ClaimedTime}
use Rattle.times.specs.Moments.{greatest_nanos}
use Rattle.times.specs.Claims.{nanos_in, claimed_nanos}
use Rattle.readiness.specs.declared.Moments.{Moments}
use Rattle.readiness.specs.MadeReady.{moments_of, no_moments}
use Rattle.readiness.proofs.SlotMoments.{not_there, length_moments, moments_noted}
use Rattle.seen_grammar.specs.declared.SeenLine.{SeenLine}
use Rattle.seen_grammar.specs.declared.SeenRead.{SeenRead}
use Rattle.seen_grammar.specs.Reading.{is_too_long, longest_seen, with_time, accepts}
use Rattle.seen_grammar.specs.Exactly.{AllFit, with_times, Outcome}
use Rattle.seen_grammar.specs.Results.{seen_by, Results}
use Rattle.seen_grammar.proofs.Exactly.{exactly, slot_below}

-- ---- one line

abbrev moment_of : Moments → ℕ → Option Nanos
moment_of m slot = get_or (moments_of m) slot None

module _ (l : SeenLine) (m : Moments) (n : length m.at_ns ≡ 32) (low : l.slot < 32) where
  times_32 : length (with_time l m).at_ns ≡ 32
  unfolding with_time
  times_32 = length-set m.at_ns l.slot (claimed_nanos l.time).0 ∙ n

  noted : moments_of (with_time l m) ≡ set (moments_of m) l.slot (Some (claimed_nanos l.time))
  unfolding with_time
  noted = moments_noted m l.slot (claimed_nanos l.time) n low

  one_more : (slot : ℕ) → moment_of (with_time l m) slot ≡ cond (eqb l.slot slot) (Some (claimed_nanos l.time)) (moment_of m slot)
  one_more slot =
      ap (λ (ms : List (Option Nanos)). get_or ms slot None) noted
      ∙ split (eqb l.slot slot)
      (λ e. ap (λ (i : ℕ). get_or (set (moments_of m) l.slot (Some (claimed_nanos l.time))) i None) (sym (eqb-true l.slot slot e))
      ∙ get_or-set_same (moments_of m) l.slot (Some (claimed_nanos l.time)) None (omega (arith, length_moments m, n, low))
      ∙ sym (ap (λ (b : Bool). cond b (Some (claimed_nanos l.time)) (moment_of m slot)) e))
      (λ e. get_or-set_other (moments_of m) l.slot slot (Some (claimed_nanos l.time)) None (λ q. eqb-false l.slot slot e (sym q))
      ∙ sym (ap (λ (b : Bool). cond b (Some (claimed_nanos l.time)) (moment_of m slot)) e))

-- ---- all lines

all_lines : {slots : ℕ} {before ls : List SeenLine} (m : Moments) → length m.at_ns ≡ 32 → AllFit slots before ls → (slot : ℕ) → slot < 32
    → moment_of (with_times ls m) slot ≡ seen_by ls slot (moment_of m slot)
unfolding with_times seen_by
all_lines m n AllFit.none slot h = refl
all_lines {slots} m n (AllFit.more {ls = ls} {l = l} f a) slot h =
    let low = slot_below slots l f.there in
    all_lines (with_time l m) (times_32 l m n low) a slot h ∙ ap (seen_by ls slot) (one_more l m n low slot)

none_32 : length no_moments.at_ns ≡ 32
none_32 = length-replicate {A = ℕ} 32 0

none_yet : (slot : ℕ) → slot < 32 → moment_of no_moments slot ≡ None
none_yet slot h = not_there no_moments slot (omega (arith, none_32, h)) (bit_none slot)

-- ---- claims

module _ (c : ClaimedTime) where
  abbrev product : ℕ
  product = c.number * nanos_in c.unit

  nanos_is : (claimed_nanos c).0 ≡ min product greatest_nanos
  unfolding claimed_nanos
  nanos_is = refl

  exact : is_too_long c ≡ false → (claimed_nanos c).0 ≡ product
  unfolding is_too_long
  exact e = omega (arith, nanos_is, ltb-false longest_seen (claimed_nanos c).0 e)

  too_long_so : is_too_long c ≡ true → longest_seen < product
  unfolding is_too_long
  too_long_so e = omega (arith, nanos_is, ltb-true longest_seen (claimed_nanos c).0 e)

  so_too_long : longest_seen < product → is_too_long c ≡ true
  unfolding is_too_long
  so_too_long h = lt-ltb longest_seen (claimed_nanos c).0 (omega (arith, nanos_is))

pub results : Results
unfolding nanos_in
results =
    record {
      moments = λ text slots ls f a slot h.
          ap (λ (r : SeenRead). moment_of r.times slot) (exactly.only text slots (accepts (with_times ls no_moments)) (Outcome.accepted f a))
          ∙ all_lines no_moments none_32 a slot h ∙ ap (seen_by ls slot) (none_yet slot h);
      exact = exact;
      too_long = λ c. (too_long_so c, so_too_long c);
      in_ns = refl;
      in_us = refl;
      in_ms = refl;
    }
