-- The laws of the recorder's clock: `clock`.
use Rattle.std.proofs.Common.{◌≡◌, ℕ, ◌+◌, ◌%◌, ◌^◌, ◌<◌, sym, refl, ap, ◌∙◌, mod-lt, arith, le-leb, leb-false}
use borrow.Author.Tests.{lt-leb}
use Rattle.ticks.specs.declared.Stamp.{Stamp}
use Rattle.ticks.specs.declared.Ticks.{Ticks}
use Rattle.ticks.specs.Ticks.{difference, went_back, in_nanos}
use Rattle.ticks.specs.Clock.{stamp_of, ticks_of, ticks_on, Has32Bits, Clock}

below : (earlier stamp : Stamp) → (difference earlier stamp).0 < 2 ^ 32
unfolding difference
below earlier stamp = mod-lt _ (omega arith)

leads : (earlier stamp : Stamp) → Has32Bits earlier → Has32Bits stamp → ticks_on earlier (difference earlier stamp).0 ≡ stamp
unfolding difference
leads earlier stamp e s = ap stamp_of (omega arith)

only : (earlier stamp : Stamp) → Has32Bits earlier → Has32Bits stamp → (k : ℕ) → k < 2 ^ 32 → ticks_on earlier k ≡ stamp → difference earlier stamp ≡ ticks_of k
only earlier stamp e s k h q =
    ap ticks_of (same earlier.0 (difference earlier stamp).0 k e (below earlier stamp) h (ap (λ (x : Stamp). x.0) (leads earlier stamp e s ∙ sym q)))
  where
    same : (e n k : ℕ) → e < 2 ^ 32 → n < 2 ^ 32 → k < 2 ^ 32 → (e + n) % 2 ^ 32 ≡ (e + k) % 2 ^ 32 → n ≡ k
    same e n k he hn hk q = omega (arith, q)

forward : (earlier : Stamp) → Has32Bits earlier → (k : ℕ) → k < 2 ^ 32 → difference earlier (ticks_on earlier k) ≡ ticks_of k
forward earlier e k h = only earlier (ticks_on earlier k) e (mod-lt (earlier.0 + k) (omega arith)) k h refl

-- k ticks on, where k is 0
on_none : (s : Stamp) → Has32Bits s → ticks_on s 0 ≡ s
on_none s h = ap stamp_of (omega arith)

equal : (earlier stamp : Stamp) → Has32Bits earlier → Has32Bits stamp → difference earlier stamp ≡ ticks_of 0 → earlier ≡ stamp
equal earlier stamp e s q = sym (on_none earlier e) ∙ ap (λ (d : Ticks). ticks_on earlier d.0) (sym q) ∙ leads earlier stamp e s

pub clock : Clock
unfolding difference went_back in_nanos
clock =
    record {
      below = λ earlier stamp e s. below earlier stamp;
      leads = leads;
      only = only;
      forward = forward;
      none = λ s h. only s s h h 0 (omega arith) (on_none s h);
      equal = equal;
      back = λ d h. le-leb _ d.0 (omega arith);
      not_back = λ d h. lt-leb _ d.0 (omega arith);
      nanos = λ d. omega arith;
      short = λ d h. omega (arith, leb-false 2147483648 d.0 h);
      wrapped = refl;
      wrapped_nanos = refl;
      wrapped_forward = refl;
      most_forward = refl;
      most_wrapped = refl;
      least_back = refl;
      one_back = refl;
    }
