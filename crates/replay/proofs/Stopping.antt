-- What stops a call of replay first, by the number that feed gives before a byte is looked at.
use Prim.Native.Nat.{ℕ, zero, suc, ◌≤◌}
use mathlib.Core.Path.{◌≡◌, ap, sym, ◌∙◌, refl}
use mathlib.Core.Bool.{true, false}
use mathlib.Core.List.{List}
use native.Mathlib.Omega.{arith}
use Rattle.trace.specs.Format.{when◌then◌else◌}
use Rattle.trace.specs.Outcome.{first}
use Rattle.trace.specs.Lent.{Lent, refusal, refusal_or31}
use Rattle.trace.proofs.Tests.{if_cases}
use Rattle.trace.proofs.Refusing as trace
use Rattle.readiness.specs.declared.Setup.{Setup}
use Rattle.capture.specs.Lent.{Held, matching, stops_first}
use Rattle.capture.proofs.Refusing.{refuses-first, refuses_unmatched, refuses_not, stops_refused, stops_ended}
use Rattle.demand3.specs.Held.{Held as HeldPort}
use Rattle.demand3.specs.Feeding.{bench}
use Rattle.demand3.proofs.Numbers.{set_up_cases, given_0, given_1, given_2, given_3, given_4}

module _ {S H : Type 0} (L : Lent S H) (h : Held H) where
  abbrev broken : ℕ
  broken = when (L.view h.port).broken then 31 else 0

  -- a port that is not refused gives 31 or 0
  or_31 : refusal L h.port ≡ 0 → refusal_or31 L h.port ≡ broken
  unfolding refusal_or31
  or_31 e = ap (λ (m : ℕ). first m broken) e

  -- 1 to 5
  pub refused : (n : ℕ) → n ≡ refusal_or31 L h.port → (n ≡ 0 → ⊥) → (n ≡ 31 → ⊥) → n ≡ stops_first L h
  refused n e z y = go (refusal L h.port) refl
    where
      go : (m : ℕ) → refusal L h.port ≡ m → n ≡ stops_first L h
      go zero q = absurd (if_cases (λ (k : ℕ). n ≡ k → ⊥) (L.view h.port).broken 31 0 (λ _. y) (λ _. z) (e ∙ or_31 q))
      go (suc m) q = e ∙ trace.stops_refused L h.port m q ∙ sym (stops_refused L h m (refuses-first L h m q))

  -- another number: the port is not refused
  pub not_refused_lem : (n : ℕ) → n ≡ refusal_or31 L h.port → refusal L h.port ≤ 5 → ((n ≡ 0 → ⊥) → n ≡ 31) → refusal L h.port ≡ 0
  not_refused_lem n e few or = go (refusal L h.port) refl
    where
      go : (m : ℕ) → refusal L h.port ≡ m → refusal L h.port ≡ 0
      go zero q = q
      go (suc m) q =
          let is : n ≡ suc m = e ∙ trace.stops_refused L h.port m q in
          absurd (omega (arith, few, q, is, or (λ z. omega (arith, z, is))))

  module _ (accepted : refusal L h.port ≡ 0) where
    pub unmatched : matching L h ≡ false → 5 ≡ stops_first L h
    unmatched m = sym (stops_refused L h 4 (refuses_unmatched L h accepted m))

    module _ (m : matching L h ≡ true) where
      -- an ended replay gives its number
      pub ended : (n : ℕ) → h.replay.ended ≡ n → (n ≡ 0 → ⊥) → n ≡ stops_first L h
      ended zero e z = absurd (z refl)
      ended (suc n) e z = sym (stops_ended L h n (refuses_not L h accepted m) e)

      -- else the port's 31 or 0
      pub not_ended : (n : ℕ) → n ≡ refusal_or31 L h.port → h.replay.ended ≡ 0 → n ≡ stops_first L h
      unfolding stops_first
      not_ended n f e =
          f
          ∙ or_31 accepted
          ∙ sym (ap (λ (k : ℕ). first k (first h.replay.ended broken)) (refuses_not L h accepted m) ∙ ap (λ (k : ℕ). first k broken) e)

-- the bench gives 1 to 5
pub refusal_few : (setup : Setup) (defaults : List ℕ) (h : HeldPort) → refusal (bench setup defaults) h ≤ 5
unfolding refusal
refusal_few setup defaults h =
    set_up_cases setup defaults h
    (λ w. few 1 (omega arith) (given_1 setup defaults h w))
    (λ w. few 2 (omega arith) (given_2 setup defaults h w))
    (λ w. few 3 (omega arith) (given_3 setup defaults h w))
    (λ w. few 4 (omega arith) (given_4 setup defaults h w))
    (λ w. few 0 (omega arith) (given_0 setup defaults h w))
  where
    few : (n : ℕ) → n ≤ 4 → (bench setup defaults).set_up h ≡ n → refusal (bench setup defaults) h ≤ 5
    few zero f e = rw e (if_cases (λ (k : ℕ). k ≤ 5) ((bench setup defaults).sound h) 0 5 (λ _. omega arith) (λ _. omega arith))
    few (suc n) f e = rw e (omega (arith, f))
