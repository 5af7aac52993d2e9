-- The moments of slots, gathered slot by slot from the numbers of a call.
use Rattle.std.specs.Prelude.{Option, None, Some}
use Prim.Native.Nat.{ℕ, ◌+◌, ◌<◌}
use native.Mathlib.Omega.{arith}
use native.Mathlib.Numerals.{add-one}
use mathlib.Core.Path.{◌≡◌, refl, sym, ap, ◌∙◌}
use mathlib.Core.Bool.{Bool, cond}
use mathlib.Core.List.{List, [], ◌∷◌, ◌++◌}
use lib.ListN.{length, get_or, take, set, replicate, replicate-append-replicate}
use lib.Seq.{take-suc, take-suc-set, length-take-le}
use borrow.Author.Tests.{eq-eqb, ne_eqb}
use Rattle.std.proofs.lemmas.List.{set-get_or}
use Rattle.times.specs.declared.Nanos.{Nanos}
use Rattle.times.specs.Moments.{greatest_nanos}
use Rattle.readiness.specs.declared.Moments.{Moments}
use Rattle.readiness.specs.MadeReady.{moments_of, with_moment}
use Rattle.readiness.specs.inner.Phases.{moment_with, moments_with}
use Rattle.readiness.proofs.SlotMoments.{moments_noted}

-- one number more
pub with_none : (ms : List (Option Nanos)) → moments_with ms [] ≡ ms
unfolding moments_with
with_none [] = refl
with_none (m ∷ ms) = refl

with_more : (ms : List (Option Nanos)) (ws : List ℕ) (w : ℕ) → length ws < length ms → moments_with ms (ws ++ w ∷ []) ≡ set (moments_with ms ws) (length ws) (moment_with (get_or (moments_with ms ws) (length ws) None) w)
unfolding moments_with
with_more [] ws w h = absurd (omega arith)
with_more (m ∷ ms) [] w h = ap (λ (r : List (Option Nanos)). moment_with m w ∷ r) (with_none ms)
with_more (m ∷ ms) (x ∷ ws) w h = ap (λ (r : List (Option Nanos)). moment_with m x ∷ r) (with_more ms ws w (omega arith))

-- SLOT BY SLOT
pub gathers : (ms l : List (Option Nanos)) (ws : List ℕ) (i : ℕ) → i < length ms → i < length ws → l ≡ moments_with ms (take i ws)
    → set l i (moment_with (get_or l i None) (get_or ws i 0)) ≡ moments_with ms (take (i + 1) ws)
gathers ms l ws i h g z =
    let w = get_or ws i 0 in
    let n : length (take i ws) ≡ i = length-take-le i ws (omega arith) in
    ap (λ (r : List (Option Nanos)). set r i (moment_with (get_or r i None) w)) z
    ∙ (λ j. set (moments_with ms (take i ws)) (sym n j) (moment_with (get_or (moments_with ms (take i ws)) (sym n j) None) w))
    ∙ sym (with_more ms (take i ws) w (omega arith))
    ∙ ap (moments_with ms) (sym (take-suc ws i 0 g) ∙ ap (λ (m : ℕ). take m ws) (sym (add-one i)))

-- slot i of the kept moments, whose number is t
module _ (ms : List (Option Nanos)) (m : Moments) (ws : List ℕ) (i t : ℕ) (n : length m.at_ns ≡ 32) (h : i < 32) (g : i < length ms) (f : i < length ws) (e : t ≡ get_or ws i 0)
    (z : moments_of m ≡ moments_with ms (take i ws)) where
  more : set (moments_of m) i (moment_with (get_or (moments_of m) i None) t) ≡ moments_with ms (take (i + 1) ws)
  more = ap (λ (w : ℕ). set (moments_of m) i (moment_with (get_or (moments_of m) i None) w)) e ∙ gathers ms (moments_of m) ws i g f z

  -- a moment, which is noted
  pub noted : (t ≡ greatest_nanos → ⊥) → moments_of (with_moment i (record { 0 = t }) m) ≡ moments_with ms (take (i + 1) ws)
  noted k =
      moments_noted m i (record { 0 = t }) n h
      ∙ ap (λ (b : Bool). set (moments_of m) i (cond b (get_or (moments_of m) i None) (Some (record { 0 = t })))) (sym (ne_eqb t greatest_nanos k))
      ∙ more

  -- or none
  pub kept : t ≡ greatest_nanos → moments_of m ≡ moments_with ms (take (i + 1) ws)
  kept k =
      sym (set-get_or (moments_of m) i None)
      ∙ ap (λ (b : Bool). set (moments_of m) i (cond b (get_or (moments_of m) i None) (Some (record { 0 = t })))) (sym (eq-eqb t greatest_nanos k))
      ∙ more

-- ---- forgotten, slot by slot
pub forgets : (l m : List ℕ) (i x : ℕ) → i < length l → m ≡ set l i x → take i l ≡ replicate i x → take (i + 1) m ≡ replicate (i + 1) x
forgets l m i x h e q =
    (λ j. take (add-one i j) (e j))
    ∙ take-suc-set l i x h
    ∙ ap (λ (r : List ℕ). r ++ x ∷ []) q
    ∙ replicate-append-replicate {A = ℕ} i 1 x
