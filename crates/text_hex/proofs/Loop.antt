-- The loop of `text_hex::pack`: what holds at its head, and that a turn keeps it.
use Rattle.std.proofs.Common.{◌≡◌, ℕ, suc, ◌+◌, ◌-◌, ◌<◌, ◌≤◌, List, [], ◌∷◌, length, get_or, take, drop, set, sym, refl, ap, ◌∙◌, append-nil, zero-add, add-one, arith, length-set, take-append-drop, drop_of_length-le, length-take-le, drop-cons, drop-drop, take-suc-set, drop-set-lt}
use native.Mathlib.Nat.{sub-zero}
use Rattle.text_hex.specs.declared.Packing.{Packing}
use Rattle.text_hex.specs.declared.Step.{Step}
use Rattle.text_hex.specs.declared.Step.TheVariants.{Stops, Passes, Puts}
use Rattle.text_hex.specs.Packing.{step_of, ends, later, stepped, packs, left, leaves}
use Rattle.text_hex.proofs.Steps.{puts_in, steps, later-later}

-- at the head, with i characters consumed and w bytes in the room, which held room₀ at first
pub record Inv (first : Packing) (text room₀ room : List ℕ) (p : Packing) (i w : ℕ) : Type 0 where
  pub i_in : i ≤ length text
  pub w_in : w ≤ length room₀
  pub long : length room ≡ length room₀
  pub beyond : drop w room ≡ drop w room₀
  pub so_far : packs first text (length room₀) ≡ later i (take w room) (packs p (drop i text) (length room₀ - w))

pub starts : (first : Packing) (text room : List ℕ) → Inv first text room room first 0 0
starts first text room =
    record { i_in = omega arith; w_in = omega arith; long = refl; beyond = refl; so_far = rw (sub-zero, zero-add) }

module _ (first : Packing) (text room₀ room : List ℕ) (p : Packing) (i w : ℕ) (h : Inv first text room₀ room p i w) (j : i < length text)
    {s : Step} (e : s ≡ step_of p (get_or text i 0) (length room - w)) where
  step : step_of p (get_or text i 0) (length room₀ - w) ≡ s
  step = ap (λ (l : ℕ). step_of p (get_or text i 0) (l - w)) (sym h.long) ∙ sym e

  -- the text from here on
  pub on : packs first text (length room₀) ≡ later i (take w room) (stepped s (λ q n. packs q (drop (suc i) text) n) (length room₀ - w))
  on =
      h.so_far
      ∙ ap (λ (l : List ℕ). later i (take w room) (packs p l (length room₀ - w))) (drop-cons text i 0 j)
      ∙ ap (later i (take w room)) (steps p (get_or text i 0) (drop (suc i) text) (length room₀ - w) step)

  -- a character that is passed
  pub passes : (q : Packing) → s ≡ Passes q → Inv first text room₀ room q (i + 1) w
  passes q f =
      record {
        i_in = omega arith;
        w_in = h.w_in;
        long = h.long;
        beyond = h.beyond;
        so_far = on ∙ rw f (later-later i 1 (take w room) [] _ ∙ rw (append-nil, add-one));
      }

  pub room_left : (b : ℕ) (q : Packing) → s ≡ Puts b q → w < length room
  room_left b q f = omega (arith, h.long, puts_in p (get_or text i 0) (length room₀ - w) (step ∙ f))

  -- one that completes a byte
  pub puts : (b : ℕ) (q : Packing) → s ≡ Puts b q → Inv first text room₀ (set room w b) q (i + 1) (w + 1)
  puts b q f =
      let r : w < length room = room_left b q f in
      let n : length room₀ - w - 1 ≡ length room₀ - (w + 1) = omega arith in
      record {
        i_in = omega arith;
        w_in = omega (arith, h.long);
        long = length-set room w b ∙ h.long;
        beyond =
            rw add-one
            (drop-set-lt (suc w) room w b (omega arith)
            ∙ ap (λ (k : ℕ). drop k room) (sym (add-one w))
            ∙ sym (drop-drop 1 w room)
            ∙ ap (drop 1) h.beyond
            ∙ drop-drop 1 w room₀
            ∙ ap (λ (k : ℕ). drop k room₀) (add-one w));
        so_far = on ∙ rw f (later-later i 1 (take w room) (b ∷ []) _ ∙ rw (n, add-one w, add-one i, take-suc-set room w b r));
      }

module _ (first : Packing) (text room₀ room : List ℕ) (p : Packing) (i w : ℕ) (h : Inv first text room₀ room p i w) where
  finish : (q : Packing) → packs first text (length room₀) ≡ later i (take w room) (ends q)
      → left (record { after = q; consumed = i; written = w }) room ≡ leaves first text room₀
  unfolding leaves
  finish q e =
      let l : length (take w room) ≡ w = length-take-le w room (omega (arith, h.long, h.w_in)) in
      let c : i + 0 ≡ i = omega arith in
      rw (e, append-nil (take w room), l, c, ← h.beyond, take-append-drop)

  -- at the end of the text
  pub ends_all : length text ≤ i → left (record { after = p; consumed = length text; written = w }) room ≡ leaves first text room₀
  unfolding packs
  ends_all j =
      let all : length text ≡ i = omega (arith, h.i_in) in
      rw all (finish p (h.so_far ∙ rw (drop_of_length-le text j)))

  -- where it stops before its end
  pub ends_early : i < length text → {s : Step} → s ≡ step_of p (get_or text i 0) (length room - w) → (q : Packing) → s ≡ Stops q
      → left (record { after = q; consumed = i; written = w }) room ≡ leaves first text room₀
  ends_early j e q f = finish q (on first text room₀ room p i w h j e ∙ rw f)
