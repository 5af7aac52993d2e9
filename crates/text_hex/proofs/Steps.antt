-- One step of the packing.
use Rattle.std.proofs.Common.{◌≡◌, ℕ, zero, suc, ◌+◌, ◌<◌, Bool, true, false, cond, List, ◌∷◌, ◌++◌, sym, ap, append_assoc, arith}
use Rattle.text_hex.specs.declared.Turn.{Turn}
use Rattle.text_hex.specs.declared.Turn.TheVariants.{Goes, Completes, Bad}
use Rattle.text_hex.specs.declared.Packing.{Packing}
use Rattle.text_hex.specs.declared.Step.{Step}
use Rattle.text_hex.specs.declared.Step.TheVariants.{Stops, Puts}
use Rattle.text_hex.specs.Text.{turn_of}
use Rattle.text_hex.specs.Packing.{step_by, step_of, Given, later, stepped, packs}

-- a byte is put only where there is room
by_turn : (t : Turn) (p : Packing) (c room b : ℕ) (q : Packing) → step_by t p c room ≡ Puts b q → 0 < room
unfolding step_by
by_turn (Goes within) p c room b q e = cc
by_turn (Completes d) p c zero b q e = cc
by_turn (Completes d) p c (suc room) b q e = omega arith
by_turn Bad p c room b q e = cc

unless_bad : (bad : Bool) (t : Turn) (p : Packing) (c room b : ℕ) (q : Packing) → cond bad (Stops p) (step_by t p c room) ≡ Puts b q → 0 < room
unless_bad true t p c room b q e = cc
unless_bad false t p c room b q e = by_turn t p c room b q e

pub puts_in : (p : Packing) (c room : ℕ) {b : ℕ} {q : Packing} → step_of p c room ≡ Puts b q → 0 < room
unfolding step_of
puts_in p c room {b} {q} e = unless_bad p.bad (turn_of p.within c) p c room b q e

-- what the first character does
pub steps : (p : Packing) (c : ℕ) (text : List ℕ) (room : ℕ) {s : Step} → step_of p c room ≡ s → packs p (c ∷ text) room ≡ stepped s (λ q n. packs q text n) room
unfolding packs
steps p c text room e = ap (λ (t : Step). stepped t (λ q n. packs q text n) room) e

pub later-later : (i j : ℕ) (a b : List ℕ) (g : Given) → later i a (later j b g) ≡ later (i + j) (a ++ b) g
later-later i j a b g =
    let n : i + (j + g.consumed) ≡ i + j + g.consumed = omega arith in
    λ k. record { after = g.after; consumed = n k; bytes = sym (append_assoc a b g.bytes) k }
