-- A capture after a set-up that was made, known by its contract.
use Prim.Native.Nat.{ℕ, zero, suc}
use mathlib.Core.Path.{◌≡◌, refl, ap, sym, ◌∙◌}
use mathlib.Core.List.{List}
use Rattle.trace.specs.Lent.{Left, unchanged, unless}
use Rattle.readiness.specs.declared.Setup.{Setup}
use Rattle.demand3.specs.Held.{Held}
use Rattle.demand3.specs.SettingUp.{Prepared, sets_up}
use Rattle.replay_rules.specs.Replaying.{held_with, fresh_replay, replays}
use Rattle.trace_in_pieces.specs.Captures.{at_port, replays_on}

module _ (setup : Setup) (defaults : List ℕ) (h : Held) (x : Prepared) (capture answers : List ℕ) (made : x ≡ sets_up setup defaults h) where
  abbrev replayed : Prepared → Left Held
  replayed y = at_port (replays setup defaults (held_with y.held fresh_replay) capture answers)

  abbrev comes : Prepared → Left Held
  comes y = unless y.number (unchanged y.held answers) (replayed y)

  comes_to : comes x ≡ replays_on setup defaults h capture answers
  unfolding replays_on
  comes_to = ap comes made

  -- REFUSED: it gets none of the capture
  pub refused : (x.number ≡ 0 → ⊥) → unchanged x.held answers x.number ≡ replays_on setup defaults h capture answers
  refused some = go x.number some ∙ comes_to
    where
      go : (n : ℕ) → (n ≡ 0 → ⊥) → unchanged x.held answers n ≡ unless n (unchanged x.held answers) (replayed x)
      go zero some = absurd (some refl)
      go (suc n) some = refl

  -- NOT REFUSED: the whole capture in one call of replay
  pub accepted : x.number ≡ 0 → replayed x ≡ replays_on setup defaults h capture answers
  accepted e = ap (λ (n : ℕ). unless n (unchanged x.held answers) (replayed x)) (sym e) ∙ comes_to
