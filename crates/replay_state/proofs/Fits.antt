-- Whether the state of a replay fits, case by case.
use Prim.Native.Nat.{ℕ, zero, suc, ◌≤◌, ◌<◌}
use mathlib.Core.Path.{◌≡◌, refl, ap, ◌∙◌}
use mathlib.Core.Bool.{Bool, true, false, not, ◌&&◌}
use mathlib.Core.List.{List, [], ◌∷◌}
use native.Mathlib.Omega.{arith}
use lib.ListN.{length, get_or, take}
use lib.Dec.{leb, eqb}
use borrow.Author.Tests.{le-leb, lt-leb}
use Rattle.std.specs.Prelude.{is_some}
use Rattle.bits.proofs.Tests.{truth}
use Rattle.capture.specs.declared.Replay.{Replay}
use Rattle.capture.specs.Advances.{due}
use Rattle.capture.specs.Replay.{end_fits, matches}
use Rattle.capture.specs.Lent.{earlier_of, progress_in, stamp_fits}
use Rattle.replay_state.proofs.Moves.{bytes_there}

-- ---- the port's carried bytes
module _ (r : Replay) where
  pub too_long : (c : List ℕ) → 4 < r.stamp_len → (stamp_fits r && matches c (progress_in r)) ≡ false
  too_long c h = ap (λ (t : Bool). t && matches c (progress_in r)) (lt-leb r.stamp_len 4 h)

  module _ (l : length r.stamp ≡ 4) (h : r.stamp_len ≤ 4) where
    fits : stamp_fits r ≡ true
    fits = le-leb r.stamp_len 4 h

    -- none: at most 4 stamp bytes, and no more advances answered than are due
    pub between_records : (c : List ℕ) (len : ℕ) → len ≡ 0
        → (stamp_fits r && matches (take len c) (progress_in r)) ≡ (leb r.answered (length (due (progress_in r).earlier (progress_in r).stamp)) && end_fits (progress_in r))
    unfolding matches
    between_records c len e =
        let rest = leb r.answered (length (due (progress_in r).earlier (progress_in r).stamp)) && end_fits (progress_in r) in
        ap (λ (n : ℕ). stamp_fits r && matches (take n c) (progress_in r)) e
        ∙ ap (λ (t : Bool). t && (leb (length (progress_in r).stamp) 4 && rest)) fits
        ∙ ap (λ (t : Bool). t && rest) (le-leb (length (progress_in r).stamp) 4 (omega (arith, bytes_there r l h)))

    -- some
    pub in_record : (c : List ℕ) (len : ℕ) → 0 < length c → (len ≡ 0 → ⊥)
        → (stamp_fits r && matches (take len c) (progress_in r))
        ≡ (is_some (earlier_of r) && eqb r.stamp_len 0 && eqb r.answered 0 && eqb r.ended 0 && not (eqb (get_or c 0 0) 1))
    unfolding matches
    in_record c zero g e = absurd (e refl)
    in_record [] (suc n) g e = absurd (omega arith)
    in_record (k ∷ c) (suc n) g e =
        ap (λ (t : Bool). t && matches (k ∷ take n c) (progress_in r)) fits
        ∙ ap (λ (n : ℕ). is_some (earlier_of r) && (eqb n 0 && (eqb r.answered 0 && (eqb r.ended 0 && not (eqb k 1))))) (bytes_there r l h)
        ∙ truth 5 (λ a b c d e. a && (b && (c && (d && e)))) (λ a b c d e. a && b && c && d && e) tt (is_some (earlier_of r)) (eqb r.stamp_len 0) (eqb r.answered 0) (eqb r.ended 0) (not (eqb k 1))
