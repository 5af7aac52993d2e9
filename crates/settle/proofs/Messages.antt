-- Where no message comes, the root port stays as it is; the message that a slot sends.
use Rattle.std.specs.Prelude.{None, Some, slice_get}
use Prim.Native.Nat.{ℕ}
use mathlib.Core.Path.{◌≡◌, refl, ap, ◌∙◌}
use mathlib.Core.Bool.{Bool, true, false, cond}
use mathlib.Core.List.{[], ◌∷◌}
use Rattle.frs_queue.specs.Queue.{arrive_all}
use Rattle.readiness.specs.declared.Cause.{Cause}
use Rattle.readiness.specs.declared.Cause.TheVariants.{LinkUp, Flr, D3hot}
use Rattle.readiness.specs.declared.Slot.{Slot}
use Rattle.readiness.specs.Root.{Root, frs_arrive}
use Rattle.readiness.specs.Events.{function_id, reason_after, frs_with, frs_of_slot}

pub no_frs : (x : Root) → frs_arrive [] x ≡ x
unfolding frs_arrive arrive_all
no_frs x = refl

module _ (bus : ℕ) (entry : Slot) (slot : ℕ) (cause : Cause) where
  -- a slot that sends no FRS
  pub slot_quiet : entry.sends_frs ≡ false → frs_of_slot bus entry slot cause ≡ []
  unfolding frs_of_slot
  slot_quiet e = ap (λ (b : Bool). cond b (frs_with (function_id bus slot) (reason_after cause)) []) e

  -- a cause that has no reason
  pub slot_none : slice_get (reason_after cause) 0 ≡ None → frs_of_slot bus entry slot cause ≡ []
  unfolding frs_of_slot
  slot_none e = by entry.sends_frs cause e
    where
      by : (b : Bool) (c : Cause) → slice_get (reason_after c) 0 ≡ None → cond b (frs_with (function_id bus slot) (reason_after c)) [] ≡ []
      by false c e = refl
      by true LinkUp e = refl
      by true (Flr end) e = cc
      by true D3hot e = cc

  -- one that has one
  pub slot_one : (r : ℕ) → slice_get (reason_after cause) 0 ≡ Some r → entry.sends_frs ≡ true → frs_of_slot bus entry slot cause ≡ record { id = function_id bus slot; reason = r } ∷ []
  unfolding frs_of_slot
  slot_one r e b = ap (λ (v : Bool). cond v (frs_with (function_id bus slot) (reason_after cause)) []) b ∙ by cause e
    where
      by : (c : Cause) → slice_get (reason_after c) 0 ≡ Some r → frs_with (function_id bus slot) (reason_after c) ≡ record { id = function_id bus slot; reason = r } ∷ []
      by LinkUp e = cc
      by (Flr end) e = let s : 3 ≡ r = cc in ap (λ (n : ℕ). record { id = function_id bus slot; reason = n } ∷ []) s
      by D3hot e = let s : 2 ≡ r = cc in ap (λ (n : ℕ). record { id = function_id bus slot; reason = n } ∷ []) s
