-- Clauses of 01, "Readiness", as laws of the definitions: what starts a slot and until when, how a DRS is signalled, what resets leave of the port.
use Prim.Native.Nat.{ℕ, suc, ◌+◌, ◌≤◌, ◌<◌, min}
use native.Mathlib.Nat.{add-zero, zero-add}
use native.Mathlib.Omega.{arith}
use mathlib.Core.Bool.{Bool, true, false, not, cond, and-false}
use mathlib.Core.List.{List, [], ◌∷◌}
use mathlib.Core.Logic.{◌≢◌, ◌⊎◌, inl, inr, ◌↔◌}
use mathlib.Core.Path.{◌≡◌, refl, sym, ap, ap₂, ◌∙◌}
use lib.Dec.{leb}
use lib.ListN.{length, get_or}
use borrow.Author.Tests.{lt-ltb, ltb-true, leb-true, leb-false, eqb-true, eq-eqb, ne_eqb, not-true}
use Rattle.bits.proofs.Tests.{both_left, both_right}
use Rattle.times.specs.declared.Nanos.{Nanos}
use Rattle.times.specs.Codes.{nanos_of}
use Rattle.times.specs.Moments.{sum_of, least_of}
use Rattle.times.proofs.Laws.{sum_code, sum_plain, code_most}
use Rattle.readiness.specs.declared.Cause.TheVariants.{LinkUp, Flr, D3hot}
use Rattle.readiness.specs.declared.Status.{Status}
use Rattle.readiness.specs.declared.Slot.{Slot}
use Rattle.readiness.specs.declared.Setup.{Setup}
use Rattle.readiness.specs.declared.Dev.{Dev}
use Rattle.readiness.specs.Status.{pending, ready, entry_of, each_from, ready_after_link_up, started_by_link_up, after_link_up, after_reset, after_link_down, after_cold_reset, flr_most, started_by_flr, flr_in_progress, started_by_d3hot}
use Rattle.readiness.specs.Root.{frs_of_drs, drs_interrupt}

-- a moment
abbrev pub at : ℕ → Nanos
at n = record { 0 = n }

-- ---- what starts a slot; the clock is at most 10^18, which no sound clock passes

-- each slot of the card anew
pub each_at : (slots : ℕ) (f : ℕ → Status) (k : ℕ) (l : List Status) (i : ℕ) → i < length l → k + i < slots → get_or (each_from k slots f l) i ready ≡ f (k + i)
unfolding each_from
each_at slots f k [] i h m = absurd (omega arith)
each_at slots f k (s ∷ l) ℕ.zero h m =
    let n : k < slots = omega arith in
    ap (λ (b : Bool). cond b (f k) s) (lt-ltb k slots n) ∙ ap f (sym (add-zero k))
each_at slots f k (s ∷ l) (suc i) h m =
    let n : suc k + i ≡ k + suc i = omega arith in
    each_at slots f (suc k) l i (omega arith) (omega arith) ∙ ap f n

pub each-length : (slot slots : ℕ) (f : ℕ → Status) (l : List Status) → length (each_from slot slots f l) ≡ length l
unfolding each_from
each-length slot slots f [] = refl
each-length slot slots f (s ∷ l) = ap suc (each-length (suc slot) slots f l)

-- Link up at clock c: slot i is Pending until c + its own DL Up Time.
pub link_up_starts : (setup : Setup) (dev : Dev) (l : List Status) (i : ℕ) → dev.clock.0 ≤ 1000000000000000000 → i < setup.slots → i < length l
    → get_or (started_by_link_up setup dev l) i ready ≡ pending LinkUp (at (dev.clock.0 + (nanos_of (entry_of setup i).dl_up).0))
unfolding ready_after_link_up
link_up_starts setup dev l i c h m =
    each_at setup.slots _ 0 l i m (omega arith)
    ∙ ap (λ (k : ℕ). pending LinkUp (sum_of dev.clock (nanos_of (entry_of setup k).dl_up))) (zero-add i)
    ∙ ap (λ (n : ℕ). pending LinkUp (at n)) (sum_code dev.clock (entry_of setup i).dl_up c)

-- PowerState from 3 to 0 at clock c: Pending until c + D3hot time.
pub d3hot_starts : (clock : Nanos) (entry : Slot) → clock.0 ≤ 1000000000000000000 → started_by_d3hot clock entry ≡ pending D3hot (at (clock.0 + (nanos_of entry.d3hot).0))
unfolding started_by_d3hot
d3hot_starts clock entry c = ap (λ (n : ℕ). pending D3hot (at n)) (sum_code clock entry.d3hot c)

least_min : (s t : Nanos) → (least_of s t).0 ≡ min s.0 t.0
unfolding least_of
least_min s t = by (leb s.0 t.0) refl
  where
    by : (b : Bool) → leb s.0 t.0 ≡ b → (cond b s t).0 ≡ min s.0 t.0
    by true e = let h = leb-true s.0 t.0 e in omega arith
    by false e = let h = leb-false s.0 t.0 e in omega arith

-- FLR at clock c with T the FLR Time: in progress until c + min(T, 100,000,000), Pending until c + T.
pub flr_starts : (clock : Nanos) (entry : Slot) → clock.0 ≤ 1000000000000000000
    → (let t = (nanos_of entry.flr).0 in started_by_flr clock entry ≡ pending (Flr (at (clock.0 + min t 100000000))) (at (clock.0 + t)))
unfolding started_by_flr
flr_starts clock entry c =
    let t = nanos_of entry.flr in
    let least = least_min t flr_most in
    ap₂ (λ (e n : ℕ). pending (Flr (at e)) (at n))
    (sum_plain clock (least_of t flr_most) (let m = code_most entry.flr in omega arith) ∙ ap (λ (n : ℕ). clock.0 + n) least) (sum_code clock entry.flr c)

-- An FLR is in progress exactly while the clock is before its end.
pub in_progress_exactly : (clock end t : Nanos) → (flr_in_progress clock (pending (Flr end) t) ≡ true) ↔ (clock.0 < end.0)
in_progress_exactly clock end t = (λ e. ltb-true clock.0 end.0 e, λ h. lt-ltb clock.0 end.0 h)

-- ---- how a DRS is signalled

-- With signalling 2, an FRS with the port's ID and reason 1, if DRS Received goes from 0 to 1;
pub drs_sends_frs : (port_id : ℕ) (d : Dev) → d.drs_received ≡ false → d.control.signalling ≡ 2 → frs_of_drs port_id d ≡ record { id = port_id; reason = 1 } ∷ []
unfolding frs_of_drs
drs_sends_frs port_id d e f = rw (e, eq-eqb d.control.signalling 2 f)

-- else none.
pub drs_sends_none : (port_id : ℕ) (d : Dev) → (d.drs_received ≡ true) ⊎ (d.control.signalling ≢ 2) → frs_of_drs port_id d ≡ []
unfolding frs_of_drs
drs_sends_none port_id d (inl e) = rw e
drs_sends_none port_id d (inr n) = rw (ne_eqb d.control.signalling 2 n, and-false (not d.drs_received))

-- The DRS interrupt is raised exactly with signalling 1, if DRS Received goes from 0 to 1.
pub drs_interrupt_exactly : (d : Dev) → (drs_interrupt d ≡ true) ↔ ((d.drs_received ≡ false) × (d.control.signalling ≡ 1))
drs_interrupt_exactly d = (λ e. (not-true d.drs_received (both_left _ _ e), eqb-true d.control.signalling 1 (both_right (not d.drs_received) _ e)), λ h. rw (h.0, eq-eqb d.control.signalling 1 h.1))

-- ---- what link up, link down and cold reset leave of the port

-- Link up: the link is up and a DRS is owed; clock, DRS Received, control bits and queue stay.
pub link_up_port : (d : Dev) → after_link_up d ≡ record { clock = d.clock; link = true; owed = true; drs_received = d.drs_received; control = d.control; queue = d.queue }
link_up_port d = refl

-- Link down: the link is down, nothing is owed, the queue is emptied; of the port's bits DRS Received is cleared. The clock stays.
pub link_down_port : (d : Dev)
    → after_link_down d
    ≡ record {
      clock = d.clock;
      link = false;
      owed = false;
      drs_received = false;
      control = d.control;
      queue = record { start = 0; depth = 0; received = d.queue.received; overflow = d.queue.overflow };
    }
unfolding after_link_down after_reset
link_down_port d = refl

-- Cold reset: the same, and all six of the port's bits are cleared.
pub cold_reset_port : (d : Dev)
    → after_cold_reset d
    ≡ record {
      clock = d.clock;
      link = false;
      owed = false;
      drs_received = false;
      control = record { visibility = false; frs_interrupt = false; signalling = 0 };
      queue = record { start = 0; depth = 0; received = false; overflow = false };
    }
unfolding after_cold_reset after_reset
cold_reset_port d = refl
