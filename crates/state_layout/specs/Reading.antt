-- A state image (case stream, version 2), as it is read. Bytes past its end count as 0: so a status that is not lent is Down.
use Rattle.std.specs.Prelude.{ℕ, zero, suc, ◌+◌, Bool, true, not, ◌&&◌, ◌||◌, cond, List, [], ◌∷◌, eqb, leb, drop}
use Rattle.bits.specs.Lists.{listed}
use Rattle.bits.specs.Bytes.{byte_at}
use Rattle.times.specs.declared.Nanos.{Nanos}
use Rattle.readiness.specs.declared.Cause.{Cause}
use Rattle.readiness.specs.declared.Cause.TheVariants.{LinkUp, Flr, D3hot}
use Rattle.readiness.specs.declared.Phase.{Phase}
use Rattle.readiness.specs.declared.Phase.TheVariants.{Down, Pending, Ready}
use Rattle.readiness.specs.declared.Status.{Status}
use Rattle.records.specs.declared.Port.{Port}
use Rattle.state_layout.specs.Numbers.{number_at}
use Rattle.state_layout.specs.Image.{not_kept}
pub use Rattle.state_layout.specs.Numbers.{time_at, yes}
pub use Rattle.state_layout.specs.Image.{control_in, queue_in, dev_in}

-- ---- A good image
-- a yes/no byte is 0 or 1
abbrev pub yes_or_no : ℕ → List ℕ → Bool
yes_or_no at l = leb (byte_at l at) 1

-- no moment of the last reset is kept; link, owed, Received, Overflow, DRS Received, visibility, FRS interrupt and broken are yes or no
unfoldable pub good_port : List ℕ → Bool
good_port l =
    eqb (number_at 8 8 l) not_kept
    && yes_or_no 16 l
    && yes_or_no 17 l
    && yes_or_no 18 l
    && yes_or_no 19 l
    && yes_or_no 20 l
    && yes_or_no 21 l
    && yes_or_no 22 l
    && yes_or_no 45 l

-- a phase is at most 2, a cause at most 3, a Pending slot has one, and no slot has a set of children
unfoldable pub good_status : List ℕ → Bool
good_status l = leb (byte_at l 0) 2 && leb (byte_at l 1) 3 && (not (eqb (byte_at l 0) 1) || not (eqb (byte_at l 1) 0)) && eqb (byte_at l 18) not_kept

unfoldable pub good_statuses : ℕ → List ℕ → Bool
good_statuses zero l = true
good_statuses (suc n) l = good_status l && good_statuses n (drop 27 l)

-- A GOOD IMAGE: no byte is out of its range
unfoldable pub is_good : List ℕ → Bool
is_good l = good_port l && good_statuses 32 (drop 46 l)

-- ---- What is read
-- the n bytes from an index on
unfoldable pub bytes_from : (n at : ℕ) → List ℕ → List ℕ
bytes_from n at l = listed n λ i. byte_at l (at + i)

-- THE PORT
unfoldable pub port_in : List ℕ → Port
port_in l = record { dev = dev_in l; carried = bytes_from 16 29 l; carried_len = byte_at l 28; broken = yes 45 l }

-- what a status has no use for is ignored
abbrev pub cause_in : (cause : ℕ) → (end : Nanos) → Cause
cause_in cause end = cond (eqb cause 1) LinkUp (cond (eqb cause 2) (Flr end) D3hot)

abbrev pub phase_in : (phase : ℕ) → Cause → (ready : Nanos) → Phase
phase_in phase cause ready = cond (eqb phase 0) Down (cond (eqb phase 1) (Pending cause ready) Ready)

-- a status, from its first byte on
unfoldable pub status_in : List ℕ → Status
status_in l = record { phase = phase_in (byte_at l 0) (cause_in (byte_at l 1) (time_at 10 l)) (time_at 2 l) }

-- THE STATUSES, from the first one's first byte on
unfoldable pub statuses_in_bytes : ℕ → List ℕ → List Status
statuses_in_bytes zero l = []
statuses_in_bytes (suc n) l = status_in l ∷ statuses_in_bytes n (drop 27 l)
