-- What is read from a state image that was written: the state.
use Prim.Native.Nat.{ℕ, zero, suc, ◌+◌, ◌*◌, ◌%◌, ◌<◌}
use mathlib.Core.Path.{◌≡◌, refl, ap, sym, ◌∙◌}
use mathlib.Core.Bool.{Bool, true, false}
use mathlib.Core.List.{List, [], ◌∷◌, ◌++◌, append_assoc}
use native.Mathlib.Omega.{arith}
use native.Mathlib.Nat.{zero-add}
use lib.Dec.{eqb, leb}
use lib.ListN.{length, drop, get_or, replicate, length-append, get_or-append}
use lib.Seq.{get_or_at, get_or-append-add, drop_at}
use Rattle.bits.specs.Bits.{one}
use Rattle.bits.proofs.Bits.{is_one}
use Rattle.bits.proofs.Tests.{both}
use Rattle.bits.proofs.Lists.{is_listed}
use Rattle.readiness.specs.declared.Cause.TheVariants.{LinkUp, Flr, D3hot}
use Rattle.readiness.specs.declared.Phase.{Phase}
use Rattle.readiness.specs.declared.Phase.TheVariants.{Down, Pending, Ready}
use Rattle.readiness.specs.declared.Status.{Status}
use Rattle.readiness.specs.declared.Dev.{Dev}
use Rattle.readiness.specs.Status.{down}
use Rattle.records.specs.declared.Port.{Port}
use Rattle.state_layout.specs.Numbers.{low_first, number_of, number_at}
use Rattle.state_layout.specs.Image.{single_bytes, dev_bytes, up_to, port_bytes, ready_time, flr_end, status_bytes, statuses_bytes, state_bytes}
use Rattle.bits.specs.Bytes.{byte_at}
use Rattle.state_layout.specs.Reading.{good_port, good_status, good_statuses, is_good, bytes_from, port_in, status_in, statuses_in_bytes}
use Rattle.state_layout.proofs.Numbers.{room, number-low}

-- ---- Lengths
pub length_up_to : (n : ℕ) (l : List ℕ) → length (up_to n l) ≡ length l
unfolding up_to
length_up_to n [] = refl
length_up_to zero (b ∷ l) = ap suc (length_up_to zero l)
length_up_to (suc n) (b ∷ l) = ap suc (length_up_to n l)

pub length_dev : (d : Dev) → length (dev_bytes d) ≡ 28
unfolding dev_bytes single_bytes low_first
length_dev d = refl

pub length_port : (p : Port) → length p.carried ≡ 16 → length (port_bytes p) ≡ 46
unfolding port_bytes dev_bytes single_bytes low_first
length_port p e =
    let x = up_to p.carried_len p.carried in omega (arith, length-append x (one p.broken ∷ []), length_up_to p.carried_len p.carried, e)

pub length_status : (s : Status) → length (status_bytes s) ≡ 27
unfolding status_bytes low_first
length_status s = refl

pub length_statuses : (l : List Status) → length (statuses_bytes l) ≡ 27 * length l
unfolding statuses_bytes
length_statuses [] = refl
length_statuses (s ∷ l) = length-append (status_bytes s) (statuses_bytes l) ∙ omega (arith, length_status s, length_statuses l)

-- ---- A yes/no byte
yes_or_no : (b : Bool) → leb (one b) 1 ≡ true
yes_or_no true = refl
yes_or_no false = refl

-- ---- The port
-- numbers that the layout has room for: what ports of the code have, as long as the count of carried bytes is below 256 and the queue
-- has below 65,536 cells
pub record Fits (p : Port) : Type 0 where
  pub clock : p.dev.clock.0 < room 8
  pub start : p.dev.queue.start < room 2
  pub depth : p.dev.queue.depth < room 2
  pub count : p.carried_len < room 1
  pub carried : length p.carried ≡ 16

-- the port, with its carried bytes past the count as 0
abbrev pub kept : Port → Port
kept p = record { dev = p.dev; carried = up_to p.carried_len p.carried; carried_len = p.carried_len; broken = p.broken }

count_back : (n : ℕ) → n < room 1 → n % 256 ≡ n
count_back n h = omega (arith, h)

module _ (p : Port) (rest : List ℕ) (e : length p.carried ≡ 16) where
  abbrev bytes : List ℕ
  bytes = up_to p.carried_len p.carried

  long : length bytes ≡ 16
  long = length_up_to p.carried_len p.carried ∙ e

  broken_back : byte_at (port_bytes p ++ rest) 45 ≡ one p.broken
  unfolding port_bytes dev_bytes single_bytes low_first
  broken_back = ap (λ (l : List ℕ). get_or l 16 0) (append_assoc bytes (one p.broken ∷ []) rest) ∙ get_or_at bytes (one p.broken) rest 0 16 long

  carried_at : (i : ℕ) → i < 16 → get_or bytes i 0 ≡ byte_at (port_bytes p ++ rest) (29 + i)
  unfolding port_bytes dev_bytes single_bytes low_first
  carried_at i h =
      sym (get_or-append bytes (one p.broken ∷ rest) 0 i (omega (arith, h, long)))
      ∙ ap (λ (l : List ℕ). get_or l i 0) (sym (append_assoc bytes (one p.broken ∷ []) rest))
      ∙ sym (get_or-append-add (dev_bytes p.dev ++ low_first 1 p.carried_len) ((bytes ++ one p.broken ∷ []) ++ rest) i 0)

  carried_back : bytes_from 16 29 (port_bytes p ++ rest) ≡ bytes
  unfolding bytes_from
  carried_back = sym (is_listed bytes 16 (λ i. byte_at (port_bytes p ++ rest) (29 + i)) long carried_at)

  good_port_lem : good_port (port_bytes p ++ rest) ≡ true
  unfolding good_port port_bytes dev_bytes single_bytes low_first number_at number_of
  good_port_lem =
      let d = p.dev in
      both _ _
      (both _ _
      (both _ _
      (both _ _
      (both _ _ (both _ _ (both _ _ (yes_or_no d.link) (yes_or_no d.owed)) (yes_or_no d.queue.received)) (yes_or_no d.queue.overflow))
      (yes_or_no d.drs_received))
      (yes_or_no d.control.visibility))
      (yes_or_no d.control.frs_interrupt))
      (ap (λ (b : ℕ). leb b 1) broken_back ∙ yes_or_no p.broken)

  -- THE PORT BACK, whatever follows it
  pub port_back : Fits p → port_in (port_bytes p ++ rest) ≡ kept p
  unfolding port_in port_bytes dev_bytes single_bytes low_first number_at
  port_back f =
      let d = p.dev in
      λ i.
      record {
        dev =
            record {
              clock = record { 0 = number-low 8 d.clock.0 f.clock i };
              link = is_one d.link i;
              owed = is_one d.owed i;
              drs_received = is_one d.drs_received i;
              control = record { visibility = is_one d.control.visibility i; frs_interrupt = is_one d.control.frs_interrupt i; signalling = d.control.signalling };
              queue =
                  record {
                    start = number-low 2 d.queue.start f.start i;
                    depth = number-low 2 d.queue.depth f.depth i;
                    received = is_one d.queue.received i;
                    overflow = is_one d.queue.overflow i;
                  };
            };
        carried = carried_back i;
        carried_len = count_back p.carried_len f.count i;
        broken = (ap (λ (b : ℕ). eqb b 1) broken_back ∙ is_one p.broken) i;
      }

-- ---- The statuses
-- times that the layout has room for: what statuses of the code have
abbrev pub TimesFit : Phase → Type 0
TimesFit p = (ready_time p < room 8) × (flr_end p < room 8)

phase_back : (p : Phase) (rest : List ℕ) → TimesFit p → (status_in (status_bytes (record { phase = p }) ++ rest)).phase ≡ p
unfolding status_in status_bytes low_first number_at
phase_back Down rest h = refl
phase_back (Pending LinkUp t) rest h = λ i. Pending LinkUp (record { 0 = number-low 8 t.0 h.0 i })
phase_back (Pending (Flr end) t) rest h = λ i. Pending (Flr (record { 0 = number-low 8 end.0 h.1 i })) (record { 0 = number-low 8 t.0 h.0 i })
phase_back (Pending D3hot t) rest h = λ i. Pending D3hot (record { 0 = number-low 8 t.0 h.0 i })
phase_back Ready rest h = refl

-- A STATUS BACK, exactly
pub status_back : (s : Status) (rest : List ℕ) → TimesFit s.phase → status_in (status_bytes s ++ rest) ≡ s
status_back s rest h = λ i. record { phase = phase_back s.phase rest h i }

good_phase : (p : Phase) (rest : List ℕ) → good_status (status_bytes (record { phase = p }) ++ rest) ≡ true
unfolding good_status status_bytes low_first
good_phase Down rest = refl
good_phase (Pending LinkUp t) rest = refl
good_phase (Pending (Flr end) t) rest = refl
good_phase (Pending D3hot t) rest = refl
good_phase Ready rest = refl

none_good : good_status [] ≡ true
unfolding good_status
none_good = refl

good_statuses_lem : (n : ℕ) (l : List Status) → good_statuses n (statuses_bytes l) ≡ true
unfolding good_statuses statuses_bytes
good_statuses_lem zero l = refl
good_statuses_lem (suc n) [] = both _ _ none_good (good_statuses_lem n [])
good_statuses_lem (suc n) (s ∷ l) = both _ _ (good_phase s.phase (statuses_bytes l)) (ap (good_statuses n) (drop_at (status_bytes s) (statuses_bytes l) 27 (length_status s)) ∙ good_statuses_lem n l)

none_down : status_in [] ≡ down
unfolding status_in number_at
none_down = refl

none_back : (n : ℕ) → statuses_in_bytes n [] ≡ replicate n down
unfolding statuses_in_bytes
none_back zero = refl
none_back (suc n) = λ i. none_down i ∷ none_back n i

-- THE STATUSES BACK, and Down for each that is not lent
pub statuses_back : (l : List Status) (more n : ℕ) → length l + more ≡ n → ((i : ℕ) → i < length l → TimesFit (get_or l i down).phase)
    → statuses_in_bytes n (statuses_bytes l) ≡ l ++ replicate more down
unfolding statuses_bytes statuses_in_bytes
statuses_back [] more n e h = none_back n ∙ ap (λ (k : ℕ). replicate k down) (sym e ∙ zero-add more)
statuses_back (s ∷ l) more zero e h = absurd (omega (arith, e))
statuses_back (s ∷ l) more (suc n) e h =
    λ i. status_back s (statuses_bytes l) (h 0 (omega arith)) i
    ∷ (ap (statuses_in_bytes n) (drop_at (status_bytes s) (statuses_bytes l) 27 (length_status s))
    ∙ statuses_back l more n (omega (arith, e)) (λ j k. h (suc j) (omega (arith, k)))) i

port_good : (p : Port) (l : List Status) → Fits p → good_port (state_bytes p l) ≡ true
unfolding state_bytes
port_good p l f = good_port_lem p (statuses_bytes l) f.carried

-- ---- THE STATE
module _ (p : Port) (l : List Status) (f : Fits p) where
  past : drop 46 (state_bytes p l) ≡ statuses_bytes l
  unfolding state_bytes
  past = drop_at (port_bytes p) (statuses_bytes l) 46 (length_port p f.carried)

  -- what was written is a good image
  pub written_good : is_good (state_bytes p l) ≡ true
  unfolding is_good
  written_good = both _ _ (port_good p l f) (ap (good_statuses 32) past ∙ good_statuses_lem 32 l)

  -- from it the port is read, with its carried bytes past the count as 0
  pub port_read_back : port_in (state_bytes p l) ≡ kept p
  unfolding state_bytes
  port_read_back = port_back p (statuses_bytes l) f.carried f

  -- and the lent statuses, as they were
  pub statuses_read_back : (more : ℕ) → length l + more ≡ 32 → ((i : ℕ) → i < length l → TimesFit (get_or l i down).phase)
      → statuses_in_bytes 32 (drop 46 (state_bytes p l)) ≡ l ++ replicate more down
  statuses_read_back more e h = ap (statuses_in_bytes 32) past ∙ statuses_back l more 32 e h
