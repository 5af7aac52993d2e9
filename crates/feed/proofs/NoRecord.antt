-- A call that runs no record, and what a call with a record can rely on.
use Prim.Native.Nat.{ℕ, ◌+◌, ◌-◌, ◌≤◌, ◌<◌}
use native.Mathlib.Omega.{arith}
use native.Mathlib.Nat.{sub-zero}
use mathlib.Core.Path.{◌≡◌, refl, sym, ap, ◌∙◌}
use mathlib.Core.List.{List, ◌++◌}
use lib.ListN.{length, get_or, take}
use mir.Syntax.{w8}
use mir.Val.{Fits}
use lib.Dec.{eqb}
use Rattle.trace.specs.Format.{Bytes, pad, next}
use Rattle.trace.specs.inner.Gathered.{whole_size, end_number, end_count}
use Rattle.trace.specs.Lent.{Left, refusal_or31}
use Rattle.bits.proofs.Bytes.{bytes_of, bytes_take}
use Rattle.trace.proofs.Refusing.{goes_on, feeds_no}
use Rattle.trace.proofs.Rejoin.{same_view}
use Rattle.readiness.specs.declared.Setup.{Setup}
use Rattle.records.specs.declared.Port.{Port}
use Rattle.demand3.specs.Held.{Held, held, opened, state_of, carried_of}
use Rattle.demand3.specs.Feeding.{bench, feeds}
use Rattle.std.specs.Prelude.{Err}
use Rattle.feed.specs.declared.FedPort.{FedPort}
use Rattle.feed.specs.inner.Calls.{NotRefused, carries_on, Opens}
use Rattle.feed.proofs.Accepting.{Accepted, accepted}
use Rattle.feed.proofs.Looping.{starts, ends, ended}
use Rattle.feed.proofs.Carried.{open_accepted}

-- what the types of code say of a call
pub record Typed (setup : Setup) (h : Held) (input : List ℕ) : Type 0 where
  pub bus : setup.bus < 256
  pub port_id : setup.port_id < 65536
  pub sixteen : length h.port.carried ≡ 16
  pub carried : Bytes (carried_of h.port)
  pub fed : Bytes input

-- the carried bytes are bytes
pub carried_bytes_lem : (p : Port) → ((i : ℕ) → Fits w8 (get_or p.carried i 0)) → Bytes (carried_of p)
carried_bytes_lem p f = bytes_take p.carried_len p.carried (bytes_of p.carried (λ i h. (f i).fits))

pub typed : (setup : Setup) (h : Held) (input : List ℕ) → setup.bus < 256 → setup.port_id < 65536 → length h.port.carried ≡ 16 → ((i : ℕ) → Fits w8 (get_or h.port.carried i 0)) → Bytes input
    → Typed setup h input
typed setup h input b p n f i = record { bus = b; port_id = p; sixteen = n; carried = carried_bytes_lem h.port f; fed = i }

module _ (setup : Setup) (defaults : List ℕ) (h : Held) (input room : List ℕ) where
  -- what a call leaves, with a port and the lent memory as it was
  abbrev leaves : FedPort → Left Held
  leaves r = record { number = r.number; consumed = r.consumed; written = r.written; held = held r.port h.statuses h.live h.cells; answers = room }

  abbrev rest : List ℕ
  rest = carried_of h.port ++ input

  -- one that is not refused and completes no record
  pub completes_none : Typed setup h input → refusal_or31 (bench setup defaults) h ≡ 0 → whole_size (length room) (next rest) ≡ 0 → leaves (carries_on h.port input) ≡ feeds setup defaults h input room
  completes_none t e q =
      let a = accepted setup defaults h e t.bus t.port_id in
      let p = h.port in
      let v =
      starts setup defaults p.carried p.carried_len input room (state_of h) p.dev h.statuses h.live h.cells refl
      a.fits.per_slot a.short t.sixteen a.good a.begun t.carried t.fed in
      let n = end_number (next rest) in
      let m = end_count rest (next rest) in
      let z : m - p.carried_len ≡ 0 + m - p.carried_len = omega arith in
      ◌∙◌ {A = Left Held}
      (λ i. record {
        number = n;
        consumed = z i;
        written = 0;
        held = held (record { dev = p.dev; carried = pad 16 (take m rest); carried_len = m; broken = eqb n 31 }) h.statuses h.live h.cells;
        answers = room;
      })
      (ended v n m (ends v (ap (λ (r : ℕ). whole_size r (next rest)) (sub-zero (length room)) ∙ q)) h refl refl e)

  -- one that is refused
  pub refused_feeds : (n : ℕ) → Opens setup defaults h input (length room) (Err n) → leaves (record { number = n; consumed = 0; written = 0; port = h.port }) ≡ feeds setup defaults h input room
  refused_feeds n o = feeds_no (bench setup defaults) h input room n o.0 o.1

  -- one that isn't refused carries at most 16 bytes
  pub carries_few : Typed setup h input → NotRefused setup defaults h → h.port.carried_len ≤ 16
  carries_few t e = (accepted setup defaults h e t.bus t.port_id).short

  -- with nothing carried, a call is one on a port that says so
  module _ (e : refusal_or31 (bench setup defaults) h ≡ 0) (a : Accepted setup defaults h) (none : h.port.carried_len ≡ 0) where
    abbrev fresh : Held
    fresh = held (opened h.port.dev) h.statuses h.live h.cells

    pub fresh_accepted : refusal_or31 (bench setup defaults) fresh ≡ 0
    fresh_accepted = open_accepted setup defaults h e (state_of h) refl refl refl a.good.kept.sound

    pub fresh-feeds : feeds setup defaults fresh input room ≡ feeds setup defaults h input room
    fresh-feeds =
        let z : carried_of h.port ≡ carried_of (opened h.port.dev) = ap (λ (n : ℕ). take n h.port.carried) none in
        sym (same_view (bench setup defaults) h fresh input room e fresh_accepted
        (λ i. record { state = state_of h; carried = z i; broken = (goes_on (bench setup defaults) h e).1 i }))
