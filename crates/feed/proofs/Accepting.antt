-- What a call that is not refused can rely on.
use Prim.Native.Nat.{ℕ, ◌≤◌, ◌<◌}
use mathlib.Core.Path.{◌≡◌}
use mathlib.Core.Bool.{true}
use mathlib.Core.List.{List}
use lib.ListN.{length}
use Rattle.trace.specs.Format.{begun}
use Rattle.trace.specs.Lent.{refusal_or31}
use Rattle.trace.proofs.Laws.{incomplete_begun}
use Rattle.trace.proofs.Refusing.{refusal_accepted, goes_on}
use Rattle.readiness.specs.declared.Setup.{Setup}
use Rattle.records.proofs.Kept.{keeps_itself}
use Rattle.demand3.specs.Held.{Held, state_of, carried_of}
use Rattle.demand3.specs.Feeding.{bench}
use Rattle.demand3.specs.GivenForNo.{Fits}
use Rattle.demand3.proofs.Numbers.{sound-says, set_up_facts}
use Rattle.demand3.proofs.StateKept.{accepted_state, accepted_setup}
use Rattle.demand3.proofs.Good.{Good}

module _ (setup : Setup) (defaults : List ℕ) (h : Held) where
  pub record Accepted : Type 0 where
    pub fits : Fits setup.slots (length h.statuses) (length h.live) (length defaults)
    pub short : h.port.carried_len ≤ 16
    pub begun : begun (carried_of h.port) ≡ true
    pub good : Good setup defaults (state_of h) (state_of h)

  pub accepted : refusal_or31 (bench setup defaults) h ≡ 0 → setup.bus < 256 → setup.port_id < 65536 → Accepted
  accepted e b p =
      let a = refusal_accepted (bench setup defaults) h (goes_on (bench setup defaults) h e).0 in
      let s = (sound-says setup h).holds a.1 in
      record {
        fits = (set_up_facts setup defaults h a.0).lengths;
        short = s.count;
        begun = incomplete_begun (carried_of h.port) s.carried;
        good = record {
          setup = accepted_setup setup defaults h b p a.0;
          kept = keeps_itself setup defaults (state_of h) s.state (accepted_state setup defaults h a.0);
        };
      }
