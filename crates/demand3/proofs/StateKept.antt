-- The device at the bench fulfils what the theorem on lists of calls asks: from a set-up that isn't refused and sound memory on, every record
-- keeps the state sound and the lengths as they are lent.
use Prim.Native.Nat.{ℕ, zero, suc, ◌-◌, ◌<◌}
use mathlib.Core.Path.{◌≡◌, refl, ap, sym, ◌∙◌}
use mathlib.Core.Bool.{true}
use mathlib.Core.List.{List, [], ◌∷◌}
use lib.ListN.{length, take}
use borrow.Author.Tests.{le-leb}
use Rattle.times.specs.Codes.{allowed}
use Rattle.readiness.specs.declared.Setup.{Setup}
use Rattle.trace.specs.Format.{begun, next, Bytes}
use Rattle.trace.specs.Bench.{Bench}
use Rattle.trace.specs.Lent.{refusal}
use Rattle.trace.specs.inner.Keeps.{Keeps}
use Rattle.trace.proofs.Lists.{take-pad}
use Rattle.trace.proofs.Gathering.{begun_short}
use Rattle.trace.proofs.Laws.{begun_is, incomplete_begun}
use Rattle.trace.proofs.Refusing.{refusal_none, refusal_accepted}
use Rattle.records.specs.State.{State}
use Rattle.records.specs.Sound.{sound, Sound, Fitting}
use Rattle.records.proofs.SoundFacts.{exact_fits}
use Rattle.records.specs.StaysSound.{SoundSetup}
use Rattle.records.proofs.Kept.{keeps_itself}
use Rattle.demand3.specs.Held.{Held, state_of, carried_of, held_of}
use Rattle.demand3.specs.Refusals.{set_up_refusal, sound_held}
use Rattle.demand3.specs.Feeding.{bench}
use Rattle.demand3.specs.Compared.{Typed}
use Rattle.demand3.proofs.Refusals.{refusal_held}
use Rattle.demand3.proofs.Good.{Good as GoodSince, good_keeps}
use Rattle.demand3.proofs.Numbers.{sound-says, set_up_facts}

-- the first n of some bytes are bytes
pub bytes_take : (n : ℕ) (bs : List ℕ) → Bytes bs → Bytes (take n bs)
bytes_take zero bs b = tt
bytes_take (suc n) [] b = tt
bytes_take (suc n) (x ∷ bs) b = (b.0, bytes_take n bs b.1)

-- ---- a set-up that isn't refused
pub accepted_state : (setup : Setup) (defaults : List ℕ) (h : Held) → set_up_refusal setup defaults h ≡ 0 → Fitting setup defaults (state_of h)
accepted_state setup defaults h e =
    let f = (set_up_facts setup defaults h e).lengths in exact_fits setup defaults (state_of h) f.some f.most f.per_slot f.words f.default_words

pub accepted_setup : (setup : Setup) (defaults : List ℕ) (h : Held) → setup.bus < 256 → setup.port_id < 65536 → set_up_refusal setup defaults h ≡ 0 → SoundSetup setup
unfolding allowed
accepted_setup setup defaults h b p e =
    let c = (set_up_facts setup defaults h e).codes in
    record {
      bus = b;
      port_id = p;
      codes = λ i l. record { dl_up = le-leb _ 0xA1E (c i l).dl_up; flr = le-leb _ 0xA1E (c i l).flr; d3hot = le-leb _ 0xA1E (c i l).d3hot };
    }

-- what a call leaves of a sound state is sound memory
pub kept-sound : (setup : Setup) (p : Bench State) → Sound setup p.state → begun p.carried ≡ true → sound_held setup (held_of p) ≡ true
kept-sound setup p s b =
    (sound-says setup (held_of p)).tested (record { state = s; count = begun_short p.carried b; carried = ap next (take-pad 16 p.carried) ∙ begun_is p.carried b })

module _ (setup : Setup) (defaults : List ℕ) (h : Held) (t : Typed setup h) where
  -- a good state: the set-up isn't refused, the state is sound, and its lengths are as they were lent
  pub record Good (s : State) : Type 0 where
    pub set_up : set_up_refusal setup defaults h ≡ 0
    pub since : GoodSince setup defaults (state_of h) s

  start_good : refusal (bench setup defaults) h ≡ 0 → Good (state_of h)
  start_good e =
      let a = refusal_accepted (bench setup defaults) h e in
      record {
        set_up = a.0;
        since = record {
          setup = accepted_setup setup defaults h t.bus t.port_id a.0;
          kept = keeps_itself setup defaults (state_of h) ((sound-says setup h).holds a.1).state (accepted_state setup defaults h a.0);
        };
      }

  still_accepted : (p : Bench State) → Good p.state → begun p.carried ≡ true → refusal (bench setup defaults) (held_of p) ≡ 0
  still_accepted p g b =
      let k = g.since.kept in
      refusal_none (bench setup defaults) (held_of p)
      (sym (refusal_held setup defaults (held_of p) (length h.statuses) (length h.live) (length h.cells) k.statuses k.live k.cells)
      ∙ refusal_held setup defaults h (length h.statuses) (length h.live) (length h.cells) refl refl refl
      ∙ g.set_up)
      (kept-sound setup p k.sound b)

  -- THE DEVICE AT THE BENCH KEEPS ITS STATE GOOD
  pub keeps : Keeps (bench setup defaults) h Good
  keeps =
      record {
        good = start_good;
        carries = λ e. incomplete_begun (carried_of h.port) ((sound-says setup h).holds (refusal_accepted (bench setup defaults) h e).1).carried;
        run = λ s r w b g. record { set_up = g.set_up; since = good_keeps setup defaults (state_of h) s r w b g.since };
        kept = λ p g b. λ i. record { state = p.state; carried = take-pad 16 p.carried i; broken = p.broken };
        accepted = still_accepted;
      }
