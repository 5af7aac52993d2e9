-- Q-5 AT THE BENCH, proved as specs/OneReplay.antt states it.
use Prim.Native.Nat.{ℕ}
use mathlib.Core.Path.{◌≡◌, refl, sym, ◌∙◌}
use mathlib.Core.List.{List, [], ◌∷◌}
use Rattle.times.specs.declared.Nanos.{Nanos}
use Rattle.readiness.specs.declared.Setup.{Setup}
use Rattle.trace.specs.Calls.{Call, BytesIn, no_call, before, gave}
use Rattle.capture.specs.Advances.{advance}
use Rattle.capture.specs.Lent.{Fresh}
use Rattle.capture.specs.Calls.{trace_of, replay_calls as replay_calls_on}
use Rattle.capture.specs.AsOneTrace.{OneReplay}
use Rattle.capture.proofs.Theorem.{one_replay as one_replay_on}
use Rattle.demand3.specs.SettingUp.{sets_up}
use Rattle.demand3.specs.Feeding.{bench, plain_bench}
use Rattle.demand3.specs.Compared.{Typed, Shows, advance_by}
use Rattle.demand3.proofs.StateKept.{Good, keeps}
use Rattle.demand3.proofs.Prepared.{set_up_number, set_up_start}
use Rattle.demand3.proofs.Demand3.{shows}
use Rattle.replay_rules.specs.Replaying.{HeldWith, held_with, fresh_replay, replays, replay_calls}
use Rattle.replay_rules.specs.OneReplay.{Q5}

-- a record 01
advances_by : (t : Nanos) → advance t ≡ advance_by t.0
unfolding advance
advances_by t = refl

module _ (setup : Setup) (defaults : List ℕ) (h : HeldWith) where
  no_calls : replay_calls setup defaults h [] ≡ no_call h
  unfolding replay_calls_on
  no_calls = refl

  one_more : (c : Call) (cs : List Call)
      → (let x = replays setup defaults h c.input c.answers in replay_calls setup defaults h (c ∷ cs) ≡ before c x (replay_calls setup defaults x.held cs))
  unfolding replay_calls_on
  one_more c cs = refl

  -- a set-up that isn't refused, with a replay that has taken nothing
  from_set_up_lem : (sets_up setup defaults h.port).number ≡ 0 → Fresh (bench setup defaults) (held_with (sets_up setup defaults h.port).held fresh_replay)
  from_set_up_lem e = record { port = set_up_start setup defaults h.port (sym (set_up_number setup defaults h.port) ∙ e); fits = refl; replay = refl }

module _ (setup : Setup) (defaults : List ℕ) (h : HeldWith) (t : Typed setup h.port) where
  -- EVERY LIST OF REPLAY CALLS IS ONE TRACE ON THE PLAIN BENCH
  pub one_replay : (cs : List Call) → BytesIn cs → OneReplay (bench setup defaults) h cs (replay_calls setup defaults h cs)
  one_replay cs i = one_replay_on (bench setup defaults) h (Good setup defaults h.port t) (keeps setup defaults h.port t) cs i

  -- and the whole state is the plain bench's, part by part
  parts : (cs : List Call) → BytesIn cs → Fresh (bench setup defaults) h
      → (let z = replay_calls setup defaults h cs in
      Shows z.held.port (plain_bench setup defaults h.port (trace_of (bench setup defaults) z) (gave 31 z.outcomes)))
  parts cs i f =
      let z = replay_calls setup defaults h cs in
      shows z.held.port (plain_bench setup defaults h.port (trace_of (bench setup defaults) z) (gave 31 z.outcomes)) ((one_replay cs i).claim f).state

-- Q-5
pub q5 : Q5
q5 setup defaults h t =
    record {
      lists = one_replay setup defaults h t;
      none = no_calls setup defaults h;
      more = one_more setup defaults h;
      parts = parts setup defaults h t;
      advances = advances_by;
      from_set_up = from_set_up_lem setup defaults h;
    }
