-- NUMBERS THAT A REPLAY CALL GIVES, proved as specs/GivenForNo.antt states them.
use Prim.Native.Nat.{ℕ, suc, ◌-◌, ◌<◌}
use mathlib.Core.Path.{◌≡◌, ap, sym, subst, ◌∙◌}
use mathlib.Core.Bool.{true, false, cond}
use mathlib.Core.List.{List, [], ◌∷◌, ◌++◌}
use mathlib.Core.Logic.{◌⊎◌, inl, inr}
use native.Mathlib.Omega.{arith}
use lib.Dec.{eqb}
use lib.ListN.{length, get_or, drop}
use borrow.Author.Tests.{eq-eqb}
use Rattle.bits.proofs.Tests.{split, both_right, untrue, not_both}
use Rattle.readiness.specs.declared.Setup.{Setup}
use Rattle.trace.specs.Format.{known, next, complete}
use Rattle.trace.specs.Lent.{Lent, Left}
use Rattle.trace.proofs.Lists.{take-pad}
use Rattle.trace.proofs.Records.{complete_at, incomplete_at}
use Rattle.trace.proofs.Refusing.{refusal_set_up, refusal_unsound, refusal_none}
use Rattle.records.specs.State.{State}
use Rattle.records.specs.Device.{device}
use Rattle.records.proofs.Routes.{Reason, because, in_list}
use Rattle.capture.specs.Replay.{Progress, replay_open}
use Rattle.capture.specs.Lent.{progress_in, stamp_fits, replay_of, matching, refusal_with, stops_first}
use Rattle.capture.specs.Ending.{KindNext as AtKind, InOrder, EndsWith, all_consumed, advance-waits, record_waits, no_kind, went_back, kind_01}
use Rattle.capture.proofs.Kept.{read_kept}
use Rattle.capture.proofs.Reasons.{matched_stands, matched_ended, ends-from}
use Rattle.capture.proofs.Refusing.{refuses-first, refuses_unmatched, refuses_not, stops_refused, stops_ended, stops_broken, stops_not, replays_stopped, replays_open}
use Rattle.demand3.specs.Held.{Held, carried_of, bench_of}
use Rattle.demand3.specs.Refusals.{set_up_refusal, sound_held}
use Rattle.demand3.specs.Feeding.{bench}
use Rattle.demand3.specs.GivenForNo.{QueueFits, AllCodesFit, AllDefaultsFit, HeldSound, LengthsFit, SetUpFacts}
use Rattle.demand3.proofs.Numbers.{sound-says, set_up_cases, given_0, given_1, given_2, given_3, given_4}
use Rattle.replay_rules.specs.Replaying.{HeldWith}
use Rattle.replay_rules.specs.GivenForNo.{KindNext, WentBack, Advance, Forward, AdvanceWaits, RecordWaits, UnknownKind, number_given, carried_after, progress_after, not_consumed, room_left, Matched, Open, ReplayNumbers, EveryReplayNumber}

-- ---- where a call ends: one reason only
no_first : {P : Type 0} {rest more : List ℕ} {b : ℕ} → rest ≡ [] → rest ≡ b ∷ more → P
no_first e f = absurd (omega (arith, ap length (sym e ∙ f)))

same_first : {rest more most : List ℕ} {a b : ℕ} → rest ≡ a ∷ more → rest ≡ b ∷ most → a ≡ b
same_first e f = ap (λ (l : List ℕ). get_or l 0 0) (sym e ∙ f)

-- a byte is 01 and is not
first_01 : {b : ℕ} {P : Type 0} {rest more most : List ℕ} → rest ≡ 1 ∷ more → rest ≡ b ∷ most → eqb b 1 ≡ false → P
first_01 {b} e f n = not_both (eq-eqb b 1 (same_first f e)) n

-- an unknown kind ends no record
first_unknown : {b a : ℕ} {P : Type 0} {c rest more most : List ℕ} → c ≡ [] → rest ≡ a ∷ more → known a ≡ false → rest ≡ b ∷ most → next (c ++ b ∷ []) ≡ complete (c ++ b ∷ []) → P
first_unknown {b} n e k f l =
    let alone : next (b ∷ []) ≡ complete (b ∷ []) = subst (λ (x : List ℕ). next (x ++ b ∷ []) ≡ complete (x ++ b ∷ [])) n l in
    not_both (complete_at (b ∷ []) (b ∷ []) alone).kind (ap known (sym (same_first e f)) ∙ k)

module _ (c : List ℕ) (r : Progress) (room : ℕ) (rest : List ℕ) (n : ℕ) where
  abbrev Ends : Type 0
  Ends = EndsWith c r room rest n

  ends_32 : Ends → WentBack c r rest → n ≡ 32
  ends_32 (all_consumed z e) w = no_first e w.kind.next
  ends_32 (advance-waits b more z e o l s) w = not_both w.back o.forward
  ends_32 (record_waits b more z e l o s) w = not_both w.back (o w.kind.none).0.forward
  ends_32 (no_kind b more z e o l k) w = not_both w.back o.forward
  ends_32 (went_back b more z e k f) w = z
  ends_32 (kind_01 b more z e k f q) w = not_both w.back f

  ends_33 : Ends → Advance c r rest → n ≡ 33
  ends_33 (all_consumed z e) w = no_first e w.kind.next
  ends_33 (advance-waits b more z e o l s) w = first_01 w.kind.next e o.no_advance
  ends_33 (record_waits b more z e l o s) w = first_01 w.kind.next e (o w.kind.none).0.no_advance
  ends_33 (no_kind b more z e o l k) w = first_01 w.kind.next e o.no_advance
  ends_33 (went_back b more z e k f) w = not_both f w.forward
  ends_33 (kind_01 b more z e k f q) w = z

  ends_31 : Ends → UnknownKind c r rest → n ≡ 31
  ends_31 (all_consumed z e) w = no_first e w.forward.kind.next
  ends_31 (advance-waits b more z e o l s) w = absurd (omega (arith, w.answered))
  ends_31 (record_waits b more z e l o s) w = first_unknown w.forward.kind.none w.forward.kind.next w.unknown e l
  ends_31 (no_kind b more z e o l k) w = z
  ends_31 (went_back b more z e k f) w = not_both f w.forward.forward
  ends_31 (kind_01 b more z e k f q) w = first_01 (e ∙ ap (λ (x : ℕ). x ∷ more) q) w.forward.kind.next w.forward.other

  ends-advance : Ends → AdvanceWaits c r rest → n ≡ 30
  ends-advance (all_consumed z e) w = no_first e w.forward.kind.next
  ends-advance (advance-waits b more z e o l s) w = z
  ends-advance (record_waits b more z e l o s) w = z
  ends-advance (no_kind b more z e o l k) w = absurd (omega (arith, w.due))
  ends-advance (went_back b more z e k f) w = not_both f w.forward.forward
  ends-advance (kind_01 b more z e k f q) w = first_01 (e ∙ ap (λ (x : ℕ). x ∷ more) q) w.forward.kind.next w.forward.other

  ends_record : Ends → RecordWaits c r rest → n ≡ 30
  ends_record (all_consumed z e) w = no_first e w.front
  ends_record (advance-waits b more z e o l s) w = z
  ends_record (record_waits b more z e l o s) w = z
  ends_record (no_kind b more z e o l k) w = first_unknown o.next.between e k w.front w.last
  ends_record (went_back b more z e k f) w = not_both f (w.answered k.between).0.forward
  ends_record (kind_01 b more z e k f q) w = let o = (w.answered k.between).0 in first_01 (e ∙ ap (λ (x : ℕ). x ∷ more) q) o.kind.next o.other

  ends_0 : Ends → rest ≡ [] → n ≡ 0
  ends_0 (all_consumed z e) w = z
  ends_0 (advance-waits b more z e o l s) w = no_first w e
  ends_0 (record_waits b more z e l o s) w = no_first w e
  ends_0 (no_kind b more z e o l k) w = no_first w e
  ends_0 (went_back b more z e k f) w = no_first w e
  ends_0 (kind_01 b more z e k f q) w = no_first w e

-- the kind byte is next, and is in order
next_of : {b : ℕ} {more c rest : List ℕ} {r : Progress} → rest ≡ b ∷ more → AtKind c r → KindNext c r b rest
next_of {b} {more} e k = record { more = more; next = e; none = k.between; stamped = k.stamped }

forward_of : {b : ℕ} {more c rest : List ℕ} {r : Progress} → rest ≡ b ∷ more → InOrder c r b → Forward c r rest b
forward_of e o = record { kind = next_of e o.next; forward = o.forward; other = o.no_advance }

-- ---- replay
module _ (setup : Setup) (defaults : List ℕ) (h : HeldWith) (input answers : List ℕ) where
  abbrev L : Lent State Held
  L = bench setup defaults

  abbrev number : ℕ
  number = number_given setup defaults h input answers

  abbrev carried : List ℕ
  carried = carried_after setup defaults h input answers

  abbrev progress : Progress
  progress = progress_after setup defaults h input answers

  abbrev room : ℕ
  room = room_left setup defaults h input answers

  abbrev rest : List ℕ
  rest = not_consumed setup defaults h input answers

  abbrev Fits : Type 0
  Fits = Matched setup defaults h

  abbrev Opened : Type 0
  Opened = Open setup defaults h

  -- ---- what stops it first
  stopped : (n : ℕ) → stops_first L h ≡ suc n → number ≡ suc n
  stopped n e = ap (λ (x : Left HeldWith). x.number) (replays_stopped L h input answers n e)

  by_set_up : (n : ℕ) → set_up_refusal setup defaults h.port ≡ suc n → number ≡ suc n
  by_set_up n e = stopped n (stops_refused L h n (refuses-first L h n (refusal_set_up L h.port n e)))

  unsound_5 : SetUpFacts setup defaults h.port → sound_held setup h.port ≡ false → number ≡ 5
  unsound_5 f e = stopped 4 (stops_refused L h 4 (refuses-first L h 4 (refusal_unsound L h.port (given_0 setup defaults h.port f) e)))

  unmatched_5 : SetUpFacts setup defaults h.port → sound_held setup h.port ≡ true → matching L h ≡ false → number ≡ 5
  unmatched_5 f s e = stopped 4 (stops_refused L h 4 (refuses_unmatched L h (refusal_none L h.port (given_0 setup defaults h.port f) s) e))

  gives_5 : SetUpFacts setup defaults h.port × ((HeldSound setup h.port × (matching L h ≡ true)) → ⊥) → number ≡ 5
  gives_5 f =
      split (sound_held setup h.port)
      (λ s. unmatched_5 f.0 s (untrue (matching L h) (λ m. f.1 ((sound-says setup h.port).holds s, m))))
      (unsound_5 f.0)

  taken : Fits → refusal_with L h ≡ 0
  taken m =
      refuses_not L h
      (refusal_none L h.port (given_0 setup defaults h.port m.accepted.set_up) ((sound-says setup h.port).tested m.accepted.sound))
      m.matches

  ended-before : (n : ℕ) → Fits → h.replay.ended ≡ suc n → number ≡ suc n
  ended-before n m e = stopped n (stops_ended L h n (taken m) e)

  broken_31 : Fits → h.replay.ended ≡ 0 → h.port.port.broken ≡ true → number ≡ 31
  broken_31 m e b = stopped 30 (stops_broken L h (taken m) e b)

  -- ---- where it ends, if nothing does
  ends : Opened → EndsWith carried progress room rest number
  ends o =
      let p = bench_of h.port in
      let r = progress_in h.replay in
      let f = replay_open (device setup defaults) p r (length answers) input in
      let v = matched_stands p.carried r (incomplete_at p.carried o.matched.accepted.sound.carried) (both_right (stamp_fits h.replay) _ o.matched.matches) in
      subst (λ (x : Left HeldWith). EndsWith (carried_of x.held.port.port) (progress_in x.held.replay) (length answers - x.written) (drop x.consumed input) x.number)
      (sym (replays_open L h input answers (stops_not L h (taken o.matched) o.not_ended o.unbroken)))
      (subst (λ (c : List ℕ). EndsWith c (progress_in (replay_of f.progress)) (length answers - length f.answers) (drop f.consumed input) f.number) (sym (take-pad 16 f.bench.carried))
      (subst (λ (q : Progress). EndsWith f.bench.carried q (length answers - length f.answers) (drop f.consumed input) f.number) (sym (read_kept f.progress))
      (ends-from (device setup defaults) input p r (length answers) v)))

  -- ---- what each number says
  abbrev Is32 : Type 0
  Is32 = (Fits × (h.replay.ended ≡ 32)) ⊎ (Opened × WentBack carried progress rest)

  abbrev Is33 : Type 0
  Is33 = (Fits × (h.replay.ended ≡ 33)) ⊎ (Opened × Advance carried progress rest)

  abbrev Is31 : Type 0
  Is31 = (Fits × (h.replay.ended ≡ 0) × (h.port.port.broken ≡ true)) ⊎ (Opened × UnknownKind carried progress rest)

  abbrev Is30 : Type 0
  Is30 = Opened × (AdvanceWaits carried progress rest ⊎ RecordWaits carried progress rest) × (room < 8)

  gives_32 : Is32 → number ≡ 32
  gives_32 (inl f) = ended-before 31 f.0 f.1
  gives_32 (inr f) = ends_32 _ _ _ _ _ (ends f.0) f.1

  gives_33 : Is33 → number ≡ 33
  gives_33 (inl f) = ended-before 32 f.0 f.1
  gives_33 (inr f) = ends_33 _ _ _ _ _ (ends f.0) f.1

  gives_31 : Is31 → number ≡ 31
  gives_31 (inl f) = broken_31 f.0 f.1 f.2
  gives_31 (inr f) = ends_31 _ _ _ _ _ (ends f.0) f.1

  gives_30 : Is30 → number ≡ 30
  gives_30 f = by f.1
    where
      by : AdvanceWaits carried progress rest ⊎ RecordWaits carried progress rest → number ≡ 30
      by (inl w) = ends-advance _ _ _ _ _ (ends f.0) w
      by (inr w) = ends_record _ _ _ _ _ (ends f.0) w

  gives_0 : Opened × (rest ≡ []) → number ≡ 0
  gives_0 f = ends_0 _ _ _ _ _ (ends f.0) f.1

  abbrev Because : ℕ → Type 0
  Because n =
      cond (eqb n 1) (LengthsFit setup defaults h.port → ⊥)
      (cond (eqb n 2) (LengthsFit setup defaults h.port × (QueueFits (length h.port.cells) → ⊥))
      (cond (eqb n 3) (LengthsFit setup defaults h.port × QueueFits (length h.port.cells) × (AllCodesFit setup → ⊥))
      (cond (eqb n 4) (LengthsFit setup defaults h.port × QueueFits (length h.port.cells) × AllCodesFit setup × (AllDefaultsFit setup defaults → ⊥))
      (cond (eqb n 5) (SetUpFacts setup defaults h.port × ((HeldSound setup h.port × (matching L h ≡ true)) → ⊥))
      (cond (eqb n 32) Is32
      (cond (eqb n 33) Is33
      (cond (eqb n 31) Is31
      (cond (eqb n 30) Is30
      (cond (eqb n 0) (Opened × (rest ≡ [])) ⊥)))))))))

  abbrev Why : Type 0
  Why = Reason (0 ∷ 1 ∷ 2 ∷ 3 ∷ 4 ∷ 5 ∷ 30 ∷ 31 ∷ 32 ∷ 33 ∷ []) Because number

  why_ended : Opened → EndsWith carried progress room rest number → Why
  why_ended o (all_consumed z e) = record { number = 0; why = (o, e); listed = tt; given = z }
  why_ended o (advance-waits b more z e k l s) =
      record { number = 30; why = (o, inl (record { byte = b; forward = forward_of e k; due = l }), s); listed = tt; given = z }
  why_ended o (record_waits b more z e l k s) =
      record {
        number = 30;
        why = (o, inr (record { byte = b; more = more; front = e; last = l; answered = λ q. (forward_of e (k q).0, (k q).1) }), s);
        listed = tt;
        given = z;
      }
  why_ended o (no_kind b more z e k l u) =
      record { number = 31; why = inr (o, record { byte = b; forward = forward_of e k; answered = l; unknown = u }); listed = tt; given = z }
  why_ended o (went_back b more z e k f) =
      record { number = 32; why = inr (o, record { byte = b; kind = next_of e k; back = f }); listed = tt; given = z }
  why_ended o (kind_01 b more z e k f q) =
      record { number = 33; why = inr (o, record { kind = next_of (e ∙ ap (λ (x : ℕ). x ∷ more) q) k; forward = f }); listed = tt; given = z }

  why_taken : Fits → Why
  why_taken m = by (matched_ended (carried_of h.port.port) (progress_in h.replay) (both_right (stamp_fits h.replay) _ m.matches))
    where
      by : (h.replay.ended ≡ 0) ⊎ ((h.replay.ended ≡ 32) ⊎ (h.replay.ended ≡ 33)) → Why
      by (inl z) =
          split h.port.port.broken (λ b. record { number = 31; why = inl (m, z, b); listed = tt; given = broken_31 m z b })
          (λ b. let o : Opened = record { matched = m; not_ended = z; unbroken = b } in why_ended o (ends o))
      by (inr (inl z)) = record { number = 32; why = inl (m, z); listed = tt; given = ended-before 31 m z }
      by (inr (inr z)) = record { number = 33; why = inl (m, z); listed = tt; given = ended-before 32 m z }

  why : Why
  why =
      set_up_cases setup defaults h.port (λ n. record { number = 1; why = n; listed = tt; given = by_set_up 0 (given_1 setup defaults h.port n) })
      (λ n. record { number = 2; why = n; listed = tt; given = by_set_up 1 (given_2 setup defaults h.port n) })
      (λ n. record { number = 3; why = n; listed = tt; given = by_set_up 2 (given_3 setup defaults h.port n) })
      (λ n. record { number = 4; why = n; listed = tt; given = by_set_up 3 (given_4 setup defaults h.port n) })
      (λ f. split (sound_held setup h.port)
      (λ s. split (matching L h) (λ m. why_taken (record { accepted = record { set_up = f; sound = (sound-says setup h.port).holds s }; matches = m }))
      (λ m. record { number = 5; why = (f, λ x. not_both x.1 m); listed = tt; given = unmatched_5 f s m }))
      (λ s. record { number = 5; why = (f, λ x. not_both ((sound-says setup h.port).tested x.0) s); listed = tt; given = unsound_5 f s }))

  replay_numbers : ReplayNumbers setup defaults h input answers
  replay_numbers =
      record {
        refused = record {
          is1 = (because why 1, λ n. by_set_up 0 (given_1 setup defaults h.port n));
          is2 = (because why 2, λ n. by_set_up 1 (given_2 setup defaults h.port n));
          is3 = (because why 3, λ n. by_set_up 2 (given_3 setup defaults h.port n));
          is4 = (because why 4, λ n. by_set_up 3 (given_4 setup defaults h.port n));
        };
        is5 = (because why 5, gives_5);
        is32 = (because why 32, gives_32);
        is33 = (because why 33, gives_33);
        is31 = (because why 31, gives_31);
        is30 = (because why 30, gives_30);
        is0 = (because why 0, gives_0);
        no_other = in_list why;
      }

-- NUMBERS THAT A REPLAY CALL GIVES
pub every_replay_number : EveryReplayNumber
every_replay_number setup defaults h input answers = replay_numbers setup defaults h input answers
