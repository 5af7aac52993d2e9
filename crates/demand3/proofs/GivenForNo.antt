-- NUMBERS GIVEN FOR NO, proved as specs/GivenForNo.antt states them.
use Prim.Native.Nat.{ℕ, suc, ◌-◌, ◌<◌}
use mathlib.Core.Path.{◌≡◌, ap, sym, subst, ◌∙◌}
use mathlib.Core.Bool.{true, false, cond}
use mathlib.Core.List.{List, [], ◌∷◌, ◌++◌}
use mathlib.Core.Logic.{◌⊎◌, inl, inr}
use native.Mathlib.Omega.{arith}
use lib.Dec.{T, eqb}
use lib.ListN.{length, get_or, drop}
use Rattle.bits.proofs.Tests.{split}
use Rattle.readiness.specs.declared.Setup.{Setup}
use Rattle.trace.specs.Format.{known, next, complete, unknown as unknown_kind}
use Rattle.trace.specs.Feed.{feed_open}
use Rattle.trace.specs.Lent.{Left, refusal, refusal_or31}
use Rattle.trace.proofs.Lists.{take-pad}
use Rattle.trace.specs.Exactly.{EndsWith, all_consumed, no_room, no_kind}
use Rattle.trace.proofs.Laws.{incomplete_begun, ends_exactly}
use Rattle.trace.proofs.Refusing.{refusal_set_up, refusal_unsound, refusal_none, stops_refused, stops_broken, stops_not, feeds_stopped, feeds_open}
use Rattle.records.specs.Device.{device}
use Rattle.records.specs.Statuses.{one_of}
use Rattle.records.proofs.Routes.{Reason, because, in_list}
use Rattle.demand3.specs.Held.{Held, carried_of, bench_of}
use Rattle.demand3.specs.Refusals.{set_up_refusal, sound_held}
use Rattle.demand3.specs.Feeding.{bench}
use Rattle.demand3.specs.GivenForNo.{QueueFits, AllCodesFit, AllDefaultsFit, HeldSound, LengthsFit, SetUpFacts, Accepted, SetUpNumbers, UnknownNext, unknown, LastByteNext, last, number_given, carried_after, not_consumed, room_left, FeedNumbers, EveryNumber}
use Rattle.demand3.proofs.Numbers.{fails, denies, sound-says, set_up_cases, given_0, given_1, given_2, given_3, given_4, set_up_reason}
use Rattle.demand3.proofs.Prepared.{set_up_number}

-- ---- set-up
set_up_numbers : (setup : Setup) (defaults : List ℕ) (h : Held) → SetUpNumbers setup defaults h
set_up_numbers setup defaults h =
    let e = set_up_number setup defaults h in
    let r = set_up_reason setup defaults h in
    record {
      refused = record {
        is1 = (λ f. because r 1 (sym e ∙ f), λ n. e ∙ given_1 setup defaults h n);
        is2 = (λ f. because r 2 (sym e ∙ f), λ n. e ∙ given_2 setup defaults h n);
        is3 = (λ f. because r 3 (sym e ∙ f), λ n. e ∙ given_3 setup defaults h n);
        is4 = (λ f. because r 4 (sym e ∙ f), λ n. e ∙ given_4 setup defaults h n);
      };
      is0 = (λ f. because r 0 (sym e ∙ f), λ f. e ∙ given_0 setup defaults h f);
      no_other = subst (λ (n : ℕ). T (one_of n (0 ∷ 1 ∷ 2 ∷ 3 ∷ 4 ∷ []))) (sym e) (in_list r);
    }

-- ---- where a call ends: one reason only
no_first : {rest : List ℕ} {b : ℕ} {more : List ℕ} → rest ≡ [] → rest ≡ b ∷ more → ⊥
no_first e f = omega (arith, ap length (sym e ∙ f))

unknown_first : (b : ℕ) → known b ≡ false → next (b ∷ []) ≡ unknown_kind
unfolding next
unknown_first b k = rw k

unknown_not : (r : List ℕ) → unknown_kind ≡ complete r → ⊥
unknown_not r q = let z : ◌≡◌ {A = ℕ} 0 1 = cc in omega arith

-- a byte that is an unknown kind ends no record
clash : {c rest : List ℕ} {a b : ℕ} {more most : List ℕ} → rest ≡ a ∷ more → c ≡ [] → known a ≡ false → rest ≡ b ∷ most → next (c ++ b ∷ []) ≡ complete (c ++ b ∷ []) → ⊥
clash {c} {rest} {a} {b} p e k q n =
    let same : a ≡ b = ap (λ (l : List ℕ). get_or l 0 0) (sym p ∙ q) in
    let first : next (c ++ b ∷ []) ≡ unknown_kind =
    ap (λ (l : List ℕ). next (l ++ b ∷ [])) e ∙ ap (λ (x : ℕ). next (x ∷ [])) (sym same) ∙ unknown_first a k in
    unknown_not (c ++ b ∷ []) (sym first ∙ n)

module _ (c : List ℕ) (room : ℕ) (rest : List ℕ) (n : ℕ) where
  ends_31 : EndsWith c room rest n → UnknownNext c rest → n ≡ 31
  ends_31 (all_consumed z r) (unknown b more q e k) = absurd (no_first r q)
  ends_31 (no_room a most z r l m) (unknown b more q e k) = absurd (clash q e k r l)
  ends_31 (no_kind a most z r l m) (unknown b more q e k) = z

  ends_30 : EndsWith c room rest n → LastByteNext c rest → n ≡ 30
  ends_30 (all_consumed z r) (last b more q k) = absurd (no_first r q)
  ends_30 (no_room a most z r l m) (last b more q k) = z
  ends_30 (no_kind a most z r l m) (last b more q k) = absurd (clash r l m q k)

  ends_0 : EndsWith c room rest n → rest ≡ [] → n ≡ 0
  ends_0 (all_consumed z r) e = z
  ends_0 (no_room a most z r l m) e = absurd (no_first e r)
  ends_0 (no_kind a most z r l m) e = absurd (no_first e r)

-- ---- feed
module _ (setup : Setup) (defaults : List ℕ) (h : Held) (input answers : List ℕ) where
  abbrev number : ℕ
  number = number_given setup defaults h input answers

  stopped : (n : ℕ) → refusal_or31 (bench setup defaults) h ≡ suc n → number ≡ suc n
  stopped n e = ap (λ (x : Left Held). x.number) (feeds_stopped (bench setup defaults) h input answers n e)

  by_set_up : (n : ℕ) → set_up_refusal setup defaults h ≡ suc n → number ≡ suc n
  by_set_up n e = stopped n (stops_refused (bench setup defaults) h n (refusal_set_up (bench setup defaults) h n e))

  gives_5 : SetUpFacts setup defaults h × (HeldSound setup h → ⊥) → number ≡ 5
  gives_5 f =
      stopped 4
      (stops_refused (bench setup defaults) h 4 (refusal_unsound (bench setup defaults) h (given_0 setup defaults h f.0) (fails (sound-says setup h) f.1)))

  accepted : Accepted setup defaults h → refusal (bench setup defaults) h ≡ 0
  accepted a = refusal_none (bench setup defaults) h (given_0 setup defaults h a.set_up) ((sound-says setup h).tested a.sound)

  broken_31 : Accepted setup defaults h → h.port.broken ≡ true → number ≡ 31
  broken_31 a b = stopped 30 (stops_broken (bench setup defaults) h (accepted a) b)

  ends : Accepted setup defaults h → h.port.broken ≡ false
      → EndsWith (carried_after setup defaults h input answers) (room_left setup defaults h input answers) (not_consumed setup defaults h input answers) number
  ends a b =
      let f = feed_open (device setup defaults) (bench_of h) (length answers) input in
      let e = ends_exactly (device setup defaults) (bench_of h) (length answers) input (incomplete_begun (carried_of h.port) a.sound.carried) in
      subst (λ (x : Left Held). EndsWith (carried_of x.held.port) (length answers - x.written) (drop x.consumed input) x.number)
      (sym (feeds_open (bench setup defaults) h input answers (stops_not (bench setup defaults) h (accepted a) b)))
      (subst (λ (c : List ℕ). EndsWith c (length answers - length f.answers) (drop f.consumed input) f.number) (sym (take-pad 16 f.bench.carried)) e)

  gives_31 : Accepted setup defaults h × ((h.port.broken ≡ true) ⊎ UnknownNext (carried_after setup defaults h input answers) (not_consumed setup defaults h input answers)) → number ≡ 31
  gives_31 f = by f.1
    where
      by : (h.port.broken ≡ true) ⊎ UnknownNext (carried_after setup defaults h input answers) (not_consumed setup defaults h input answers) → number ≡ 31
      by (inl b) = broken_31 f.0 b
      by (inr u) = split h.port.broken (broken_31 f.0) (λ b. ends_31 _ _ _ _ (ends f.0 b) u)

  gives_30 : Accepted setup defaults h × (h.port.broken ≡ false) × LastByteNext (carried_after setup defaults h input answers) (not_consumed setup defaults h input answers) × (room_left setup defaults h input answers < 8)
      → number ≡ 30
  gives_30 f = ends_30 _ _ _ _ (ends f.0 f.1) f.2

  gives_0 : Accepted setup defaults h × (h.port.broken ≡ false) × (not_consumed setup defaults h input answers ≡ []) → number ≡ 0
  gives_0 f = ends_0 _ _ _ _ (ends f.0 f.1) f.2

  -- what each number says
  abbrev Because : ℕ → Type 0
  Because n =
      cond (eqb n 1) (LengthsFit setup defaults h → ⊥)
      (cond (eqb n 2) (LengthsFit setup defaults h × (QueueFits (length h.cells) → ⊥))
      (cond (eqb n 3) (LengthsFit setup defaults h × QueueFits (length h.cells) × (AllCodesFit setup → ⊥))
      (cond (eqb n 4) (LengthsFit setup defaults h × QueueFits (length h.cells) × AllCodesFit setup × (AllDefaultsFit setup defaults → ⊥))
      (cond (eqb n 5) (SetUpFacts setup defaults h × (HeldSound setup h → ⊥))
      (cond (eqb n 31) (Accepted setup defaults h × ((h.port.broken ≡ true) ⊎ UnknownNext (carried_after setup defaults h input answers) (not_consumed setup defaults h input answers)))
      (cond (eqb n 30)
      (Accepted setup defaults h × (h.port.broken ≡ false) × LastByteNext (carried_after setup defaults h input answers) (not_consumed setup defaults h input answers) × (room_left setup defaults h input answers < 8))
      (cond (eqb n 0) (Accepted setup defaults h × (h.port.broken ≡ false) × (not_consumed setup defaults h input answers ≡ [])) ⊥)))))))

  abbrev Why : Type 0
  Why = Reason (0 ∷ 1 ∷ 2 ∷ 3 ∷ 4 ∷ 5 ∷ 30 ∷ 31 ∷ []) Because number

  ended : Accepted setup defaults h → h.port.broken ≡ false
      → EndsWith (carried_after setup defaults h input answers) (room_left setup defaults h input answers) (not_consumed setup defaults h input answers) number → Why
  ended a b (all_consumed z r) = record { number = 0; why = (a, b, r); listed = tt; given = z }
  ended a b (no_room x more z r l m) = record { number = 30; why = (a, b, last x more r l, m); listed = tt; given = z }
  ended a b (no_kind x more z r l m) = record { number = 31; why = (a, inr (unknown x more r l m)); listed = tt; given = z }

  taken : Accepted setup defaults h → Why
  taken a =
      split h.port.broken (λ b. record { number = 31; why = (a, inl b); listed = tt; given = broken_31 a b }) (λ b. ended a b (ends a b))

  why : Why
  why =
      set_up_cases setup defaults h (λ n. record { number = 1; why = n; listed = tt; given = by_set_up 0 (given_1 setup defaults h n) })
      (λ n. record { number = 2; why = n; listed = tt; given = by_set_up 1 (given_2 setup defaults h n) })
      (λ n. record { number = 3; why = n; listed = tt; given = by_set_up 2 (given_3 setup defaults h n) })
      (λ n. record { number = 4; why = n; listed = tt; given = by_set_up 3 (given_4 setup defaults h n) })
      (λ f.
      split (sound_held setup h) (λ e. taken (record { set_up = f; sound = (sound-says setup h).holds e }))
      (λ e. let n : SetUpFacts setup defaults h × (HeldSound setup h → ⊥) = (f, denies (sound-says setup h) e) in record { number = 5; why = n; listed = tt; given = gives_5 n }))

  feed-numbers : FeedNumbers setup defaults h input answers
  feed-numbers =
      record {
        refused = record {
          is1 = (because why 1, λ n. by_set_up 0 (given_1 setup defaults h n));
          is2 = (because why 2, λ n. by_set_up 1 (given_2 setup defaults h n));
          is3 = (because why 3, λ n. by_set_up 2 (given_3 setup defaults h n));
          is4 = (because why 4, λ n. by_set_up 3 (given_4 setup defaults h n));
        };
        is5 = (because why 5, gives_5);
        is31 = (because why 31, gives_31);
        is30 = (because why 30, gives_30);
        is0 = (because why 0, gives_0);
        no_other = in_list why;
      }

-- NUMBERS GIVEN FOR NO
pub given_for_no : EveryNumber
given_for_no setup defaults h = record { set_up = set_up_numbers setup defaults h; feed = feed-numbers setup defaults h }
