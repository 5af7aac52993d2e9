-- Replay on two devices, one of which shows what the other does: a call gives the same number and counts, leaves the same state of the replay, and the
-- bench and the answers that are shown.
use Prim.Native.Nat.{ℕ, zero, suc, ◌+◌, ◌-◌}
use mathlib.Core.Path.{◌≡◌, refl, ap, sym, ◌∙◌}
use mathlib.Core.Bool.{Bool, true, false}
use mathlib.Core.List.{List, [], ◌∷◌, ◌++◌}
use lib.ListN.{length, drop}
use lib.Dec.{ltb, eqb}
use Rattle.times.specs.declared.Nanos.{Nanos}
use Rattle.trace.specs.Format.{when◌then◌else◌}
use Rattle.trace.specs.Bench.{Device, Bench}
use Rattle.trace.specs.Feed.{Step, took, stop, byte}
use Rattle.trace.specs.Lent.{unless}
use Rattle.trace.proofs.Feeding.{Way, way, carries, full, ends, unknown, byte_carries, byte_full, byte_ends, byte_unknown}
use Rattle.capture.specs.Advances.{stamp_in, back, due, advance}
use Rattle.capture.specs.Capture.{Role, of_stamp, of_kind, of_record, role_of}
use Rattle.capture.specs.Replay.{Progress, Replayed, Does, takes, halts, ended_with, more_stamp, more_answered, begins, Advanced, one_more, in_record, at_kind, still, later, go_on, advancing, after_advances, kind_byte, byte_as, replay_open, replay}

-- what a test leads to
if_alike : {A B : Type 0} (f : A → B) (t : Bool) {a a' : A} {b b' : B} → f a ≡ b → f a' ≡ b' → f (when t then a else a') ≡ (when t then b else b')
if_alike f true p q = p
if_alike f false p q = q

-- f shows a state of the one as one of the other, and g the answers
pub record Alike {S T : Type 0} (D : Device S) (E : Device T) (f : S → T) (g : List ℕ → List ℕ) : Type 0 where
  pub state : (s : S) (r : List ℕ) → f (D.run s r).state ≡ (E.run (f s) r).state
  pub answer : (s : S) (r : List ℕ) → g (D.run s r).answer ≡ (E.run (f s) r).answer
  pub none : g [] ≡ []
  pub append : (a b : List ℕ) → g (a ++ b) ≡ g a ++ g b
  pub long : (a : List ℕ) → length (g a) ≡ length a

module _ {S T : Type 0} (f : S → T) (g : List ℕ → List ℕ) where
  abbrev pub bench_on : Bench S → Bench T
  bench_on p = record { state = f p.state; carried = p.carried; broken = p.broken }

  abbrev step_on : Step S → Step T
  step_on (took p a) = took (bench_on p) (g a)
  step_on (stop n p) = stop n (bench_on p)

  abbrev does_on : Does S → Does T
  does_on (takes p r a) = takes (bench_on p) r (g a)
  does_on (halts n p r a) = halts n (bench_on p) r (g a)

  abbrev advanced_on : Advanced S → Advanced T
  advanced_on x = record { state = f x.state; count = x.count; answers = g x.answers; stuck = x.stuck }

  abbrev pub replayed_on : Replayed S → Replayed T
  replayed_on x = record { bench = bench_on x.bench; progress = x.progress; number = x.number; consumed = x.consumed; answers = g x.answers }

module _ {S T : Type 0} (D : Device S) (E : Device T) (f : S → T) (g : List ℕ → List ℕ) (like : Alike D E f g) where
  abbrev on : Bench S → Bench T
  on p = bench_on f g p

  alike_byte : (p : Bench S) (room b : ℕ) → step_on f g (byte D p room b) ≡ byte E (on p) room b
  alike_byte p room b = go (way D p room b)
    where
      r : List ℕ
      r = p.carried ++ b ∷ []

      go : Way D p room b → step_on f g (byte D p room b) ≡ byte E (on p) room b
      go (carries e j w) =
          ap (step_on f g) w
          ∙ ap (λ (a : List ℕ). took (record { state = f p.state; carried = r; broken = false }) a) like.none
          ∙ sym (byte_carries E (on p) room b e j)
      go (full e j l w) = ap (step_on f g) w ∙ sym (byte_full E (on p) room b e j l)
      go (ends e j l w) =
          ap (step_on f g) w
          ∙ (λ i. took (record { state = like.state p.state r i; carried = []; broken = false }) (like.answer p.state r i))
          ∙ sym (byte_ends E (on p) room b e j l)
      go (unknown e w) = ap (step_on f g) w ∙ sym (byte_unknown E (on p) room b e)

  alike_advancing : (s : S) (room : ℕ) (ds : List Nanos) → advanced_on f g (advancing D s room ds) ≡ advancing E (f s) room ds
  unfolding advancing
  alike_advancing s room [] = λ i. record { state = f s; count = 0; answers = like.none i; stuck = false }
  alike_advancing s room (t ∷ more) =
      let x = D.run s (advance t) in
      let y = advancing D x.state (room - 8) more in
      if_alike (advanced_on f g) (ltb room 8) (λ i. record { state = f s; count = 0; answers = like.none i; stuck = true })
      ((λ i. record { state = f y.state; count = suc y.count; answers = (like.append x.answer y.answers ∙ ap (λ (a : List ℕ). a ++ g y.answers) (like.answer s (advance t))) i; stuck = y.stuck })
      ∙ ap (one_more (E.run (f s) (advance t)))
      (alike_advancing x.state (room - 8) more ∙ ap (λ (u : T). advancing E u (room - 8) more) (like.state s (advance t))))

  alike_record : (r : Progress) (x : Step S) → does_on f g (in_record r x) ≡ in_record r (step_on f g x)
  alike_record r (took p a) = refl
  alike_record r (stop n p) = ap (halts n (on p) r) like.none

  alike_at_kind : (r : Progress) (a : List ℕ) (x : Step S) → does_on f g (at_kind r a x) ≡ at_kind r (g a) (step_on f g x)
  alike_at_kind r a (took p a') = ap (takes (on p) (begins r)) (like.append a a')
  alike_at_kind r a (stop n p) = refl

  alike_after : (p : Bench S) (r : Progress) (room b : ℕ) (x : Advanced S) → does_on f g (after_advances D p r room b x) ≡ after_advances E (on p) r room b (advanced_on f g x)
  alike_after p r room b x =
      let q : Bench S = record { state = x.state; carried = p.carried; broken = p.broken } in
      let r' = more_answered x.count r in
      if_alike (does_on f g) x.stuck refl
      (alike_at_kind r' x.answers (byte D q (room - length x.answers) b)
      ∙ ap (at_kind r' (g x.answers)) (alike_byte q (room - length x.answers) b)
      ∙ ap (λ (n : ℕ). at_kind r' (g x.answers) (byte E (on q) (room - n) b)) (sym (like.long x.answers)))

  alike_kind : (p : Bench S) (r : Progress) (room b : ℕ) → does_on f g (kind_byte D p r room b) ≡ kind_byte E (on p) r room b
  unfolding kind_byte
  alike_kind p r room b =
      let ds = drop r.answered (due r.earlier r.stamp) in
      if_alike (does_on f g) (back r.earlier (stamp_in r.stamp)) (ap (halts 32 (on p) (ended_with 32 r)) like.none)
      (if_alike (does_on f g) (eqb b 1) (ap (halts 33 (on p) (ended_with 33 r)) like.none)
      (alike_after p r room b (advancing D p.state room ds) ∙ ap (after_advances E (on p) r room b) (alike_advancing p.state room ds)))

  alike_byte_at : (t : Role) (p : Bench S) (r : Progress) (room b : ℕ) → does_on f g (byte_as D t p r room b) ≡ byte_as E t (on p) r room b
  alike_byte_at of_stamp p r room b = ap (takes (on p) (more_stamp b r)) like.none
  alike_byte_at of_kind p r room b = alike_kind p r room b
  alike_byte_at of_record p r room b = alike_record r (byte D p room b) ∙ ap (in_record r) (alike_byte p room b)

  alike_on : (room : ℕ) (x : Does S) (rest : Bench S → Progress → ℕ → Replayed S) (rest' : Bench T → Progress → ℕ → Replayed T)
      → ((p : Bench S) (r : Progress) (n : ℕ) → replayed_on f g (rest p r n) ≡ rest' (on p) r n) → replayed_on f g (go_on room x rest) ≡ go_on room (does_on f g x) rest'
  alike_on room (takes p r a) rest rest' e =
      let y = rest p r (room - length a) in
      ap (λ (l : List ℕ). record { bench = on y.bench; progress = y.progress; number = y.number; consumed = 1 + y.consumed; answers = l }) (like.append a y.answers)
      ∙ ap (later 1 (g a)) (e p r (room - length a))
      ∙ ap (λ (n : ℕ). later 1 (g a) (rest' (on p) r (room - n))) (sym (like.long a))
  alike_on room (halts n p r a) rest rest' e = refl

  nothing : (n : ℕ) (p : Bench S) (r : Progress) → replayed_on f g (still n p r []) ≡ still n (on p) r []
  nothing n p r = ap (still n (on p) r) like.none

  pub alike_open : (p : Bench S) (r : Progress) (room : ℕ) (input : List ℕ) → replayed_on f g (replay_open D p r room input) ≡ replay_open E (on p) r room input
  unfolding replay_open
  alike_open p r room [] = nothing 0 p r
  alike_open p r room (b ∷ bs) =
      let t = role_of p.carried r.stamp in
      alike_on room (byte_as D t p r room b) (λ p' r' room'. replay_open D p' r' room' bs) (λ p' r' room'. replay_open E p' r' room' bs) (λ p' r' room'. alike_open p' r' room' bs)
      ∙ ap (λ (x : Does T). go_on room x (λ p' r' room'. replay_open E p' r' room' bs)) (alike_byte_at t p r room b)

  -- ONE CALL
  pub alike_call : (p : Bench S) (r : Progress) (room : ℕ) (input : List ℕ) → replayed_on f g (replay D p r room input) ≡ replay E (on p) r room input
  unfolding replay
  alike_call p r room input = go r.ended
    where
      go : (n : ℕ)
          → replayed_on f g (unless n (λ n. still n p r []) (when p.broken then still 31 p r [] else replay_open D p r room input))
          ≡ unless n (λ n. still n (on p) r []) (when p.broken then still 31 (on p) r [] else replay_open E (on p) r room input)
      go zero = if_alike (replayed_on f g) p.broken (nothing 31 p r) (alike_open p r room input)
      go (suc n) = nothing (suc n) p r
