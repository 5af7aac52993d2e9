-- Cutting does not matter: a call, and a second one on the bytes that the first left and more, are one call on all of them.
use Prim.Native.Nat.{ℕ, suc, ◌+◌, ◌-◌, ◌<◌}
use mathlib.Core.Path.{◌≡◌, refl, ap, sym, ◌∙◌}
use mathlib.Core.Bool.{Bool, true, false}
use mathlib.Core.List.{List, [], ◌∷◌, ◌++◌, append_assoc}
use native.Mathlib.Omega.{arith}
use native.Mathlib.Nat.{zero-add, sub-zero}
use native.Mathlib.Numerals.{one-add}
use lib.ListN.{length, drop, length-append}
use lib.Seq.{drop-drop}
use lib.Dec.{ltb, eqb}
use borrow.Author.Tests.{le-ltb}
use Rattle.times.specs.declared.Nanos.{Nanos}
use Rattle.trace.specs.Format.{when◌then◌else◌}
use Rattle.trace.specs.Bench.{Device, Bench}
use Rattle.trace.specs.Feed.{Step, took, stop, byte}
use Rattle.trace.proofs.Tests.{if_cases, if_false}
use Rattle.trace.proofs.Feeding.{Way, way, carries, full, ends, unknown, byte_carries, byte_ends}
use Rattle.capture.specs.Advances.{stamp_in, back, due, advance}
use Rattle.capture.specs.Capture.{Role, of_stamp, of_kind, of_record, role_of}
use Rattle.capture.specs.Replay.{Progress, Replayed, Does, takes, halts, more_answered, begins, Advanced, stays, one_more, in_record, at_kind, later, go_on, advancing, after_advances, kind_byte, byte_as, replay_open}

-- what was answered before
abbrev both : {S : Type 0} → Advanced S → Advanced S → Advanced S
both x y = record { state = y.state; count = x.count + y.count; answers = x.answers ++ y.answers; stuck = y.stuck }

abbrev after : {S : Type 0} → List ℕ → Does S → Does S
after a (takes p r a') = takes p r (a ++ a')
after a (halts n p r a') = halts n p r (a ++ a')

after_none : {S : Type 0} (x : Does S) → after [] x ≡ x
after_none (takes p r a) = refl
after_none (halts n p r a) = refl

if_into : {A B : Type 0} (f : A → B) (t : Bool) {u v : A} {a b : B} → a ≡ f u → b ≡ f v → (when t then a else b) ≡ f (when t then u else v)
if_into f true p q = p
if_into f false p q = q

module _ {S : Type 0} (D : Device S) where
  -- ---- advances
  advance-join : (ds : List Nanos) (s : S) (m n : ℕ)
      → advancing D s (length (advancing D s m ds).answers + n) ds ≡ both (advancing D s m ds) (advancing D (advancing D s m ds).state n (drop (advancing D s m ds).count ds))
  unfolding advancing
  advance-join [] s m n = refl
  advance-join (t ∷ more) s m n =
      if_cases (λ (x : Advanced S). advancing D s (length x.answers + n) (t ∷ more) ≡ both x (advancing D x.state n (drop x.count (t ∷ more)))) (ltb m 8) _ _
      (λ _. ap (λ (k : ℕ). advancing D s k (t ∷ more)) (zero-add n) ∙ plus_none (advancing D s n (t ∷ more)))
      (λ _.
      let x = D.run s (advance t) in
      let y = advancing D x.state (m - 8) more in
      let l : length (x.answer ++ y.answers) + n ≡ 8 + (length y.answers + n) = omega (arith, length-append x.answer y.answers, D.eight s (advance t)) in
      let k : 8 + (length y.answers + n) - 8 ≡ length y.answers + n = omega arith in
      let w = advancing D y.state n (drop y.count more) in
      let c : suc (y.count + w.count) ≡ suc y.count + w.count = omega arith in
      ap (λ (i : ℕ). advancing D s i (t ∷ more)) l
      ∙ if_false (ltb (8 + (length y.answers + n)) 8) _ _ (le-ltb (8 + (length y.answers + n)) 8 (omega arith))
      ∙ ap (λ (i : ℕ). one_more x (advancing D x.state i more)) k
      ∙ ap (one_more x) (advance-join more x.state (m - 8) n)
      ∙ (λ i. record { state = w.state; count = c i; answers = sym (append_assoc x.answer y.answers w.answers) i; stuck = w.stuck }))
    where
      plus_none : (y : Advanced S) → y ≡ both (stays s true) y
      plus_none y = λ i. record { state = y.state; count = sym (zero-add y.count) i; answers = y.answers; stuck = y.stuck }

  advance_all : (ds : List Nanos) (s : S) (m : ℕ) → (advancing D s m ds).stuck ≡ false → drop (advancing D s m ds).count ds ≡ []
  unfolding advancing
  advance_all [] s m e = refl
  advance_all (t ∷ more) s m e =
      if_cases (λ (x : Advanced S). x.stuck ≡ false → drop x.count (t ∷ more) ≡ []) (ltb m 8) _ _
      (λ _ f. absurd (let z : ◌≡◌ {A = ℕ} 0 1 = cc in omega arith))
      (λ _ f. advance_all more (D.run s (advance t)).state (m - 8) f) e

  -- ---- the next byte: with more room it is consumed all the same; where it waited for room, it goes on from there
  abbrev Joins : Role → Bench S → Progress → ℕ → Does S → Type 0
  Joins t p r b (takes q r' a) = (k : ℕ) → byte_as D t p r (length a + k) b ≡ takes q r' a
  Joins t p r b (halts n q r' a) = n < 31 → ((k : ℕ) → byte_as D t p r (length a + k) b ≡ after a (byte_as D t q r' k b)) × (q.carried ≡ p.carried) × (r'.stamp ≡ r.stamp)

  record_joins : (p : Bench S) (r : Progress) (m b : ℕ) → Joins of_record p r b (in_record r (byte D p m b))
  record_joins p r m b = go (way D p m b)
    where
      go : Way D p m b → Joins of_record p r b (in_record r (byte D p m b))
      go (carries e j w) = rw w (λ k. ap (in_record r) (byte_carries D p (0 + k) b e j))
      go (full e j x w) = rw w (λ _. (λ k. ap (λ (i : ℕ). in_record r (byte D p i b)) (zero-add k) ∙ sym (after_none (in_record r (byte D p k b))), refl, refl))
      go (ends e j x w) = rw w (λ k. ap (in_record r) (byte_ends D p (length (D.run p.state (p.carried ++ b ∷ [])).answer + k) b e j (omega (arith, D.eight p.state (p.carried ++ b ∷ [])))))
      go (unknown e w) = rw w (λ j. absurd (omega arith))

  module _ (p : Bench S) (r : Progress) (b : ℕ) (f : back r.earlier (stamp_in r.stamp) ≡ false) (g : eqb b 1 ≡ false) where
    abbrev rest : List Nanos
    rest = drop r.answered (due r.earlier r.stamp)

    -- past 32 and 33
    kind_on : (q : Bench S) (r' : Progress) (room : ℕ) → back r'.earlier (stamp_in r'.stamp) ≡ false
        → kind_byte D q r' room b ≡ after_advances D q r' room b (advancing D q.state room (drop r'.answered (due r'.earlier r'.stamp)))
    unfolding kind_byte
    kind_on q r' room e = if_false (back r'.earlier (stamp_in r'.stamp)) _ _ e ∙ if_false (eqb b 1) _ _ g

    module _ (x : Advanced S) where
      abbrev q : Bench S
      q = record { state = x.state; carried = p.carried; broken = p.broken }

      abbrev more : Progress
      more = more_answered x.count r

      at_kind_after : (r' : Progress) (a : List ℕ) (y : Step S) → at_kind r' (x.answers ++ a) y ≡ after x.answers (at_kind r' a y)
      at_kind_after r' a (took q' a') = ap (takes q' (begins r')) (append_assoc x.answers a a')
      at_kind_after r' a (stop n q') = refl

      after_then : (k : ℕ) (y : Advanced S) → after_advances D p r (length x.answers + k) b (both x y) ≡ after x.answers (after_advances D q more k b y)
      after_then k y =
          let q' : Bench S = record { state = y.state; carried = p.carried; broken = p.broken } in
          let c : r.answered + (x.count + y.count) ≡ r.answered + x.count + y.count = omega arith in
          let l : length x.answers + k - length (x.answers ++ y.answers) ≡ k - length y.answers = omega (arith, length-append x.answers y.answers) in
          let at : ℕ → Progress = λ n. record { earlier = r.earlier; stamp = r.stamp; answered = n; ended = r.ended } in
          if_into (after x.answers) y.stuck
          (ap (λ (n : ℕ). halts 30 q' (at n) (x.answers ++ y.answers)) c)
          ((λ i. at_kind (at (c i)) (x.answers ++ y.answers) (byte D q' (l i) b)) ∙ at_kind_after (at (r.answered + x.count + y.count)) y.answers (byte D q' (k - length y.answers) b))

    module _ (m : ℕ) where
      abbrev x : Advanced S
      x = advancing D p.state m rest

      -- the byte once more, with what was answered behind it
      kind_again : (k : ℕ) → kind_byte D p r (length x.answers + k) b ≡ after x.answers (kind_byte D (q x) (more x) k b)
      kind_again k =
          kind_on p r (length x.answers + k) f
          ∙ ap (after_advances D p r (length x.answers + k) b) (advance-join rest p.state m k)
          ∙ after_then x k (advancing D x.state k (drop x.count rest))
          ∙ ap (λ (l : List Nanos). after x.answers (after_advances D (q x) (more x) k b (advancing D x.state k l))) (drop-drop x.count r.answered (due r.earlier r.stamp))
          ∙ ap (after x.answers) (sym (kind_on (q x) (more x) k f))

      -- with all advances answered the byte is taken as feed takes it
      kind_done : (k : ℕ) → x.stuck ≡ false → kind_byte D (q x) (more x) k b ≡ at_kind (more_answered 0 (more x)) [] (byte D (q x) k b)
      unfolding advancing
      kind_done k e =
          kind_on (q x) (more x) k f
          ∙ ap (λ (l : List Nanos). after_advances D (q x) (more x) k b (advancing D x.state k l)) (sym (drop-drop x.count r.answered (due r.earlier r.stamp)) ∙ advance_all rest p.state m e)
          ∙ ap (λ (i : ℕ). at_kind (more_answered 0 (more x)) [] (byte D (q x) i b)) (sub-zero k)

      kind_took : (a : List ℕ) (q' : Bench S) → x.stuck ≡ false → ((k : ℕ) → byte D (q x) (length a + k) b ≡ took q' a) → (k : ℕ)
          → kind_byte D p r (length (x.answers ++ a) + k) b ≡ takes q' (begins (more x)) (x.answers ++ a)
      kind_took a q' e w k =
          let l : length (x.answers ++ a) + k ≡ length x.answers + (length a + k) = omega (arith, length-append x.answers a) in
          ap (λ (i : ℕ). kind_byte D p r i b) l
          ∙ kind_again (length a + k)
          ∙ ap (after x.answers) (kind_done (length a + k) e ∙ ap (at_kind (more_answered 0 (more x)) []) (w k))

      kind_joins : Joins of_kind p r b (after_advances D p r m b x)
      kind_joins =
          if_cases (Joins of_kind p r b) x.stuck _ _
          (λ _ _. (kind_again, refl, refl))
          (λ e. go e (way D (q x) (m - length x.answers) b))
        where
          go : x.stuck ≡ false → Way D (q x) (m - length x.answers) b → Joins of_kind p r b (at_kind (more x) x.answers (byte D (q x) (m - length x.answers) b))
          go s (carries e j w) = rw w (kind_took [] _ s (λ k. byte_carries D (q x) (0 + k) b e j))
          go s (full e j y w) = rw w (λ _. (kind_again, refl, refl))
          go s (ends e j y w) =
              rw w (kind_took (D.run x.state (p.carried ++ b ∷ [])).answer _ s
              (λ k. byte_ends D (q x) (length (D.run x.state (p.carried ++ b ∷ [])).answer + k) b e j (omega (arith, D.eight x.state (p.carried ++ b ∷ [])))))
          go s (unknown e w) = rw w (λ j. absurd (omega arith))

  kind_byte_joins : (p : Bench S) (r : Progress) (m b : ℕ) → Joins of_kind p r b (kind_byte D p r m b)
  unfolding kind_byte
  kind_byte_joins p r m b =
      if_cases (Joins of_kind p r b) (back r.earlier (stamp_in r.stamp)) _ _
      (λ _ j. absurd (omega arith))
      (λ f. if_cases (Joins of_kind p r b) (eqb b 1) _ _ (λ _ j. absurd (omega arith)) (λ g. kind_joins p r b f g m))

  byte_joins : (t : Role) (p : Bench S) (r : Progress) (m b : ℕ) → Joins t p r b (byte_as D t p r m b)
  byte_joins of_stamp p r m b = λ k. refl
  byte_joins of_kind p r m b = kind_byte_joins p r m b
  byte_joins of_record p r m b = record_joins p r m b

  -- ---- ONE CALL
  -- the second call begins with the bytes that the first did not consume, and has n answer bytes; the one call has these and as many as the first wrote
  abbrev pub JoinsCall : List ℕ → List ℕ → Type 0
  JoinsCall xs ys = (p : Bench S) (r : Progress) (m n : ℕ) → (replay_open D p r m xs).number < 31
      → let f = replay_open D p r m xs in
      replay_open D p r (length f.answers + n) (xs ++ ys) ≡ later f.consumed f.answers (replay_open D f.bench f.progress n (drop f.consumed xs ++ ys))

  later_none : (f : Replayed S) → later 0 [] f ≡ f
  later_none f = λ i. record { bench = f.bench; progress = f.progress; number = f.number; consumed = zero-add f.consumed i; answers = f.answers }

  again : (n : ℕ) (a : List ℕ) (x : Does S) (rest : Bench S → Progress → ℕ → Replayed S) → go_on (length a + n) (after a x) rest ≡ later 0 a (go_on n x rest)
  again n a (takes p r a') rest =
      let l : length a + n - length (a ++ a') ≡ n - length a' = omega (arith, length-append a a') in
      let f = rest p r (n - length a') in
      let c : 1 + f.consumed ≡ 0 + (1 + f.consumed) = omega arith in
      ap (λ (i : ℕ). later 1 (a ++ a') (rest p r i)) l
      ∙ (λ i. record { bench = f.bench; progress = f.progress; number = f.number; consumed = c i; answers = append_assoc a a' f.answers i })
  again n a (halts k p r a') rest = refl

  pub joins : (xs ys : List ℕ) → JoinsCall xs ys
  unfolding replay_open
  joins [] ys p r m n h = ap (λ (k : ℕ). replay_open D p r k ys) (zero-add n) ∙ sym (later_none (replay_open D p r n ys))
  joins (b ∷ bs) ys p r m n h =
      go (byte_as D (role_of p.carried r.stamp) p r m b) (byte_joins (role_of p.carried r.stamp) p r m b) h (λ p' r' m' n' h'. joins bs ys p' r' m' n' h')
    where
      go : (x : Does S) → Joins (role_of p.carried r.stamp) p r b x → (go_on m x (λ p' r' room'. replay_open D p' r' room' bs)).number < 31 → JoinsCall bs ys
          → let f = go_on m x (λ p' r' room'. replay_open D p' r' room' bs) in
          replay_open D p r (length f.answers + n) (b ∷ (bs ++ ys)) ≡ later f.consumed f.answers (replay_open D f.bench f.progress n (drop f.consumed (b ∷ bs) ++ ys))
      go (takes q r' a) w h ih =
          let g = replay_open D q r' (m - length a) bs in
          let l : length (a ++ g.answers) + n ≡ length a + (length g.answers + n) = omega (arith, length-append a g.answers) in
          let k : length a + (length g.answers + n) - length a ≡ length g.answers + n = omega arith in
          let y = replay_open D g.bench g.progress n (drop g.consumed bs ++ ys) in
          let c : 1 + (g.consumed + y.consumed) ≡ 1 + g.consumed + y.consumed = omega arith in
          rw one-add
          (ap (λ (i : ℕ). replay_open D p r i (b ∷ (bs ++ ys))) l
          ∙ ap (λ (x : Does S). go_on (length a + (length g.answers + n)) x (λ p' r' room'. replay_open D p' r' room' (bs ++ ys))) (w (length g.answers + n))
          ∙ ap (λ (i : ℕ). later 1 a (replay_open D q r' i (bs ++ ys))) k
          ∙ ap (later 1 a) (ih q r' (m - length a) n h)
          ∙ (λ i. record { bench = y.bench; progress = y.progress; number = y.number; consumed = c i; answers = sym (append_assoc a g.answers y.answers) i })
          ∙ rw one-add)
      go (halts k q r' a) w h ih =
          let v = w h in
          let rest : Bench S → Progress → ℕ → Replayed S = λ p' r' room'. replay_open D p' r' room' (bs ++ ys) in
          ap (λ (x : Does S). go_on (length a + n) x rest) (v.0 n)
          ∙ again n a (byte_as D (role_of p.carried r.stamp) q r' n b) rest
          ∙ (λ i. later 0 a (go_on n (byte_as D (role_of (sym v.1 i) (sym v.2 i)) q r' n b) rest))
