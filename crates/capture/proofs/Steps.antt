-- Replay stamp by stamp, advance by advance and record by record: what a call does with the bytes that come next.
use Prim.Native.Nat.{ℕ, suc, ◌+◌, ◌-◌, ◌≤◌, ◌<◌}
use mathlib.Core.Path.{◌≡◌, refl, ap, sym, subst, ◌∙◌}
use mathlib.Core.Bool.{Bool, true, false}
use mathlib.Core.List.{List, [], ◌∷◌, ◌++◌, append_assoc, append-nil}
use native.Mathlib.Omega.{arith}
use native.Mathlib.Nat.{zero-add, sub-zero, add-zero}
use native.Mathlib.Numerals.{one-add}
use lib.ListN.{length, take, drop, length-append}
use lib.Seq.{append_snoc, take_at, drop-drop}
use lib.Dec.{eqb, ltb}
use borrow.Author.Tests.{ne_eqb, lt-ltb, le-ltb}
use Rattle.bits.proofs.Tests.{not_both}
use Rattle.times.specs.declared.Nanos.{Nanos}
use Rattle.trace.specs.Format.{when◌then◌else◌, body, begun}
use Rattle.trace.specs.Bench.{Device, Ran, Bench}
use Rattle.trace.specs.Feed.{Fed, Step, took, stop, byte, feed_open}
use Rattle.trace.specs.Feed as Feed
use Rattle.trace.proofs.Tests.{if_true, if_false}
use Rattle.trace.proofs.Cutting.{Partial}
use Rattle.trace.proofs.Gathering.{begun_partial, partial_begun}
use Rattle.trace.proofs.Feeding.{Way, way, carries, full, ends, unknown}
use Rattle.trace.proofs.Records.{carrying, Complete, length_whole, joined}
use Rattle.trace.proofs.Loop.{Ends}
use Rattle.capture.specs.Advances.{stamp_in, back, due, advance}
use Rattle.capture.specs.Capture.{Role, of_stamp, of_kind, role_of}
use Rattle.capture.specs.Replay.{Progress, Replayed, Does, halts, ended_with, more_stamp, more_answered, begins, Advanced, one_more, in_record, at_kind, still, later, go_on, advancing, after_advances, kind_byte, byte_as, replay_open}

-- the stamp bytes bs join those that are there
abbrev pub more_stamps : List ℕ → Progress → Progress
more_stamps bs r = record { earlier = r.earlier; stamp = r.stamp ++ bs; answered = r.answered; ended = r.ended }

-- what lies before a kind byte is in order: all 4 stamp bytes are there, the recorder did not go back, the kind is not 01
pub record InOrder (r : Progress) (b : ℕ) : Type 0 where
  pub stamped : length r.stamp ≡ 4
  pub forward : back r.earlier (stamp_in r.stamp) ≡ false
  pub kind : eqb b 1 ≡ false

-- a record's kind byte is next, and all advances of its stamp are answered
pub record AtRecord (r : Progress) (bs : List ℕ) : Type 0 where
  pub kind : ℕ
  pub more : List ℕ
  pub bytes : bs ≡ kind ∷ more
  pub in_order : InOrder r kind
  pub answered : drop r.answered (due r.earlier r.stamp) ≡ []

-- where m bytes of a record are taken, its kind byte among them if there is any
abbrev pub took_kind : Progress → ℕ → Progress
took_kind r m = when eqb m 0 then r else begins r

took_none : (r : Progress) (m : ℕ) → m ≡ 0 → took_kind r m ≡ r
took_none r m e = ap (took_kind r) e

took_some : (r : Progress) (m : ℕ) → 0 < m → took_kind r m ≡ begins r
took_some r m h = if_false (eqb m 0) r (begins r) (ne_eqb m 0 (λ q. omega arith))

pub none_more : (r : Progress) → more_answered 0 r ≡ r
none_more r = λ i. record { earlier = r.earlier; stamp = r.stamp; answered = add-zero r.answered i; ended = r.ended }

pub one_then : (n : ℕ) (r : Progress) → more_answered (suc n) r ≡ more_answered n (more_answered 1 r)
one_then n r =
    let e : r.answered + suc n ≡ r.answered + 1 + n = omega arith in
    λ i. record { earlier = r.earlier; stamp = r.stamp; answered = e i; ended = r.ended }

not_none : (a b : List ℕ) → length a ≡ 8 → a ++ b ≡ [] → ⊥
not_none a b l e = omega (arith, ap length e, length-append a b)

module _ {S : Type 0} where
  pub later-zero : (f : Replayed S) → later 0 [] f ≡ f
  later-zero f = λ i. record { bench = f.bench; progress = f.progress; number = f.number; consumed = zero-add f.consumed i; answers = f.answers }

  pub later-later : (n m : ℕ) (a b : List ℕ) (f : Replayed S) → later n a (later m b f) ≡ later (n + m) (a ++ b) f
  later-later n m a b f =
      let e : n + (m + f.consumed) ≡ n + m + f.consumed = omega arith in
      λ i. record { bench = f.bench; progress = f.progress; number = f.number; consumed = e i; answers = sym (append_assoc a b f.answers) i }

  -- the kind byte after an advance that was answered by a, and others that were answered by y
  after_one : (room n : ℕ) (a y : List ℕ) (r : Progress) (x : Step S) (f : Bench S → Progress → ℕ → Replayed S) → length a ≡ 8
      → go_on room (at_kind (more_answered (suc n) r) (a ++ y) x) f ≡ later 0 a (go_on (room - 8) (at_kind (more_answered n (more_answered 1 r)) y x) f)
  after_one room n a y r (took p z) f e =
      let l : room - length ((a ++ y) ++ z) ≡ room - 8 - length (y ++ z) =
      omega (arith, length-append (a ++ y) z, length-append a y, length-append y z) in
      (λ i. later 1 (append_assoc a y z i) (f p (begins r) (l i))) ∙ sym (later-later 0 1 a (y ++ z) (f p (begins r) (room - 8 - length (y ++ z))))
  after_one room n a y r (stop m p) f e = ap (λ (z : Progress). still m p z (a ++ y)) (one_then n r)

module _ {S : Type 0} (D : Device S) where
  -- ---- stamps
  pub stamps : (s : S) (r : Progress) (room : ℕ) (bs rest : List ℕ) → length r.stamp + length bs ≤ 4
      → replay_open D (carrying s []) r room (bs ++ rest) ≡ later (length bs) [] (replay_open D (carrying s []) (more_stamps bs r) room rest)
  unfolding replay_open
  stamps s r room [] rest h =
      sym (later-zero (replay_open D (carrying s []) (more_stamps [] r) room rest)
      ∙ ap (λ (l : List ℕ). replay_open D (carrying s []) (record { earlier = r.earlier; stamp = l; answered = r.answered; ended = r.ended }) room rest) (append-nil r.stamp))
  stamps s r room (b ∷ bs) rest h =
      let q = carrying s [] in
      let t : role_of [] r.stamp ≡ of_stamp = if_true (ltb (length r.stamp) 4) _ _ (lt-ltb (length r.stamp) 4 (omega arith)) in
      let e : 1 + length bs ≡ suc (length bs) = omega arith in
      ap (λ (x : Role). go_on room (byte_as D x q r room b) (λ p' r' room'. replay_open D p' r' room' (bs ++ rest))) t
      ∙ ap (λ (n : ℕ). later 1 [] (replay_open D q (more_stamp b r) n (bs ++ rest))) (sub-zero room)
      ∙ ap (later 1 []) (stamps s (more_stamp b r) room bs rest (omega (arith, length-append r.stamp (b ∷ []))))
      ∙ later-later 1 (length bs) [] [] (replay_open D q (more_stamps bs (more_stamp b r)) room rest)
      ∙ (λ i. later (e i) [] (replay_open D q (record { earlier = r.earlier; stamp = append_snoc r.stamp b bs i; answered = r.answered; ended = r.ended }) room rest))

  -- ---- at a kind byte
  module _ (s : S) (r : Progress) (room b : ℕ) (bs : List ℕ) where
    abbrev on : Does S → Replayed S
    on x = go_on room x (λ p' r' room'. replay_open D p' r' room' bs)

    at_kind_lem : length r.stamp ≡ 4 → replay_open D (carrying s []) r room (b ∷ bs) ≡ on (kind_byte D (carrying s []) r room b)
    unfolding replay_open
    at_kind_lem h =
        let t : role_of [] r.stamp ≡ of_kind = if_false (ltb (length r.stamp) 4) _ _ (le-ltb (length r.stamp) 4 (omega arith)) in
        ap (λ (x : Role). on (byte_as D x (carrying s []) r room b)) t

    -- 32, where the recorder went back
    pub goes_back : length r.stamp ≡ 4 → back r.earlier (stamp_in r.stamp) ≡ true
        → replay_open D (carrying s []) r room (b ∷ bs) ≡ still 32 (carrying s []) (ended_with 32 r) []
    unfolding kind_byte
    goes_back h e = at_kind_lem h ∙ ap on (if_true (back r.earlier (stamp_in r.stamp)) _ _ e)

    -- 33, where it did not, and the kind is 01
    pub kind_01 : length r.stamp ≡ 4 → back r.earlier (stamp_in r.stamp) ≡ false → eqb b 1 ≡ true
        → replay_open D (carrying s []) r room (b ∷ bs) ≡ still 33 (carrying s []) (ended_with 33 r) []
    unfolding kind_byte
    kind_01 h e k = at_kind_lem h ∙ ap on (if_false (back r.earlier (stamp_in r.stamp)) _ _ e ∙ if_true (eqb b 1) _ _ k)

    -- else the advances ts that are due and not answered
    in_order : (ts : List Nanos) → InOrder r b → drop r.answered (due r.earlier r.stamp) ≡ ts
        → replay_open D (carrying s []) r room (b ∷ bs) ≡ on (after_advances D (carrying s []) r room b (advancing D s room ts))
    unfolding kind_byte
    in_order ts o e =
        at_kind_lem o.stamped
        ∙ ap on
        (if_false (back r.earlier (stamp_in r.stamp)) _ _ o.forward
        ∙ if_false (eqb b 1) _ _ o.kind
        ∙ ap (λ (l : List Nanos). after_advances D (carrying s []) r room b (advancing D s room l)) e)

    -- 30, where one is due and there is no room for its answer
    pub no_advance_room : InOrder r b → (t : Nanos) (more : List Nanos) → drop r.answered (due r.earlier r.stamp) ≡ t ∷ more → room < 8
        → replay_open D (carrying s []) r room (b ∷ bs) ≡ still 30 (carrying s []) r []
    unfolding advancing
    no_advance_room o t more e j =
        in_order (t ∷ more) o e
        ∙ ap (λ (x : Advanced S). on (after_advances D (carrying s []) r room b x)) (if_true (ltb room 8) _ _ (lt-ltb room 8 j))
        ∙ ap (λ (z : Progress). still 30 (carrying s []) z []) (none_more r)

    -- with none left, the byte as feed takes it
    all_answered : InOrder r b → drop r.answered (due r.earlier r.stamp) ≡ [] → replay_open D (carrying s []) r room (b ∷ bs) ≡ on (at_kind r [] (byte D (carrying s []) room b))
    unfolding advancing
    all_answered o e =
        in_order [] o e
        ∙ ap (λ (z : Progress). on (at_kind z [] (byte D (carrying s []) (room - 0) b))) (none_more r)
        ∙ ap (λ (i : ℕ). on (at_kind r [] (byte D (carrying s []) i b))) (sub-zero room)

  -- the kind byte after one more advance
  after-advance : (s : S) (r : Progress) (room b : ℕ) (bs : List ℕ) (x : Ran S) (y : Advanced S) → length x.answer ≡ 8
      → on s r room b bs (after_advances D (carrying s []) r room b (one_more x y))
      ≡ later 0 x.answer (on x.state (more_answered 1 r) (room - 8) b bs (after_advances D (carrying x.state []) (more_answered 1 r) (room - 8) b y))
  after-advance s r room b bs x y e = by y.stuck
    where
      q : Bench S
      q = carrying y.state []

      one : Progress
      one = more_answered (suc y.count) r

      two : Progress
      two = more_answered y.count (more_answered 1 r)

      l : room - length (x.answer ++ y.answers) ≡ room - 8 - length y.answers
      l = omega (arith, length-append x.answer y.answers, e)

      by : (t : Bool)
          → on s r room b bs (when t then halts 30 q one (x.answer ++ y.answers) else at_kind one (x.answer ++ y.answers) (byte D q (room - length (x.answer ++ y.answers)) b))
          ≡ later 0 x.answer (on x.state (more_answered 1 r) (room - 8) b bs (when t then halts 30 q two y.answers else at_kind two y.answers (byte D q (room - 8 - length y.answers) b)))
      by true = ap (λ (z : Progress). still 30 q z (x.answer ++ y.answers)) (one_then y.count r)
      by false =
          ap (λ (n : ℕ). on s r room b bs (at_kind one (x.answer ++ y.answers) (byte D q n b))) l
          ∙ after_one room y.count x.answer y.answers r (byte D q (room - 8 - length y.answers) b) (λ p' r' room'. replay_open D p' r' room' bs) e

  -- an advance that is due, with room for its answer: it runs, and the kind byte is still next
  pub one_advance : (s : S) (r : Progress) (room b : ℕ) (bs : List ℕ) → InOrder r b → (t : Nanos) (more : List Nanos)
      → drop r.answered (due r.earlier r.stamp) ≡ t ∷ more → 8 ≤ room
      → (let x = D.run s (advance t) in
      replay_open D (carrying s []) r room (b ∷ bs) ≡ later 0 x.answer (replay_open D (carrying x.state []) (more_answered 1 r) (room - 8) (b ∷ bs)))
  unfolding advancing
  one_advance s r room b bs o t more e j =
      let x = D.run s (advance t) in
      let y = advancing D x.state (room - 8) more in
      let d : drop (r.answered + 1) (due r.earlier r.stamp) ≡ more = sym (drop-drop 1 r.answered (due r.earlier r.stamp)) ∙ ap (drop 1) e in
      let o' : InOrder (more_answered 1 r) b = record { stamped = o.stamped; forward = o.forward; kind = o.kind } in
      in_order s r room b bs (t ∷ more) o e
      ∙ ap (λ (z : Advanced S). on s r room b bs (after_advances D (carrying s []) r room b z)) (if_false (ltb room 8) _ _ (le-ltb room 8 j))
      ∙ after-advance s r room b bs x y (D.eight s (advance t))
      ∙ ap (later 0 x.answer) (sym (in_order x.state (more_answered 1 r) (room - 8) b bs more o' d))

  -- ---- in a record
  -- a byte of a record, as feed takes it, and the rest
  abbrev in_rec : Progress → ℕ → List ℕ → Step S → Replayed S
  in_rec r room bs x = go_on room (in_record r x) (λ p' r' room'. replay_open D p' r' room' bs)

  -- while feed answers nothing, replay does what feed does, and its state stays
  unanswered : (s : S) (k : ℕ) (c : List ℕ) (r : Progress) (room : ℕ) (input : List ℕ)
      → (let f = feed_open D (carrying s (k ∷ c)) room input in
      f.answers ≡ [] → replay_open D (carrying s (k ∷ c)) r room input ≡ record { bench = f.bench; progress = r; number = f.number; consumed = f.consumed; answers = f.answers })
  unfolding replay_open feed_open
  unanswered s k c r room [] e = refl
  unanswered s k c r room (b ∷ bs) e = go (way D (carrying s (k ∷ c)) room b) e (λ room'. unanswered s k (c ++ b ∷ []) r room' bs)
    where
      go : Way D (carrying s (k ∷ c)) room b
          → (let f = feed_open D (carrying s (k ∷ c)) room (b ∷ bs) in
          f.answers ≡ []
          → ((room' : ℕ) → (let g = feed_open D (carrying s (k ∷ c ++ b ∷ [])) room' bs in
          g.answers ≡ [] → replay_open D (carrying s (k ∷ c ++ b ∷ [])) r room' bs ≡ record { bench = g.bench; progress = r; number = g.number; consumed = g.consumed; answers = g.answers }))
          → in_rec r room bs (byte D (carrying s (k ∷ c)) room b) ≡ record { bench = f.bench; progress = r; number = f.number; consumed = f.consumed; answers = f.answers })
      go (carries d i w) = rw w (λ e ih. ap (later 1 []) (ih (room - 0) e))
      go (full d i j w) = rw w (λ e ih. refl)
      go (ends d i j w) = rw w (λ e ih. absurd (not_none (D.run s (k ∷ c ++ b ∷ [])).answer _ (D.eight s (k ∷ c ++ b ∷ [])) e))
      go (unknown d w) = rw w (λ e ih. refl)

  -- a record that the input does not complete, or for which there is no room
  pub carried_end : (s : S) (c : List ℕ) (r : Progress) (room : ℕ) (input : List ℕ) (n m : ℕ) → Ends D s room (c ++ input) n m → begun c ≡ true → 0 < length c
      → replay_open D (carrying s c) r room input
      ≡ record { bench = record { state = s; carried = take m (c ++ input); broken = eqb n 31 }; progress = r; number = n; consumed = m - length c; answers = [] }
  carried_end s [] r room input n m z b h = absurd (omega arith)
  carried_end s (k ∷ c) r room input n m z b h =
      let f = feed_open D (carrying s (k ∷ c)) room input in
      let e = joined D s (k ∷ c) input room (begun_partial (k ∷ c) b) ∙ z.gives in
      let a : f.answers ≡ [] = ap (λ (x : Fed S). x.answers) e in
      let i : f.consumed ≡ m - length (k ∷ c) = omega (arith, ap (λ (x : Fed S). x.consumed) e) in
      unanswered s k c r room input a
      ∙ (λ j. record { bench = ap (λ (x : Fed S). x.bench) e j; progress = r; number = ap (λ (x : Fed S). x.number) e j; consumed = i j; answers = a j })

  -- a byte, and then n more
  one_and_more : (n m : ℕ) → m ≡ suc n → (b : ℕ) (bs a : List ℕ) (f : List ℕ → Replayed S) → later 1 [] (later n a (f (drop n bs))) ≡ later m a (f (drop m (b ∷ bs)))
  one_and_more n m e b bs a f =
      later-later 1 n [] a (f (drop n bs))
      ∙ ap (λ (i : ℕ). later i a (f (drop n bs))) (one-add n)
      ∙ ap (λ (i : ℕ). later i a (f (drop i (b ∷ bs)))) (sym e)

  -- the last byte of the record w, which is next
  ran : (s : S) (r : Progress) (room b : ℕ) (bs u w : List ℕ) (m : ℕ) → u ≡ w → m ≡ 1
      → later 1 (D.run s u).answer (replay_open D (carrying (D.run s u).state []) r (room - length (D.run s u).answer) bs)
      ≡ later m (D.run s w).answer (replay_open D (carrying (D.run s w).state []) r (room - 8) (drop m (b ∷ bs)))
  ran s r room b bs u w m e n =
      ap (λ (i : ℕ). later 1 (D.run s u).answer (replay_open D (carrying (D.run s u).state []) r (room - i) bs)) (D.eight s u)
      ∙ ap (λ (v : List ℕ). later 1 (D.run s v).answer (replay_open D (carrying (D.run s v).state []) r (room - 8) bs)) e
      ∙ ap (λ (i : ℕ). later i (D.run s w).answer (replay_open D (carrying (D.run s w).state []) r (room - 8) (drop i (b ∷ bs)))) (sym n)

  -- a record that the input completes, with room: it runs
  completes : (s : S) (k : ℕ) (c : List ℕ) (r : Progress) (room : ℕ) (input w : List ℕ) → Partial (k ∷ c) → Complete (k ∷ c ++ input) w → 8 ≤ room
      → replay_open D (carrying s (k ∷ c)) r room input
      ≡ later (length w - length (k ∷ c)) (D.run s w).answer (replay_open D (carrying (D.run s w).state []) r (room - 8) (drop (length w - length (k ∷ c)) input))
  unfolding replay_open
  completes s k c r room [] w h z j = absurd (omega (arith, h.1, z.fits, length-append c []))
  completes s k c r room (b ∷ bs) w h z j = go (way D (carrying s (k ∷ c)) room b) (completes s k (c ++ b ∷ []) r room bs w)
    where
      go : Way D (carrying s (k ∷ c)) room b
          → (Partial (k ∷ c ++ b ∷ []) → Complete (k ∷ (c ++ b ∷ []) ++ bs) w → 8 ≤ room → replay_open D (carrying s (k ∷ c ++ b ∷ [])) r room bs
          ≡ later (length w - length (k ∷ c ++ b ∷ [])) (D.run s w).answer (replay_open D (carrying (D.run s w).state []) r (room - 8) (drop (length w - length (k ∷ c ++ b ∷ [])) bs)))
          → in_rec r room bs (byte D (carrying s (k ∷ c)) room b)
          ≡ later (length w - length (k ∷ c)) (D.run s w).answer (replay_open D (carrying (D.run s w).state []) r (room - 8) (drop (length w - length (k ∷ c)) (b ∷ bs)))
      go (carries d i v) ih =
          let n = length w - length (k ∷ c ++ b ∷ []) in
          let l : length w - length (k ∷ c) ≡ suc n = omega (arith, length-append c (b ∷ []), (length_whole (k ∷ c ++ b ∷ bs) w z).0) in
          rw (v, sub-zero)
          (ap (later 1 []) (ih (h.0, omega (arith, length-append c (b ∷ []))) (subst (λ (u : List ℕ). Complete u w) (sym (append_snoc (k ∷ c) b bs)) z) j)
          ∙ one_and_more n (length w - length (k ∷ c)) l b bs (D.run s w).answer (replay_open D (carrying (D.run s w).state []) r (room - 8)))
      go (full d i t v) ih = absurd (omega arith)
      go (ends d i t v) ih =
          let u = k ∷ c ++ b ∷ [] in
          let l = (length_whole (k ∷ c ++ b ∷ bs) w z).0 in
          let e : u ≡ w =
          sym (z.is ∙ ap (take (suc (body k))) (sym (append_snoc (k ∷ c) b bs)) ∙ take_at u bs (suc (body k)) (omega (arith, length-append c (b ∷ []), h.1))) in
          rw v (ran s r room b bs u w (length w - length (k ∷ c)) e (omega (arith, h.1)))
      go (unknown d v) ih = not_both z.kind d

  pub carried_record : (s : S) (c : List ℕ) (r : Progress) (room : ℕ) (input w : List ℕ) → Complete (c ++ input) w → 8 ≤ room → begun c ≡ true → 0 < length c
      → replay_open D (carrying s c) r room input
      ≡ later (length w - length c) (D.run s w).answer (replay_open D (carrying (D.run s w).state []) r (room - 8) (drop (length w - length c) input))
  carried_record s [] r room input w z j b h = absurd (omega arith)
  carried_record s (k ∷ c) r room input w z j b h = completes s k c r room input w (begun_partial (k ∷ c) b) z j

  -- ---- at a record
  runs_record : (s : S) (r : Progress) (room b : ℕ) (bs w : List ℕ) → InOrder r b → drop r.answered (due r.earlier r.stamp) ≡ [] → Complete (b ∷ bs) w → 8 ≤ room
      → replay_open D (carrying s []) r room (b ∷ bs)
      ≡ later (length w) (D.run s w).answer (replay_open D (carrying (D.run s w).state []) (begins r) (room - 8) (drop (length w) (b ∷ bs)))
  runs_record s r room b bs w o e z j = all_answered s r room b bs o e ∙ go (way D (carrying s []) room b)
    where
      l : length w ≡ suc (body b)
      l = (length_whole (b ∷ bs) w z).0

      go : Way D (carrying s []) room b → on s r room b bs (at_kind r [] (byte D (carrying s []) room b))
          ≡ later (length w) (D.run s w).answer (replay_open D (carrying (D.run s w).state []) (begins r) (room - 8) (drop (length w) (b ∷ bs)))
      go (carries d i v) =
          rw (v, sub-zero)
          (ap (later 1 []) (completes s b [] (begins r) room bs w (d, i) z j)
          ∙ one_and_more (length w - 1) (length w) (omega (arith, l)) b bs (D.run s w).answer (replay_open D (carrying (D.run s w).state []) (begins r) (room - 8)))
      go (full d i t v) = absurd (omega arith)
      go (ends d i t v) =
          let e : b ∷ [] ≡ w = sym (z.is ∙ take_at (b ∷ []) bs (suc (body b)) (omega arith)) in
          rw v (ran s (begins r) room b bs (b ∷ []) w (length w) e (omega (arith, l)))
      go (unknown d v) = not_both z.kind d

  ends_record : (s : S) (r : Progress) (room b : ℕ) (bs : List ℕ) (n m : ℕ) → InOrder r b → drop r.answered (due r.earlier r.stamp) ≡ [] → Ends D s room (b ∷ bs) n m
      → replay_open D (carrying s []) r room (b ∷ bs)
      ≡ record { bench = record { state = s; carried = take m (b ∷ bs); broken = eqb n 31 }; progress = took_kind r m; number = n; consumed = m; answers = [] }
  unfolding feed_open
  ends_record s r room b bs n m o e z = all_answered s r room b bs o e ∙ go (way D (carrying s []) room b) z.gives
    where
      q : Bench S
      q = record { state = s; carried = take m (b ∷ bs); broken = eqb n 31 }

      halted : (k : ℕ) (p : Bench S) → Feed.stopped k p ≡ Feed.later m [] (Feed.stopped n q) → still k p r [] ≡ record { bench = q; progress = took_kind r m; number = n; consumed = m; answers = [] }
      halted k p g =
          let c : 0 ≡ m = omega (arith, ap (λ (x : Fed S). x.consumed) g) in
          λ i. record { bench = (g i).bench; progress = sym (took_none r m (sym c)) i; number = (g i).number; consumed = c i; answers = [] }

      go : Way D (carrying s []) room b → feed_open D (carrying s []) room (b ∷ bs) ≡ Feed.later m [] (Feed.stopped n q)
          → on s r room b bs (at_kind r [] (byte D (carrying s []) room b)) ≡ record { bench = q; progress = took_kind r m; number = n; consumed = m; answers = [] }
      go (carries d i v) =
          rw (v, sub-zero)
          (λ g.
          let h : 0 < m = omega (arith, ap (λ (x : Fed S). x.consumed) g) in
          let c : 1 + (m - 1) ≡ m = omega arith in
          ap (later 1 []) (carried_end s (b ∷ []) (begins r) room bs n m z (partial_begun (b ∷ []) (d, i)) (omega arith))
          ∙ (λ j. record { bench = q; progress = sym (took_some r m h) j; number = n; consumed = c j; answers = [] }))
      go (full d i t v) = rw v (halted 30 (carrying s []))
      go (ends d i t v) = rw v (λ g. absurd (not_none (D.run s (b ∷ [])).answer _ (D.eight s (b ∷ [])) (ap (λ (x : Fed S). x.answers) g)))
      go (unknown d v) = rw v (halted 31 (record { state = s; carried = []; broken = true }))

  -- a whole record, with room: it runs
  pub whole_record : (s : S) (r : Progress) (room : ℕ) (bs w : List ℕ) → AtRecord r bs → Complete bs w → 8 ≤ room
      → replay_open D (carrying s []) r room bs
      ≡ later (length w) (D.run s w).answer (replay_open D (carrying (D.run s w).state []) (begins r) (room - 8) (drop (length w) bs))
  whole_record s r room bs w a =
      subst (λ (l : List ℕ). Complete l w → 8 ≤ room → replay_open D (carrying s []) r room l
      ≡ later (length w) (D.run s w).answer (replay_open D (carrying (D.run s w).state []) (begins r) (room - 8) (drop (length w) l)))
      (sym a.bytes) (runs_record s r room a.kind a.more w a.in_order a.answered)

  -- or the call ends
  pub no_record : (s : S) (r : Progress) (room : ℕ) (bs : List ℕ) (n m : ℕ) → AtRecord r bs → Ends D s room bs n m
      → replay_open D (carrying s []) r room bs
      ≡ record { bench = record { state = s; carried = take m bs; broken = eqb n 31 }; progress = took_kind r m; number = n; consumed = m; answers = [] }
  no_record s r room bs n m a =
      subst (λ (l : List ℕ). Ends D s room l n m → replay_open D (carrying s []) r room l
      ≡ record { bench = record { state = s; carried = take m l; broken = eqb n 31 }; progress = took_kind r m; number = n; consumed = m; answers = [] })
      (sym a.bytes) (ends_record s r room a.kind a.more n m a.in_order a.answered)
