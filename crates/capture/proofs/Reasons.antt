-- Why a call ends, from any place that matches: its number says for which of six reasons.
use Prim.Native.Nat.{ℕ, suc, ◌+◌, ◌-◌, ◌≤◌, ◌<◌}
use mathlib.Core.Path.{◌≡◌, refl, ap, sym, ◌∙◌, subst}
use mathlib.Core.Bool.{Bool, true, false, ◌&&◌, ◌||◌, not}
use mathlib.Core.List.{List, [], ◌∷◌, ◌++◌}
use mathlib.Core.Logic.{◌⊎◌, inl, inr}
use native.Mathlib.Omega.{arith}
use native.Mathlib.Numerals.{one-add}
use lib.ListN.{length, drop, length-append, length-drop}
use lib.Dec.{leb, ltb, eqb}
use borrow.Author.Tests.{leb-true, ltb-true, eqb-true}
use Rattle.std.specs.Prelude.{is_some}
use Rattle.bits.proofs.Tests.{both_left, both_right, split}
use Rattle.times.specs.declared.Nanos.{Nanos}
use Rattle.trace.specs.Format.{when◌then◌else◌}
use Rattle.trace.specs.Bench.{Device, Bench}
use Rattle.trace.specs.Feed.{byte}
use Rattle.trace.proofs.Tests.{if_cases}
use Rattle.trace.proofs.Cutting.{Partial}
use Rattle.trace.proofs.Feeding.{Way, way, carries, full, ends, unknown, none_carried_lem, partial_more}
use Rattle.trace.proofs.OneCall.{next_last}
use Rattle.capture.specs.Advances.{stamp_in, back, due, advance}
use Rattle.capture.specs.Capture.{Role, of_stamp, of_kind, of_record, role_of}
use Rattle.capture.specs.Replay.{Progress, Replayed, end_fits, matches, Does, takes, halts, more_answered, Advanced, in_record, at_kind, go_on, advancing, after_advances, kind_byte, byte_as, replay_open}
use Rattle.capture.specs.Ending.{KindNext, InOrder, EndsWith, all_consumed, advance-waits, record_waits, no_kind, went_back, kind_01}
use Rattle.capture.proofs.Advancing.{due_none}
use Rattle.capture.proofs.Standing.{NextIs, next_is, next_stamp, next_kind, next_record}

-- ---- where a call can go on: an incomplete record or none, at most 4 stamp bytes, and no more answered than are due
pub record Stands (c : List ℕ) (r : Progress) : Type 0 where
  pub partial : Partial c
  pub stamp : length r.stamp ≤ 4
  pub some : r.answered ≤ length (due r.earlier r.stamp)

-- what matches is there
pub matched_stands : (c : List ℕ) (r : Progress) → Partial c → matches c r ≡ true → Stands c r
unfolding matches
matched_stands [] r h e =
    let a = leb (length r.stamp) 4 in
    let b = leb r.answered (length (due r.earlier r.stamp)) in
    record {
      partial = h;
      stamp = leb-true (length r.stamp) 4 (both_left a (b && end_fits r) e);
      some = leb-true r.answered (length (due r.earlier r.stamp)) (both_left b (end_fits r) (both_right a (b && end_fits r) e));
    }
matched_stands (k ∷ rest) r h e =
    let a = is_some r.earlier in
    let b = eqb (length r.stamp) 0 in
    let c = eqb r.answered 0 in
    let d = eqb r.ended 0 && not (eqb k 1) in
    let t = both_right a (b && (c && d)) e in
    record {
      partial = h;
      stamp = omega (arith, eqb-true (length r.stamp) 0 (both_left b (c && d) t));
      some = omega (arith, eqb-true r.answered 0 (both_left c d (both_right b (c && d) t)));
    }

-- and it is not ended, or by 32 or 33
fits_ended : (r : Progress) → end_fits r ≡ true → (r.ended ≡ 0) ⊎ ((r.ended ≡ 32) ⊎ (r.ended ≡ 33))
unfolding end_fits
fits_ended r e = split (eqb r.ended 0) (λ z. inl (eqb-true r.ended 0 z)) (λ z. inr (by (eqb r.ended 0) z e))
  where
    which : (m : ℕ) → r.ended ≡ m → (m ≡ 32) ⊎ (m ≡ 33) → (r.ended ≡ 32) ⊎ (r.ended ≡ 33)
    which m q (inl z) = inl (q ∙ z)
    which m q (inr z) = inr (q ∙ z)

    by : (t : Bool) → t ≡ false → (t || (eqb (length r.stamp) 4 && eqb r.ended (when back r.earlier (stamp_in r.stamp) then 32 else 33))) ≡ true
        → (r.ended ≡ 32) ⊎ (r.ended ≡ 33)
    by true z q = absurd (let z : ◌≡◌ {A = ℕ} 0 1 = cc in omega arith)
    by false z q =
        which (when back r.earlier (stamp_in r.stamp) then 32 else 33) (eqb-true r.ended _ (both_right (eqb (length r.stamp) 4) _ q))
        (if_cases (λ (m : ℕ). (m ≡ 32) ⊎ (m ≡ 33)) (back r.earlier (stamp_in r.stamp)) 32 33 (λ _. inl refl) (λ _. inr refl))

pub matched_ended : (c : List ℕ) (r : Progress) → matches c r ≡ true → (r.ended ≡ 0) ⊎ ((r.ended ≡ 32) ⊎ (r.ended ≡ 33))
unfolding matches
matched_ended [] r e =
    let a = leb (length r.stamp) 4 in
    let b = leb r.answered (length (due r.earlier r.stamp)) in
    fits_ended r (both_right b (end_fits r) (both_right a (b && end_fits r) e))
matched_ended (k ∷ rest) r e =
    let a = is_some r.earlier in
    let b = eqb (length r.stamp) 0 in
    let c = eqb r.answered 0 in
    let d = eqb r.ended 0 in
    let d' = not (eqb k 1) in
    inl (eqb-true r.ended 0 (both_left d d' (both_right c (d && d') (both_right b (c && (d && d')) (both_right a (b && (c && (d && d'))) e)))))

module _ {S : Type 0} (D : Device S) where
  -- ---- advances without room
  record Waits (ds : List Nanos) (room : ℕ) (x : Advanced S) : Type 0 where
    some : x.stuck ≡ true → x.count < length ds
    full : x.stuck ≡ true → room - length x.answers < 8
    all : x.stuck ≡ false → x.count ≡ length ds

  waits : (ds : List Nanos) (s : S) (room : ℕ) → Waits ds room (advancing D s room ds)
  unfolding advancing
  waits [] s room = record { some = λ e. absurd (let z : ◌≡◌ {A = ℕ} 0 1 = cc in omega arith); full = λ e. absurd (let z : ◌≡◌ {A = ℕ} 0 1 = cc in omega arith); all = λ _. refl }
  waits (t ∷ more) s room =
      if_cases (Waits (t ∷ more) room) (ltb room 8) _ _
      (λ l. let j = ltb-true room 8 l in record { some = λ _. omega arith; full = λ _. omega arith; all = λ e. absurd (let z : ◌≡◌ {A = ℕ} 0 1 = cc in omega arith) })
      (λ l.
      let x = D.run s (advance t) in
      let y = advancing D x.state (room - 8) more in
      let w = waits more x.state (room - 8) in
      record {
        some = λ e. omega (arith, w.some e);
        full = λ e. omega (arith, w.full e, length-append x.answer y.answers, D.eight s (advance t));
        all = λ e. ap suc (w.all e);
      })

  -- ---- one byte: it goes on from where it can, or says why it does not
  abbrev Why : ℕ → ℕ → Does S → Type 0
  Why room b (takes q r a) = Stands q.carried r
  Why room b (halts n q r a) = (more : List ℕ) → EndsWith q.carried r (room - length a) (b ∷ more) n

  module _ (p : Bench S) (r : Progress) (room b : ℕ) (v : Stands p.carried r) where
    why_stamp : length r.stamp < 4 → Why room b (byte_as D of_stamp p r room b)
    why_stamp l =
        record {
          partial = v.partial;
          stamp = omega (arith, length-append r.stamp (b ∷ []));
          some = omega (arith, v.some, ap length (due_none r.earlier r.stamp l));
        }

    why_record : (k : ℕ) (rest : List ℕ) → p.carried ≡ k ∷ rest → Why room b (in_record r (byte D p room b))
    why_record k rest c = go (way D p room b)
      where
        some_carried : p.carried ≡ [] → ⊥
        some_carried e = let z : ◌≡◌ {A = ℕ} 0 1 = omega (arith, ap length (sym e ∙ c)) in omega arith

        go : Way D p room b → Why room b (in_record r (byte D p room b))
        go (carries e j w) = rw w (record { partial = partial_more D p.carried b v.partial e j; stamp = v.stamp; some = v.some })
        go (full e j x w) = rw w (λ more. record_waits b more refl refl (next_last p.carried b v.partial e j) (λ q. absurd (some_carried q)) (omega arith))
        go (ends e j x w) = rw w (record { partial = tt; stamp = v.stamp; some = v.some })
        go (unknown e w) = absurd (some_carried (none_carried_lem D p.carried b v.partial e).0)

    module _ (at : KindNext p.carried r) where
      module _ (f : back r.earlier (stamp_in r.stamp) ≡ false) (g : eqb b 1 ≡ false) where
        abbrev rest : List Nanos
        rest = drop r.answered (due r.earlier r.stamp)

        abbrev x : Advanced S
        x = advancing D p.state room rest

        abbrev q : Bench S
        q = record { state = x.state; carried = p.carried; broken = p.broken }

        abbrev more : Progress
        more = more_answered x.count r

        in_order : InOrder p.carried more b
        in_order = record { next = record { between = at.between; stamped = at.stamped }; forward = f; no_advance = g }

        left : length rest ≡ length (due r.earlier r.stamp) - r.answered
        left = length-drop r.answered (due r.earlier r.stamp)

        why_after : Why room b (after_advances D p r room b x)
        why_after =
            if_cases (Why room b) x.stuck _ _
            (λ s rest'. advance-waits b rest' refl refl in_order (omega (arith, w.some s, left)) (w.full s))
            (λ s. go (omega (arith, w.all s, left)) (way D q (room - length x.answers) b))
          where
            w : Waits rest room x
            w = waits rest p.state room

            go : length (due r.earlier r.stamp) ≤ r.answered + x.count → Way D q (room - length x.answers) b
                → Why room b (at_kind more x.answers (byte D q (room - length x.answers) b))
            go l (carries e j y) = rw y (record { partial = partial_more D p.carried b v.partial e j; stamp = omega arith; some = omega arith })
            go l (full e j z y) = rw y (λ rest'. record_waits b rest' refl refl (next_last p.carried b v.partial e j) (λ _. (in_order, l)) (omega arith))
            go l (ends e j z y) = rw y (record { partial = tt; stamp = omega arith; some = omega arith })
            go l (unknown e y) = rw y (λ rest'. no_kind b rest' refl refl in_order l (none_carried_lem D p.carried b v.partial e).1)

      why_kind : Why room b (kind_byte D p r room b)
      unfolding kind_byte
      why_kind =
          if_cases (Why room b) (back r.earlier (stamp_in r.stamp)) _ _
          (λ f more. went_back b more refl refl (record { between = at.between; stamped = at.stamped }) f)
          (λ f. if_cases (Why room b) (eqb b 1) _ _ (λ g more. kind_01 b more refl refl (record { between = at.between; stamped = at.stamped }) f (eqb-true b 1 g)) (λ g. why_after f g))

    why : Why room b (byte_as D (role_of p.carried r.stamp) p r room b)
    why = go (next_is p.carried r.stamp)
      where
        to : (t : Role) → role_of p.carried r.stamp ≡ t → Why room b (byte_as D t p r room b) → Why room b (byte_as D (role_of p.carried r.stamp) p r room b)
        to t e x = subst (λ (m : Role). Why room b (byte_as D m p r room b)) (sym e) x

        go : NextIs p.carried r.stamp → Why room b (byte_as D (role_of p.carried r.stamp) p r room b)
        go (next_stamp c l e) = to of_stamp e (why_stamp l)
        go (next_kind c l e) = to of_kind e (why_kind (record { between = c; stamped = omega (arith, v.stamp) }))
        go (next_record k rest c e) = to of_record e (why_record k rest c)

  -- ---- one call
  abbrev pub Ending : ℕ → List ℕ → Replayed S → Type 0
  Ending room input f = EndsWith f.bench.carried f.progress (room - length f.answers) (drop f.consumed input) f.number

  abbrev From : List ℕ → Type 0
  From bs = (p : Bench S) (r : Progress) (room : ℕ) → Stands p.carried r → Ending room bs (replay_open D p r room bs)

  -- A CALL GOES ON AS LONG AS IT CAN, and its number says why it ended
  pub ends-from : (input : List ℕ) → From input
  unfolding replay_open
  ends-from [] p r room v = all_consumed refl refl
  ends-from (b ∷ bs) p r room v = go (byte_as D (role_of p.carried r.stamp) p r room b) (why p r room b v) (λ p' r' room' v'. ends-from bs p' r' room' v')
    where
      go : (x : Does S) → Why room b x → From bs → Ending room (b ∷ bs) (go_on room x (λ p' r' room'. replay_open D p' r' room' bs))
      go (takes q r' a') w ih =
          let f = replay_open D q r' (room - length a') bs in
          let n : room - length a' - length f.answers ≡ room - length (a' ++ f.answers) = omega (arith, length-append a' f.answers) in
          rw one-add (subst (λ (m : ℕ). EndsWith f.bench.carried f.progress m (drop f.consumed bs) f.number) n (ih q r' (room - length a') w))
      go (halts n q r' a') w ih = w bs
