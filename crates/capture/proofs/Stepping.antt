-- One byte of a replay, and one call: on the trace that its consumed bytes stand for it is the plain bench.
use Prim.Native.Nat.{ℕ, suc, ◌+◌, ◌-◌, ◌≤◌, ◌<◌}
use mathlib.Core.Path.{◌≡◌, refl, ap, sym, ◌∙◌, subst}
use mathlib.Core.Bool.{Bool, true, false, ◌&&◌, ◌||◌}
use mathlib.Core.List.{List, [], ◌∷◌, ◌++◌, append_assoc, append-nil}
use native.Mathlib.Omega.{arith}
use native.Mathlib.Numerals.{one-add}
use lib.ListN.{length, take, drop, length-append, length-drop}
use lib.Seq.{append_snoc, take-add, take_all}
use lib.Dec.{ltb, eqb}
use borrow.Author.Tests.{lt-ltb, le-ltb, eq-eqb}
use Rattle.std.specs.Prelude.{Some, is_some}
use Rattle.times.specs.declared.Nanos.{Nanos}
use Rattle.trace.specs.Format.{when◌then◌else◌, Bytes, known, body, size_of, whole}
use Rattle.trace.specs.Bench.{Device, Bench, Benched, cut, cut_in, runs, plain}
use Rattle.trace.specs.Feed.{kind_at, Step, took, stop, byte, feed_open}
use Rattle.trace.specs.inner.Keeps.{RunKeeps}
use Rattle.trace.proofs.Tests.{if_cases, if_true, if_false}
use Rattle.bits.proofs.Bytes.{bytes_append}
use Rattle.trace.proofs.Feeding.{Way, way, carries, full, ends, unknown, left_as, answered, feed-plain}
use Rattle.trace.proofs.OneCall.{plain_append, Kept, open_keeps}
use Rattle.capture.specs.Advances.{stamp_in, back, due, advance, advance_bytes}
use Rattle.capture.specs.Capture.{Place, start, Role, of_stamp, of_kind, of_record, role_of, carried_after, trace_from, place_of}
use Rattle.capture.specs.Replay.{Progress, Replayed, end_fits, Does, takes, halts, ended_with, more_stamp, more_answered, begins, Advanced, in_record, at_kind, go_on, advancing, after_advances, kind_byte, byte_as, replay_open}
use Rattle.capture.specs.inner.Keeps.{Fits}
use Rattle.capture.proofs.Advancing.{bytes_advance, advance-whole, stamp_below, due_few, due_none, advance_bytes_append}
use Rattle.capture.proofs.Standing.{NextIs, next_is, next_stamp, next_kind, next_record, place_more, trace_more, told_none}

-- ---- In a record: some record was begun, it is no 01, and nothing of a stamp is there
abbrev pub Inside : List ℕ → Progress → Type 0
Inside [] r = Unit {0}
Inside (k ∷ rest) r = (r.stamp ≡ []) × (eqb k 1 ≡ false) × (is_some r.earlier ≡ true) × (r.ended ≡ 0)

inside_none : (c : List ℕ) (r : Progress) → c ≡ [] → Inside c r
inside_none [] r e = tt
inside_none (k ∷ rest) r e = absurd (let z : ◌≡◌ {A = ℕ} 0 1 = omega (arith, ap length e) in omega arith)

-- what a call can give, with what it leaves broken and ended
pub data Numbered : ℕ → Bool → ℕ → Type 0 where
  gives_0 : Numbered 0 false 0
  gives_30 : Numbered 30 false 0
  gives_31 : Numbered 31 true 0
  gives_32 : Numbered 32 false 32
  gives_33 : Numbered 33 false 33

module _ {S : Type 0} (D : Device S) where
  -- the plain bench on one advance
  plain-advance : (s : S) (ns : Nanos) → plain D s (advance ns) ≡ record { state = (D.run s (advance ns)).state; carried = []; answers = (D.run s (advance ns)).answer }
  unfolding plain runs cut cut_in whole known body size_of advance
  plain-advance s ns = let x = D.run s (advance ns) in λ i. record { state = x.state; carried = []; answers = append-nil x.answer i }

module _ {S : Type 0} (D : Device S) (Good : S → Type 0) (keeps : RunKeeps D Good) (s : S) where
  -- ---- a byte as feed takes it
  record Took (p : Bench S) (b : ℕ) (q : Bench S) (a : List ℕ) : Type 0 where
    plainly : plain D p.state (p.carried ++ b ∷ []) ≡ left_as D q a
    kept : Kept D Good keeps q
    carried : q.carried ≡ carried_after p.carried b
    unbroken : q.broken ≡ false

  record Stopped (p : Bench S) (n : ℕ) (q : Bench S) : Type 0 where
    state : q.state ≡ p.state
    carried : q.carried ≡ p.carried
    kept : Kept D Good keeps q
    number : Numbered n q.broken 0

  abbrev Byte : Bench S → ℕ → Step S → Type 0
  Byte p b (took q a) = Took p b q a
  Byte p b (stop n q) = Stopped p n q

  by_byte : (p : Bench S) (room b : ℕ) → Kept D Good keeps p → p.broken ≡ false → b < 256 → Byte p b (byte D p room b)
  unfolding feed_open
  by_byte p room b g u h = go (way D p room b)
    where
      sp : plain D p.state (p.carried ++ take (feed_open D p room (b ∷ [])).consumed (b ∷ []))
          ≡ left_as D (feed_open D p room (b ∷ [])).bench (feed_open D p room (b ∷ [])).answers
      sp = feed-plain D p room (b ∷ []) g.partial

      sk : Kept D Good keeps (feed_open D p room (b ∷ [])).bench
      sk = open_keeps D Good keeps p room (b ∷ []) g (h, tt)

      go : Way D p room b → Byte p b (byte D p room b)
      go (carries e j w) =
          rw w (record {
            plainly = rw w at sp;
            kept = rw w at sk;
            carried = sym (if_true (ltb (length p.carried) (body (kind_at p.carried b))) _ _ (lt-ltb _ _ j));
            unbroken = refl;
          })
      go (full e j r w) = rw w (record { state = refl; carried = refl; kept = g; number = subst (λ (t : Bool). Numbered 30 t 0) (sym u) gives_30 })
      go (ends e j r w) =
          let a = (D.run p.state (p.carried ++ b ∷ [])).answer in
          rw w (record {
            plainly = (rw w at sp) ∙ ap (λ (l : List ℕ). left_as D (record { state = (D.run p.state (p.carried ++ b ∷ [])).state; carried = []; broken = false }) l) (append-nil a);
            kept = rw w at sk;
            carried = sym (if_false (ltb (length p.carried) (body (kind_at p.carried b))) _ _ (le-ltb _ _ j));
            unbroken = refl;
          })
      go (unknown e w) = rw w (record { state = refl; carried = refl; kept = rw w at sk; number = gives_31 })

  -- the plain bench on a trace and one byte more
  plain_more : (t a : List ℕ) (p : Bench S) (b : ℕ) (q : Bench S) (a' : List ℕ) → plain D s t ≡ left_as D p a
      → plain D p.state (p.carried ++ b ∷ []) ≡ left_as D q a' → plain D s (t ++ b ∷ []) ≡ left_as D q (a ++ a')
  plain_more t a p b q a' e f =
      plain_append D s t (b ∷ [])
      ∙ ap (λ (y : Benched S). answered D y.answers (plain D y.state (y.carried ++ b ∷ []))) e
      ∙ ap (answered D a) f

  -- ---- the advances that are due, after the trace t, where those of `pre` are answered already
  record Advancing (t a : List ℕ) (pre rest : List Nanos) (x : Advanced S) : Type 0 where
    plainly : plain D s (t ++ advance_bytes (pre ++ take x.count rest)) ≡ record { state = x.state; carried = []; answers = a ++ x.answers }
    few : x.count ≤ length rest
    all : x.stuck ≡ false → x.count ≡ length rest
    good : Good x.state

  plain-next : (t a : List ℕ) (pre : List Nanos) (d : S) (ns : Nanos) → plain D s (t ++ advance_bytes pre) ≡ record { state = d; carried = []; answers = a }
      → plain D s (t ++ advance_bytes (pre ++ ns ∷ [])) ≡ record { state = (D.run d (advance ns)).state; carried = []; answers = a ++ (D.run d (advance ns)).answer }
  plain-next t a pre d ns e =
      ap (plain D s) (
      ap (λ (l : List ℕ). t ++ l) (advance_bytes_append pre (ns ∷ []) ∙ ap (λ (l : List ℕ). advance_bytes pre ++ l) (append-nil (advance ns)))
      ∙ sym (append_assoc t (advance_bytes pre) (advance ns)))
      ∙ plain_append D s (t ++ advance_bytes pre) (advance ns)
      ∙ ap (λ (y : Benched S). answered D y.answers (plain D y.state (y.carried ++ advance ns))) e
      ∙ ap (answered D a) (plain-advance D d ns)

  by_advancing : (t a : List ℕ) (pre rest : List Nanos) (d : S) (room : ℕ) → plain D s (t ++ advance_bytes pre) ≡ record { state = d; carried = []; answers = a } → Good d
      → Advancing t a pre rest (advancing D d room rest)
  unfolding advancing
  by_advancing t a pre [] d room e g =
      record {
        plainly = ap (λ (l : List Nanos). plain D s (t ++ advance_bytes l)) (append-nil pre) ∙ e ∙ (λ i. record { state = d; carried = []; answers = sym (append-nil a) i });
        few = omega arith;
        all = λ _. refl;
        good = g;
      }
  by_advancing t a pre (ns ∷ more) d room e g =
      if_cases (Advancing t a pre (ns ∷ more)) (ltb room 8) _ _
      (λ l. record {
        plainly = ap (λ (l : List Nanos). plain D s (t ++ advance_bytes l)) (append-nil pre) ∙ e ∙ (λ i. record { state = d; carried = []; answers = sym (append-nil a) i });
        few = omega arith;
        all = λ z. absurd (let z : ◌≡◌ {A = ℕ} 0 1 = cc in omega arith);
        good = g;
      })
      (λ l.
      let x = D.run d (advance ns) in
      let y = advancing D x.state (room - 8) more in
      let i = by_advancing t (a ++ x.answer) (pre ++ ns ∷ []) more x.state (room - 8) (plain-next t a pre d ns e) (keeps d (advance ns) (advance-whole ns) (bytes_advance ns) g) in
      record {
        plainly =
            ap (λ (l : List Nanos). plain D s (t ++ advance_bytes l)) (sym (append_snoc pre ns (take y.count more)))
            ∙ i.plainly
            ∙ (λ k. record { state = y.state; carried = []; answers = append_assoc a x.answer y.answers k });
        few = omega (arith, i.few);
        all = λ z. ap suc (i.all z);
        good = i.good;
      })

  -- ---- the state r of the replay and the bench p, after the consumed bytes `done` and the answers a
  pub record At (done a : List ℕ) (p : Bench S) (r : Progress) : Type 0 where
    pub plainly : plain D s (trace_from start done ++ advance_bytes (take r.answered (due r.earlier r.stamp))) ≡ left_as D p a
    pub place : record { earlier = r.earlier; stamp = r.stamp; carried = p.carried } ≡ place_of done
    pub kept : Kept D Good keeps p
    pub fits : Fits r
    pub some : r.answered ≤ length (due r.earlier r.stamp)
    pub inside : Inside p.carried r
    pub end : end_fits r ≡ true

  -- what the next byte leads to
  abbrev pub Leads : (done a : List ℕ) → ℕ → Does S → Type 0
  Leads done a b (takes q r a') = At (done ++ b ∷ []) (a ++ a') q r × (q.broken ≡ false) × (r.ended ≡ 0)
  Leads done a b (halts n q r a') = At done (a ++ a') q r × Numbered n q.broken r.ended

  end_open : (r : Progress) → r.ended ≡ 0 → end_fits r ≡ true
  unfolding end_fits
  end_open r e = ap (λ (t : Bool). t || (eqb (length r.stamp) 4 && eqb r.ended (when back r.earlier (stamp_in r.stamp) then 32 else 33))) (eq-eqb r.ended 0 e)

  end_with : (r : Progress) (n : ℕ) → length r.stamp ≡ 4 → (when back r.earlier (stamp_in r.stamp) then 32 else 33) ≡ n → end_fits (ended_with n r) ≡ true
  unfolding end_fits
  end_with r n l e =
      ap (λ (t : Bool). eqb n 0 || (t && eqb n (when back r.earlier (stamp_in r.stamp) then 32 else 33))) (eq-eqb (length r.stamp) 4 l)
      ∙ ap (λ (t : Bool). eqb n 0 || t) (eq-eqb n _ (sym e))
      ∙ or_true (eqb n 0)
    where
      or_true : (t : Bool) → (t || true) ≡ true
      or_true true = refl
      or_true false = refl

  -- the bytes carried after a byte of a record begin as before
  inside_after : (c : List ℕ) (b : ℕ) (r : Progress) → r.stamp ≡ [] → eqb (kind_at c b) 1 ≡ false → is_some r.earlier ≡ true → r.ended ≡ 0 → Inside (carried_after c b) r
  inside_after c b r e f g h = if_cases (λ (l : List ℕ). Inside l r) (ltb (length c) (body (kind_at c b))) _ _ (λ _. more c f) (λ _. tt)
    where
      more : (c : List ℕ) → eqb (kind_at c b) 1 ≡ false → Inside (c ++ b ∷ []) r
      more [] f = (e, f, g, h)
      more (k ∷ rest) f = (e, f, g, h)

  -- ---- the next byte b, at a replay that goes on
  module _ (done a : List ℕ) (p : Bench S) (r : Progress) (v : At done a p r) (u : p.broken ≡ false) (z : r.ended ≡ 0) (b : ℕ) (h : b < 256) where
    abbrev T : List ℕ
    T = trace_from start done

    abbrev ds : List Nanos
    ds = due r.earlier r.stamp

    abbrev here : Place
    here = record { earlier = r.earlier; stamp = r.stamp; carried = p.carried }

    none_answered : length r.stamp < 4 → r.answered ≡ 0
    none_answered l = omega (arith, v.some, ap length (due_none r.earlier r.stamp l))

    -- a stamp's byte
    by_stamp : p.carried ≡ [] → length r.stamp < 4 → role_of p.carried r.stamp ≡ of_stamp → Leads done a b (byte_as D of_stamp p r 0 b)
    by_stamp c l e =
        let n0 = none_answered l in (
          record {
            plainly =
                ap (plain D s) (
                told_none (trace_from start (done ++ b ∷ [])) (due r.earlier (r.stamp ++ b ∷ [])) r.answered n0
                ∙ trace_more done here v.place b of_stamp e
                ∙ append-nil T
                ∙ sym (told_none T ds r.answered n0))
                ∙ v.plainly
                ∙ ap (left_as D p) (sym (append-nil a));
            place = sym (place_more done here v.place b of_stamp e);
            kept = v.kept;
            fits =
                record {
                  stamp = omega (arith, length-append r.stamp (b ∷ []));
                  bytes = bytes_append r.stamp (b ∷ []) v.fits.bytes (h, tt);
                  earlier = v.fits.earlier;
                  answered = v.fits.answered;
                  ended = v.fits.ended;
                };
            some = omega (arith, n0);
            inside = inside_none p.carried (more_stamp b r) c;
            end = end_open (more_stamp b r) z;
          },
          u,
          z,
        )

    -- a record's byte
    by_record : (k : ℕ) (rest : List ℕ) → p.carried ≡ k ∷ rest → role_of p.carried r.stamp ≡ of_record → (x : Step S) → Byte p b x → Leads done a b (in_record r x)
    by_record k rest c e (took q a') x =
        let ins : Inside (k ∷ rest) r = subst (λ (l : List ℕ). Inside l r) c v.inside in
        let n0 = none_answered (omega (arith, ap length ins.0)) in
        let same_kind : eqb (kind_at p.carried b) 1 ≡ false = subst (λ (l : List ℕ). eqb (kind_at l b) 1 ≡ false) (sym c) ins.1 in (
          record {
            plainly =
                ap (plain D s) (told_none (trace_from start (done ++ b ∷ [])) ds r.answered n0 ∙ trace_more done here v.place b of_record e)
                ∙ plain_more T a p b q a' (ap (plain D s) (sym (told_none T ds r.answered n0)) ∙ v.plainly) x.plainly;
            place =
                (λ i. record { earlier = r.earlier; stamp = r.stamp; carried = x.carried i })
                ∙ sym (place_more done here v.place b of_record e);
            kept = x.kept;
            fits = v.fits;
            some = v.some;
            inside = subst (λ (l : List ℕ). Inside l r) (sym x.carried) (inside_after p.carried b r ins.0 same_kind ins.2 ins.3);
            end = v.end;
          },
          x.unbroken,
          z,
        )
    by_record k rest c e (stop n q) x = (
      record {
        plainly = v.plainly ∙ (λ i. record { state = sym x.state i; carried = sym x.carried i; answers = sym (append-nil a) i });
        place = (λ i. record { earlier = r.earlier; stamp = r.stamp; carried = x.carried i }) ∙ v.place;
        kept = x.kept;
        fits = v.fits;
        some = v.some;
        inside = subst (λ (l : List ℕ). Inside l r) (sym x.carried) v.inside;
        end = v.end;
      },
      subst (λ (m : ℕ). Numbered n q.broken m) (sym z) x.number,
    )

    -- the kind byte
    module _ (c : p.carried ≡ []) (l : length r.stamp ≡ 4) (e : role_of p.carried r.stamp ≡ of_kind) where
      ended_at : (n : ℕ) → n ≤ 33 → (when back r.earlier (stamp_in r.stamp) then 32 else 33) ≡ n → At done (a ++ []) p (ended_with n r)
      ended_at n j q =
          record {
            plainly = v.plainly ∙ ap (left_as D p) (sym (append-nil a));
            place = v.place;
            kept = v.kept;
            fits = record { stamp = v.fits.stamp; bytes = v.fits.bytes; earlier = v.fits.earlier; answered = v.fits.answered; ended = j };
            some = v.some;
            inside = inside_none p.carried (ended_with n r) c;
            end = end_with r n l q;
          }

      -- the advances are answered, all or some
      module _ (x : Advanced S) (w : Advancing T a (take r.answered ds) (drop r.answered ds) x) where
        abbrev q : Bench S
        q = record { state = x.state; carried = p.carried; broken = p.broken }

        abbrev more : Progress
        more = more_answered x.count r

        counted : r.answered + x.count ≤ length ds
        counted = omega (arith, w.few, length-drop r.answered ds, v.some)

        at_advanced : At done (a ++ x.answers) q more
        at_advanced =
            record {
              plainly =
                  ap (λ (k : List Nanos). plain D s (T ++ advance_bytes k)) (take-add r.answered x.count ds)
                  ∙ w.plainly
                  ∙ (λ i. record { state = x.state; carried = sym c i; answers = a ++ x.answers });
              place = v.place;
              kept = record { partial = v.kept.partial; bytes = v.kept.bytes; good = w.good };
              fits = record { stamp = v.fits.stamp; bytes = v.fits.bytes; earlier = v.fits.earlier; answered = omega (arith, counted, due_few r.earlier r.stamp); ended = v.fits.ended };
              some = counted;
              inside = inside_none p.carried more c;
              end = end_open more z;
            }

        by_kind : eqb b 1 ≡ false → x.stuck ≡ false → (y : Step S) → Byte q b y → Leads done a b (at_kind more x.answers y)
        by_kind f k (took q' a') y =
            let all : take (r.answered + x.count) ds ≡ ds = take_all (r.answered + x.count) ds (omega (arith, w.all k, length-drop r.answered ds, v.some)) in
            let b_kind : eqb (kind_at p.carried b) 1 ≡ false = subst (λ (m : List ℕ). eqb (kind_at m b) 1 ≡ false) (sym c) f in (
              record {
                plainly =
                    ap (plain D s) (
                    append-nil (trace_from start (done ++ b ∷ []))
                    ∙ trace_more done here v.place b of_kind e
                    ∙ sym (append_assoc T (advance_bytes ds) (b ∷ [])))
                    ∙ plain_more (T ++ advance_bytes ds) (a ++ x.answers) q b q' a' (ap (λ (m : List Nanos). plain D s (T ++ advance_bytes m)) (sym all) ∙ at_advanced.plainly) y.plainly
                    ∙ ap (left_as D q') (append_assoc a x.answers a');
                place =
                    (λ i. record { earlier = Some (stamp_in r.stamp); stamp = []; carried = y.carried i })
                    ∙ sym (place_more done here v.place b of_kind e);
                kept = y.kept;
                fits = record { stamp = omega arith; bytes = tt; earlier = stamp_below r.stamp v.fits.bytes; answered = omega arith; ended = v.fits.ended };
                some = omega arith;
                inside = subst (λ (m : List ℕ). Inside m (begins more)) (sym y.carried) (inside_after p.carried b (begins more) refl b_kind refl z);
                end = end_open (begins more) z;
              },
              y.unbroken,
              z,
            )
        by_kind f k (stop n q') y = (
          record {
            plainly = at_advanced.plainly ∙ (λ i. record { state = sym y.state i; carried = sym y.carried i; answers = a ++ x.answers });
            place = (λ i. record { earlier = r.earlier; stamp = r.stamp; carried = y.carried i }) ∙ v.place;
            kept = y.kept;
            fits = at_advanced.fits;
            some = at_advanced.some;
            inside = subst (λ (m : List ℕ). Inside m more) (sym y.carried) at_advanced.inside;
            end = at_advanced.end;
          },
          subst (λ (m : ℕ). Numbered n q'.broken m) (sym z) y.number,
        )

        by_advanced : (room : ℕ) → eqb b 1 ≡ false → Leads done a b (after_advances D p r room b x)
        by_advanced room f =
            if_cases (Leads done a b) x.stuck _ _
            (λ _. (at_advanced, subst (λ (m : ℕ). Numbered 30 p.broken m) (sym z) (subst (λ (t : Bool). Numbered 30 t 0) (sym u) gives_30)))
            (λ k. by_kind f k (byte D q (room - length x.answers) b) (by_byte q (room - length x.answers) b at_advanced.kept u h))

      by_kind_byte : (room : ℕ) → Leads done a b (kind_byte D p r room b)
      unfolding kind_byte
      by_kind_byte room =
          if_cases (Leads done a b) (back r.earlier (stamp_in r.stamp)) _ _
          (λ k. (ended_at 32 (omega arith) (if_true (back r.earlier (stamp_in r.stamp)) 32 33 k), subst (λ (t : Bool). Numbered 32 t 32) (sym u) gives_32))
          (λ k. if_cases (Leads done a b) (eqb b 1) _ _
          (λ _. (ended_at 33 (omega arith) (if_false (back r.earlier (stamp_in r.stamp)) 32 33 k), subst (λ (t : Bool). Numbered 33 t 33) (sym u) gives_33))
          (λ f.
          let start_here : plain D s (T ++ advance_bytes (take r.answered ds)) ≡ record { state = p.state; carried = []; answers = a } =
          v.plainly ∙ (λ i. record { state = p.state; carried = c i; answers = a }) in
          by_advanced (advancing D p.state room (drop r.answered ds))
          (by_advancing T a (take r.answered ds) (drop r.answered ds) p.state room start_here v.kept.good) room f))

    -- any byte
    pub leads : (room : ℕ) → Leads done a b (byte_as D (role_of p.carried r.stamp) p r room b)
    leads room = go (next_is p.carried r.stamp)
      where
        to : (t : Role) → role_of p.carried r.stamp ≡ t → Leads done a b (byte_as D t p r room b) → Leads done a b (byte_as D (role_of p.carried r.stamp) p r room b)
        to t e x = subst (λ (m : Role). Leads done a b (byte_as D m p r room b)) (sym e) x

        go : NextIs p.carried r.stamp → Leads done a b (byte_as D (role_of p.carried r.stamp) p r room b)
        go (next_stamp c l e) = to of_stamp e (by_stamp c l e)
        go (next_kind c l e) = to of_kind e (by_kind_byte c (omega (arith, v.fits.stamp)) e room)
        go (next_record k rest c e) = to of_record e (by_record k rest c e (byte D p room b) (by_byte p room b v.kept u h))

  -- ---- ONE CALL at a replay that goes on
  pub record Ends (done a : List ℕ) (input : List ℕ) (f : Replayed S) : Type 0 where
    pub at : At (done ++ take f.consumed input) (a ++ f.answers) f.bench f.progress
    pub number : Numbered f.number f.bench.broken f.progress.ended

  abbrev From : List ℕ → Type 0
  From bs = (done a : List ℕ) (p : Bench S) (r : Progress) (room : ℕ) → At done a p r → p.broken ≡ false → r.ended ≡ 0 → Bytes bs → Ends done a bs (replay_open D p r room bs)

  pub call_ends : (input : List ℕ) → From input
  unfolding replay_open
  call_ends [] done a p r room v u z i =
      record {
        at = subst (λ (l : List ℕ). At l (a ++ []) p r) (sym (append-nil done)) (subst (λ (l : List ℕ). At done l p r) (sym (append-nil a)) v);
        number = subst (λ (t : Bool). Numbered 0 t r.ended) (sym u) (subst (λ (m : ℕ). Numbered 0 false m) (sym z) gives_0);
      }
  call_ends (b ∷ bs) done a p r room v u z i = go (byte_as D (role_of p.carried r.stamp) p r room b) (leads done a p r v u z b i.0 room) (λ done' a' p' r' room' v' u' z' i'. call_ends bs done' a' p' r' room' v' u' z' i')
    where
      go : (x : Does S) → Leads done a b x → From bs → Ends done a (b ∷ bs) (go_on room x (λ p' r' room'. replay_open D p' r' room' bs))
      go (takes q r' a') y ih =
          let f = replay_open D q r' (room - length a') bs in
          let w = ih (done ++ b ∷ []) (a ++ a') q r' (room - length a') y.0 y.1 y.2 i.1 in
          record {
            at = rw one-add
                (subst (λ (l : List ℕ). At l (a ++ (a' ++ f.answers)) f.bench f.progress) (append_snoc done b (take f.consumed bs))
                (subst (λ (l : List ℕ). At ((done ++ b ∷ []) ++ take f.consumed bs) l f.bench f.progress) (append_assoc a a' f.answers) w.at));
            number = w.number;
          }
      go (halts n q r' a') y ih =
          record { at = subst (λ (l : List ℕ). At l (a ++ a') q r') (sym (append-nil done)) y.0; number = y.1 }
