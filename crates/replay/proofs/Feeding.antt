-- Feed on whole records, in a slice for just their answers.
use Rattle.times.specs.declared.Nanos.{Nanos}
use Rattle.std.specs.Prelude.{Option}
use Prim.Native.Nat.{ℕ, ◌+◌, ◌-◌, ◌*◌}
use mathlib.Core.Path.{◌≡◌, refl, ap, sym, ◌∙◌, subst}
use mathlib.Core.List.{List, [], ◌∷◌, ◌++◌, append-nil}
use native.Mathlib.Omega.{arith}
use lib.ListN.{length, drop, drop_of_length-le}
use lib.Seq.{take_at, drop_at}
use Rattle.bits.proofs.Bytes.{bytes_take, bytes_drop}
use Rattle.trace.specs.Format.{Bytes, pad, longest, next, complete}
use Rattle.trace.specs.Bench.{Device, Ran, runs}
use Rattle.trace.specs.Feed.{Fed, feed_open}
use Rattle.trace.specs.Feed as Feed
use Rattle.trace.specs.Lent.{Left, refusal_or31}
use Rattle.trace.specs.Lent as Lent
use Rattle.trace.specs.Exactly.{joined_up, AllWhole}
use Rattle.trace.proofs.Records.{carrying}
use Rattle.trace.proofs.Refusing.{feeds_open}
use Rattle.readiness.specs.declared.Setup.{Setup}
use Rattle.readiness.specs.inner.Phases.{notes, moments_with}
use Rattle.readiness.proofs.Order.{Each}
use Rattle.readiness.proofs.KeptMoments.{Within, each_append, with_notes}
use Rattle.records.specs.State.{State}
use Rattle.records.specs.Decode.{decode}
use Rattle.records.specs.Device.{device, in_bytes}
use Rattle.records.specs.MadeReady.{readied_in, readied_over}
use Rattle.records.proofs.Readying.{readied-within}
use Rattle.capture.specs.Noting.{kept_over}
use Rattle.capture.proofs.Noting.{runs_noting}
use Rattle.capture.proofs.Wholes.{runs_eight, feed_wholes}
use Rattle.demand3.specs.Held.{Held, held_of}
use Rattle.demand3.specs.Feeding.{bench, feeds}
use Rattle.demand3.proofs.Good.{Good, good_keeps}
use Rattle.replay_rules.specs.KeepingMoments.{notes_in}
use Rattle.replay_rules.proofs.KeepingMoments.{noted_over}
use Rattle.replay.specs.inner.Noted.{Noted, noting_device, noted_with}

-- THE CALL
pub fed_wholes : (k : Setup) (defaults : List ℕ) (s : State) → refusal_or31 (bench k defaults) (held_of (carrying s [])) ≡ 0
    → (ws : List (List ℕ)) → AllWhole ws → (room : List ℕ) → length room ≡ 8 * length ws
    → (let x = runs (device k defaults) s ws in
    ◌≡◌ {A = Left Held} (feeds k defaults (held_of (carrying s [])) (joined_up ws) room)
    (record { number = 0; consumed = length (joined_up ws); written = length room; held = held_of (carrying x.state []); answers = x.answer }))
unfolding feed_open
fed_wholes k defaults s e ws a room l =
    let D = device k defaults in
    let x = runs D s ws in
    let y = x.answer ++ [] in
    let n : length x.answer ≡ length room = runs_eight D s ws ∙ sym l in
    let none : y ≡ x.answer = append-nil x.answer in
    let one : feed_open D (carrying s []) (length room) (joined_up ws) ≡ Feed.later (length (joined_up ws)) x.answer (feed_open D (carrying x.state []) (length room - 8 * length ws) []) =
    ap (feed_open D (carrying s []) (length room)) (sym (append-nil (joined_up ws))) ∙ feed_wholes D s ws a (length room) (omega (arith, l)) [] in
    let c : length (joined_up ws) + 0 ≡ length (joined_up ws) = omega arith in
    let r : y ++ drop (length y) room ≡ x.answer =
    (λ i. none i ++ drop (length (none i)) room) ∙ ap (λ (t : List ℕ). x.answer ++ t) (drop_of_length-le room {i = length x.answer} (omega (arith, n))) ∙ none in
    feeds_open (bench k defaults) (held_of (carrying s [])) (joined_up ws) room e
    ∙ ap (λ (f : Fed State). Lent.leaves (bench k defaults) f room) one
    ∙ (λ i. record { number = 0; consumed = c i; written = (ap length none ∙ n) i; held = held_of (carrying x.state []); answers = r i })

-- what holds of the state before holds of it after
pub good_runs : (k : Setup) (defaults : List ℕ) (s₀ s : State) (ws : List (List ℕ)) → AllWhole ws → Bytes (joined_up ws) → Good k defaults s₀ s → Good k defaults s₀ (runs (device k defaults) s ws).state
unfolding runs
good_runs k defaults s₀ s [] a b g = g
good_runs k defaults s₀ s (w ∷ ws) a b g =
    let n = length w in
    good_runs k defaults s₀ ((device k defaults).run s w).state ws a.1 (subst Bytes (drop_at w (joined_up ws) n refl) (bytes_drop n (w ++ joined_up ws) b))
    (good_keeps k defaults s₀ s w a.0 (subst Bytes (take_at w (joined_up ws) n refl) (bytes_take n (w ++ joined_up ws) b)) g)

-- and the slots that they make Ready are slots of the card, at moments before the greatest
pub within-runs : (k : Setup) (defaults : List ℕ) (s₀ s : State) (ws : List (List ℕ)) → AllWhole ws → Bytes (joined_up ws) → Good k defaults s₀ s
    → Each (Within (length s₀.statuses)) (readied_over k defaults s ws)
unfolding readied_over in_bytes
within-runs k defaults s₀ s [] a b g = tt
within-runs k defaults s₀ s (w ∷ ws) a b g =
    let n = length w in
    let t = ((device k defaults).run s w).state in
    let first = subst Bytes (take_at w (joined_up ws) n refl) (bytes_take n (w ++ joined_up ws) b) in
    let rest = subst Bytes (drop_at w (joined_up ws) n refl) (bytes_drop n (w ++ joined_up ws) b) in
    let next : Good k defaults s₀ t = good_keeps k defaults s₀ s w a.0 first g in
    each_append (Within (length s₀.statuses)) (readied_in k defaults s w) (readied_over k defaults t ws)
    (subst (λ (m : ℕ). Each (Within m) (readied_in k defaults s w)) next.kept.statuses
    (readied-within k defaults s (decode (pad longest w)) (omega (arith, next.kept.sound.clock))))
    (within-runs k defaults s₀ t ws a.1 rest next)

-- THE RECORDS ON THE BENCH THAT NOTES: what they leave in the numbers, with the moments of before the call
pub runs-noted : (k : Setup) (defaults : List ℕ) (s₀ s : State) (ws : List (List ℕ)) → AllWhole ws → Bytes (joined_up ws) → Good k defaults s₀ s
    → (m : List ℕ) → length m ≡ length s₀.statuses → (t : State) (m' a : List ℕ)
    → ◌≡◌ {A = Ran State} (record { state = t; answer = a }) (runs (device k defaults) s ws) → m' ≡ notes (readied_over k defaults s ws) m
    → (kept : List (Option Nanos)) → ◌≡◌ {A = Ran Noted} (record { state = noted_with kept t m'; answer = a }) (runs (noting_device k defaults) (noted_with kept s m) ws)
runs-noted k defaults s₀ s ws w b g m n t m' a is noted-all kept =
    let es = readied_over k defaults s ws in
    let e : moments_with kept m' ≡ kept_over (device k defaults) (notes_in k defaults) s ws (moments_with kept m) =
    ap (moments_with kept) noted-all
    ∙ with_notes es kept m (subst (λ (i : ℕ). Each (Within i) es) (sym n) (within-runs k defaults s₀ s ws w b g))
    ∙ sym (noted_over k defaults s ws (moments_with kept m)) in
    ◌∙◌ {A = Ran Noted} (λ i. record { state = record { base = (is i).state; kept = e i }; answer = (is i).answer }) (sym (runs_noting (device k defaults) (notes_in k defaults) (noted_with kept s m) ws))

-- one record
runs_one : {S : Type 0} (D : Device S) (s : S) (w : List ℕ) → ◌≡◌ {A = Ran S} (runs D s (w ∷ [])) (D.run s w)
unfolding runs
runs_one {S} D s w = λ i. record { state = (D.run s w).state; answer = append-nil (D.run s w).answer i }

pub one_noted : (k : Setup) (defaults : List ℕ) (s : State) (w : List ℕ) → next w ≡ complete w → Bytes w → Good k defaults s s
    → (m : List ℕ) → length m ≡ length s.statuses → (t : State) (m' a : List ℕ)
    → ◌≡◌ {A = Ran State} (record { state = t; answer = a }) ((device k defaults).run s w) → m' ≡ notes (readied_over k defaults s (w ∷ [])) m
    → (kept : List (Option Nanos)) → ◌≡◌ {A = Ran Noted} (record { state = noted_with kept t m'; answer = a }) ((noting_device k defaults).run (noted_with kept s m) w)
one_noted k defaults s w e b g m n t m' a is noted-all kept =
    ◌∙◌ {A = Ran Noted}
    (runs-noted k defaults s s (w ∷ []) (e, tt) (subst Bytes (sym (append-nil w)) b) g m n t m' a (◌∙◌ {A = Ran State} is (sym (runs_one (device k defaults) s w))) noted-all kept)
    (runs_one (noting_device k defaults) (noted_with kept s m) w)
