-- Slot statuses as numbers, four to a slot: how many there are, where each stands, and what a change of its numbers does.
use Prim.Native.Nat.{ℕ, zero, suc, ◌+◌, ◌*◌, ◌/◌, ◌≤◌, ◌<◌}
use native.Mathlib.Omega.{arith}
use mathlib.Core.Path.{◌≡◌, refl, sym, ap, ◌∙◌}
use mathlib.Core.List.{List, [], ◌∷◌, ◌++◌}
use lib.ListN.{length, get_or, take, set, length-set}
use lib.Seq.{set-set, get_or-set_same, get_or-set_other}
use Rattle.bits.proofs.Choices.{either_way}
use Rattle.times.specs.declared.Nanos.{Nanos}
use Rattle.readiness.specs.declared.Cause.{Cause}
use Rattle.readiness.specs.declared.Cause.TheVariants.{LinkUp, Flr, D3hot}
use Rattle.readiness.specs.declared.Phase.{Phase}
use Rattle.readiness.specs.declared.Phase.TheVariants.{Down, Pending, Ready}
use Rattle.readiness.specs.declared.Status.{Status}
use Rattle.readiness.specs.Events.{Event, reached, due_event}
use Rattle.readiness.specs.MadeReady.{made_by}
use Rattle.readiness.specs.Status.{down, pending, ready}
use Rattle.readiness.specs.inner.Phases.{status_of, statuses_in, moments_in, notes, notes_at}

-- a fourth of the numbers, and what is left of them
statuses_fourfold : (l : List ℕ) → (4 * length (statuses_in l) ≤ length l) × (length l < 4 * length (statuses_in l) + 4)
unfolding statuses_in
statuses_fourfold [] = omega arith
statuses_fourfold (p ∷ []) = omega arith
statuses_fourfold (p ∷ t ∷ []) = omega arith
statuses_fourfold (p ∷ t ∷ e ∷ []) = omega arith
statuses_fourfold (p ∷ t ∷ e ∷ m ∷ l) = let k = statuses_fourfold l in omega arith

-- As many as there are four numbers for.
pub statuses_length : (l : List ℕ) → length (statuses_in l) ≡ length l / 4
statuses_length l = let k = statuses_fourfold l in omega arith

-- As many numbers, as many slots.
pub statuses_same : (l m : List ℕ) → length l ≡ length m → length (statuses_in l) ≡ length (statuses_in m)
statuses_same l m e = statuses_length l ∙ ap (λ (n : ℕ). n / 4) e ∙ sym (statuses_length m)

-- A slot's four numbers are there.
pub statuses_place : (l : List ℕ) (i : ℕ) → i < length (statuses_in l) → 4 * i + 4 ≤ length l
statuses_place l i h = let k = statuses_fourfold l in omega arith

-- the status that slot i's four numbers are
abbrev pub status_in : List ℕ → ℕ → Status
status_in l i = status_of (get_or l (4 * i) 0) (get_or l (4 * i + 1) 0) (get_or l (4 * i + 2) 0)

-- behind another slot's
one_on : (p t e m : ℕ) (l : List ℕ) (i : ℕ) → status_in (p ∷ t ∷ e ∷ m ∷ l) (suc i) ≡ status_in l i
one_on p t e m l i =
    let r = p ∷ t ∷ e ∷ m ∷ l in
    let a : 4 * suc i ≡ suc (suc (suc (suc (4 * i)))) = omega arith in
    let b : 4 * suc i + 1 ≡ suc (suc (suc (suc (4 * i + 1)))) = omega arith in
    let c : 4 * suc i + 2 ≡ suc (suc (suc (suc (4 * i + 2)))) = omega arith in
    λ n. status_of (get_or r (a n) 0) (get_or r (b n) 0) (get_or r (c n) 0)

-- Slot i's status is the one that its four numbers are.
pub statuses_at : (l : List ℕ) (i : ℕ) → i < length (statuses_in l) → get_or (statuses_in l) i ready ≡ status_of (get_or l (4 * i) 0) (get_or l (4 * i + 1) 0) (get_or l (4 * i + 2) 0)
unfolding statuses_in
statuses_at [] i h = absurd (omega arith)
statuses_at (p ∷ []) i h = absurd (omega arith)
statuses_at (p ∷ t ∷ []) i h = absurd (omega arith)
statuses_at (p ∷ t ∷ e ∷ []) i h = absurd (omega arith)
statuses_at (p ∷ t ∷ e ∷ m ∷ l) zero h = refl
statuses_at (p ∷ t ∷ e ∷ m ∷ l) (suc i) h = statuses_at l i (omega arith) ∙ sym (one_on p t e m l i)

-- One of slot i's four numbers anew: its status is the one that they are then, and the others stay.
pub statuses_set : (l : List ℕ) (i k v : ℕ) → i < length (statuses_in l) → 4 * i ≤ k → k < 4 * i + 4 → statuses_in (set l k v) ≡ set (statuses_in l) i (status_in (set l k v) i)
unfolding statuses_in
statuses_set [] i k v h a b = absurd (omega arith)
statuses_set (p ∷ []) i k v h a b = absurd (omega arith)
statuses_set (p ∷ t ∷ []) i k v h a b = absurd (omega arith)
statuses_set (p ∷ t ∷ e ∷ []) i k v h a b = absurd (omega arith)
statuses_set (p ∷ t ∷ e ∷ m ∷ l) zero zero v h a b = refl
statuses_set (p ∷ t ∷ e ∷ m ∷ l) zero (suc zero) v h a b = refl
statuses_set (p ∷ t ∷ e ∷ m ∷ l) zero (suc (suc zero)) v h a b = refl
statuses_set (p ∷ t ∷ e ∷ m ∷ l) zero (suc (suc (suc zero))) v h a b = refl
statuses_set (p ∷ t ∷ e ∷ m ∷ l) zero (suc (suc (suc (suc k)))) v h a b = absurd (omega arith)
statuses_set (p ∷ t ∷ e ∷ m ∷ l) (suc i) zero v h a b = absurd (omega arith)
statuses_set (p ∷ t ∷ e ∷ m ∷ l) (suc i) (suc zero) v h a b = absurd (omega arith)
statuses_set (p ∷ t ∷ e ∷ m ∷ l) (suc i) (suc (suc zero)) v h a b = absurd (omega arith)
statuses_set (p ∷ t ∷ e ∷ m ∷ l) (suc i) (suc (suc (suc zero))) v h a b = absurd (omega arith)
statuses_set (p ∷ t ∷ e ∷ m ∷ l) (suc i) (suc (suc (suc (suc k)))) v h a b =
    ap (λ (r : List Status). status_of p t e ∷ r) (statuses_set l i k v (omega arith) (omega arith) (omega arith) ∙ ap (set (statuses_in l) i) (sym (one_on p t e m (set l k v) i)))

-- The same after another change of them.
pub statuses_again : (l m : List ℕ) (s : Status) (i k v : ℕ) → i < length (statuses_in l) → 4 * i ≤ k → k < 4 * i + 4 → statuses_in m ≡ set (statuses_in l) i s → statuses_in (set m k v) ≡ set (statuses_in l) i (status_in (set m k v) i)
statuses_again l m s i k v h a b q =
    let n : length (statuses_in m) ≡ length (statuses_in l) = ap length q ∙ length-set (statuses_in l) i s in
    statuses_set m i k v (omega arith) a b ∙ ap (λ (r : List Status). set r i (status_in (set m k v) i)) q ∙ set-set (statuses_in l) i s (status_in (set m k v) i)

module _ (l : List ℕ) (i : ℕ) (s : Status) (h : i < length (statuses_in l)) where
  -- A slot becomes Down or Ready by its first number,
  pub put-down : s.phase ≡ Down → statuses_in (set l (4 * i) 0) ≡ set (statuses_in l) i s
  unfolding status_of
  put-down q =
      let k = statuses_place l i h in
      let m = set l (4 * i) 0 in
      let e : s ≡ down = (λ n. record { phase = q n }) in
      statuses_set l i (4 * i) 0 h (omega arith) (omega arith)
      ∙ ap (λ (p : ℕ). set (statuses_in l) i (status_of p (get_or m (4 * i + 1) 0) (get_or m (4 * i + 2) 0))) (get_or-set_same l (4 * i) 0 0 (omega arith))
      ∙ ap (set (statuses_in l) i) (sym e)

  pub put-ready : s.phase ≡ Ready → statuses_in (set l (4 * i) 4) ≡ set (statuses_in l) i s
  unfolding status_of
  put-ready q =
      let k = statuses_place l i h in
      let m = set l (4 * i) 4 in
      let e : s ≡ ready = (λ n. record { phase = q n }) in
      statuses_set l i (4 * i) 4 h (omega arith) (omega arith)
      ∙ ap (λ (p : ℕ). set (statuses_in l) i (status_of p (get_or m (4 * i + 1) 0) (get_or m (4 * i + 2) 0))) (get_or-set_same l (4 * i) 4 0 (omega arith))
      ∙ ap (set (statuses_in l) i) (sym e)

  module _ (cause : Cause) (time : Nanos) (t : ℕ) (q : s.phase ≡ Pending cause time) (u : t ≡ time.0) where
    -- Pending with a ready time by that and its first number,
    timed : (p : ℕ) → statuses_in (set (set l (4 * i + 1) t) (4 * i) p) ≡ set (statuses_in l) i (status_of p t (get_or (set (set l (4 * i + 1) t) (4 * i) p) (4 * i + 2) 0))
    timed p =
        let k = statuses_place l i h in
        let m = set l (4 * i + 1) t in
        let n = set m (4 * i) p in
        let a : get_or n (4 * i) 0 ≡ p = get_or-set_same m (4 * i) p 0 (omega (arith, length-set l (4 * i + 1) t)) in
        let b : get_or n (4 * i + 1) 0 ≡ t = get_or-set_other m (4 * i) (4 * i + 1) p 0 (λ z. omega arith) ∙ get_or-set_same l (4 * i + 1) t 0 (omega arith) in
        statuses_again l m (status_in m i) i (4 * i) p h (omega arith) (omega arith) (statuses_set l i (4 * i + 1) t h (omega arith) (omega arith))
        ∙ (λ j. set (statuses_in l) i (status_of (a j) (b j) (get_or n (4 * i + 2) 0)))

    is : (c : Cause) → cause ≡ c → pending c (record { 0 = t }) ≡ s
    is c z =
        let e : Pending c (record { 0 = t }) ≡ s.phase = (λ j. Pending (sym z j) (record { 0 = u j })) ∙ sym q in
        λ j. record { phase = e j }

    pub put_link_up : cause ≡ LinkUp → statuses_in (set (set l (4 * i + 1) t) (4 * i) 1) ≡ set (statuses_in l) i s
    unfolding status_of
    put_link_up z = timed 1 ∙ ap (set (statuses_in l) i) (is LinkUp z)

    pub put_d3hot : cause ≡ D3hot → statuses_in (set (set l (4 * i + 1) t) (4 * i) 3) ≡ set (statuses_in l) i s
    unfolding status_of
    put_d3hot z = timed 3 ∙ ap (set (statuses_in l) i) (is D3hot z)

    -- and with an FLR's end by its third too.
    pub put-flr : (end : Nanos) (e : ℕ) → cause ≡ Flr end → e ≡ end.0 → statuses_in (set (set (set l (4 * i + 1) t) (4 * i) 2) (4 * i + 2) e) ≡ set (statuses_in l) i s
    unfolding status_of
    put-flr end e z w =
        let k = statuses_place l i h in
        let f = set l (4 * i + 1) t in
        let m = set f (4 * i) 2 in
        let n = set m (4 * i + 2) e in
        let a : get_or n (4 * i) 0 ≡ 2 = get_or-set_other m (4 * i + 2) (4 * i) e 0 (λ z. omega arith) ∙ get_or-set_same f (4 * i) 2 0 (omega (arith, length-set l (4 * i + 1) t)) in
        let b : get_or n (4 * i + 1) 0 ≡ t = get_or-set_other m (4 * i + 2) (4 * i + 1) e 0 (λ z. omega arith) ∙ get_or-set_other f (4 * i) (4 * i + 1) 2 0 (λ z. omega arith) ∙ get_or-set_same l (4 * i + 1) t 0 (omega arith) in
        let d : get_or n (4 * i + 2) 0 ≡ e = get_or-set_same m (4 * i + 2) e 0 (omega (arith, length-set f (4 * i) 2, length-set l (4 * i + 1) t)) in
        statuses_again l m _ i (4 * i + 2) e h (omega arith) (omega arith) (timed 2)
        ∙ (λ j. set (statuses_in l) i (status_of (a j) (b j) (d j)))
        ∙ ap (set (statuses_in l) i) (is (Flr (record { 0 = e })) (z ∙ (λ j. Flr (record { 0 = sym w j }))))

-- The first n slots.
pub statuses_take : (n : ℕ) (l : List ℕ) → statuses_in (take (4 * n) l) ≡ take n (statuses_in l)
unfolding statuses_in
statuses_take zero l = refl
statuses_take (suc n) l = let four : 4 * suc n ≡ suc (suc (suc (suc (4 * n)))) = omega arith in ap (λ (k : ℕ). statuses_in (take k l)) four ∙ go l (statuses_take n)
  where
    go : (l : List ℕ) → ((r : List ℕ) → statuses_in (take (4 * n) r) ≡ take n (statuses_in r)) → statuses_in (take (suc (suc (suc (suc (4 * n))))) l) ≡ take (suc n) (statuses_in l)
    go [] f = refl
    go (p ∷ []) f = refl
    go (p ∷ t ∷ []) f = refl
    go (p ∷ t ∷ e ∷ []) f = refl
    go (p ∷ t ∷ e ∷ m ∷ r) f = ap (λ (k : List Status). status_of p t e ∷ k) (f r)

-- ---- the moments
-- one to a slot
pub moments_length : (l : List ℕ) → length (moments_in l) ≡ length (statuses_in l)
unfolding statuses_in moments_in
moments_length [] = refl
moments_length (p ∷ []) = refl
moments_length (p ∷ t ∷ []) = refl
moments_length (p ∷ t ∷ e ∷ []) = refl
moments_length (p ∷ t ∷ e ∷ m ∷ l) = ap suc (moments_length l)

-- a slot's fourth number
pub moments_at : (l : List ℕ) (i : ℕ) → get_or (moments_in l) i 0 ≡ get_or l (4 * i + 3) 0
unfolding moments_in
moments_at [] i = refl
moments_at (p ∷ []) zero = refl
moments_at (p ∷ []) (suc i) = let k : suc (4 * i + 6) ≡ 4 * suc i + 3 = omega arith in ap (λ (n : ℕ). get_or (p ∷ []) n 0) k
moments_at (p ∷ t ∷ []) zero = refl
moments_at (p ∷ t ∷ []) (suc i) = let k : suc (suc (4 * i + 5)) ≡ 4 * suc i + 3 = omega arith in ap (λ (n : ℕ). get_or (p ∷ t ∷ []) n 0) k
moments_at (p ∷ t ∷ e ∷ []) zero = refl
moments_at (p ∷ t ∷ e ∷ []) (suc i) = let k : suc (suc (suc (4 * i + 4))) ≡ 4 * suc i + 3 = omega arith in ap (λ (n : ℕ). get_or (p ∷ t ∷ e ∷ []) n 0) k
moments_at (p ∷ t ∷ e ∷ m ∷ l) zero = refl
moments_at (p ∷ t ∷ e ∷ m ∷ l) (suc i) =
    let k : suc (suc (suc (suc (4 * i + 3)))) ≡ 4 * suc i + 3 = omega arith in moments_at l i ∙ ap (λ (n : ℕ). get_or (p ∷ t ∷ e ∷ m ∷ l) n 0) k

-- A slot's first three numbers anew: its moment stays.
pub moments_stay : (l : List ℕ) (i k v : ℕ) → 4 * i ≤ k → k < 4 * i + 3 → moments_in (set l k v) ≡ moments_in l
unfolding moments_in
moments_stay [] i k v a b = refl
moments_stay (p ∷ []) i zero v a b = refl
moments_stay (p ∷ []) i (suc k) v a b = refl
moments_stay (p ∷ t ∷ []) i zero v a b = refl
moments_stay (p ∷ t ∷ []) i (suc zero) v a b = refl
moments_stay (p ∷ t ∷ []) i (suc (suc k)) v a b = refl
moments_stay (p ∷ t ∷ e ∷ []) i zero v a b = refl
moments_stay (p ∷ t ∷ e ∷ []) i (suc zero) v a b = refl
moments_stay (p ∷ t ∷ e ∷ []) i (suc (suc zero)) v a b = refl
moments_stay (p ∷ t ∷ e ∷ []) i (suc (suc (suc k))) v a b = refl
moments_stay (p ∷ t ∷ e ∷ m ∷ l) i zero v a b = refl
moments_stay (p ∷ t ∷ e ∷ m ∷ l) i (suc zero) v a b = refl
moments_stay (p ∷ t ∷ e ∷ m ∷ l) i (suc (suc zero)) v a b = refl
moments_stay (p ∷ t ∷ e ∷ m ∷ l) zero (suc (suc (suc k))) v a b = absurd (omega arith)
moments_stay (p ∷ t ∷ e ∷ m ∷ l) (suc i) (suc (suc (suc zero))) v a b = absurd (omega arith)
moments_stay (p ∷ t ∷ e ∷ m ∷ l) (suc i) (suc (suc (suc (suc k)))) v a b = ap (λ (r : List ℕ). m ∷ r) (moments_stay l i k v (omega arith) (omega arith))

module _ (l : List ℕ) (i p : ℕ) where
  pub stays : moments_in (set l (4 * i) p) ≡ moments_in l
  stays = moments_stay l i (4 * i) p (omega arith) (omega arith)

  pub stays_timed : (t : ℕ) → moments_in (set (set l (4 * i + 1) t) (4 * i) p) ≡ moments_in l
  stays_timed t = moments_stay (set l (4 * i + 1) t) i (4 * i) p (omega arith) (omega arith) ∙ moments_stay l i (4 * i + 1) t (omega arith) (omega arith)

  pub stays-flr : (t e : ℕ) → moments_in (set (set (set l (4 * i + 1) t) (4 * i) p) (4 * i + 2) e) ≡ moments_in l
  stays-flr t e = moments_stay (set (set l (4 * i + 1) t) (4 * i) p) i (4 * i + 2) e (omega arith) (omega arith) ∙ stays_timed t

-- Its fourth number anew is its moment,
pub moments_set : (l : List ℕ) (i v : ℕ) → moments_in (set l (4 * i + 3) v) ≡ set (moments_in l) i v
unfolding moments_in
moments_set [] i v = refl
moments_set (p ∷ []) zero v = refl
moments_set (p ∷ []) (suc i) v = let k : 4 * suc i + 3 ≡ suc (4 * i + 6) = omega arith in ap (λ (n : ℕ). moments_in (set (p ∷ []) n v)) k
moments_set (p ∷ t ∷ []) zero v = refl
moments_set (p ∷ t ∷ []) (suc i) v = let k : 4 * suc i + 3 ≡ suc (suc (4 * i + 5)) = omega arith in ap (λ (n : ℕ). moments_in (set (p ∷ t ∷ []) n v)) k
moments_set (p ∷ t ∷ e ∷ []) zero v = refl
moments_set (p ∷ t ∷ e ∷ []) (suc i) v = let k : 4 * suc i + 3 ≡ suc (suc (suc (4 * i + 4))) = omega arith in ap (λ (n : ℕ). moments_in (set (p ∷ t ∷ e ∷ []) n v)) k
moments_set (p ∷ t ∷ e ∷ m ∷ l) zero v = refl
moments_set (p ∷ t ∷ e ∷ m ∷ l) (suc i) v =
    let k : 4 * suc i + 3 ≡ suc (suc (suc (suc (4 * i + 3)))) = omega arith in
    ap (λ (n : ℕ). moments_in (set (p ∷ t ∷ e ∷ m ∷ l) n v)) k ∙ ap (λ (r : List ℕ). m ∷ r) (moments_set l i v)

-- and leaves the statuses.
pub moments_apart : (l : List ℕ) (i v : ℕ) → statuses_in (set l (4 * i + 3) v) ≡ statuses_in l
unfolding statuses_in
moments_apart [] i v = refl
moments_apart (p ∷ []) zero v = refl
moments_apart (p ∷ []) (suc i) v = let k : 4 * suc i + 3 ≡ suc (4 * i + 6) = omega arith in ap (λ (n : ℕ). statuses_in (set (p ∷ []) n v)) k
moments_apart (p ∷ t ∷ []) zero v = refl
moments_apart (p ∷ t ∷ []) (suc i) v = let k : 4 * suc i + 3 ≡ suc (suc (4 * i + 5)) = omega arith in ap (λ (n : ℕ). statuses_in (set (p ∷ t ∷ []) n v)) k
moments_apart (p ∷ t ∷ e ∷ []) zero v = refl
moments_apart (p ∷ t ∷ e ∷ []) (suc i) v = let k : 4 * suc i + 3 ≡ suc (suc (suc (4 * i + 4))) = omega arith in ap (λ (n : ℕ). statuses_in (set (p ∷ t ∷ e ∷ []) n v)) k
moments_apart (p ∷ t ∷ e ∷ m ∷ l) zero v = refl
moments_apart (p ∷ t ∷ e ∷ m ∷ l) (suc i) v =
    let k : 4 * suc i + 3 ≡ suc (suc (suc (suc (4 * i + 3)))) = omega arith in
    ap (λ (n : ℕ). statuses_in (set (p ∷ t ∷ e ∷ m ∷ l) n v)) k ∙ ap (λ (r : List Status). status_of p t e ∷ r) (moments_apart l i v)

-- One slot that is due, or not.
pub notes_one : (clock : Nanos) (slot : ℕ) (p : Phase) (l : List ℕ) → notes (due_event clock slot p) l ≡ notes_at (made_by (due_event clock slot p)) slot l
unfolding notes
notes_one clock slot Down l = refl
notes_one clock slot Ready l = refl
notes_one clock slot (Pending cause t) l =
    either_way (λ (es : List Event). notes es l ≡ notes_at (made_by es) slot l) (reached clock t) (record { slot = slot; cause = cause; time = t } ∷ []) [] (λ _. refl) (λ _. refl)

pub notes_none : (es : List Event) (l : List ℕ) → es ≡ [] → l ≡ notes es l
unfolding notes
notes_none es l e = sym (ap (λ (x : List Event). notes x l) e)

pub notes_append : (es fs : List Event) (l : List ℕ) → notes (es ++ fs) l ≡ notes fs (notes es l)
unfolding notes
notes_append [] fs l = refl
notes_append (e ∷ es) fs l = notes_append es fs (set l e.slot e.time.0)
