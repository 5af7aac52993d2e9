-- One call: on the bytes that it consumes it is the plain bench, and its outcome is the scan's.
use Prim.Native.Nat.{ℕ, ◌+◌, ◌-◌, ◌≤◌, ◌<◌}
use mathlib.Core.Path.{◌≡◌, refl, ap, sym, ◌∙◌}
use mathlib.Core.List.{List, [], ◌∷◌, ◌++◌, append-nil}
use mathlib.Core.Bool.{Bool, true, false, true≢false}
use native.Mathlib.Omega.{arith}
use native.Mathlib.Nat.{sub-zero}
use native.Mathlib.Numerals.{one-add}
use lib.ListN.{length, take, length-append}
use lib.Seq.{append_snoc}
use lib.Dec.{ltb}
use borrow.Author.Tests.{ltb-true, ltb-false, lt-ltb, le-ltb}
use Rattle.trace.specs.Format.{known, body}
use Rattle.trace.specs.Bench.{Device, Bench, Cut, cut, runs, plain, Benched}
use Rattle.trace.specs.Outcome.{Outcome, unknown_next, scan}
use Rattle.trace.specs.Feed.{kind_at, took, stop, ran_with, byte, feed_open}
use Rattle.trace.proofs.Cutting.{Partial, cut_partial, cut-last, cut_unknown}

module _ {S : Type 0} (D : Device S) where
  -- what a byte does, in each of the four cases
  pub byte_unknown : (p : Bench S) (room b : ℕ) → known (kind_at p.carried b) ≡ false
      → byte D p room b ≡ stop 31 (record { state = p.state; carried = p.carried; broken = true })
  unfolding byte
  byte_unknown p room b e = rw e

  pub byte_carries : (p : Bench S) (room b : ℕ) → known (kind_at p.carried b) ≡ true → length p.carried < body (kind_at p.carried b)
      → byte D p room b ≡ took (record { state = p.state; carried = p.carried ++ b ∷ []; broken = false }) []
  unfolding byte
  byte_carries p room b e j = rw (e, lt-ltb _ _ j)

  pub byte_full : (p : Bench S) (room b : ℕ) → known (kind_at p.carried b) ≡ true → body (kind_at p.carried b) ≤ length p.carried
      → room < 8 → byte D p room b ≡ stop 30 p
  unfolding byte
  byte_full p room b e j r = rw (e, le-ltb _ _ j, lt-ltb _ _ r)

  pub byte_ends : (p : Bench S) (room b : ℕ) → known (kind_at p.carried b) ≡ true → body (kind_at p.carried b) ≤ length p.carried
      → 8 ≤ room → byte D p room b ≡ ran_with (D.run p.state (p.carried ++ b ∷ []))
  unfolding byte
  byte_ends p room b e j r = rw (e, le-ltb _ _ j, le-ltb _ _ r)

  -- The ways that a byte can go, with what each one means
  pub data Way (p : Bench S) (room b : ℕ) : Type 0 where
    carries : known (kind_at p.carried b) ≡ true → length p.carried < body (kind_at p.carried b)
        → byte D p room b ≡ took (record { state = p.state; carried = p.carried ++ b ∷ []; broken = false }) [] → Way p room b
    full : known (kind_at p.carried b) ≡ true → body (kind_at p.carried b) ≤ length p.carried → room < 8
        → byte D p room b ≡ stop 30 p → Way p room b
    ends : known (kind_at p.carried b) ≡ true → body (kind_at p.carried b) ≤ length p.carried → 8 ≤ room
        → byte D p room b ≡ ran_with (D.run p.state (p.carried ++ b ∷ [])) → Way p room b
    unknown : known (kind_at p.carried b) ≡ false
        → byte D p room b ≡ stop 31 (record { state = p.state; carried = p.carried; broken = true }) → Way p room b

  pub way : (p : Bench S) (room b : ℕ) → Way p room b
  way p room b =
      go (known (kind_at p.carried b)) (ltb (length p.carried) (body (kind_at p.carried b))) (ltb room 8) refl refl refl
    where
      go : (x y z : Bool) → known (kind_at p.carried b) ≡ x → ltb (length p.carried) (body (kind_at p.carried b)) ≡ y → ltb room 8 ≡ z
          → Way p room b
      go false y z ex ey ez = unknown ex (byte_unknown p room b ex)
      go true true z ex ey ez = let j = ltb-true _ _ ey in carries ex j (byte_carries p room b ex j)
      go true false true ex ey ez =
          let j = ltb-false _ _ ey in
          let r = ltb-true _ _ ez in
          full ex j r (byte_full p room b ex j r)
      go true false false ex ey ez =
          let j = ltb-false _ _ ey in
          let r = ltb-false _ _ ez in
          ends ex j r (byte_ends p room b ex j r)

  -- a byte that is carried leaves an incomplete record
  pub partial_more : (c : List ℕ) (b : ℕ) → Partial c → known (kind_at c b) ≡ true → length c < body (kind_at c b) → Partial (c ++ b ∷ [])
  partial_more [] b h e j = (e, j)
  partial_more (k ∷ rest) b h e j = (e, omega (arith, length-append rest (b ∷ [])))

  -- the plain bench's laws
  abbrev pub left_as : Bench S → List ℕ → Benched S
  left_as p a = record { state = p.state; carried = p.carried; answers = a }

  abbrev pub answered : List ℕ → Benched S → Benched S
  answered a z = record { state = z.state; carried = z.carried; answers = a ++ z.answers }

  pub plain_partial : (s : S) (c : List ℕ) → Partial c → plain D s c ≡ record { state = s; carried = c; answers = [] }
  unfolding plain runs
  plain_partial s c h = rw (cut_partial c h)

  plain-last : (s : S) (c : List ℕ) (b : ℕ) (more : List ℕ) → Partial c → known (kind_at c b) ≡ true → body (kind_at c b) ≤ length c
      → plain D s (c ++ b ∷ more) ≡ answered (D.run s (c ++ b ∷ [])).answer (plain D (D.run s (c ++ b ∷ [])).state more)
  unfolding plain runs
  plain-last s c b more h e j = rw (cut-last c b more h e j)

  -- ON THE BYTES THAT IT CONSUMES, a call is the plain bench
  abbrev pub SameAsPlain : Bench S → ℕ → List ℕ → Type 0
  SameAsPlain p room input =
      plain D p.state (p.carried ++ take (feed_open D p room input).consumed input)
      ≡ left_as (feed_open D p room input).bench (feed_open D p room input).answers

  pub feed-plain : (p : Bench S) (room : ℕ) (input : List ℕ) → Partial p.carried → SameAsPlain p room input
  unfolding feed_open
  feed-plain p room [] h = rw (append-nil p.carried) (plain_partial p.state p.carried h)
  feed-plain p room (b ∷ bs) h = go (way p room b) (λ p' room'. feed-plain p' room' bs)
    where
      go : Way p room b → ((p' : Bench S) (room' : ℕ) → Partial p'.carried → SameAsPlain p' room' bs) → SameAsPlain p room (b ∷ bs)
      go (carries e j w) ih =
          rw (w, one-add, ← append_snoc p.carried b _)
          (ih (record { state = p.state; carried = p.carried ++ b ∷ []; broken = false }) (room - 0) (partial_more p.carried b h e j))
      go (full e j r w) ih = rw (w, append-nil p.carried) (plain_partial p.state p.carried h)
      go (ends e j r w) ih =
          let x = D.run p.state (p.carried ++ b ∷ []) in
          let q : Bench S = record { state = x.state; carried = []; broken = false } in
          rw (w, one-add)
          (plain-last p.state p.carried b (take (feed_open D q (room - length x.answer) bs).consumed bs) h e j
          ∙ ap (answered x.answer) (ih q (room - length x.answer) tt))
      go (unknown e w) ih = rw (w, append-nil p.carried) (plain_partial p.state p.carried h)

  -- ITS OUTCOME is the scan's
  abbrev pub scanned : Cut → ℕ → Outcome
  scanned c room = scan c.wholes c.left room

  pub record AsScanned (p : Bench S) (room : ℕ) (input : List ℕ) : Type 0 where
    pub number : (feed_open D p room input).number ≡ (scanned (cut (p.carried ++ input)) room).number
    pub consumed : length p.carried + (feed_open D p room input).consumed ≡ (scanned (cut (p.carried ++ input)) room).consumed
    pub written : length (feed_open D p room input).answers ≡ (scanned (cut (p.carried ++ input)) room).written

  -- nothing unknown is next in an incomplete record
  known_next : (c : List ℕ) → Partial c → unknown_next c ≡ false
  unfolding unknown_next
  known_next [] h = refl
  known_next (k ∷ rest) h = rw h.0

  pub none_carried_lem : (c : List ℕ) (b : ℕ) → Partial c → known (kind_at c b) ≡ false → (c ≡ []) × (known b ≡ false)
  none_carried_lem [] b h e = (refl, e)
  none_carried_lem (k ∷ rest) b h e = absurd (true≢false (sym h.0 ∙ e))

  pub feed-scan : (p : Bench S) (room : ℕ) (input : List ℕ) → Partial p.carried → AsScanned p room input
  unfolding feed_open scan unknown_next
  feed-scan p room [] h =
      let e = append-nil p.carried in
      let q = cut_partial p.carried h in
      let u = known_next p.carried h in
      record { number = rw (e, q, u); consumed = rw (e, q, u) (omega arith); written = rw (e, q, u) }
  feed-scan p room (b ∷ bs) h = go (way p room b) (λ p' room'. feed-scan p' room' bs)
    where
      go : Way p room b → ((p' : Bench S) (room' : ℕ) → Partial p'.carried → AsScanned p' room' bs) → AsScanned p room (b ∷ bs)
      go (carries e j w) ih =
          let q : Bench S = record { state = p.state; carried = p.carried ++ b ∷ []; broken = false } in
          let i = ih q room (partial_more p.carried b h e j) in
          let s = append_snoc p.carried b bs in
          record {
            number = rw (w, sub-zero, ← s) i.number;
            consumed = rw (w, sub-zero, ← s) (omega (arith, length-append p.carried (b ∷ []), i.consumed));
            written = rw (w, sub-zero, ← s) i.written;
          }
      go (full e j r w) ih =
          let q = cut-last p.carried b bs h e j in
          let t = lt-ltb room 8 r in
          record {
            number = rw (w, q, t);
            consumed = rw (w, q, t) (omega (arith, length-append p.carried (b ∷ [])));
            written = rw (w, q, t);
          }
      go (ends e j r w) ih =
          let x = D.run p.state (p.carried ++ b ∷ []) in
          let i = ih (record { state = x.state; carried = []; broken = false }) (room - 8) tt in
          let q = cut-last p.carried b bs h e j in
          let t = le-ltb room 8 r in
          let l = D.eight p.state (p.carried ++ b ∷ []) in
          record {
            number = rw (w, q, t, l) i.number;
            consumed = rw (w, q, t, l) (omega (arith, length-append p.carried (b ∷ []), i.consumed));
            written = rw (w, q, t) (length-append x.answer _ ∙ rw l (ap (λ (n : ℕ). 8 + n) i.written));
          }
      go (unknown e w) ih =
          let n = none_carried_lem p.carried b h e in
          let q = cut_unknown b bs n.1 in
          record {
            number = rw (w, n.0, q, n.1);
            consumed = rw (w, n.0, q, n.1) (omega arith);
            written = rw (w, n.0, q, n.1);
          }
