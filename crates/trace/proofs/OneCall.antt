-- One call, at a bench that carries at most the start of one record: it is the plain bench on the bytes that it consumes, and its outcome is the scan's.
use Prim.Native.Nat.{ℕ, ◌-◌, ◌≤◌}
use mathlib.Core.Path.{◌≡◌, refl, ap, sym, ◌∙◌}
use mathlib.Core.List.{List, [], ◌∷◌, ◌++◌, append-nil, append_assoc}
use mathlib.Core.Bool.{Bool, true, false, ◌||◌}
use native.Mathlib.Omega.{arith}
use lib.ListN.{length, take, length-append}
use lib.Seq.{take-nil, take_all}
use lib.Dec.{eqb}
use borrow.Author.Tests.{le-leb}
use Rattle.trace.specs.Format.{known, body, complete, next, Bytes}
use Rattle.trace.specs.Bench.{Device, Bench, cut, runs, plain}
use Rattle.trace.specs.Outcome.{Outcome, scan, outcome}
use Rattle.trace.specs.Feed.{kind_at, Fed, stopped, feed_open}
use Rattle.trace.specs.inner.OneCall.{feed}
use Rattle.trace.specs.inner.Keeps.{RunKeeps}
use Rattle.trace.proofs.Tests.{if_true, if_false}
use Rattle.bits.proofs.Bytes.{bytes_append}
use Rattle.trace.proofs.Cutting.{Partial, cut_append}
use Rattle.trace.proofs.Feeding.{Way, way, carries, full, ends, unknown, partial_more, answered, left_as, plain_partial, feed-plain, feed-scan}

-- the byte that completes a record
pub next_last : (c : List ℕ) (b : ℕ) → Partial c → known (kind_at c b) ≡ true → body (kind_at c b) ≤ length c → next (c ++ b ∷ []) ≡ complete (c ++ b ∷ [])
unfolding next
next_last [] b h e j = rw (e, le-leb (body b) 0 j, take-nil)
next_last (k ∷ rest) b h e j =
    let n : length (rest ++ b ∷ []) ≡ body k = length-append rest (b ∷ []) ∙ omega (arith, h.1) in
    rw (e, le-leb (body k) (length (rest ++ b ∷ [])) (omega arith), take_all (body k) (rest ++ b ∷ []) (omega arith))

abbrev pub fed_outcome : {S : Type 0} → Fed S → Outcome
fed_outcome f = record { number = f.number; consumed = f.consumed; written = length f.answers }

module _ {S : Type 0} (D : Device S) where
  runs_append : (s : S) (rs qs : List (List ℕ))
      → runs D s (rs ++ qs) ≡ record { state = (runs D (runs D s rs).state qs).state; answer = (runs D s rs).answer ++ (runs D (runs D s rs).state qs).answer }
  unfolding runs
  runs_append s [] qs = refl
  runs_append s (r ∷ rs) qs = rw (runs_append (D.run s r).state rs qs, append_assoc)

  -- the plain bench on a trace in two parts
  pub plain_append : (s : S) (xs ys : List ℕ)
      → plain D s (xs ++ ys) ≡ answered D (plain D s xs).answers (plain D (plain D s xs).state ((plain D s xs).carried ++ ys))
  unfolding plain
  plain_append s xs ys = rw (cut_append xs ys, runs_append s (cut xs).wholes _)

  -- what a call leaves carried is an incomplete record again
  open_partial : (p : Bench S) (room : ℕ) (input : List ℕ) → Partial p.carried → Partial (feed_open D p room input).bench.carried
  unfolding feed_open
  open_partial p room [] h = h
  open_partial p room (b ∷ bs) h = go (way D p room b) (λ p' room'. open_partial p' room' bs)
    where
      go : Way D p room b → ((p' : Bench S) (room' : ℕ) → Partial p'.carried → Partial (feed_open D p' room' bs).bench.carried)
          → Partial (feed_open D p room (b ∷ bs)).bench.carried
      go (carries e j w) ih = rw w (ih _ _ (partial_more D p.carried b h e j))
      go (full e j r w) ih = rw w h
      go (ends e j r w) ih = rw w (ih _ _ tt)
      go (unknown e w) ih = rw w h

  -- it breaks a trace just when it gives 31
  open_broken : (p : Bench S) (room : ℕ) (input : List ℕ) → p.broken ≡ false
      → (feed_open D p room input).bench.broken ≡ eqb (feed_open D p room input).number 31
  unfolding feed_open
  open_broken p room [] h = h
  open_broken p room (b ∷ bs) h = go (way D p room b) (λ p' room'. open_broken p' room' bs)
    where
      go : Way D p room b → ((p' : Bench S) (room' : ℕ) → p'.broken ≡ false → (feed_open D p' room' bs).bench.broken ≡ eqb (feed_open D p' room' bs).number 31)
          → (feed_open D p room (b ∷ bs)).bench.broken ≡ eqb (feed_open D p room (b ∷ bs)).number 31
      go (carries e j w) ih = rw w (ih _ _ refl)
      go (full e j r w) ih = rw w h
      go (ends e j r w) ih = rw w (ih _ _ refl)
      go (unknown e w) ih = rw w

  pub record OneCall (p : Bench S) (room : ℕ) (input : List ℕ) : Type 0 where
    pub same : plain D p.state (p.carried ++ take (feed D p room input).consumed input) ≡ left_as D (feed D p room input).bench (feed D p room input).answers
    pub scans : fed_outcome (feed D p room input) ≡ outcome p.carried p.broken input room
    pub breaks : (feed D p room input).bench.broken ≡ (p.broken || eqb (feed D p room input).number 31)
    pub partial : Partial (feed D p room input).bench.carried

  pub feed_shut : (p : Bench S) (room : ℕ) (input : List ℕ) → p.broken ≡ true → feed D p room input ≡ stopped 31 p
  unfolding feed
  feed_shut p room input e = if_true p.broken _ _ e

  pub feed_open_lem : (p : Bench S) (room : ℕ) (input : List ℕ) → p.broken ≡ false → feed D p room input ≡ feed_open D p room input
  unfolding feed
  feed_open_lem p room input e = if_false p.broken _ _ e

  shut_scans : (p : Bench S) (room : ℕ) (input : List ℕ) → fed_outcome (stopped 31 p) ≡ outcome p.carried true input room
  unfolding outcome
  shut_scans p room input = refl

  open_scans : (p : Bench S) (room : ℕ) (input : List ℕ) → Partial p.carried → fed_outcome (feed_open D p room input) ≡ outcome p.carried false input room
  unfolding outcome
  open_scans p room input h =
      let a = feed-scan D p room input h in
      let n : (feed_open D p room input).consumed ≡ (scan (cut (p.carried ++ input)).wholes (cut (p.carried ++ input)).left room).consumed - length p.carried =
      omega (arith, a.consumed) in
      λ i. record { number = a.number i; consumed = n i; written = a.written i }

  pub one_call : (p : Bench S) (room : ℕ) (input : List ℕ) → Partial p.carried → OneCall p room input
  one_call p room input h = go p.broken refl
    where
      go : (t : Bool) → p.broken ≡ t → OneCall p room input
      go true e =
          let f = feed_shut p room input e in
          record {
            same = rw (f, append-nil p.carried) (plain_partial D p.state p.carried h);
            scans = rw f (shut_scans p room input ∙ ap (λ (t : Bool). outcome p.carried t input room) (sym e));
            breaks = rw f (e ∙ sym (ap (λ (t : Bool). t || true) e));
            partial = rw f h;
          }
      go false e =
          let f = feed_open_lem p room input e in
          record {
            same = rw f (feed-plain D p room input h);
            scans = rw f (open_scans p room input h ∙ ap (λ (t : Bool). outcome p.carried t input room) (sym e));
            breaks = rw f (open_broken p room input e ∙ ap (λ (t : Bool). t || eqb (feed_open D p room input).number 31) (sym e));
            partial = rw f (open_partial p room input h);
          }

  -- what whole records of bytes keep of the device, a call keeps; and what it leaves carried are bytes again
  module _ (Good : S → Type 0) (keeps : RunKeeps D Good) where
    pub record Kept (p : Bench S) : Type 0 where
      pub partial : Partial p.carried
      pub bytes : Bytes p.carried
      pub good : Good p.state

    pub open_keeps : (p : Bench S) (room : ℕ) (input : List ℕ) → Kept p → Bytes input → Kept (feed_open D p room input).bench
    unfolding feed_open
    open_keeps p room [] g i = g
    open_keeps p room (b ∷ bs) g i = go (way D p room b) (λ p' room' g'. open_keeps p' room' bs g' i.1)
      where
        go : Way D p room b → ((p' : Bench S) (room' : ℕ) → Kept p' → Kept (feed_open D p' room' bs).bench)
            → Kept (feed_open D p room (b ∷ bs)).bench
        go (carries e j w) ih =
            rw w (ih _ _ (record { partial = partial_more D p.carried b g.partial e j; bytes = bytes_append p.carried (b ∷ []) g.bytes (i.0, tt); good = g.good }))
        go (full e j r w) ih = rw w g
        go (ends e j r w) ih =
            rw w (ih _ _ (record {
              partial = tt;
              bytes = tt;
              good = keeps p.state (p.carried ++ b ∷ []) (next_last p.carried b g.partial e j) (bytes_append p.carried (b ∷ []) g.bytes (i.0, tt)) g.good;
            }))
        go (unknown e w) ih = rw w (record { partial = g.partial; bytes = g.bytes; good = g.good })
