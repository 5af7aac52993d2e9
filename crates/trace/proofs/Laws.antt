-- What holds of traces, outcomes and lists of calls, for any device.
use Prim.Native.Nat.{ℕ, zero, suc, ◌-◌, ◌*◌, ◌≤◌}
use mathlib.Core.Path.{◌≡◌, refl, ap, sym, ◌∙◌}
use mathlib.Core.Bool.{Bool, true, false, ◌&&◌, true≢false}
use mathlib.Core.List.{List, [], ◌∷◌, ◌++◌, append_assoc}
use native.Mathlib.Omega.{arith}
use native.Mathlib.Nat.{sub-zero}
use native.Mathlib.Numerals.{one-add}
use lib.ListN.{length, take, drop, length-append, length-drop, take-append-drop}
use lib.Seq.{length-take-le, take-take, take_at, drop_at}
use lib.Dec.{leb}
use borrow.Author.Tests.{le-leb, lt-leb}
use Rattle.bits.proofs.Tests.{split}
use Rattle.trace.specs.Format.{when◌then◌else◌, known, body, whole, complete, incomplete, unknown, next, begun}
use Rattle.trace.specs.Bench.{Device, Bench, Benched, Cut, front, uncut, cut, runs, plain}
use Rattle.trace.specs.Feed.{Fed, feed_open}
use Rattle.trace.specs.inner.OneCall.{feed}
use Rattle.trace.specs.Lent.{Lent, Left, outcome_in, feeds, Start}
use Rattle.trace.specs.Calls.{Call, Came, BytesIn, no_call, before, calls}
use Rattle.trace.specs.Exactly.{joined_up, AllWhole, IsCut, CutExactly, EndsWith, all_consumed, no_room, no_kind, EndsExactly}
use Rattle.trace.specs.inner.Keeps.{Keeps}
use Rattle.trace.proofs.Cutting.{Partial, cut-whole, cut_short, whole_of, known_of, fits_of, cut_nil}
use Rattle.trace.proofs.Records.{complete_at, incomplete_at, length_whole}
use Rattle.trace.proofs.Gathering.{begun_partial, partial_begun}
use Rattle.trace.proofs.Feeding.{Way, way, carries, full, ends as ends_record, unknown as unknown_kind, partial_more, none_carried_lem}
use Rattle.trace.proofs.OneCall.{next_last, feed_shut, feed_open_lem}
use Rattle.trace.proofs.Theorem.{one_trace}

-- ---- A trace and its records
next-front : (k : ℕ) (rest : List ℕ) → whole k rest ≡ true → next (k ∷ take (body k) rest) ≡ complete (k ∷ take (body k) rest)
unfolding next
next-front k rest e =
    let j = fits_of k rest e in
    let l = length-take-le (body k) rest j in
    rw (known_of k rest e, le-leb (body k) (length (take (body k) rest)) (omega arith), take-take (body k) (body k) rest (omega arith))

next_of : (k : ℕ) (rest : List ℕ) → whole k rest ≡ true → next (k ∷ rest) ≡ complete (k ∷ take (body k) rest)
unfolding next
next_of k rest e = rw (known_of k rest e, le-leb (body k) (length rest) (fits_of k rest e))

no_front : (k : ℕ) (rest r : List ℕ) → whole k rest ≡ false → next (k ∷ rest) ≡ complete r → ⊥
unfolding next whole
no_front k rest r e q = go (known k) (leb (body k) (length rest)) e q
  where
    go : (x y : Bool) → (x && y) ≡ false → (when x then (when y then complete (k ∷ take (body k) rest) else incomplete) else unknown) ≡ complete r → ⊥
    go true true e q = true≢false e
    go true false e q = let z : ◌≡◌ {A = ℕ} 0 1 = cc in omega arith
    go false y e q = let z : ◌≡◌ {A = ℕ} 0 1 = cc in omega arith

none_cut : IsCut [] (cut [])
unfolding next
none_cut = rw cut_nil (record { joined = refl; wholes = tt; left = λ r e. let z : ◌≡◌ {A = ℕ} 0 1 = cc in omega arith })

is_cut_in : (n : ℕ) (bs : List ℕ) → length bs ≤ n → IsCut bs (cut bs)
is_cut_in zero [] h = none_cut
is_cut_in zero (k ∷ rest) h = absurd (omega arith)
is_cut_in (suc n) [] h = none_cut
is_cut_in (suc n) (k ∷ rest) h =
    split (whole k rest)
    (λ e.
    let i = is_cut_in n (drop (body k) rest) (omega (arith, length-drop (body k) rest)) in
    let c = cut (drop (body k) rest) in
    rw (cut-whole k rest e) (record {
      joined = ap (λ (l : List ℕ). k ∷ l) (append_assoc (take (body k) rest) (joined_up c.wholes) c.left ∙ rw i.joined (take-append-drop (body k) rest));
      wholes = (next-front k rest e, i.wholes);
      left = i.left;
    }))
    (λ e. rw (cut_short k rest e) (record { joined = refl; wholes = tt; left = λ r. no_front k rest r e }))

is_cut : (bs : List ℕ) → IsCut bs (cut bs)
is_cut bs = is_cut_in (length bs) bs (omega arith)

abbrev cut_of : List (List ℕ) → List ℕ → Cut
cut_of rs left = record { wholes = rs; left = left }

cut-front : (r more : List ℕ) → next r ≡ complete r → cut (r ++ more) ≡ front r (cut more)
cut-front [] more e = absurd (omega (arith, (complete_at [] [] e).fits))
cut-front (k ∷ rest) more e =
    let c = complete_at (k ∷ rest) (k ∷ rest) e in
    let n : length rest ≡ body k = omega (arith, (length_whole (k ∷ rest) (k ∷ rest) c).0) in
    cut-whole k (rest ++ more) (whole_of k (rest ++ more) c.kind (omega (arith, length-append rest more)))
    ∙ rw (take_at rest more (body k) n, drop_at rest more (body k) n)

cut_left : (left : List ℕ) → ((r : List ℕ) → next left ≡ complete r → ⊥) → cut left ≡ uncut left
cut_left [] h = cut_nil
cut_left (k ∷ rest) h = split (whole k rest) (λ e. absurd (h _ (next_of k rest e))) (cut_short k rest)

cut_pieces : (rs : List (List ℕ)) (left : List ℕ) → AllWhole rs → ((r : List ℕ) → next left ≡ complete r → ⊥) → cut (joined_up rs ++ left) ≡ cut_of rs left
cut_pieces [] left w h = cut_left left h
cut_pieces (r ∷ rs) left w h =
    rw (append_assoc r (joined_up rs) left) (cut-front r (joined_up rs ++ left) w.0 ∙ ap (front r) (cut_pieces rs left w.1 h))

cut-only : (bs : List ℕ) (c : Cut) → IsCut bs c → c ≡ cut bs
cut-only bs c i = sym (ap cut (sym i.joined) ∙ cut_pieces c.wholes c.left i.wholes i.left)

-- THE CUT is one, and there is no other
pub cut_exactly : CutExactly
cut_exactly = record { is = is_cut; only = cut-only }

-- WHAT MAY BE CARRIED is what is neither a whole record at the front nor an unknown kind
pub begun_is : (c : List ℕ) → begun c ≡ true → next c ≡ incomplete
unfolding next
begun_is [] e = refl
begun_is (k ∷ rest) e = let p = begun_partial (k ∷ rest) e in rw (p.0, lt-leb (body k) (length rest) p.1)

pub incomplete_begun : (c : List ℕ) → next c ≡ incomplete → begun c ≡ true
incomplete_begun c e = partial_begun c (incomplete_at c e)

-- ---- The exact end of a call
module _ {S : Type 0} (D : Device S) where
  abbrev EndOf : Bench S → ℕ → List ℕ → Type 0
  EndOf p room input =
      let f = feed_open D p room input in
      EndsWith f.bench.carried (room - length f.answers) (drop f.consumed input) f.number

  ends : (p : Bench S) (room : ℕ) (input : List ℕ) → Partial p.carried → EndOf p room input
  unfolding feed_open
  ends p room [] h = all_consumed refl refl
  ends p room (b ∷ bs) h = go (way D p room b) (λ p' room'. ends p' room' bs)
    where
      go : Way D p room b → ((p' : Bench S) (room' : ℕ) → Partial p'.carried → EndOf p' room' bs) → EndOf p room (b ∷ bs)
      go (carries e j w) ih =
          rw (w, sub-zero, one-add) (ih (record { state = p.state; carried = p.carried ++ b ∷ []; broken = false }) room (partial_more D p.carried b h e j))
      go (full e j r w) ih = rw w (no_room b bs refl refl (next_last p.carried b h e j) (omega arith))
      go (ends_record e j r w) ih =
          let x = D.run p.state (p.carried ++ b ∷ []) in
          let q : Bench S = record { state = x.state; carried = []; broken = false } in
          let a = (feed_open D q (room - length x.answer) bs).answers in
          let n : room - length (x.answer ++ a) ≡ room - length x.answer - length a = omega (arith, length-append x.answer a) in
          rw (w, one-add, n) (ih q (room - length x.answer) tt)
      go (unknown_kind e w) ih = let n = none_carried_lem D p.carried b h e in rw w (no_kind b bs refl refl n.0 n.1)

-- A CALL GOES ON AS LONG AS IT CAN
pub ends_exactly : {S : Type 0} (D : Device S) → EndsExactly D
ends_exactly D p room input e = ends D p room input (begun_partial p.carried e)

-- ---- Answers
module _ {S : Type 0} (D : Device S) where
  eight_each_in : (s : S) (rs : List (List ℕ)) → length (runs D s rs).answer ≡ 8 * length rs
  unfolding runs
  eight_each_in s [] = refl
  eight_each_in s (r ∷ rs) =
      let x = D.run s r in
      omega (arith, length-append x.answer (runs D x.state rs).answer, D.eight s r, eight_each_in x.state rs)

  -- EIGHT BYTES for each record completed, and no others
  pub eight_each : (s : S) (bs : List ℕ) → length (plain D s bs).answers ≡ 8 * length (cut bs).wholes
  unfolding plain
  eight_each s bs = eight_each_in s (cut bs).wholes

-- ---- The counts stay within what was lent
module _ {S : Type 0} (D : Device S) where
  pub record Within (room : ℕ) (input : List ℕ) (f : Fed S) : Type 0 where
    pub consumed : f.consumed ≤ length input
    pub written : length f.answers ≤ room

  open_within : (p : Bench S) (room : ℕ) (input : List ℕ) → Within room input (feed_open D p room input)
  unfolding feed_open
  open_within p room [] = record { consumed = omega arith; written = omega arith }
  open_within p room (b ∷ bs) = go (way D p room b) (λ p' room'. open_within p' room' bs)
    where
      go : Way D p room b → ((p' : Bench S) (room' : ℕ) → Within room' bs (feed_open D p' room' bs)) → Within room (b ∷ bs) (feed_open D p room (b ∷ bs))
      go (carries e j w) ih =
          let i = ih (record { state = p.state; carried = p.carried ++ b ∷ []; broken = false }) room in
          rw (w, sub-zero) (record { consumed = omega (arith, i.consumed); written = i.written })
      go (full e j r w) ih = rw w (record { consumed = omega arith; written = omega arith })
      go (ends_record e j r w) ih =
          let x = D.run p.state (p.carried ++ b ∷ []) in
          let i = ih (record { state = x.state; carried = []; broken = false }) (room - length x.answer) in
          rw w (record {
            consumed = omega (arith, i.consumed);
            written = omega (arith, i.written, D.eight p.state (p.carried ++ b ∷ []), length-append x.answer (feed_open D (record { state = x.state; carried = []; broken = false }) (room - length x.answer) bs).answers);
          })
      go (unknown_kind e w) ih = rw w (record { consumed = omega arith; written = omega arith })

  -- NO CALL consumes more than its input, or writes more than its room
  pub within : (p : Bench S) (room : ℕ) (input : List ℕ) → Within room input (feed D p room input)
  within p room input =
      split p.broken
      (λ e. rw (feed_shut D p room input e) (record { consumed = omega arith; written = omega arith }))
      (λ e. rw (feed_open_lem D p room input e) (open_within p room input))

-- ---- Lists of calls
-- calls, and then others on what they left
abbrev pub and_then : {H : Type 0} → Came H → Came H → Came H
and_then y z =
    record { bytes = y.bytes ++ z.bytes; answers = y.answers ++ z.answers; outcomes = y.outcomes ++ z.outcomes; slices = y.slices ++ z.slices; held = z.held }

module _ {S H : Type 0} (L : Lent S H) where
  -- A LIST IN TWO PARTS: the second part gets what the first left. So what is claimed of every list is claimed after each call of a list
  pub calls_append : (h : H) (cs ds : List Call) → calls L h (cs ++ ds) ≡ and_then (calls L h cs) (calls L (calls L h cs).held ds)
  unfolding calls
  calls_append h [] ds = refl
  calls_append h (c ∷ cs) ds =
      let x = feeds L h c.input c.answers in
      let y = calls L x.held cs in
      let z = calls L y.held ds in
      let a = append_assoc (take x.consumed c.input) y.bytes z.bytes in
      let b = append_assoc (take x.written x.answers) y.answers z.answers in
      ap (before c x) (calls_append x.held cs ds)
      ∙ λ i. record { bytes = sym a i; answers = sym b i; outcomes = outcome_in x ∷ (y.outcomes ++ z.outcomes); slices = x.answers ∷ (y.slices ++ z.slices); held = z.held }

  -- a call that was made, known by its contract, in front of others
  pub called : (h : H) (c : Call) (cs : List Call) (x : Left H) → x ≡ feeds L h c.input c.answers → calls L h (c ∷ cs) ≡ before c x (calls L x.held cs)
  unfolding calls
  called h c cs x e = rw (← e)

  pub called_none : (h : H) → calls L h [] ≡ no_call h
  unfolding calls
  called_none h = refl

  module _ (h : H) (Good : S → Type 0) (K : Keeps L h Good) where
    -- HOW A TRACE IS CUT INTO CALLS DOESN'T MATTER: two lists of calls that consume the same bytes give the same answers, and leave the same device and the same bytes carried
    pub cut_alike : (cs ds : List Call) → Start L h → BytesIn cs → BytesIn ds → (calls L h cs).bytes ≡ (calls L h ds).bytes
        → ((calls L h cs).answers ≡ (calls L h ds).answers)
        × ((L.view (calls L h cs).held).state ≡ (L.view (calls L h ds).held).state)
        × ((L.view (calls L h cs).held).carried ≡ (L.view (calls L h ds).held).carried)
    cut_alike cs ds f i j e =
        let a = (one_trace L h Good K cs (rw f.none_carried tt) i).demand f in
        let b = (one_trace L h Good K ds (rw f.none_carried tt) j).demand f in
        let p = ap (plain L.device (L.view h).state) e in (
          a.answers ∙ ap (λ (y : Benched S). y.answers) p ∙ sym b.answers,
          ap (λ (y : Bench S). y.state) a.state ∙ ap (λ (y : Benched S). y.state) p ∙ sym (ap (λ (y : Bench S). y.state) b.state),
          ap (λ (y : Bench S). y.carried) a.state ∙ ap (λ (y : Benched S). y.carried) p ∙ sym (ap (λ (y : Bench S). y.carried) b.state),
        )
