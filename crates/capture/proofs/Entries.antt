-- The trace that whole entries stand for, as the format says it: `entries`.
use Prim.Native.Nat.{ℕ, suc, ◌+◌, ◌≤◌, ◌<◌}
use mathlib.Core.Path.{◌≡◌, refl, ap, sym, subst, ◌∙◌}
use mathlib.Core.List.{List, [], ◌∷◌, ◌++◌, append-nil}
use native.Mathlib.Omega.{arith}
use lib.ListN.{length, take, length-append}
use lib.Seq.{append_snoc}
use lib.Dec.{ltb}
use borrow.Author.Tests.{lt-ltb, le-ltb}
use Rattle.std.specs.Prelude.{None, Some}
use Rattle.trace.specs.Format.{body}
use Rattle.trace.specs.Feed.{kind_at}
use Rattle.trace.proofs.Tests.{if_true, if_false}
use Rattle.trace.proofs.Records.{complete_at, length_whole}
use Rattle.trace.proofs.Cutting.{Partial}
use Rattle.trace.proofs.Gathering.{begun_partial}
use Rattle.capture.specs.Advances.{Earlier, stamp_in, due, advance_bytes}
use Rattle.capture.specs.Capture.{Entry, AreEntries, entry_bytes, entry_trace, last_stamp, Place, start, Role, of_stamp, of_kind, of_record, role_of, carried_after, place_at, adds_at, place_after, trace_from, place_of, stands_for}
use Rattle.capture.specs.Exactly.{Entries}
use Rattle.capture.proofs.Standing.{place_append, trace_append}

abbrev at : Earlier → List ℕ → List ℕ → Place
at e stamp carried = record { earlier = e; stamp = stamp; carried = carried }

-- bytes that add t to a trace, and where they leave off
record Adds (p : Place) (xs t : List ℕ) (q : Place) : Type 0 where
  place : place_after p xs ≡ q
  trace : trace_from p xs ≡ t

adds_none : (p : Place) → Adds p [] [] p
unfolding place_after trace_from
adds_none p = record { place = refl; trace = refl }

adds_append : {p q u : Place} {xs ys t v : List ℕ} → Adds p xs t q → Adds q ys v u → Adds p (xs ++ ys) (t ++ v) u
adds_append {p} {q} {u} {xs} {ys} {t} {v} a b =
    record {
      place = place_append p xs ys ∙ ap (λ (z : Place). place_after z ys) a.place ∙ b.place;
      trace = trace_append p xs ys ∙ (λ i. a.trace i ++ trace_from (a.place i) ys) ∙ ap (λ (l : List ℕ). t ++ l) b.trace;
    }

-- a byte, by what it belongs to, and the bytes after it
adds_byte : {p q u : Place} {x : ℕ} {xs t : List ℕ} (role : Role) → role_of p.carried p.stamp ≡ role → place_at role p x ≡ q → Adds q xs t u → Adds p (x ∷ xs) (adds_at role p x ++ t) u
unfolding place_after trace_from
adds_byte {p} {q} {u} {x} {xs} {t} role e f a =
    record {
      place = (λ i. place_after (place_at (e i) p x) xs) ∙ ap (λ (z : Place). place_after z xs) f ∙ a.place;
      trace = (λ i. adds_at (e i) p x ++ trace_from (place_at (e i) p x) xs) ∙ ap (λ (z : Place). adds_at role p x ++ trace_from z xs) f ∙ ap (λ (l : List ℕ). adds_at role p x ++ l) a.trace;
    }

-- ---- stamps: they add nothing
stamp_adds : (e : Earlier) (stamp xs : List ℕ) → length stamp + length xs ≤ 4 → Adds (at e stamp []) xs [] (at e (stamp ++ xs) [])
stamp_adds e stamp [] h = subst (λ (l : List ℕ). Adds (at e stamp []) [] [] (at e l [])) (sym (append-nil stamp)) (adds_none (at e stamp []))
stamp_adds e stamp (x ∷ xs) h =
    let r = if_true (ltb (length stamp) 4) of_stamp of_kind (lt-ltb (length stamp) 4 (omega arith)) in
    subst (λ (l : List ℕ). Adds (at e stamp []) (x ∷ xs) [] (at e l [])) (append_snoc stamp x xs)
    (adds_byte of_stamp r refl (stamp_adds e (stamp ++ x ∷ []) xs (omega (arith, length-append stamp (x ∷ [])))))

-- ---- records
-- the rest of one
rest_adds : (e : Earlier) (k : ℕ) (c xs : List ℕ) → 0 < length xs → length c + length xs ≡ body k → Adds (at e [] (k ∷ c)) xs xs (at e [] [])
rest_adds e k c [] h j = absurd (omega arith)
rest_adds e k c (x ∷ []) h j =
    let l = if_false (ltb (suc (length c)) (body k)) (k ∷ c ++ x ∷ []) [] (le-ltb (suc (length c)) (body k) (omega arith)) in
    adds_byte of_record refl (ap (at e []) l) (adds_none (at e [] []))
rest_adds e k c (x ∷ y ∷ ys) h j =
    let l = if_true (ltb (suc (length c)) (body k)) (k ∷ c ++ x ∷ []) [] (lt-ltb (suc (length c)) (body k) (omega arith)) in
    adds_byte of_record refl (ap (at e []) l) (rest_adds e k (c ++ x ∷ []) (y ∷ ys) (omega arith) (omega (arith, length-append c (x ∷ []))))

-- some of it, but not all
part_adds : (e : Earlier) (k : ℕ) (c xs : List ℕ) → length c + length xs < body k → Adds (at e [] (k ∷ c)) xs xs (at e [] (k ∷ c ++ xs))
part_adds e k c [] j = subst (λ (l : List ℕ). Adds (at e [] (k ∷ c)) [] [] (at e [] (k ∷ l))) (sym (append-nil c)) (adds_none (at e [] (k ∷ c)))
part_adds e k c (x ∷ xs) j =
    let l = if_true (ltb (suc (length c)) (body k)) (k ∷ c ++ x ∷ []) [] (lt-ltb (suc (length c)) (body k) (omega arith)) in
    subst (λ (z : List ℕ). Adds (at e [] (k ∷ c)) (x ∷ xs) (x ∷ xs) (at e [] (k ∷ z))) (append_snoc c x xs)
    (adds_byte of_record refl (ap (at e []) l) (part_adds e k (c ++ x ∷ []) xs (omega (arith, length-append c (x ∷ [])))))

module _ (e : Earlier) (stamp : List ℕ) (h : length stamp ≡ 4) where
  abbrev now : Earlier
  now = Some (stamp_in stamp)

  -- the kind byte, and bytes after it
  kind_adds : (k : ℕ) (c xs : List ℕ) (q : Place) → carried_after [] k ≡ c → Adds (at now [] c) xs xs q → Adds (at e stamp []) (k ∷ xs) (advance_bytes (due e stamp) ++ k ∷ xs) q
  kind_adds k c xs q l a =
      let r = if_false (ltb (length stamp) 4) of_stamp of_kind (le-ltb (length stamp) 4 (omega arith)) in
      subst (λ (t : List ℕ). Adds (at e stamp []) (k ∷ xs) t q) (append_snoc (advance_bytes (due e stamp)) k xs) (adds_byte of_kind r (ap (at now []) l) a)

  record_adds : (r : List ℕ) → length r ≡ suc (body (kind_at r 0)) → Adds (at e stamp []) r (advance_bytes (due e stamp) ++ r) (at now [] [])
  record_adds [] j = absurd (omega arith)
  record_adds (k ∷ []) j =
      kind_adds k [] [] (at now [] []) (if_false (ltb 0 (body k)) (k ∷ []) [] (le-ltb 0 (body k) (omega arith))) (adds_none (at now [] []))
  record_adds (k ∷ x ∷ xs) j =
      kind_adds k (k ∷ []) (x ∷ xs) (at now [] []) (if_true (ltb 0 (body k)) (k ∷ []) [] (lt-ltb 0 (body k) (omega arith))) (rest_adds now k [] (x ∷ xs) (omega arith) (omega arith))

  begun_adds : (c : List ℕ) → 0 < length c → Partial c → Adds (at e stamp []) c (advance_bytes (due e stamp) ++ c) (at now [] c)
  begun_adds [] n p = absurd (omega arith)
  begun_adds (k ∷ xs) n p =
      kind_adds k (k ∷ []) xs (at now [] (k ∷ xs)) (if_true (ltb 0 (body k)) (k ∷ []) [] (lt-ltb 0 (body k) (omega (arith, p.1)))) (part_adds now k [] xs (omega (arith, p.1)))

-- ---- entries
entries_add : (e : Earlier) (es : List Entry) → AreEntries es → Adds (at e [] []) (entry_bytes es) (entry_trace e es) (at (last_stamp e es) [] [])
entries_add e [] h = adds_none (at e [] [])
entries_add e (x ∷ es) h =
    let stamp = x.stamp in
    let r = x.record_bytes in
    adds_append (adds_append (stamp_adds e [] stamp (omega (arith, h.0.stamp))) (record_adds e stamp h.0.stamp r (length_whole r r (complete_at r r h.0.whole)).0))
    (entries_add (Some (stamp_in stamp)) es h.1)

-- what bytes stand for, by what they add
stands : (xs t : List ℕ) (n : ℕ) (p : Place) → Adds start xs t p → stands_for xs n ≡ t ++ advance_bytes (take n (due p.earlier p.stamp))
unfolding stands_for place_of
stands xs t n p a = λ i. a.trace i ++ advance_bytes (take n (due (a.place i).earlier (a.place i).stamp))

pub entries : Entries
unfolding place_of
entries =
    record {
      trace = λ es h. stands (entry_bytes es) (entry_trace None es) 0 _ (entries_add None es h) ∙ append-nil (entry_trace None es);
      place = λ es h. (entries_add None es h).place;
      stamped = λ es h stamp l n.
          stands (entry_bytes es ++ stamp) (entry_trace None es ++ []) n (at (last_stamp None es) stamp []) (adds_append (entries_add None es h) (stamp_adds (last_stamp None es) [] stamp (omega arith)))
          ∙ ap (λ (t : List ℕ). t ++ advance_bytes (take n (due (last_stamp None es) stamp))) (append-nil (entry_trace None es));
      carrying = λ es h stamp c l b n.
          stands (entry_bytes es ++ (stamp ++ c)) (entry_trace None es ++ (advance_bytes (due (last_stamp None es) stamp) ++ c)) 0 (at (Some (stamp_in stamp)) [] c)
          (adds_append (entries_add None es h) (adds_append (stamp_adds (last_stamp None es) [] stamp (omega arith)) (begun_adds (last_stamp None es) stamp l c n (begun_partial c b))))
          ∙ append-nil _;
    }
