-- Laws of the trace that a capture stands for, one consumed byte after the other.
use Prim.Native.Nat.{ℕ, ◌≤◌, ◌<◌}
use mathlib.Core.Path.{◌≡◌, refl, ap, sym, ◌∙◌}
use mathlib.Core.List.{List, [], ◌∷◌, ◌++◌, append_assoc, append-nil}
use lib.ListN.{length, take}
use lib.Dec.{ltb}
use borrow.Author.Tests.{ltb-true, ltb-false}
use Rattle.bits.proofs.Tests.{split}
use Rattle.times.specs.declared.Nanos.{Nanos}
use Rattle.trace.proofs.Tests.{if_true, if_false}
use Rattle.capture.specs.Advances.{due, advance_bytes}
use Rattle.capture.specs.Capture.{Place, start, Role, of_stamp, of_kind, of_record, role_of, place_at, adds_at, place_after, trace_from, place_of, stands_for}

pub place_append : (p : Place) (xs ys : List ℕ) → place_after p (xs ++ ys) ≡ place_after (place_after p xs) ys
unfolding place_after
place_append p [] ys = refl
place_append p (x ∷ xs) ys = place_append (place_at (role_of p.carried p.stamp) p x) xs ys

pub trace_append : (p : Place) (xs ys : List ℕ) → trace_from p (xs ++ ys) ≡ trace_from p xs ++ trace_from (place_after p xs) ys
unfolding trace_from place_after
trace_append p [] ys = refl
trace_append p (x ∷ xs) ys =
    let t = role_of p.carried p.stamp in
    let q = place_at t p x in
    ap (λ (l : List ℕ). adds_at t p x ++ l) (trace_append q xs ys) ∙ sym (append_assoc (adds_at t p x) (trace_from q xs) (trace_from (place_after q xs) ys))

-- what the next byte is
pub data NextIs (c stamp : List ℕ) : Type 0 where
  next_stamp : c ≡ [] → length stamp < 4 → role_of c stamp ≡ of_stamp → NextIs c stamp
  next_kind : c ≡ [] → 4 ≤ length stamp → role_of c stamp ≡ of_kind → NextIs c stamp
  next_record : (k : ℕ) (rest : List ℕ) → c ≡ k ∷ rest → role_of c stamp ≡ of_record → NextIs c stamp

pub next_is : (c stamp : List ℕ) → NextIs c stamp
next_is [] stamp =
    split (ltb (length stamp) 4)
    (λ e. next_stamp refl (ltb-true (length stamp) 4 e) (if_true (ltb (length stamp) 4) of_stamp of_kind e))
    (λ e. next_kind refl (ltb-false (length stamp) 4 e) (if_false (ltb (length stamp) 4) of_stamp of_kind e))
next_is (k ∷ rest) stamp = next_record k rest refl refl

-- one more byte
module _ (done : List ℕ) (p : Place) (at : p ≡ place_of done) (b : ℕ) (t : Role) (e : role_of p.carried p.stamp ≡ t) where
  pub place_more : place_of (done ++ b ∷ []) ≡ place_at t p b
  unfolding place_of place_after
  place_more =
      place_append start done (b ∷ [])
      ∙ ap (λ (q : Place). place_at (role_of q.carried q.stamp) q b) (sym at)
      ∙ ap (λ (u : Role). place_at u p b) e

  pub trace_more : trace_from start (done ++ b ∷ []) ≡ trace_from start done ++ adds_at t p b
  unfolding place_of trace_from
  trace_more =
      trace_append start done (b ∷ [])
      ∙ ap (λ (q : Place). trace_from start done ++ (adds_at (role_of q.carried q.stamp) q b ++ [])) (sym at)
      ∙ ap (λ (u : Role). trace_from start done ++ (adds_at u p b ++ [])) e
      ∙ ap (λ (l : List ℕ). trace_from start done ++ l) (append-nil (adds_at t p b))

-- by the place where the bytes leave off
pub stands_at : (done : List ℕ) (p : Place) (n : ℕ) → p ≡ place_of done
    → stands_for done n ≡ trace_from start done ++ advance_bytes (take n (due p.earlier p.stamp))
unfolding stands_for
stands_at done p n at = ap (λ (q : Place). trace_from start done ++ advance_bytes (take n (due q.earlier q.stamp))) (sym at)

pub told_none : (t : List ℕ) (d : List Nanos) (n : ℕ) → n ≡ 0 → t ++ advance_bytes (take n d) ≡ t
told_none t d n e = ap (λ (m : ℕ). t ++ advance_bytes (take m d)) e ∙ append-nil t
