-- Laws of stamps and advances.
use Prim.Native.Nat.{ℕ, ◌/◌, ◌≤◌, ◌<◌}
use mathlib.Core.Path.{◌≡◌, refl, ap, sym, ◌∙◌}
use mathlib.Core.List.{List, [], ◌∷◌, ◌++◌, append_assoc}
use native.Mathlib.Omega.{arith}
use native.Mathlib.Nat.{mod-lt}
use lib.ListN.{length}
use lib.Dec.{leb, eqb}
use borrow.Author.Tests.{ne_eqb}
use Rattle.std.specs.Prelude.{None, Some}
use Rattle.bits.proofs.Bytes.{byte_at_lem}
use Rattle.times.specs.declared.Nanos.{Nanos}
use Rattle.ticks.specs.declared.Stamp.{Stamp}
use Rattle.ticks.specs.Ticks.{wraps, difference, in_nanos}
use Rattle.trace.specs.Format.{Bytes, next, complete, known, body, size_of}
use Rattle.trace.proofs.Tests.{if_cases, if_false}
use Rattle.capture.specs.Advances.{stamp_in, longest_advance, advances, advance, advance_bytes, Earlier, back, between, due}

-- ---- an advance as a record
-- its bytes
pub bytes_advance : (t : Nanos) → Bytes (advance t)
unfolding advance
bytes_advance t =
    (omega arith, (mod-lt t.0 (omega arith), (mod-lt (t.0 / 256) (omega arith), (mod-lt (t.0 / 65536) (omega arith), (mod-lt (t.0 / 16777216) (omega arith), tt)))))

-- it is one whole record
pub advance-whole : (t : Nanos) → next (advance t) ≡ complete (advance t)
unfolding next advance known body size_of
advance-whole t = refl

-- ---- 4 bytes say a stamp of 32 bits
pub stamp_below : (bytes : List ℕ) → Bytes bytes → (stamp_in bytes).0 < wraps
unfolding stamp_in
stamp_below bytes h = omega (arith, byte_at_lem bytes 0 h, byte_at_lem bytes 1 h, byte_at_lem bytes 2 h, byte_at_lem bytes 3 h)

-- ---- the advances that are due: at most two, and none before the stamp's last byte
few : (t : Nanos) → length (advances t) ≤ 2
unfolding advances
few t =
    if_cases (λ (xs : List Nanos). length xs ≤ 2) (eqb t.0 0) _ _
    (λ _. omega arith)
    (λ _. if_cases (λ (xs : List Nanos). length xs ≤ 2) (leb t.0 longest_advance.0) _ _ (λ _. omega arith) (λ _. omega arith))

few_between : (e : Earlier) (stamp : Stamp) → length (between e stamp) ≤ 2
unfolding between
few_between None stamp = omega arith
few_between (Some e) stamp = few (in_nanos (difference e stamp))

pub due_few : (e : Earlier) (stamp : List ℕ) → length (due e stamp) ≤ 2
unfolding due
due_few e stamp =
    if_cases (λ (xs : List Nanos). length xs ≤ 2) (eqb (length stamp) 4) _ _
    (λ _. if_cases (λ (xs : List Nanos). length xs ≤ 2) (back e (stamp_in stamp)) _ _ (λ _. omega arith) (λ _. few_between e (stamp_in stamp)))
    (λ _. omega arith)

pub due_none : (e : Earlier) (stamp : List ℕ) → length stamp < 4 → due e stamp ≡ []
unfolding due
due_none e stamp h = if_false (eqb (length stamp) 4) _ _ (ne_eqb (length stamp) 4 (λ q. omega arith))

-- ---- the bytes of several
pub advance_bytes_append : (xs ys : List Nanos) → advance_bytes (xs ++ ys) ≡ advance_bytes xs ++ advance_bytes ys
advance_bytes_append [] ys = refl
advance_bytes_append (t ∷ xs) ys =
    ap (λ (l : List ℕ). advance t ++ l) (advance_bytes_append xs ys) ∙ sym (append_assoc (advance t) (advance_bytes xs) (advance_bytes ys))
