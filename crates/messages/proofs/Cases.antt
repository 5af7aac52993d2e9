-- A reading and a writing by their cases.
use mathlib.Core.Path.{◌≡◌}
use mathlib.Core.Bool.{true, ◌&&◌, cond, and-eq-true_iff}
use mathlib.Core.List.{List}
use Prim.Native.Nat.{ℕ, ◌+◌, ◌*◌, ◌/◌, ◌%◌}
use native.Mathlib.Nat.{div-add-mod', mod-eq_of_lt}
use native.Mathlib.Omega.{arith}
use borrow.Author.Tests.{eqb-true}
use lib.ListN.{length}
use lib.Dec.{eqb}
use Rattle.bits.proofs.Tests.{split}
use Rattle.std.specs.Prelude.{Option, Some, None}
use Rattle.messages.specs.declared.Message.{Message}
use Rattle.messages.specs.declared.Message.TheVariants.{Drs, Frs}
use Rattle.bits.specs.Bytes.{Bytes, byte_at}
use Rattle.bits.proofs.Bytes.{byte_at_lem}
use Rattle.messages.specs.Messages.{drs, frs, subtype_of, traffic_class, requester_id, frs_reason, layout, frs_allowed, frs_read, read_message, reading, reading_of, writable, canonical, left, stored, written, listed_only}
use Rattle.messages.proofs.Laid.{Laid, laid, allowed_small}

-- A reading is one of three: what holds of each holds of the reading.
pub cases : (P : Option Message → Type 0) (m : List ℕ)
    → (Laid drs m → P (Some (Drs (requester_id m))))
    → (Laid frs m → frs_allowed (frs_reason m) ≡ true → P (Some (Frs (requester_id m) (frs_reason m))))
    → P None
    → P (read_message m)
unfolding read_message frs_read
cases P m d f n =
    split (layout drs m) (λ t. simp t (d (laid drs m t)))
    (λ q. simp q
    (split (layout frs m)
    (λ t. simp t (split (frs_allowed (frs_reason m)) (λ a. simp a (f (laid frs m t) a)) (λ a. simp a n)))
    (λ t. simp t n)))

-- The writer gives 0 with the 16 bytes, or 19 with the room as it was: what follows from each holds.
pub outcomes : {P : Type 0} (kind id reason : ℕ) (room : List ℕ)
    → (writable kind reason ≡ true → written kind id reason room ≡ left 0 (canonical kind id reason) → P)
    → (written kind id reason room ≡ left 19 room → P)
    → P
unfolding written stored
outcomes kind id reason room f g =
    split (writable kind reason)
    (λ w. split (eqb (length room) 16) (λ n. f w (simp (w, n))) (λ n. g (simp (w, n))))
    (λ w. g (simp w))

-- The 16 bytes that are written of a kind, an ID and a reason read back as these.
pub canonical_reads : (kind id reason : ℕ) → writable kind reason ≡ true → reading_of (read_message (canonical kind id reason)) ≡ reading 0 kind id reason
unfolding writable canonical read_message layout subtype_of frs_read
canonical_reads kind id reason w =
    let i : id / 256 * 256 + id % 256 ≡ id = div-add-mod' id 256 in
    split (eqb kind drs)
    (λ t.
    let k : kind ≡ drs = eqb-true kind drs t in
    let r : reason ≡ 0 = eqb-true reason 0 (simp t at w) in
    rw (k, r, i))
    (λ t.
    let f : (eqb kind frs && frs_allowed reason) ≡ true = simp t at w in
    let k : kind ≡ frs = eqb-true kind frs ((and-eq-true_iff (eqb kind frs) (frs_allowed reason)).0 f).0 in
    let a : frs_allowed reason ≡ true = ((and-eq-true_iff (eqb kind frs) (frs_allowed reason)).0 f).1 in
    let r : reason % 16 ≡ reason = mod-eq_of_lt (allowed_small reason a) in
    rw (k, r, i) (simp a))

-- A message that was read, with everything that isn't listed made 0, is what is written of its ID and its reason.
pub canonical-listed : (kind reason : ℕ) (m : List ℕ) → Bytes m → Laid kind m → cond (eqb kind frs) (frs_reason m) 0 ≡ reason
    → canonical kind (requester_id m) reason ≡ listed_only m
unfolding canonical listed_only
canonical-listed kind reason m b l e =
    let h : requester_id m / 256 ≡ byte_at m 4 = omega (arith, byte_at_lem m 5 b) in
    let low : requester_id m % 256 ≡ byte_at m 5 = omega (arith, byte_at_lem m 5 b) in
    let c : traffic_class m * 16 ≡ 0 = omega arith in
    cc
