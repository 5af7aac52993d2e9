-- What holds of reading and writing readiness messages.
use mathlib.Core.Path.{◌≡◌, refl, sym, ap, ◌∙◌}
use mathlib.Core.Bool.{true, false, and-false}
use mathlib.Core.List.{List}
use mathlib.Core.Logic.{◌⊎◌, inl, inr}
use Prim.Native.Nat.{ℕ, ◌*◌, ◌/◌, ◌%◌, ◌<◌, ◌≤◌}
use native.Mathlib.Nat.{mod-mod}
use native.Mathlib.Omega.{arith}
use borrow.Author.Tests.{eqb-true, eqb-false, eq-eqb, ne_eqb, lt-ltb, le-ltb}
use lib.ListN.{length}
use lib.Dec.{eqb, ltb}
use Rattle.bits.proofs.Tests.{split}
use Rattle.std.specs.Prelude.{Option, None}
use Rattle.messages.specs.declared.Message.{Message}
use Rattle.bits.specs.Bytes.{Bytes, byte_at}
use Rattle.bits.proofs.Bytes.{byte_at_lem}
use Rattle.messages.specs.Messages.{drs, frs, traffic_class, requester_id, frs_reason, layout, frs_allowed, read_message, reading, reading_of, writable, canonical, Written, left, stored, written, listed_only}
use Rattle.messages.proofs.Laid.{laid, allowed_small}
use Rattle.messages.proofs.Cases.{cases, outcomes, canonical_reads, canonical-listed}

-- READING

-- Bits that aren't listed are not checked: making all of them 0 changes no check.
pub unlisted_unchecked : (kind : ℕ) (m : List ℕ) → length m ≡ 16 → layout kind m ≡ layout kind (listed_only m)
unfolding layout listed_only
unlisted_unchecked kind m e =
    let c : traffic_class m * 16 / 16 % 8 ≡ traffic_class m = omega arith in
    simp (eq-eqb (length m) 16 e, c)

-- Nor do they change a reading (Tag, Attr and the others): a message reads as it does with all of them 0.
pub unlisted_ignored : (m : List ℕ) → length m ≡ 16 → read_message m ≡ read_message (listed_only m)
unfolding read_message listed_only
unlisted_ignored m e =
    let d : layout drs (listed_only m) ≡ layout drs m = sym (unlisted_unchecked drs m e) in
    let f : layout frs (listed_only m) ≡ layout frs m = sym (unlisted_unchecked frs m e) in
    simp (d, f) (split (layout frs m) (λ t. simp (eq-eqb (byte_at m 0) frs (laid frs m t).byte_0, mod-mod)) (λ n. simp n))

-- So two messages of 16 bytes that agree in what is listed read the same.
pub same_listed_same_reading : (m n : List ℕ) → length m ≡ 16 → length n ≡ 16 → listed_only m ≡ listed_only n → read_message m ≡ read_message n
same_listed_same_reading m n h k e = unlisted_ignored m h ∙ ap read_message e ∙ sym (unlisted_ignored n k)

-- Any other length is no readiness message.
pub other_length : (m : List ℕ) → (length m ≡ 16 → ⊥) → read_message m ≡ None
unfolding read_message layout
other_length m n = simp (ne_eqb (length m) 16 n)

-- A reading that isn't 19 is of 16 bytes.
pub read_is_16 : (m : List ℕ) → (reading_of (read_message m)).number ≡ 0 → length m ≡ 16
read_is_16 m e =
    split (eqb (length m) 16) (λ t. eqb-true (length m) 16 t)
    (λ f. let z : 19 ≡ 0 = sym (ap (λ (r : Option Message). (reading_of r).number) (other_length m (eqb-false (length m) 16 f))) ∙ e in absurd (omega arith))

-- The requester ID has 16 bits.
pub id_bound : (m : List ℕ) → Bytes m → (reading_of (read_message m)).id < 65536
id_bound m b = cases (λ (r : Option Message). (reading_of r).id < 65536) m (λ l. omega (arith, byte_at_lem m 4 b, byte_at_lem m 5 b)) (λ l a. omega (arith, byte_at_lem m 4 b, byte_at_lem m 5 b)) (omega arith)

-- A reading's reason has four bits.
pub reason_bound : (m : List ℕ) → (reading_of (read_message m)).reason < 16
reason_bound m = cases (λ (r : Option Message). (reading_of r).reason < 16) m (λ l. omega arith) (λ l a. allowed_small (frs_reason m) a) (omega arith)

-- WRITING

-- The writer gives 0 and the room holds the 16 bytes, or it gives 19 and writes nothing.
pub all_or_nothing : (kind id reason : ℕ) (room : List ℕ)
    → (written kind id reason room ≡ left 0 (canonical kind id reason)) ⊎ (written kind id reason room ≡ left 19 room)
all_or_nothing kind id reason room = outcomes kind id reason room (λ w e. inl e) (λ e. inr e)

-- It gives 19 for another kind, a DRS reason not 0, a reason above 15, or room other than 16 bytes ..
pub another_kind : (kind id reason : ℕ) (room : List ℕ) → (kind ≡ drs → ⊥) → (kind ≡ frs → ⊥) → written kind id reason room ≡ left 19 room
unfolding written writable
another_kind kind id reason room d f = simp (ne_eqb kind drs d, ne_eqb kind frs f)

pub drs_reason : (id reason : ℕ) (room : List ℕ) → (reason ≡ 0 → ⊥) → written drs id reason room ≡ left 19 room
unfolding written writable
drs_reason id reason room n = simp (ne_eqb reason 0 n)

pub above_15 : (kind id reason : ℕ) (room : List ℕ) → 15 < reason → written kind id reason room ≡ left 19 room
unfolding written writable frs_allowed
above_15 kind id reason room h =
    let r : ltb reason 16 ≡ false = le-ltb reason 16 h in
    let z : eqb reason 0 ≡ false = ne_eqb reason 0 (λ e. omega arith) in
    split (eqb kind drs) (λ t. simp (t, z)) (λ t. simp (t, r, and-false))

pub other_room : (kind id reason : ℕ) (room : List ℕ) → (length room ≡ 16 → ⊥) → written kind id reason room ≡ left 19 room
unfolding written stored
other_room kind id reason room n =
    split (writable kind reason) (λ w. simp (w, ne_eqb (length room) 16 n)) (λ w. simp w)

-- .. and else 0.
pub drs-written : (id : ℕ) (room : List ℕ) → length room ≡ 16 → written drs id 0 room ≡ left 0 (canonical drs id 0)
unfolding written writable stored
drs-written id room n = simp (eq-eqb (length room) 16 n)

pub frs-written : (id reason : ℕ) (room : List ℕ) → frs_allowed reason ≡ true → length room ≡ 16 → written frs id reason room ≡ left 0 (canonical frs id reason)
unfolding written writable stored
frs-written id reason room a n = simp (a, eq-eqb (length room) 16 n)

-- All sixteen reasons are allowed.
pub any_reason : (reason : ℕ) → reason ≤ 15 → frs_allowed reason ≡ true
unfolding frs_allowed
any_reason reason h = lt-ltb reason 16 (omega arith)

-- BOTH

-- What was written reads back: where the writer gives 0, the room at exit reads as the kind, the ID and the reason.
pub read_after_write : (kind id reason : ℕ) (room : List ℕ) (number : ℕ) (exit : List ℕ)
    → left number exit ≡ written kind id reason room → number ≡ 0 → reading_of (read_message exit) ≡ reading 0 kind id reason
read_after_write kind id reason room number exit e z =
    outcomes kind id reason room
    (λ w q. ap (λ (l : Written). reading_of (read_message l.room)) (e ∙ q) ∙ canonical_reads kind id reason w)
    (λ q. let n : number ≡ 19 = ap (λ (l : Written). l.number) (e ∙ q) in absurd (omega arith))

-- What was read and is written again is the canonical 16 bytes: the message with everything that isn't listed made 0.
pub write_after_read : (m room : List ℕ) → Bytes m → length room ≡ 16 → (reading_of (read_message m)).number ≡ 0
    → let r = reading_of (read_message m) in written r.kind r.id r.reason room ≡ left 0 (listed_only m)
write_after_read m room b n =
    cases
    (λ (r : Option Message). (reading_of r).number ≡ 0 → written (reading_of r).kind (reading_of r).id (reading_of r).reason room ≡ left 0 (listed_only m)) m
    (λ l z. drs-written (requester_id m) room n ∙ ap (left 0) (canonical-listed drs 0 m b l refl))
    (λ l a z. frs-written (requester_id m) (frs_reason m) room a n ∙ ap (left 0) (canonical-listed frs (frs_reason m) m b l refl))
    (λ z. absurd (omega arith))
