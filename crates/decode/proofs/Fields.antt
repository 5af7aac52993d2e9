-- A record's fields as they stand in the input, by its kind; the kinds that there are not; eight bytes stored.
use Prim.Native.Nat.{ℕ, zero, suc, ◌+◌, ◌*◌, ◌≤◌}
use mathlib.Core.Path.{◌≡◌, refl, sym, ap, ap₂, ◌∙◌}
use mathlib.Core.List.{List}
use native.Mathlib.Omega.{arith}
use lib.ListN.{length, get_or, take, drop, set, get_or-eq_default}
use lib.Seq.{paste, paste-zero, paste-suc, get_or-drop, drop-drop}
use lib.Dec.{ltb}
use borrow.Author.Tests.{ltb-true, ltb-false, ne_eqb}
use Rattle.bits.proofs.Tests.{split}
use Rattle.trace.specs.Format.{record_sizes, size_of}
use Rattle.times.specs.declared.Nanos.{Nanos}
use Rattle.std.specs.Prelude.{Option}
use Rattle.messages.specs.declared.Message.{Message as MessageRead}
use Rattle.records.specs.declared.Request.{Request}
use Rattle.messages.specs.Messages.{read_message}
use Rattle.records.specs.declared.Record.{Record}
use Rattle.records.specs.declared.Record.TheVariants.{Advance, Read, Write, Message, LinkUp, LinkDown, ColdReset, ReadQueue, RemoveOldest, ClearBits, Control, HardwareSet, ReadBits, NoKind}
use Rattle.bits.specs.Bytes.{byte_at}
use Rattle.records.specs.Decode.{four, request_in, decode}

-- ---- a kind that there is not has no size
past : (k m : ℕ) → m ≤ k → (k ≡ m → ⊥) → m + 1 ≤ k
past k m h n = omega arith

none_below : (k : ℕ) → k ≤ 0 → k ≡ 0
none_below k h = omega arith

pub no_size : (k : ℕ) → (k ≡ 1 → ⊥) → (k ≡ 2 → ⊥) → (k ≡ 3 → ⊥) → (k ≡ 4 → ⊥) → (k ≡ 5 → ⊥) → (k ≡ 6 → ⊥) → (k ≡ 7 → ⊥) → (k ≡ 8 → ⊥) → (k ≡ 9 → ⊥) → (k ≡ 10 → ⊥) → (k ≡ 11 → ⊥) → (k ≡ 12 → ⊥) → (k ≡ 13 → ⊥) → 0 ≡ size_of k
unfolding size_of
no_size k n1 n2 n3 n4 n5 n6 n7 n8 n9 n10 n11 n12 n13 =
    split (ltb 0 k)
    (λ t. let h = ltb-true 0 k t in sym (get_or-eq_default record_sizes 0 {n = k} (past k 13 (past k 12 (past k 11 (past k 10 (past k 9 (past k 8 (past k 7 (past k 6 (past k 5 (past k 4 (past k 3 (past k 2 (past k 1 h n1) n2) n3) n4) n5) n6) n7) n8) n9) n10) n11) n12) n13)))
    (λ f. sym (ap (λ (n : ℕ). get_or record_sizes n 0) (none_below k (ltb-false 0 k f))))

-- ---- eight bytes, stored one after the other
unfoldable pub stores : List ℕ → ℕ → List ℕ → ℕ → List ℕ
stores d at s zero = set d at (get_or s 0 0)
stores d at s (suc j) = set (stores d at s j) (at + suc j) (get_or s (suc j) 0)

pub stored : (d : List ℕ) (at : ℕ) (s : List ℕ) (j : ℕ) → at + suc j ≤ length d → suc j ≤ length s → stores d at s j ≡ paste d at s (suc j)
unfolding stores
stored d at s zero h e =
    let z : at ≡ at + 0 = omega arith in
    ap₂ (λ (l : List ℕ) (n : ℕ). set l n (get_or s 0 0)) (paste-zero d at s) z ∙ paste-suc d at s 0 0 (omega arith) (omega arith)
stored d at s (suc j) h e =
    ap (λ (l : List ℕ). set l (at + suc j) (get_or s (suc j) 0)) (stored d at s j (omega arith) (omega arith)) ∙ paste-suc d at s (suc j) 0 (omega arith) (omega arith)

-- ---- a record by its byte of kind
module _ (r : List ℕ) where
  pub decode_1 : byte_at r 0 ≡ 1 → decode r ≡ Advance (record { 0 = four r 1 })
  unfolding decode
  decode_1 e = rw e

  pub decode_2 : byte_at r 0 ≡ 2 → decode r ≡ Read (request_in r)
  unfolding decode
  decode_2 e = rw e

  pub decode_3 : byte_at r 0 ≡ 3 → decode r ≡ Write (request_in r) (four r 4)
  unfolding decode
  decode_3 e = rw e

  pub decode_4 : byte_at r 0 ≡ 4 → decode r ≡ Message (read_message (take 16 (drop 1 r)))
  unfolding decode
  decode_4 e = rw e

  pub decode_5 : byte_at r 0 ≡ 5 → decode r ≡ LinkUp
  unfolding decode
  decode_5 e = rw e

  pub decode_6 : byte_at r 0 ≡ 6 → decode r ≡ LinkDown
  unfolding decode
  decode_6 e = rw e

  pub decode_7 : byte_at r 0 ≡ 7 → decode r ≡ ColdReset
  unfolding decode
  decode_7 e = rw e

  pub decode_8 : byte_at r 0 ≡ 8 → decode r ≡ ReadQueue
  unfolding decode
  decode_8 e = rw e

  pub decode_9 : byte_at r 0 ≡ 9 → decode r ≡ RemoveOldest
  unfolding decode
  decode_9 e = rw e

  pub decode_10 : byte_at r 0 ≡ 10 → decode r ≡ ClearBits (byte_at r 1)
  unfolding decode
  decode_10 e = rw e

  pub decode_11 : byte_at r 0 ≡ 11 → decode r ≡ Control (byte_at r 1)
  unfolding decode
  decode_11 e = rw e

  pub decode_12 : byte_at r 0 ≡ 12 → decode r ≡ HardwareSet (byte_at r 1) (byte_at r 2) (four r 3)
  unfolding decode
  decode_12 e = rw e

  pub decode_13 : byte_at r 0 ≡ 13 → decode r ≡ ReadBits
  unfolding decode
  decode_13 e = rw e

  pub decode_none : (k : ℕ) → byte_at r 0 ≡ k → (k ≡ 1 → ⊥) → (k ≡ 2 → ⊥) → (k ≡ 3 → ⊥) → (k ≡ 4 → ⊥) → (k ≡ 5 → ⊥) → (k ≡ 6 → ⊥) → (k ≡ 7 → ⊥) → (k ≡ 8 → ⊥) → (k ≡ 9 → ⊥) → (k ≡ 10 → ⊥) → (k ≡ 11 → ⊥) → (k ≡ 12 → ⊥) → (k ≡ 13 → ⊥) → NoKind ≡ decode r
  unfolding decode
  decode_none k e n1 n2 n3 n4 n5 n6 n7 n8 n9 n10 n11 n12 n13 = rw e (simp (ne_eqb k 1 n1, ne_eqb k 2 n2, ne_eqb k 3 n3, ne_eqb k 4 n4, ne_eqb k 5 n5, ne_eqb k 6 n6, ne_eqb k 7 n7, ne_eqb k 8 n8, ne_eqb k 9 n9, ne_eqb k 10 n10, ne_eqb k 11 n11, ne_eqb k 12 n12, ne_eqb k 13 n13))

-- ---- each kind's size
pub size_1 : size_of 1 ≡ 5
unfolding size_of
size_1 = refl

pub size_2 : size_of 2 ≡ 4
unfolding size_of
size_2 = refl

pub size_3 : size_of 3 ≡ 8
unfolding size_of
size_3 = refl

pub size_4 : size_of 4 ≡ 17
unfolding size_of
size_4 = refl

pub size_10 : size_of 10 ≡ 2
unfolding size_of
size_10 = refl

pub size_11 : size_of 11 ≡ 2
unfolding size_of
size_11 = refl

pub size_12 : size_of 12 ≡ 7
unfolding size_of
size_12 = refl

-- ---- the record at `at` of l, field by field
module _ (l : List ℕ) (at : ℕ) where
  pub kind_at_lem : byte_at (drop at l) 0 ≡ get_or l at 0
  kind_at_lem = let z : at + 0 ≡ at = omega arith in get_or-drop at l 0 0 ∙ ap (λ (i : ℕ). get_or l i 0) z

  byte_at_lem : (j : ℕ) → get_or l (at + j) 0 ≡ byte_at (drop at l) j
  byte_at_lem j = sym (get_or-drop at l j 0)

  four_at : (j : ℕ) → four l (at + j) ≡ four (drop at l) j
  unfolding four
  four_at j =
      let x : at + j + 1 ≡ at + (j + 1) = omega arith in
      let y : at + j + 2 ≡ at + (j + 2) = omega arith in
      let z : at + j + 3 ≡ at + (j + 3) = omega arith in
      λ i. byte_at_lem j i
      + 256 * (ap (λ (n : ℕ). get_or l n 0) x ∙ byte_at_lem (j + 1)) i
      + 65536 * (ap (λ (n : ℕ). get_or l n 0) y ∙ byte_at_lem (j + 2)) i
      + 16777216 * (ap (λ (n : ℕ). get_or l n 0) z ∙ byte_at_lem (j + 3)) i

  request_at : (q : Request) → q ≡ record { slot = get_or l (at + 1) 0; word = get_or l (at + 2) 0; enables = get_or l (at + 3) 0 } → q ≡ request_in (drop at l)
  request_at q f = ◌∙◌ {A = Request} f (λ i. record { slot = byte_at_lem 1 i; word = byte_at_lem 2 i; enables = byte_at_lem 3 i })

  pub reads_1 : get_or l at 0 ≡ 1 → (x : Nanos) → x ≡ record { 0 = four l (at + 1) } → Advance x ≡ decode (drop at l)
  reads_1 e x q = ap Advance (q ∙ ap (λ (n : ℕ). record { 0 = n }) (four_at 1)) ∙ sym (decode_1 _ (kind_at_lem ∙ e))

  pub reads_2 : get_or l at 0 ≡ 2 → (q : Request) → q ≡ record { slot = get_or l (at + 1) 0; word = get_or l (at + 2) 0; enables = get_or l (at + 3) 0 } → Read q ≡ decode (drop at l)
  reads_2 e q f = ap Read (request_at q f) ∙ sym (decode_2 _ (kind_at_lem ∙ e))

  pub reads_3 : get_or l at 0 ≡ 3 → (q : Request) → q ≡ record { slot = get_or l (at + 1) 0; word = get_or l (at + 2) 0; enables = get_or l (at + 3) 0 } → (v : ℕ) → v ≡ four l (at + 4) → Write q v ≡ decode (drop at l)
  reads_3 e q f v g = ap₂ Write (request_at q f) (g ∙ four_at 4) ∙ sym (decode_3 _ (kind_at_lem ∙ e))

  pub reads_4 : get_or l at 0 ≡ 4 → (m : Option MessageRead) → m ≡ read_message (take 16 (drop (at + 1) l)) → Message m ≡ decode (drop at l)
  reads_4 e m g = ap Message (g ∙ ap (λ (d : List ℕ). read_message (take 16 d)) (sym (drop-drop 1 at l))) ∙ sym (decode_4 _ (kind_at_lem ∙ e))

  pub reads_10 : get_or l at 0 ≡ 10 → ClearBits (get_or l (at + 1) 0) ≡ decode (drop at l)
  reads_10 e = ap ClearBits (byte_at_lem 1) ∙ sym (decode_10 _ (kind_at_lem ∙ e))

  pub reads_11 : get_or l at 0 ≡ 11 → Control (get_or l (at + 1) 0) ≡ decode (drop at l)
  reads_11 e = ap Control (byte_at_lem 1) ∙ sym (decode_11 _ (kind_at_lem ∙ e))

  pub reads_12 : get_or l at 0 ≡ 12 → (i j v : ℕ) → i ≡ get_or l (at + 1) 0 → j ≡ get_or l (at + 2) 0 → v ≡ four l (at + 3) → HardwareSet i j v ≡ decode (drop at l)
  reads_12 e i j v f g o =
      ◌∙◌ {A = Record} (λ t. HardwareSet ((f ∙ byte_at_lem 1) t) ((g ∙ byte_at_lem 2) t) ((o ∙ four_at 3) t)) (sym (decode_12 _ (kind_at_lem ∙ e)))
