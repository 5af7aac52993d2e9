-- A call as the record that it completes, and then a call on the rest.
use Prim.Native.Nat.{ℕ, ◌+◌, ◌-◌, ◌≤◌}
use mathlib.Core.Path.{◌≡◌, refl, ap, sym, ◌∙◌}
use mathlib.Core.Bool.{true}
use mathlib.Core.List.{List, [], ◌++◌, append-nil, append_assoc}
use native.Mathlib.Omega.{arith}
use lib.ListN.{length, drop, length-append, length-drop}
use lib.Seq.{drop-drop, drop-length}
use Rattle.trace.specs.Format.{begun}
use Rattle.trace.specs.Bench.{Device, Bench}
use Rattle.trace.specs.Feed.{Fed, feed_open, later, stopped}
use Rattle.trace.specs.Lent.{Lent, Left, refusal_or31, leaves, feeds}
use Rattle.trace.proofs.Records.{carrying, joined, Complete, complete_at, feed_complete}
use Rattle.trace.proofs.Gathering.{begun_partial}
use Rattle.trace.proofs.Refusing.{feeds_open}
use Rattle.trace.proofs.Loop.{next_itself}

-- the whole of a record is a whole record
pub complete_itself : (bs r : List ℕ) → Complete bs r → Complete r r
complete_itself bs r h = complete_at r r (next_itself bs r h)

module _ {S H : Type 0} (L : Lent S H) where
  abbrev D : Device S
  D = L.device

  -- a call, on lent memory that stands for the bench p
  feeds_at : (p : Bench S) (h : H) (input room : List ℕ) (n : ℕ) → L.view h ≡ p → refusal_or31 L h ≡ 0 → length room ≡ n
      → feeds L h input room ≡ leaves L (feed_open D p n input) room
  feeds_at p h input room n v e l =
      feeds_open L h input room e ∙ (λ i. leaves L (feed_open D (v i) (l i) input) room)

  -- lent memory that stands for the same bench
  pub same_view : (h h' : H) (input room : List ℕ) → refusal_or31 L h ≡ 0 → refusal_or31 L h' ≡ 0 → L.view h ≡ L.view h'
      → feeds L h input room ≡ feeds L h' input room
  same_view h h' input room e e' v =
      feeds_at (L.view h') h input room (length room) v e refl ∙ sym (feeds_open L h' input room e')

  nothing_left : (s : S) (room : ℕ) (bs : List ℕ) → bs ≡ [] → feed_open D (carrying s []) room bs ≡ stopped 0 (carrying s [])
  unfolding feed_open
  nothing_left s room bs e = rw e

  -- a call on one whole record, with room for its answer and no more
  pub one_record : (s : S) (h : H) (r room : List ℕ) → L.view h ≡ carrying s [] → refusal_or31 L h ≡ 0 → Complete r r → length room ≡ 8
      → feeds L h r room
      ≡ record { number = 0; consumed = length r; written = 8; held = L.keep (carrying (L.device.run s r).state []); answers = (L.device.run s r).answer }
  one_record s h r room v e c l =
      let a = (D.run s r).answer in
      let p = carrying (D.run s r).state [] in
      let f : feed_open D (carrying s []) 8 r ≡ later (length r) a (stopped 0 p) =
      feed_complete D s r r 8 c (omega arith) ∙ ap (later (length r) a) (nothing_left (D.run s r).state (8 - 8) (drop (length r) r) (drop-length r)) in
      let n : length (a ++ []) ≡ 8 = ap length (append-nil a) ∙ D.eight s r in
      let m : length r + 0 ≡ length r = omega arith in
      let d : drop (length (a ++ [])) room ≡ [] = ap (λ (k : ℕ). drop k room) (n ∙ sym l) ∙ drop-length room in
      let y : (a ++ []) ++ drop (length (a ++ [])) room ≡ a = ap (λ (t : List ℕ). (a ++ []) ++ t) d ∙ append-nil (a ++ []) ∙ append-nil a in
      feeds_at (carrying s []) h r room 8 v e l
      ∙ ap (λ (g : Fed S). leaves L g room) f
      ∙ (λ i. record { number = 0; consumed = m i; written = n i; held = L.keep p; answers = y i })

  -- a call with c carried is the record that c begins, and then a call on the rest with nothing carried
  pub rejoin : (s : S) (c input room r : List ℕ) (h h₂ : H) → L.view h ≡ carrying s c → refusal_or31 L h ≡ 0 → begun c ≡ true
      → Complete (c ++ input) r → 8 ≤ length room
      → L.view h₂ ≡ carrying (L.device.run s r).state [] → refusal_or31 L h₂ ≡ 0
      → (x : Left H) → x ≡ feeds L h₂ (drop (length r) (c ++ input)) (drop 8 room)
      → record { number = x.number; consumed = length r + x.consumed - length c; written = 8 + x.written; held = x.held; answers = (L.device.run s r).answer ++ x.answers }
      ≡ feeds L h input room
  rejoin s c input room r h h₂ v e b k j v₂ e₂ x q =
      let a = (D.run s r).answer in
      let p = carrying (D.run s r).state [] in
      let f = feed_open D p (length room - 8) (drop (length r) (c ++ input)) in
      let call = feed_open D (carrying s c) (length room) input in
      let t : later (length c) [] call ≡ later (length r) a f =
      joined D s c input (length room) (begun_partial c b) ∙ feed_complete D s (c ++ input) r (length room) k j in
      let xf : x ≡ leaves L f (drop 8 room) =
      q ∙ feeds_at p h₂ (drop (length r) (c ++ input)) (drop 8 room) (length room - 8) v₂ e₂ (length-drop 8 room) in
      let n : f.number ≡ call.number = sym (ap (λ (g : Fed S). g.number) t) in
      let u : length c + call.consumed ≡ length r + f.consumed = ap (λ (g : Fed S). g.consumed) t in
      let m : length r + f.consumed - length c ≡ call.consumed = omega (arith, u) in
      let w : call.answers ≡ a ++ f.answers = ap (λ (g : Fed S). g.answers) t in
      let l : length call.answers ≡ 8 + length f.answers = ap length w ∙ length-append a f.answers ∙ ap (λ (z : ℕ). z + length f.answers) (D.eight s r) in
      let o : f.bench ≡ call.bench = sym (ap (λ (g : Fed S). g.bench) t) in
      let y : a ++ (f.answers ++ drop (length f.answers) (drop 8 room)) ≡ call.answers ++ drop (length call.answers) room =
      rw (l, w) (ap (λ (z : List ℕ). a ++ (f.answers ++ z)) (drop-drop (length f.answers) 8 room) ∙ sym (append_assoc a f.answers (drop (8 + length f.answers) room))) in
      let to : Left H → Left H = λ z. record { number = z.number; consumed = length r + z.consumed - length c; written = 8 + z.written; held = z.held; answers = a ++ z.answers } in
      ap to xf
      ∙ (λ i. record { number = n i; consumed = m i; written = sym l i; held = L.keep (o i); answers = y i })
      ∙ sym (feeds_at (carrying s c) h input room (length room) v e refl)
