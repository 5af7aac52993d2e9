-- How the state of a replay moves, as the code writes it: field by field.
use Prim.Native.Nat.{ℕ, ◌+◌, ◌-◌, ◌≤◌, min}
use mathlib.Core.Path.{◌≡◌, refl, ap, sym, ◌∙◌}
use mathlib.Core.List.{List, [], ◌∷◌, ◌++◌, append_assoc}
use native.Mathlib.Omega.{arith}
use lib.ListN.{length, get_or, take, drop, replicate, length-append, length-drop}
use lib.Seq.{take_all, length-take-le, get_or-drop}
use Rattle.std.proofs.lemmas.List.{drop_at, drop-replicate}
use Rattle.bits.proofs.Numbers.{by_le}
use Rattle.trace.specs.Format.{pad}
use Rattle.capture.specs.declared.Replay.{Replay}
use Rattle.capture.specs.Lent.{progress_in, replay_of}
use Rattle.replay_state.specs.inner.Moves.{Tidy, more_bytes}

-- ---- a tidy state with one part changed
pub stamped_so : (r : Replay) (bs s : List ℕ) (n : ℕ) → Tidy r → n ≡ length ((progress_in r).stamp ++ bs) → s ≡ pad 4 ((progress_in r).stamp ++ bs)
    → record { begun = r.begun; earlier = r.earlier; stamp_len = n; stamp = s; answered = r.answered; ended = r.ended } ≡ replay_of (more_bytes bs (progress_in r))
stamped_so r bs s n t e f = λ i. record { begun = (t i).begun; earlier = (t i).earlier; stamp_len = e i; stamp = f i; answered = r.answered; ended = r.ended }

-- ---- the bytes of a stamp, and all of them
pub bytes_there : (r : Replay) → length r.stamp ≡ 4 → r.stamp_len ≤ 4 → length (progress_in r).stamp ≡ r.stamp_len
bytes_there r l h = length-take-le r.stamp_len r.stamp (omega arith)

pub all_bytes : (r : Replay) → r.stamp_len ≡ 4 → length r.stamp ≡ 4 → (progress_in r).stamp ≡ r.stamp
all_bytes r e l = take_all r.stamp_len r.stamp (omega arith)

-- four bytes of a list, one by one
four_of : (l : List ℕ) → 4 ≤ length l → get_or l 0 0 ∷ get_or l 1 0 ∷ get_or l 2 0 ∷ get_or l 3 0 ∷ [] ≡ take 4 l
four_of [] h = absurd (omega arith)
four_of (a ∷ []) h = absurd (omega arith)
four_of (a ∷ b ∷ []) h = absurd (omega arith)
four_of (a ∷ b ∷ c ∷ []) h = absurd (omega arith)
four_of (a ∷ b ∷ c ∷ d ∷ l) h = refl

pub four_at : (l : List ℕ) (at : ℕ) → at + 4 ≤ length l → get_or l at 0 ∷ get_or l (at + 1) 0 ∷ get_or l (at + 2) 0 ∷ get_or l (at + 3) 0 ∷ [] ≡ take 4 (drop at l)
four_at l at h =
    let e : at ≡ at + 0 = omega arith in
    let by : (k : ℕ) → get_or l (at + k) 0 ≡ get_or (drop at l) k 0 = λ k. sym (get_or-drop at l k 0) in
    (λ i. (ap (λ (k : ℕ). get_or l k 0) e ∙ by 0) i ∷ by 1 i ∷ by 2 i ∷ by 3 i ∷ []) ∙ four_of (drop at l) (omega (arith, length-drop at l))

-- ---- the first n bytes, with zeros after them
pub first_padded : (s : List ℕ) (n : ℕ) → length s ≡ 4 → n ≤ 4 → take n s ++ drop n (replicate 4 0) ≡ pad 4 (take n s)
first_padded s n l h =
    ap (λ (z : List ℕ). take n s ++ z) (drop-replicate n 4 0 ∙ ap (λ (m : ℕ). replicate (4 - m) 0) (sym (length-take-le n s (omega arith))))

-- ---- bytes x that join the first n of a stamp with zeros after them
pub bytes_join : (s x : List ℕ) (n : ℕ) → length s ≡ 4 → s ≡ pad 4 (take n s) → n + length x ≤ 4 → take n s ++ (x ++ drop (length x) (drop n s)) ≡ pad 4 (take n s ++ x)
bytes_join s x n l t h =
    let f = take n s in
    let four : length f ≡ n = length-take-le n s (omega arith) in
    let zeros : drop n s ≡ replicate (4 - n) 0 =
    ap (drop n) t ∙ ap (λ (m : ℕ). drop m (pad 4 f)) (sym four) ∙ drop_at f (replicate (4 - length f) 0) (length f) refl ∙ ap (λ (m : ℕ). replicate (4 - m) 0) four in
    let left : 4 - n - length x ≡ 4 - length (f ++ x) = omega (arith, four, length-append f x) in
    ap (λ (z : List ℕ). f ++ (x ++ drop (length x) z)) zeros
    ∙ ap (λ (z : List ℕ). f ++ (x ++ z)) (drop-replicate (length x) (4 - n) 0 ∙ ap (λ (m : ℕ). replicate m 0) left)
    ∙ sym (append_assoc f x (replicate (4 - length (f ++ x)) 0))

-- the bytes that join are all that lack, or all that are left
pub bytes_taken : (input : List ℕ) (at lack : ℕ) → take (min lack (length input - at)) (drop at input) ≡ take lack (drop at input)
bytes_taken input at lack =
    by_le lack (length input - at)
    (λ h. ap (λ (m : ℕ). take m (drop at input)) (omega arith))
    (λ h. take_all (min lack (length input - at)) (drop at input) (omega (arith, length-drop at input)) ∙ sym (take_all lack (drop at input) (omega (arith, length-drop at input))))
