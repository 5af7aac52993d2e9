-- Bytes put into a slice, one part after the other.
use Prim.Native.Nat.{ℕ, ◌+◌, ◌-◌, ◌*◌, ◌≤◌}
use mathlib.Core.Path.{◌≡◌, ap, sym, ◌∙◌}
use mathlib.Core.List.{List, ◌++◌, append_assoc}
use native.Mathlib.Omega.{arith}
use lib.ListN.{length, take, drop, replicate}
use lib.Seq.{length-take-le, take_all, take-take, drop-drop, take-append-le, take-append-add, paste, length-paste, take-paste, drop-paste}
use Rattle.times.specs.declared.Nanos.{Nanos}
use Rattle.trace.specs.Format.{pad}
use Rattle.capture.specs.Advances.{advance_bytes}
use Rattle.capture.proofs.Wholes.{length-advances}

-- n bytes in place of as many
pub put_pasted : (d : List ℕ) (at : ℕ) (s x : List ℕ) (n m : ℕ) → x ≡ take n s → m ≡ n → take at d ++ (x ++ drop m (drop at d)) ≡ paste d at s n
put_pasted d at s x n m e f =
    (λ i. take at d ++ (e i ++ drop (f i) (drop at d)))
    ∙ ap (λ (r : List ℕ). take at d ++ (take n s ++ r)) (drop-drop n at d)
    ∙ sym (append_assoc (take at d) (take n s) (drop (at + n) d))

-- the front of what was put
pub take_within : (d : List ℕ) (at : ℕ) (s : List ℕ) (n m : ℕ) → m ≤ n → at ≤ length d → n ≤ length s → take (at + m) (paste d at s n) ≡ take at d ++ take m s
take_within d at s n m h hd hs =
    sym (take-take (at + m) (at + n) (paste d at s n) (omega arith))
    ∙ ap (take (at + m)) (take-paste d at s n hd hs)
    ∙ ap (λ (k : ℕ). take (k + m) (take at d ++ take n s)) (sym (length-take-le at d hd))
    ∙ take-append-add (take at d) (take n s) m
    ∙ ap (λ (l : List ℕ). take at d ++ l) (take-take m n s h)

-- two parts are one
pub paste_more : (d : List ℕ) (at : ℕ) (s : List ℕ) (n : ℕ) (t : List ℕ) (m : ℕ) → length s ≡ n → at ≤ length d → paste (paste d at s n) (at + n) t m ≡ paste d at (s ++ t) (n + m)
paste_more d at s n t m e hd =
    let whole : take n s ≡ s = take_all n s (omega (arith, e)) in
    let front : take (at + n) (paste d at s n) ≡ take at d ++ s = take-paste d at s n hd (omega (arith, e)) ∙ ap (λ (l : List ℕ). take at d ++ l) whole in
    let back : drop (at + n + m) (paste d at s n) ≡ drop (at + (n + m)) d =
    sym (drop-drop m (at + n) (paste d at s n)) ∙ ap (drop m) (drop-paste d at s n hd (omega (arith, e))) ∙ drop-drop m (at + n) d ∙ ap (λ (k : ℕ). drop k d) sum in
    let both : take (n + m) (s ++ t) ≡ s ++ take m t = ap (λ (k : ℕ). take (k + m) (s ++ t)) (sym e) ∙ take-append-add s t m in
    (λ i. (front i ++ take m t) ++ back i) ∙ (λ i. (append_assoc (take at d) s (take m t) ∙ ap (λ (l : List ℕ). take at d ++ l) (sym both)) i ++ drop (at + (n + m)) d)
  where
    sum : at + n + m ≡ at + (n + m)
    sum = omega arith

-- advances, and the front of what was put behind them
pub entry_put : (trace : List ℕ) (len : ℕ) (ts : List Nanos) (l : List ℕ) (size : ℕ) (trace₁ trace₂ : List ℕ)
    → trace₁ ≡ paste trace len (advance_bytes ts) (5 * length ts) → trace₂ ≡ paste trace₁ (len + 5 * length ts) l 17
    → size ≤ 17 → 17 ≤ length l → len + 5 * length ts ≤ length trace
    → take (len + 5 * length ts + size) trace₂ ≡ take len trace ++ (advance_bytes ts ++ take size l)
entry_put trace len ts l size trace₁ trace₂ e₁ e₂ h hl ht =
    let n = 5 * length ts in
    let all : take n (advance_bytes ts) ≡ advance_bytes ts = take_all n (advance_bytes ts) (omega (arith, length-advances ts)) in
    let long : length trace₁ ≡ length trace = ap length e₁ ∙ length-paste trace len (advance_bytes ts) n ht (omega (arith, length-advances ts)) in
    let front : take (len + n) trace₁ ≡ take len trace ++ advance_bytes ts =
    ap (take (len + n)) e₁ ∙ take-paste trace len (advance_bytes ts) n (omega arith) (omega (arith, length-advances ts)) ∙ ap (λ (x : List ℕ). take len trace ++ x) all in
    ap (take (len + n + size)) e₂
    ∙ take_within trace₁ (len + n) l 17 size h (omega (arith, long, ht)) hl
    ∙ ap (λ (x : List ℕ). x ++ take size l) front
    ∙ append_assoc (take len trace) (advance_bytes ts) (take size l)
