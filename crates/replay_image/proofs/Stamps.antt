-- Four stamp bytes, those past a count as 0.
use Prim.Native.Nat.{ℕ, zero, suc, ◌<◌}
use mathlib.Core.Path.{◌≡◌, refl, ap, sym, ◌∙◌}
use mathlib.Core.Bool.{cond}
use mathlib.Core.List.{List, [], ◌∷◌}
use native.Mathlib.Omega.{arith}
use lib.Dec.{ltb}
use lib.ListN.{length, get_or, take}
use Rattle.trace.specs.Format.{pad}
use Rattle.state_layout.specs.Image.{up_to}
use Rattle.state_layout.proofs.Steps.{up_to_more, up_to_none}

-- ---- one by one
-- the byte at i as it is written
abbrev pub shown_at : (count : ℕ) → List ℕ → ℕ → ℕ
shown_at count l i = cond (ltb i count) (get_or l i 0) 0

pub four_elements : (l : List ℕ) → length l ≡ 4 → get_or l 0 0 ∷ get_or l 1 0 ∷ get_or l 2 0 ∷ get_or l 3 0 ∷ [] ≡ l
four_elements [] e = absurd (omega (arith, e))
four_elements (a ∷ []) e = absurd (omega (arith, e))
four_elements (a ∷ b ∷ []) e = absurd (omega (arith, e))
four_elements (a ∷ b ∷ c ∷ []) e = absurd (omega (arith, e))
four_elements (a ∷ b ∷ c ∷ d ∷ []) e = refl
four_elements (a ∷ b ∷ c ∷ d ∷ f ∷ l) e = absurd (omega (arith, e))

pub four-shown : (n : ℕ) (l : List ℕ) → length l ≡ 4 → shown_at n l 0 ∷ shown_at n l 1 ∷ shown_at n l 2 ∷ shown_at n l 3 ∷ [] ≡ up_to n l
four-shown n l e =
    let more : (i : ℕ) → i < 4 → i < length l = λ i h. omega (arith, h, e) in
    sym
    (up_to_more n 0 l (more 0 (omega arith))
    ∙ ap (λ (r : List ℕ). shown_at n l 0 ∷ r) (up_to_more n 1 l (more 1 (omega arith))
    ∙ ap (λ (r : List ℕ). shown_at n l 1 ∷ r) (up_to_more n 2 l (more 2 (omega arith))
    ∙ ap (λ (r : List ℕ). shown_at n l 2 ∷ r) (up_to_more n 3 l (more 3 (omega arith))
    ∙ ap (λ (r : List ℕ). shown_at n l 3 ∷ r) (up_to_none n 4 l (omega (arith, e)))))))

-- ---- what the bytes up to a count say
pub up_to_again : (n : ℕ) (l : List ℕ) → up_to n (up_to n l) ≡ up_to n l
unfolding up_to
up_to_again n [] = refl
up_to_again zero (b ∷ l) = ap (λ (r : List ℕ). 0 ∷ r) (up_to_again zero l)
up_to_again (suc n) (b ∷ l) = ap (λ (r : List ℕ). b ∷ r) (up_to_again n l)

pub take_up_to : (n : ℕ) (l : List ℕ) → take n (up_to n l) ≡ take n l
unfolding up_to
take_up_to n [] = refl
take_up_to zero (b ∷ l) = refl
take_up_to (suc n) (b ∷ l) = ap (λ (r : List ℕ). b ∷ r) (take_up_to n l)

padded : (n a b c d : ℕ) → up_to n (a ∷ b ∷ c ∷ d ∷ []) ≡ pad 4 (take n (a ∷ b ∷ c ∷ d ∷ []))
unfolding up_to
padded zero a b c d = refl
padded (suc zero) a b c d = refl
padded (suc (suc zero)) a b c d = refl
padded (suc (suc (suc zero))) a b c d = refl
padded (suc (suc (suc (suc zero)))) a b c d = refl
padded (suc (suc (suc (suc (suc n))))) a b c d = refl

pub up_to_padded : (n : ℕ) (l : List ℕ) → length l ≡ 4 → up_to n l ≡ pad 4 (take n l)
up_to_padded n l e =
    let f = four_elements l e in
    sym (ap (up_to n) f) ∙ padded n (get_or l 0 0) (get_or l 1 0) (get_or l 2 0) (get_or l 3 0) ∙ ap (λ (r : List ℕ). pad 4 (take n r)) f
