-- Laws of bytes with zeros after them, of carried bytes with an input after them, and of lists of bytes.
use Prim.Native.Nat.{ℕ, ◌+◌, ◌-◌, ◌≤◌, ◌<◌}
use mathlib.Core.Path.{◌≡◌, ap, sym, ◌∙◌}
use mathlib.Core.List.{List, ◌++◌}
use native.Mathlib.Omega.{arith}
use lib.ListN.{length, get_or, take, drop, set, length-append, get_or-append}
use lib.Seq.{length-take-le, get_or-append-add, drop-append-add, get_or-take}
use Rattle.bits.proofs.Lists.{length_padded, take_padded, padded_more}
use Rattle.trace.specs.Format.{pad}

-- ---- bytes with zeros after them
pub length-pad : (m : ℕ) (c : List ℕ) → length c ≤ m → length (pad m c) ≡ m
length-pad m c h = length_padded 0 m c h

pub take-pad : (m : ℕ) (c : List ℕ) → take (length c) (pad m c) ≡ c
take-pad m c = take_padded 0 m c

-- one more byte after those of bs that are there
pub pad_more : (m : ℕ) (bs : List ℕ) (j : ℕ) → j < m → j < length bs → set (pad m (take j bs)) j (get_or bs j 0) ≡ pad m (take (j + 1) bs)
pad_more m bs j h k = padded_more 0 m bs j h k

-- ---- what is carried, and then the input
pub joined_carried : (c input : List ℕ) (len j : ℕ) → j < len → len ≤ length c → get_or c j 0 ≡ get_or (take len c ++ input) j 0
joined_carried c input len j h k =
    sym (get_or-append (take len c) input 0 j (omega (arith, length-take-le len c k)) ∙ get_or-take len c j 0 h)

pub joined_input : (c input : List ℕ) (len j : ℕ) → len ≤ j → len ≤ length c → get_or input (j - len) 0 ≡ get_or (take len c ++ input) j 0
joined_input c input len j h k =
    let e : length (take len c) + (j - len) ≡ j = omega (arith, length-take-le len c k) in
    sym (ap (λ (i : ℕ). get_or (take len c ++ input) i 0) (sym e) ∙ get_or-append-add (take len c) input (j - len) 0)

pub length_joined : (c input : List ℕ) (len : ℕ) → len ≤ length c → length (take len c ++ input) ≡ len + length input
length_joined c input len k = omega (arith, length-append (take len c) input, length-take-le len c k)

pub drop_joined : (c input : List ℕ) (len at : ℕ) → len ≤ at → len ≤ length c → drop at (take len c ++ input) ≡ drop (at - len) input
drop_joined c input len at h k =
    let e : at ≡ length (take len c) + (at - len) = omega (arith, length-take-le len c k) in
    ap (λ (n : ℕ). drop n (take len c ++ input)) e ∙ drop-append-add (take len c) input (at - len)
