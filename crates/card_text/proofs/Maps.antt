-- An array mapped by a closure is its list mapped.
use mathlib.Core.Path.{◌≡◌, sym, ◌∙◌}
use mathlib.Core.List.{List, map}
use Prim.Native.Nat.{ℕ}
use native.Mathlib.Omega.{arith}
use lib.ListN.{length, get_or, get_or-map, length-map}
use denote.Param.Members.{Mut, Called}
use Rattle.std.specs.Array.{IsMapOf}
use Rattle.std.proofs.lemmas.List.{ext_get_or}

pub mapped : {F A B : Type 0} (g : Mut F (A × Unit {0}) B) (f : F) (h : A → B) (d : A) (xs : List A) (ys : List B) (n : ℕ) → length xs ≡ n → IsMapOf g f xs ys n
    → ((p q : F) (x : A) (y : B) → Called g p (x, tt) y q → y ≡ h x) → ys ≡ map h xs
mapped g f h d xs ys n long m gives =
    ext_get_or (h d) ys (map h xs) (omega (arith, m.long, length-map xs h)) λ i k.
    let c = m.at i d (h d) (omega (arith, m.long)) in
    gives c.0 c.1 (get_or xs i d) (get_or ys i (h d)) c.2 ∙ sym (get_or-map h xs i d)
