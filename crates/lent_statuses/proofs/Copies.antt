-- The lists that `load` and `store` make, one element a turn.
use Prim.Native.Nat.{ℕ, ◌+◌, ◌-◌, ◌<◌, ◌≤◌, min}
use mathlib.Core.Path.{◌≡◌, ap, sym, ◌∙◌}
use mathlib.Core.List.{List, ◌++◌}
use native.Mathlib.Omega.{arith}
use lib.ListN.{length, get_or, set, take, drop, replicate, length-take, drop_of_length-le}
use lib.Seq.{take_all, length-take-le, drop-length}
use Rattle.bits.proofs.Numbers.{by_le}
use Rattle.bits.proofs.Lists.{take_min, padded_more, front_more}
use Rattle.readiness.specs.declared.Status.{Status}
use Rattle.readiness.specs.Status.{ready}
use Rattle.demand3.specs.Held.{lent_of}
use Rattle.lent_statuses.specs.Statuses.{stored_over}

-- the first i, and Ready past them
abbrev pub pad_to : List Status → ℕ → List Status
pad_to xs i = take i xs ++ replicate (32 - i) ready

pub pad_more : (xs : List Status) (i : ℕ) → i < length xs → i < 32 → set (pad_to xs i) i (get_or xs i ready) ≡ pad_to xs (i + 1)
pad_more xs i l few =
    let n : length (take i xs) ≡ i = length-take-le i xs (omega arith) in
    let m : length (take (i + 1) xs) ≡ i + 1 = length-take-le (i + 1) xs (omega arith) in
    ap (λ (k : ℕ). set (take i xs ++ replicate (32 - k) ready) i (get_or xs i ready)) (sym n)
    ∙ padded_more ready 32 xs i few l
    ∙ ap (λ (k : ℕ). take (i + 1) xs ++ replicate (32 - k) ready) m

pub pad_all : (xs : List Status) → pad_to xs (min (length xs) 32) ≡ lent_of 32 xs
pad_all xs =
    let e : 32 - min (length xs) 32 ≡ 32 - length (take 32 xs) = omega (arith, length-take 32 xs) in
    let few : min (length xs) 32 ≡ min 32 (length xs) = omega arith in
    ap (λ (p : List Status). p ++ replicate (32 - min (length xs) 32) ready) (ap (λ (k : ℕ). take k xs) few ∙ take_min 32 xs) ∙ ap (λ (m : ℕ). take 32 xs ++ replicate m ready) e

-- the first i are the array's
abbrev pub write_to : List Status → List Status → ℕ → List Status
write_to xs array i = take i array ++ drop i xs

pub write_more : (xs array : List Status) (i : ℕ) (d : Status) → i < length xs → i < length array → set (write_to xs array i) i (get_or array i d) ≡ write_to xs array (i + 1)
write_more xs array i d l k = front_more i array xs d k l

pub write_all : (xs array : List Status) → length array ≡ 32 → write_to xs array (min (length xs) 32) ≡ stored_over xs array
write_all xs array e =
    by_le (length xs) 32
    (λ h.
    let n : min (length xs) 32 ≡ length xs = omega arith in
    let few : length xs ≤ length array = omega arith in
    rw n (ap (λ (r : List Status). take (length xs) array ++ r) (drop-length xs ∙ sym (drop_of_length-le xs few))))
    (λ h.
    let n : min (length xs) 32 ≡ length array = omega arith in
    rw n (ap (λ (r : List Status). r ++ drop (length array) xs) (take_all (length array) array (omega arith) ∙ sym (take_all (length xs) array (omega arith)))))
