-- A whole record in front of more.
use Prim.Native.Nat.{ℕ, suc, ◌<◌}
use mathlib.Core.Path.{◌≡◌, refl, sym, ap, ◌∙◌}
use mathlib.Core.List.{List, [], ◌∷◌, ◌++◌}
use native.Mathlib.Omega.{arith}
use lib.ListN.{length, get_or, length-append}
use lib.Seq.{take_at}
use Rattle.trace.specs.Format.{size_of, body, next, complete}
use Rattle.trace.proofs.Records.{Complete, complete_at, length_whole}
use Rattle.trace.proofs.Loop.{got_size}
use Rattle.trace.proofs.Gathering.{next-whole}

-- a whole record, with more behind it
pub whole-front : (w more : List ℕ) → next w ≡ complete w → Complete (w ++ more) w
whole-front [] more e = let h = complete_at [] [] e in absurd (omega (arith, h.fits))
whole-front (k ∷ rest) more e =
    let h = complete_at (k ∷ rest) (k ∷ rest) e in
    let l = (length_whole (k ∷ rest) (k ∷ rest) h).0 in
    record { kind = h.kind; is = sym (take_at (k ∷ rest) more (suc (body k)) l); fits = omega (arith, h.fits, length-append (k ∷ rest) more) }

-- its size is its kind's
pub front-size : (w more : List ℕ) → next w ≡ complete w → size_of (get_or (w ++ more) 0 0) ≡ length w
front-size w more e = got_size (w ++ more) (length w) (record { whole = w; is = whole-front w more e; count = refl })

pub front_some : (w : List ℕ) → next w ≡ complete w → 0 < length w
front_some w e = omega (arith, (length_whole w w (complete_at w w e)).0)

-- and it stands next
pub front-next : (w more : List ℕ) → next w ≡ complete w → next (w ++ more) ≡ complete w
front-next w more e =
    (next-whole (w ++ more) (length w) (front-size w more e) (front_some w e) (omega (arith, length-append w more))).0 ∙ ap complete (take_at w more (length w) refl)
