-- `settle::moments::gathered` meets its contract: the numbers of the first i slots are read.
use Prim.Native.Nat.{ℕ, ◌+◌, ◌*◌, ◌/◌, ◌≤◌, ◌<◌}
use native.Mathlib.Omega.{arith}
use mathlib.Core.Path.{◌≡◌, sym, ap, ◌∙◌}
use mathlib.Core.List.{List}
use lib.ListN.{length, get_or, length-set}
use lib.Seq.{take_all}
use borrow.Author.Rules.{rules}
use Rattle.times.specs.declared.Nanos.{Nanos}
use Rattle.readiness.specs.declared.Moments.{Moments}
use Rattle.readiness.specs.MadeReady.{moments_of, with_moment}
use Rattle.readiness.specs.inner.Phases.{statuses_in, moments_in, moments_with}
use Rattle.readiness.proofs.PhaseNumbers.{statuses_length, moments_length, moments_at}
use Rattle.readiness.proofs.SlotMoments.{length_moments}
use Rattle.settle.proofs.Gathering.{with_none, noted, kept}
use Rattle.settle.proofs.moments.gathered.Goals as goal
use Rattle.settle.proofs.moments.gathered.Goals.{then-moment, else-moment}

-- as many numbers as slots
many : (l : List ℕ) → length (statuses_in l) ≤ 32 → (length l / 4 ≡ length (moments_in l)) × (length l / 4 ≤ 32)
many l h = let e = statuses_length l in (sym (moments_length l ∙ e), omega (arith, e, h))

pub loop-i-init : goal.loop-i-init
loop-i-init c = (search rules, sym (with_none _))

pub note-requires : goal.note-requires
note-requires c = omega (arith, many c.args.phases.now c.requires)

pub loop-i-preserved : goal.loop-i-preserved
loop-i-preserved c =
    let l = c.loop-i in
    let a = c.args in
    let n = many a.phases.now c.requires in
    let long : length a.kept.at_ns ≡ 32 = search rules in
    let low : l.i < 32 = omega (arith, n) in
    let there : l.i < length (moments_of a.kept) = omega (arith, length_moments a.kept, long, n) in
    let within : l.i < length (moments_in a.phases.now) = omega (arith, n) in
    let t : ℕ = get_or a.phases.now (4 * l.i + 3) 0 in
    let number : t ≡ get_or (moments_in a.phases.now) l.i 0 = sym (moments_at a.phases.now l.i) in
    elim c.if-moment.branch [
      | then-moment w ↦
          (let is : c.if-moment.m ≡ with_moment l.i (record { 0 = t }) l.m = w.m-is ∙ w.note.ensures ∙ ap (λ (n : Nanos). with_moment l.i n l.m) w.nanos_of.ensures in (
            ap (λ (m : Moments). length m.at_ns) is ∙ length-set l.m.at_ns l.i t ∙ l.invariant.0,
            ap moments_of is ∙ noted (moments_of a.kept) l.m (moments_in a.phases.now) l.i t l.invariant.0 low there within number l.invariant.1 w.if-moment.true,
          ))
      | else-moment w ↦ (
        ap (λ (m : Moments). length m.at_ns) w.m-is ∙ l.invariant.0,
        ap moments_of w.m-is ∙ kept (moments_of a.kept) l.m (moments_in a.phases.now) l.i t l.invariant.0 low there within number l.invariant.1 w.if-moment.false,
      )
    ]

pub returns : goal.returns
returns c =
    let l = c.loop-i in
    let a = c.args in
    l.invariant.1 ∙ ap (moments_with (moments_of a.kept)) (take_all l.i (moments_in a.phases.now) (omega (arith, many a.phases.now c.requires)))
