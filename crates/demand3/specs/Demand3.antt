-- DEMAND 3, at the bench:
--
--     For every list of feed calls (refused ones, any cuts, any room) from a sound, unbroken port with nothing carried:
--     joined answers, each call's number and counts, and the whole state are those of the plain bench on the joined
--     consumed bytes. And two advances in a row are one by their sum, counts adding up.
--
-- The calls of a list have one set-up (01, "The same set-up"), so that 1 to 4 apply to all of them or to none, and then nothing changes
-- (`OneTrace.refused`); 5 applies to none, since a sound port stays sound (`OneTrace.sound`); 30 and 31 stand in `OneTrace`'s numbers. A call under
-- another set-up that is refused changes nothing (`OneTrace.refused`, of that call alone), and so may stand anywhere between them.
-- `OneTrace` (trace/OneTrace) is the first sentence, over any device; `bench` is the bench of 01; `feeds` is what the contract of feed cites.
use Rattle.std.specs.Prelude.{ℕ, ◌+◌, ◌≤◌, ◌<◌, ◌≡◌, List, [], ◌∷◌, ◌++◌}
use Rattle.times.specs.Moments.{clock_end}
use Rattle.readiness.specs.declared.Setup.{Setup}
use Rattle.trace.specs.Lent.{Start}
use Rattle.trace.specs.Calls.{Call, BytesIn, no_call, before, gave}
use Rattle.trace.specs.OneTrace.{OneTrace}
use Rattle.demand3.specs.Held.{Held}
use Rattle.demand3.specs.Refusals.{set_up_refusal}
use Rattle.demand3.specs.SettingUp.{sets_up}
use Rattle.demand3.specs.Feeding.{bench, feeds, calls, plain_from, plain_bench}
use Rattle.demand3.specs.Compared.{Typed, Shows, AddUp, advance_by}

pub record Demand3Of (setup : Setup) (defaults : List ℕ) (lent : Held) : Type 0 where
  -- EVERY LIST OF FEED CALLS, of bytes, is one trace on the plain bench
  pub lists : (list : List Call) → BytesIn list → OneTrace (bench setup defaults) lent list (calls setup defaults lent list)
  -- where a list of calls is feed, call by call, and each gets what the last one left
  pub none : calls setup defaults lent [] ≡ no_call lent
  pub more : (call : Call) (list : List Call)
      → (let left = feeds setup defaults lent call.input call.answers in
      calls setup defaults lent (call ∷ list) ≡ before call left (calls setup defaults left.held list))
  -- THE WHOLE STATE, part by part: registers, statuses, queue, port bits, link, owed DRS, clock, carried bytes, broken or not
  pub parts : (list : List Call) → BytesIn list → Start (bench setup defaults) lent
      → (let came = calls setup defaults lent list in Shows came.held (plain_bench setup defaults lent came.bytes (gave 31 came.outcomes)))
  -- TWO ADVANCES IN A ROW ARE ONE BY THEIR SUM, counts adding up, where the sum fits in a record and the clock doesn't pass its end
  pub two_advances : set_up_refusal setup defaults lent ≡ 0 → (a b : ℕ) → a + b < 4294967296 → lent.port.dev.clock.0 + a + b ≤ clock_end
      → AddUp (plain_from setup defaults lent (advance_by a ++ advance_by b)) (plain_from setup defaults lent (advance_by (a + b)))
  -- A set-up that isn't refused leaves a sound, unbroken port with nothing carried, whatever was lent to it
  pub from_set_up : (sets_up setup defaults lent).number ≡ 0 → Start (bench setup defaults) (sets_up setup defaults lent).held

-- THE STATEMENT: for every set-up and all that is lent
abbrev pub Demand3 : Type 0
Demand3 = (setup : Setup) (defaults : List ℕ) (lent : Held) → Typed setup lent → Demand3Of setup defaults lent
