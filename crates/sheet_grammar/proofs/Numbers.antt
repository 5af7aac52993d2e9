-- The numbers that a sheet gives, from what it gives exactly.
use Prim.Native.Nat.{ℕ}
use mathlib.Core.Path.{◌≡◌, refl, ap}
use mathlib.Core.Bool.{true}
use mathlib.Core.List.{List}
use native.Mathlib.Omega.{arith}
use borrow.Author.Tests.{ltb-true, lt-ltb}
use Rattle.times.specs.declared.Code.{Code}
use Rattle.times.specs.declared.ClaimedTime.{ClaimedTime}
use Rattle.std.specs.Prelude.{Option, Some, None}
use Rattle.times.specs.Codes.{greatest_time}
use Rattle.times.specs.Claims.{claimed_nanos}
use Rattle.times.specs.Encoder.{encoded}
use Rattle.times.proofs.Encodes.{encodes}
use Rattle.readiness.specs.declared.Setup.{Setup}
use Rattle.sheet_grammar.specs.declared.SheetLine.{SheetLine}
use Rattle.sheet_grammar.specs.declared.SheetRead.{SheetRead}
use Rattle.sheet_grammar.specs.Reading.{is_too_long, code_number, gives}
use Rattle.sheet_grammar.specs.Exactly.{with_lines, Refused, Outcome}
use Rattle.sheet_grammar.specs.Numbers.{Acceptable, SheetNumber, Numbers}
use Rattle.sheet_grammar.proofs.Exactly.{exactly}

-- a refusal has one of four numbers
refused-number : {setup : Setup} {before : List SheetLine} {rest : List ℕ} {n : ℕ} → Refused setup before rest n → SheetNumber n
refused-number (Refused.layout some none) = SheetNumber.layout
refused-number (Refused.no_slot more h e) = SheetNumber.no_slot
refused-number (Refused.named more h e f) = SheetNumber.named
refused-number (Refused.too_long more h e f g) = SheetNumber.too_long

-- none of which is 0
refused_some : {setup : Setup} {before : List SheetLine} {rest : List ℕ} {n : ℕ} → Refused setup before rest n → n ≡ 0 → ⊥
refused_some (Refused.layout some none) z = omega arith
refused_some (Refused.no_slot more h e) z = omega arith
refused_some (Refused.named more h e f) z = omega arith
refused_some (Refused.too_long more h e f g) z = omega arith

-- each outcome has one of the numbers
outcome-number : {setup : Setup} {text : List ℕ} {r : SheetRead} → Outcome setup text r → SheetNumber r.number
outcome-number (Outcome.accepted s a) = SheetNumber.accepted
outcome-number (Outcome.refused s a q) = refused-number q

-- 0 is that of an accepted text
outcome-zero : {setup : Setup} {text : List ℕ} {r : SheetRead} → Outcome setup text r → r.number ≡ 0 → Acceptable text setup
outcome-zero (Outcome.accepted {ls = ls} s a) z = record { lines = ls; sheet = s; fit = a }
outcome-zero (Outcome.refused s a q) z = absurd (refused_some q z)

-- and any other keeps the set-up
outcome_keeps : {setup : Setup} {text : List ℕ} {r : SheetRead} → Outcome setup text r → (r.number ≡ 0 → ⊥) → r.setup ≡ setup
outcome_keeps (Outcome.accepted s a) h = absurd (h refl)
outcome_keeps (Outcome.refused s a q) h = refl

-- a time without a code is above the greatest, and one above it has none
none_above : (c : ClaimedTime) → is_too_long c ≡ true → code_number (encoded (claimed_nanos c)) ≡ 43
unfolding is_too_long code_number
none_above c e = ap code_number (encodes.none (claimed_nanos c) (ltb-true greatest_time (claimed_nanos c).0 e))

above_by : (c : ClaimedTime) (x : Option Code) → encoded (claimed_nanos c) ≡ x → code_number x ≡ 43 → is_too_long c ≡ true
unfolding is_too_long code_number
above_by c (Some code) e z = absurd (omega arith)
above_by c None e z = lt-ltb greatest_time (claimed_nanos c).0 (encodes.none_above (claimed_nanos c) e)

pub numbers : Numbers
numbers =
    record {
      zero = λ text setup. (
        outcome-zero (exactly.given text setup),
        λ a. ap (λ (r : SheetRead). r.number) (exactly.only text setup (gives 0 0 (with_lines a.lines setup)) (Outcome.accepted a.sheet a.fit)),
      );
      keeps = λ text setup. outcome_keeps (exactly.given text setup);
      no_code = λ c. (none_above c, above_by c (encoded (claimed_nanos c)) refl);
      one_of = λ text setup. outcome-number (exactly.given text setup);
    }
