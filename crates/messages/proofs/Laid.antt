-- What the layout's checks say of a message's bytes.
use mathlib.Core.Path.{◌≡◌}
use mathlib.Core.Bool.{Bool, true, false, and-false}
use mathlib.Core.List.{List}
use Prim.Native.Nat.{ℕ, ◌<◌}
use borrow.Author.Tests.{eqb-true, ltb-true}
use lib.ListN.{length}
use lib.Dec.{eqb}
use Rattle.bits.proofs.Tests.{split, not_both}
use Rattle.bits.specs.Bytes.{byte_at}
use Rattle.messages.specs.Messages.{subtype_of, traffic_class, layout, frs_allowed}

-- What the checks say: a message that passes them has the length and the bytes that 01 lists.
pub record Laid (kind : ℕ) (m : List ℕ) : Type 0 where
  pub length_16 : length m ≡ 16
  pub byte_0 : byte_at m 0 ≡ kind
  pub class_0 : traffic_class m ≡ 0
  pub byte_7 : byte_at m 7 ≡ 0x7F
  pub byte_10 : byte_at m 10 ≡ 0x00
  pub byte_11 : byte_at m 11 ≡ 0x01
  pub byte_12 : byte_at m 12 ≡ subtype_of kind

-- a check without which a test fails is passed where the test is true
check : {t : Bool} (x y : ℕ) → t ≡ true → (eqb x y ≡ false → t ≡ false) → x ≡ y
check x y e f = split (eqb x y) (λ q. eqb-true x y q) (λ q. not_both e (f q))

pub laid : (kind : ℕ) (m : List ℕ) → layout kind m ≡ true → Laid kind m
unfolding layout
laid kind m e =
    record {
      length_16 = check (length m) 16 e (λ f. simp f);
      byte_0 = check (byte_at m 0) kind e (λ f. simp (f, and-false));
      class_0 = check (traffic_class m) 0 e (λ f. simp (f, and-false));
      byte_7 = check (byte_at m 7) 0x7F e (λ f. simp (f, and-false));
      byte_10 = check (byte_at m 10) 0x00 e (λ f. simp (f, and-false));
      byte_11 = check (byte_at m 11) 0x01 e (λ f. simp (f, and-false));
      byte_12 = check (byte_at m 12) (subtype_of kind) e (λ f. simp (f, and-false));
    }

-- A reason that is allowed has four bits.
pub allowed_small : (reason : ℕ) → frs_allowed reason ≡ true → reason < 16
unfolding frs_allowed
allowed_small reason e = ltb-true reason 16 e
