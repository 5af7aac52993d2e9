-- Replay images, byte by byte, and what is read from them.
use Prim.Native.Nat.{ℕ}
use mathlib.Core.Path.{◌≡◌, refl}
use mathlib.Core.Bool.{true, false}
use mathlib.Core.List.{List, [], ◌∷◌}
use lib.ListN.{set}
use Rattle.bits.specs.Lists.{listed}
use Rattle.capture.specs.declared.Replay.{Replay}
use Rattle.state_layout.specs.Numbers.{low_first, number_of, number_at}
use Rattle.state_layout.specs.Image.{up_to}
use Rattle.state_layout.specs.Reading.{bytes_from}
use Rattle.replay_image.specs.Image.{replay_bytes, is_good, replay_in}

-- after a record at 01020304h: three bytes of a stamp, and one left behind them; with numbers that no replay leaves
abbrev replay : Replay
replay =
    record {
      begun = true;
      earlier = record { 0 = 0x01020304 };
      stamp_len = 3;
      stamp = 0xAA ∷ 0xBB ∷ 0xCC ∷ 0xDD ∷ [];
      answered = 7;
      ended = 9;
    }

abbrev image : List ℕ
image = 1 ∷ 4 ∷ 3 ∷ 2 ∷ 1 ∷ 3 ∷ 0xAA ∷ 0xBB ∷ 0xCC ∷ 0 ∷ 7 ∷ 9 ∷ []

written : replay_bytes replay ≡ image
unfolding replay_bytes up_to low_first
written = refl

-- a byte past the count is ignored
read : replay_in (set image 9 0xDD)
    ≡ record { begun = true; earlier = record { 0 = 0x01020304 }; stamp_len = 3; stamp = 0xAA ∷ 0xBB ∷ 0xCC ∷ 0 ∷ []; answered = 7; ended = 9 }
unfolding replay_in up_to number_at number_of bytes_from listed
read = refl

-- before the first record an earlier stamp is ignored, and not written; any count may be lent, and from 4 on all bytes are there
abbrev unbegun : Replay
unbegun = record { begun = false; earlier = record { 0 = 0 }; stamp_len = 255; stamp = 0xAA ∷ 0xBB ∷ 0xCC ∷ 0 ∷ []; answered = 7; ended = 9 }

read_unbegun : replay_in (set (set image 0 0) 5 255) ≡ unbegun
unfolding replay_in up_to number_at number_of bytes_from listed
read_unbegun = refl

written_unbegun : replay_bytes (record { begun = false; earlier = record { 0 = 0x01020304 }; stamp_len = 3; stamp = 0xAA ∷ 0xBB ∷ 0xCC ∷ 0xDD ∷ []; answered = 7; ended = 9 })
    ≡ 0 ∷ 0 ∷ 0 ∷ 0 ∷ 0 ∷ 3 ∷ 0xAA ∷ 0xBB ∷ 0xCC ∷ 0 ∷ 7 ∷ 9 ∷ []
unfolding replay_bytes up_to low_first
written_unbegun = refl

-- begun above 1 is bad, and no other byte is
good : is_good (set (set (set image 5 255) 10 255) 11 255) ≡ true
unfolding is_good
good = refl

begun_2 : is_good (set image 0 2) ≡ false
unfolding is_good
begun_2 = refl
