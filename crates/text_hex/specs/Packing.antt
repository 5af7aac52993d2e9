-- Hex text packed into bytes, piece by piece. Packing stops before a bad character, and stays there; and before a character that
-- completes a byte where the room is full: the next call goes on at that character.
use Rattle.std.specs.Prelude.{ℕ, ◌+◌, ◌-◌, ◌%◌, ◌^◌, Bool, true, false, cond, not, ◌&&◌, List, [], ◌∷◌, ◌++◌, length, drop, ◌==◌}
use Rattle.text_hex.specs.declared.Within.{Within}
use Rattle.text_hex.specs.declared.Within.TheVariants.{Gap, Byte, Comment}
use Rattle.text_hex.specs.declared.Turn.{Turn}
use Rattle.text_hex.specs.declared.Turn.TheVariants.{Goes, Completes, Bad}
use Rattle.text_hex.specs.declared.Packing.{Packing}
use Rattle.text_hex.specs.declared.Packed.{Packed}
use Rattle.text_hex.specs.declared.Step.{Step}
use Rattle.text_hex.specs.declared.Step.TheVariants.{Stops, Passes, Puts}
use Rattle.text_fields.specs.Text.{is_line_end}
use Rattle.text_hex.specs.Text.{turn_of}

-- where a text starts
abbrev pub start : Packing
start = record { within = Gap; bad = false; line = 1; column = 1 }

-- whether a text may end here: no character was bad, and no byte lacks its second digit
abbrev pub is_between : Within → Bool
is_between Gap = true
is_between (Byte high) = false
is_between Comment = true

abbrev pub is_whole : Packing → Bool
is_whole p = not p.bad && is_between p.within

-- lines and columns are counted modulo 2^64
abbrev pub one_more : ℕ → ℕ
one_more n = (n + 1) % 2 ^ 64

-- past a character that isn't bad, and then within this
unfoldable pub past : ℕ → Within → Packing → Packing
past c within p =
    record {
      within = within;
      bad = false;
      line = cond (is_line_end c) (one_more p.line) p.line;
      column = cond (is_line_end c) 1 (one_more p.column);
    }

-- at a bad character
unfoldable pub spoiled : Packing → Packing
spoiled p = record { within = p.within; bad = true; line = p.line; column = p.column }

-- a turn, where so many bytes fit the room
unfoldable pub step_by : Turn → Packing → ℕ → (room : ℕ) → Step
step_by (Goes within) p c room = Passes (past c within p)
step_by (Completes b) p c room = cond (room == 0) (Stops p) (Puts b (past c Gap p))
step_by Bad p c room = Stops (spoiled p)

-- nothing follows a bad character
unfoldable pub step_of : Packing → ℕ → (room : ℕ) → Step
step_of p c room = cond p.bad (Stops p) (step_by (turn_of p.within c) p c room)

-- what a text gives: how far it is packed, how many characters were consumed, and the bytes
pub record Given : Type 0 where
  pub after : Packing
  pub consumed : ℕ
  pub bytes : List ℕ

-- nothing more
abbrev pub ends : Packing → Given
ends p = record { after = p; consumed = 0; bytes = [] }

-- what is given after so many characters and these bytes
abbrev pub later : ℕ → List ℕ → Given → Given
later n bytes g = record { after = g.after; consumed = n + g.consumed; bytes = bytes ++ g.bytes }

-- what a step gives, and then the rest of the text
abbrev pub stepped : Step → (rest : Packing → ℕ → Given) → (room : ℕ) → Given
stepped (Stops p) rest room = ends p
stepped (Passes p) rest room = later 1 [] (rest p room)
stepped (Puts b p) rest room = later 1 (b ∷ []) (rest p (room - 1))

-- a text packed into a room for so many bytes
unfoldable pub packs : Packing → List ℕ → (room : ℕ) → Given
packs p [] room = ends p
packs p (c ∷ text) room = stepped (step_of p c room) (λ q n. packs q text n) room

-- what a call leaves: its result, and the room
pub record Left : Type 0 where
  pub packed : Packed
  pub room : List ℕ

abbrev pub left : Packed → List ℕ → Left
left packed room = record { packed = packed; room = room }

-- the bytes stand at the front of the room, and the rest of it stays
abbrev pub left_by : Given → List ℕ → Left
left_by g room =
    record {
      packed = record { after = g.after; consumed = g.consumed; written = length g.bytes };
      room = g.bytes ++ drop (length g.bytes) room;
    }

-- a call
unfoldable pub leaves : Packing → (text room : List ℕ) → Left
leaves p text room = left_by (packs p text (length room)) room
