-- The kind bytes of a capture, from its bytes alone: 4 bytes of stamp lie before the first, and the rest of a record and 4 bytes before the next.
use Rattle.std.specs.Prelude.{ℕ, zero, suc, ◌+◌, List, [], ◌∷◌}
use Rattle.trace.specs.Format.{size_of}

-- how many bytes lie after a kind byte, before the next one
abbrev pub to_next : (kind : ℕ) → ℕ
to_next kind = size_of kind + 3

-- how many kind bytes there are, where so many bytes lie before the first
unfoldable pub kinds_in : (ahead : ℕ) → List ℕ → ℕ
kinds_in ahead [] = 0
kinds_in zero (b ∷ bytes) = suc (kinds_in (to_next b) bytes)
kinds_in (suc ahead) (b ∷ bytes) = kinds_in ahead bytes

-- how many bytes lie between the end of these and the next kind byte
unfoldable pub ahead_after : (ahead : ℕ) → List ℕ → ℕ
ahead_after ahead [] = ahead
ahead_after zero (b ∷ bytes) = ahead_after (to_next b) bytes
ahead_after (suc ahead) (b ∷ bytes) = ahead_after ahead bytes
