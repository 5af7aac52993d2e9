-- A text by its bytes.
use Rattle.std.specs.Prelude.{ℕ, List, [], ◌∷◌}
use Prim.Native.Char.{code}
use Prim.Native.String.{String, [] as none, ◌∷◌ as ◌then◌}

-- the bytes of a text whose characters are all below 80h
abbrev pub chars : String → List ℕ
chars none = []
chars (c then s) = code c ∷ chars s
