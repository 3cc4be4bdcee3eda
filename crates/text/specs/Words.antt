-- Words as bytes.
use Rattle.std.specs.Prelude.{ℕ, List, [], ◌∷◌}
use Prim.Native.Char.{code}
use Prim.Native.String.{String, [] as no-letters, ◌∷◌ as ◌and_then◌}

-- The bytes of a word: the text has plain letters only, and each of these is one byte.
abbrev pub bytes_of : String → List ℕ
bytes_of no-letters = []
bytes_of (c and_then s) = code c ∷ bytes_of s
