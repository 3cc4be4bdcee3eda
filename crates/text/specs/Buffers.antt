-- What stands in a buffer after some bytes were put into it. What is promised of writing a text does not rest on this.
use Rattle.std.specs.Prelude.{ℕ, ◌+◌, List, ◌++◌, length, take, drop}

-- [Text] No text is longer.
abbrev pub most_text : ℕ
most_text = 1223

-- The buffer with these bytes from a place on, and the others as they were.
unfoldable pub put_at : ℕ → List ℕ → List ℕ → List ℕ
put_at at bytes buffer = take at buffer ++ bytes ++ drop (at + length bytes) buffer
