-- A text in a field of 64 bytes.
use Rattle.std.specs.Prelude.{ℕ, ◌-◌, List, ◌++◌, length, take, drop, replicate, min}

-- a text, filled with zero bytes to 64
abbrev pub filled : List ℕ → List ℕ
filled text = text ++ replicate (64 - length text) 0

-- what stands in the field at a place, of a text of so many bytes, at most 64
abbrev pub text_in : ℕ → ℕ → List ℕ → List ℕ
text_in count at bytes = take (min count 64) (drop at bytes)
