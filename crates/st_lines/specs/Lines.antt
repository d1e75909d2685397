-- the lines of a text
use Rattle.std.specs.Prelude.{ℕ, ◌≡◌, List, [], ◌∷◌, ◌==◌, Bool, Option, Some, None}
use Rattle.std.specs.List.{slice_split}

-- LF ends a line
abbrev pub is_feed : ℕ → Bool
is_feed byte = byte == 10

-- all of the pieces, but no empty last one
abbrev pub no_empty_last : List (List ℕ) → List (List ℕ)
no_empty_last [] = []
no_empty_last ([] ∷ []) = []
no_empty_last (piece ∷ more) = piece ∷ no_empty_last more

-- the pieces of a text between its LFs; where nothing stands after the last LF, or at all, there is no further line
abbrev pub lines_of : List ℕ → List (List ℕ)
lines_of text = no_empty_last (slice_split is_feed text)

-- the lines are those of all the bytes that a source had left, where it tells them
abbrev pub AreLinesOf : Option (List ℕ) → List (List ℕ) → Type 0
AreLinesOf None lines = Unit {0}
AreLinesOf (Some input) lines = lines ≡ lines_of input
