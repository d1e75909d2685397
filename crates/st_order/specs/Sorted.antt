-- lists in byte order of texts, each text once
use Rattle.std.specs.Prelude.{ℕ, List, [], ◌∷◌, Bool, if◌then◌else◌}
use Rattle.std.specs.Ordering.{is_lt, nat_cmp}
use Rattle.std.specs.Cmp.Lexicographic.{slice_cmp}
use Rattle.std.specs.List.Sorted.{IsStrictlySortedBy}

-- a name, a path or another text, as its bytes
abbrev pub Text : Type 0
Text = List ℕ

abbrev pub is_below : Text → Text → Bool
is_below a b = is_lt (slice_cmp nat_cmp a b)

abbrev pub IsRising : List Text → Type 0
IsRising = IsStrictlySortedBy (slice_cmp nat_cmp)

-- the list with one item more, behind all of lower texts
abbrev pub entered : {A : Type 0} → (A → Text) → A → List A → List A
entered text x [] = x ∷ []
entered text x (y ∷ ys) = if is_below (text y) (text x) then y ∷ entered text x ys else x ∷ y ∷ ys

-- the items in byte order of their texts
abbrev pub ordered : {A : Type 0} → (A → Text) → List A → List A
ordered text [] = []
ordered text (x ∷ xs) = entered text x (ordered text xs)
