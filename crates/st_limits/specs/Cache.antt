-- the cache list: the numbers of the cached cells, the one used last first
use Rattle.std.specs.Prelude.{◌≡◌, false, ℕ, ◌+◌, ◌-◌, ◌^◌, min, Bool, not, List, [], ◌∷◌, take, nat_eq, filter, slice_get, Option, None, if◌then◌else◌}
use Rattle.std.specs.List.{list_any}

-- whether the number stands in the list
abbrev pub has : ℕ → List ℕ → Bool
has x xs = list_any (nat_eq x) xs

-- the list without the number
abbrev pub without : ℕ → List ℕ → List ℕ
without x xs = filter (λ y. not (nat_eq x y)) xs

-- no number stands twice in the list
abbrev pub AreDistinct : List ℕ → Type 0
AreDistinct [] = Unit {0}
AreDistinct (x ∷ xs) = (has x xs ≡ false) × AreDistinct xs

-- a read: the cell goes to the front, and the last falls out where the list would be longer than the capacity
abbrev pub touched : ℕ → ℕ → List ℕ → List ℕ
touched capacity cell cells = take capacity (cell ∷ without cell cells)

-- the cell that falls out at a read: the last of a full list that lacks the cell read
abbrev pub fallen : ℕ → ℕ → List ℕ → Option ℕ
fallen capacity cell cells = if has cell cells then None else slice_get cells (capacity - 1)

-- a change in place: a cell of the list goes to the front, and any other changes nothing
abbrev pub promoted : ℕ → List ℕ → List ℕ
promoted cell cells = if has cell cells then cell ∷ without cell cells else cells

-- a cell that is mapped no more leaves the list
abbrev pub dropped : ℕ → List ℕ → List ℕ
dropped cell cells = without cell cells

-- one more in a count that stops at its last value
abbrev pub counted : ℕ → ℕ
counted n = min (n + 1) (2 ^ 64 - 1)

-- hits after a read, and misses after it
abbrev pub hits_after : ℕ → List ℕ → ℕ → ℕ
hits_after cell cells hits = if has cell cells then counted hits else hits

abbrev pub misses_after : ℕ → List ℕ → ℕ → ℕ
misses_after cell cells misses = if has cell cells then misses else counted misses
